-- `file_text::bytes::in_name` meets its contract: its tests are the definition's, in another order.
use Rattle.file_text.proofs.NameBytes.{alphanumeric, other_byte}
use Rattle.file_text.proofs.bytes.in_name.Goals as goal

pub returns-then-is_ascii_alphanumeric : goal.returns-then-is_ascii_alphanumeric
returns-then-is_ascii_alphanumeric c = alphanumeric _ _ c.is_ascii_alphanumeric.ensures.value c.if-is_ascii_alphanumeric.true

pub returns-else-is_ascii_alphanumeric : goal.returns-else-is_ascii_alphanumeric
returns-else-is_ascii_alphanumeric c = other_byte _ _ c.is_ascii_alphanumeric.ensures.value c.if-is_ascii_alphanumeric.false
