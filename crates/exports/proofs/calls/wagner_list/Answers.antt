-- `exports::calls::wagner_list` meets its contract: it says how many bytes the call below it writes, or the refusal.
use Rattle.export_form.proofs.Listed.{list_exported}
use Rattle.exports.proofs.calls.wagner_list.Goals as goal

pub returns : goal.returns
returns c = list_exported _ _ _ _ c.list.ensures _ c.listed.ensures
