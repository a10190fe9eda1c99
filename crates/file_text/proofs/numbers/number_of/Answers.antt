-- `file_text::numbers::number_of` meets its contract: the digits are folded into the number that they say.
use Rattle.std.proofs.Common.{rules, tests}
use Rattle.std.proofs.lemmas.Iterator.{YieldsList-from_slice}
use Rattle.std.proofs.lemmas.Iterator.Consumers.{fold_from_yields_List}
use Rattle.file_text.proofs.Decimal.NumberWalk.{with_digit, all_said}
use Rattle.file_text.proofs.numbers.number_of.Goals as goal

pub returns : goal.returns
returns c =
    all_said _ _ c.requires
    (fold_from_yields_List _ with_digit _ _ c.fold.ensures.ran (YieldsList-from_slice c.args.digits.now cc) (λ a x b q k. search (rules, tests)))
