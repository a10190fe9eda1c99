-- `file_text::numbers::number_form` meets its contract: each answer follows from the tests that led to it.
use mathlib.Core.Path.{◌≡◌}
use mathlib.Core.Bool.{◌&&◌}
use lib.Dec.{leb}
use lib.ListN.{length}
use Rattle.std.proofs.Common.{rules, tests}
use Rattle.std.specs.Char.{is_ascii_digit}
use Rattle.std.specs.List.{list_all}
use Rattle.std.proofs.lemmas.Iterator.{YieldsList-from_slice}
use Rattle.std.proofs.lemmas.Iterator.Search.{all_from_yields_List}
use Rattle.lists.proofs.Between.{nat_between}
use Rattle.file_text.proofs.Decimal.NumberWalk.{bad_length, no_digit, one_digit, several_digits}
use Rattle.file_text.proofs.numbers.number_form.Goals as goal
use Rattle.file_text.proofs.numbers.number_form.Goals.{After-contains, After-all}

-- the test of the length
counted : (c : After-contains) → c.contains.result ≡ (leb 1 (length c.args.text.now) && leb (length c.args.text.now) 6)
counted c = nat_between _ _ _ _ c.new.ensures.start c.new.ensures.end c.new.ensures.exhausted c.contains.ensures.value

-- the test of the bytes
tested : (c : After-all) → c.all.result ≡ list_all is_ascii_digit c.args.text.now
tested c =
    all_from_yields_List is_ascii_digit _ _ _ c.all.ensures.ran (YieldsList-from_slice c.args.text.now cc) (λ x b q k. search (rules, tests))

pub returns-then-not-contains : goal.returns-then-not-contains
returns-then-not-contains c = bad_length _ _ (counted (goal.at.returns-then-not-contains c).After-contains) c.if-not-contains.true

pub returns-then-not-all : goal.returns-then-not-all
returns-then-not-all c =
    let at = goal.at.returns-then-not-all c in
    no_digit _ _ (counted at.After-contains) c.if-not-contains.false _ (tested at.After-all) c.if-not-all.true

pub returns-then-text-eq1 : goal.returns-then-text-eq1
returns-then-text-eq1 c =
    let at = goal.at.returns-then-text-eq1 c in
    one_digit _ _ (counted at.After-contains) c.if-not-contains.false _ (tested at.After-all) c.if-not-all.false c.if-text-eq1.true

pub returns-else-text-eq1 : goal.returns-else-text-eq1
returns-else-text-eq1 c =
    let at = goal.at.returns-else-text-eq1 c in
    several_digits _ _ (counted at.After-contains) c.if-not-contains.false _ (tested at.After-all) c.if-not-all.false c.if-text-eq1.false
