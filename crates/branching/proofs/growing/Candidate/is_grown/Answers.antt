-- What the check leaves of `branching::growing::Candidate::is_grown`.
use mathlib.Core.Path.{sym, ap, ◌∙◌}
use Prim.Native.Nat.{ℕ}
use native.Mathlib.Omega.{arith}
use borrow.Author.Rules.{rules}
use borrow.Author.Tests.{eq-eqb, ne_eqb, lt-leb, tests}
use lib.Dec.{eqb}
use Rattle.std.proofs.lemmas.Iterator.{YieldsList-from_range}
use Rattle.std.proofs.lemmas.Iterator.Search.{all_from_yields_List}
use Rattle.lists.proofs.Both.{and_first, and_second}
use Rattle.branching.specs.Views.{ancestors}
use Rattle.tree_form.specs.Growing.{grown}
use Rattle.branching.specs.Testing.{entry_right}
use Rattle.branching.proofs.Entries.{grown-entries}
use Rattle.tree_form.proofs.Ranges.{every-range}
use Rattle.branching.proofs.growing.Candidate.is_grown.Goals as goal

pub returns-then-self-lt2 : goal.returns-then-self-lt2
unfolding grown
returns-then-self-lt2 c = rw (lt-leb _ _ c.if-self-lt2.true)

pub returns-then-descendant_count-eq1 : goal.returns-then-descendant_count-eq1
returns-then-descendant_count-eq1 c =
    let candidate = c.args.self.now in
    let right = entry_right candidate.n candidate.placed (ancestors candidate.tree.now) in
    and_second _ (eq-eqb _ _ c.if-descendant_count-eq1.true) (ap (λ (count : ℕ). eqb count 1) c.descendant_count.ensures)
    (all_from_yields_List right _ _ _ c.all.ensures.ran (YieldsList-from_range 0 127 127 (cc) (omega arith)) (λ x b q k. search (rules, tests))
    ∙ every-range right 0 127)
    ∙ sym (grown-entries _ candidate.sized _ _ candidate.most (sym candidate.counted) c.if-self-lt2.false)

pub returns-else-descendant_count-eq1 : goal.returns-else-descendant_count-eq1
returns-else-descendant_count-eq1 c =
    let candidate = c.args.self.now in
    and_first _ (ne_eqb _ _ c.if-descendant_count-eq1.false) (ap (λ (count : ℕ). eqb count 1) c.descendant_count.ensures)
    ∙ sym (grown-entries _ candidate.sized _ _ candidate.most (sym candidate.counted) c.if-self-lt2.false)
