-- Ordered and unordered characters in one matrix (document 02, M-104 and M-108): `unordered_at j` says whether character j is marked `u`,
-- and `ends j v` has the two ends of taxon v's state in it, equal for a single code.
use Rattle.std.proofs.Common.{◌≡◌, ℕ, ◌<◌, ◌≤◌, Bool, true, false, List, pos, sym, refl, ap, subst}
use Rattle.tree_form.specs.Facts.{Branching}
use Rattle.clades.specs.Kinds.{Kind}
use Rattle.clades.specs.Marks.{only_mark, unordered, ProperMarks}
use Rattle.clades.proofs.Sets.Laws.{Laws}
use Rattle.clades.proofs.Marks.IsKind.{unordered_laws}
use Rattle.clades.proofs.Marks.Single.{only_mark_proper}
use Rattle.fit_form.specs.Sets.{Nonempty, ordered}
use Rattle.matrix_form.specs.declared.spans.Span.{Span}
use Rattle.fit_form.proofs.Sets.IsKind.{ordered_laws}
use Rattle.fit_form.proofs.Matrix.Mixed.{Claim, mixed_claim}

-- the kind of a character
abbrev pub kind_of : Bool → Kind
kind_of true = unordered
kind_of false = ordered

-- a taxon's own set: in an unordered character its code alone, else all states between its ends
abbrev pub own_in : (u : Bool) → Span → (kind_of u).Set
own_in true a = only_mark a.low
own_in false a = a

-- both kinds have the laws
kind_laws : (u : Bool) → Laws (kind_of u)
kind_laws true = unordered_laws
kind_laws false = ordered_laws

-- a single code from 0 to 31
pub record Code32 (a : Span) : Type 0 where
  pub code : ℕ
  pub below : code < 32
  pub is_low : a.low ≡ pos code

-- a taxon's own set can be the set of a node if its ends are in order and, in an unordered character, its code is from 0 to 31
own_proper : (u : Bool) (a : Span) → Nonempty a → (u ≡ true → Code32 a) → (kind_of u).Proper (own_in u a)
own_proper true a p h = let c = h refl in subst ProperMarks (sym (ap only_mark c.is_low)) (only_mark_proper c.code c.below)
own_proper false a p h = p

-- the claim for every such matrix and every branching of its taxa
pub letters_claim : (unordered_at : ℕ → Bool) (ends : ℕ → ℕ → Span) (weight : ℕ → ℕ) (tree : List ℕ) (n m : ℕ) → 1 ≤ n → Branching n tree →
    ((j : ℕ) → 1 ≤ j → j ≤ m → 1 ≤ weight j) →
    ((v j : ℕ) → 1 ≤ v → v ≤ n → 1 ≤ j → j ≤ m → Nonempty (ends j v)) →
    ((v j : ℕ) → 1 ≤ v → v ≤ n → 1 ≤ j → j ≤ m → unordered_at j ≡ true → Code32 (ends j v)) →
    Claim (λ j. kind_of (unordered_at j)) weight (λ j v. own_in (unordered_at j) (ends j v)) tree n m
letters_claim unordered_at ends weight tree n m taxa branching weighed in_order codes =
    mixed_claim (λ j. kind_of (unordered_at j)) weight (λ j v. own_in (unordered_at j) (ends j v)) tree n m taxa branching (record {
      laws = λ j r l. kind_laws (unordered_at j);
      weighed = weighed;
      proper = λ v j p q r l. own_proper (unordered_at j) (ends j v) (in_order v j p q r l) (codes v j p q r l);
    })
