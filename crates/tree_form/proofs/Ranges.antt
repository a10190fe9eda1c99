-- A chain over consecutive numbers: the list of a range is `numbers`, and std's tests and filters of it are `every` and `keep`.
use mathlib.Core.Path.{◌≡◌, refl, sym, ap, ◌∙◌}
use mathlib.Core.List.{List, [], ◌∷◌, map}
use mathlib.Core.Bool.{Bool, cond, not, ◌&&◌}
use Prim.Native.Nat.{ℕ, zero, suc}
use denote.Param.Members.{Mut}
use native.Mathlib.Numerals.{add-one}
use native.Mathlib.Omega.{arith}
use borrow.Author.Tests.{ne_eqb, le-leb}
use lib.Dec.{leb, eqb}
use lib.ListN.{length, get_or, replicate}
use lib.Pointwise.{pointwise}
use Rattle.std.specs.Fn.{Called}
use Rattle.std.specs.Array.{IsFromFnResult}
use Rattle.std.specs.List.{list_all, filter, range_with_len}
use Rattle.lists.specs.Tests.{every}
use Rattle.lists.specs.Filters.{keep}
use Rattle.lists.specs.Numbers.{numbers}
use Rattle.lists.proofs.Arrays.{from_fn_is}

-- the numbers of a range
pub range-numbers : (a n : ℕ) → range_with_len a n ≡ numbers a n
unfolding numbers
range-numbers a zero = refl
range-numbers a (suc n) =
    ap (λ (rest : List ℕ). a ∷ rest) (ap (λ (b : ℕ). range_with_len b n) (add-one a) ∙ range-numbers (suc a) n)

-- std's test of every element of a list
pub all-every : {A : Type 0} (test : A → Bool) (xs : List A) → list_all test xs ≡ every test xs
unfolding every
all-every test [] = refl
all-every test (x ∷ xs) = ap (λ (rest : Bool). test x && rest) (all-every test xs)

-- std's filter of a list
pub filter-keep : {A : Type 0} (test : A → Bool) (xs : List A) → filter test xs ≡ keep test xs
unfolding keep
filter-keep test [] = refl
filter-keep test (x ∷ xs) = ap (λ (rest : List _). cond (test x) (x ∷ rest) rest) (filter-keep test xs)

-- every number of a range passes a test
pub every-range : (test : ℕ → Bool) (a n : ℕ) → list_all test (range_with_len a n) ≡ every test (numbers a n)
every-range test a n = ap (list_all test) (range-numbers a n) ∙ all-every test (numbers a n)

-- the numbers of a range that pass a test
pub filter-range : (test : ℕ → Bool) (a n : ℕ) → filter test (range_with_len a n) ≡ keep test (numbers a n)
filter-range test a n = ap (filter test) (range-numbers a n) ∙ filter-keep test (numbers a n)

-- how many numbers of a range pass a test
pub kept-range : (test : ℕ → Bool) (a n : ℕ) → length (filter test (range_with_len a n)) ≡ length (keep test (numbers a n))
kept-range test a n = ap length (filter-range test a n)

-- an array by `from_fn`, by a closure that computes f: f of each place
pub made-map : {F B : Type 0} (g : Mut F (ℕ × Unit {0}) B) (f : ℕ → B) (p : F) (ys : List B) (n : ℕ) (none : B) → IsFromFnResult g p ys n
    → ((i : ℕ) (y : B) (q : F) → Called g p (i, tt) y q → (q ≡ p) × (y ≡ f i)) → ys ≡ map f (numbers 0 n)
made-map g f p ys n none made same = from_fn_is g p f same ys none n made

-- a test of consecutive numbers from one place further on
every-shift : (test : ℕ → Bool) (a n : ℕ) → every test (numbers (suc a) n) ≡ every (λ v. test (suc v)) (numbers a n)
unfolding every numbers
every-shift test a zero = refl
every-shift test a (suc n) = ap (λ (rest : Bool). test (suc a) && rest) (every-shift test (suc a) n)

-- a list of zeros: it equals one, and no place of it holds a number of at least 1
pub equal-zeros : (xs : List ℕ) → pointwise eqb xs (replicate (length xs) 0) ≡ every (λ v. not (leb 1 (get_or xs v 0))) (numbers 0 (length xs))
unfolding every numbers
equal-zeros [] = refl
equal-zeros (x ∷ xs) =
    ap (λ (first : Bool). first && pointwise eqb xs (replicate (length xs) 0)) (zero-least x)
    ∙ ap (λ (rest : Bool). not (leb 1 x) && rest) (equal-zeros xs ∙ shifted)
  where
    zero-least : (a : ℕ) → eqb a 0 ≡ not (leb 1 a)
    zero-least zero = refl
    zero-least (suc a) = ne_eqb (suc a) 0 (λ e. omega arith) ∙ sym (ap not (le-leb 1 (suc a) (omega arith)))

    shifted : every (λ v. not (leb 1 (get_or xs v 0))) (numbers 0 (length xs)) ≡ every (λ v. not (leb 1 (get_or (x ∷ xs) v 0))) (numbers 1 (length xs))
    shifted = sym (every-shift (λ v. not (leb 1 (get_or (x ∷ xs) v 0))) 0 (length xs))
