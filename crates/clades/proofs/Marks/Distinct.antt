-- The number of different states of an unordered character: that of any nodes, less one, is at most the character's length.
use mathlib.Core.Path.{◌≡◌, refl, sym, ap}
use mathlib.Core.Logic.{⊎_elim, by_cases}
use mathlib.Core.Bool.{Bool, true, false, not, cond}
use mathlib.Core.List.Memᴰ
use mathlib.Core.List.{List, [], ◌∷◌, ◌++◌, map, Memᴰ}
use Prim.Native.Nat.{ℕ, suc, ◌+◌, ◌-◌, ◌≤◌}
use native.Mathlib.Omega.{arith}
use native.Mathlib.Decide.{dec_le}
use lib.IntN.{ℤ}
use lib.ListN.{length, length-append}
use Rattle.std.specs.Ordering.{int_eq}
use Rattle.std.specs.Set.{unique_keys, is_member}
use Rattle.std.proofs.lemmas.Bool.Decides.{Decides-int_eq}
use Rattle.lists.specs.Filters.{keep}
use Rattle.lists.proofs.Both.{or_left, or_right}
use Rattle.lists.proofs.Keep.{keep-split, mem-keep, mem-length}
use Rattle.clades.specs.Clades.{Clade}
use Rattle.clades.specs.Marks.{change, distinct}
use Rattle.clades.proofs.Clades.Nodes.{clash}
use Rattle.clades.proofs.Clades.Spread.{EachIn, Spread}
use Rattle.clades.proofs.OneCharacter.CharacterFit.{Node, length_in}
use Rattle.clades.proofs.OneCharacter.Reach.{of_two, nodes_spread}
use Rattle.clades.proofs.Marks.Distance.{change_metric}

-- some states without state x
abbrev others : ℤ → List ℤ → List ℤ
others x zs = keep (λ z. not (int_eq x z)) zs

-- they are fewer, if x is one of the states
length-others : (x : ℤ) (zs : List ℤ) → Memᴰ x zs → length (others x zs) + 1 ≤ length zs
length-others x zs i =
    omega (arith, keep-split (int_eq x) zs, mem-length (mem-keep (int_eq x) zs x i ((Decides-int_eq x x).1 refl)))

-- and any other state is still one of them
mem-others : (x : ℤ) (zs : List ℤ) (z : ℤ) → Memᴰ z zs → int_eq x z ≡ false → Memᴰ z (others x zs)
mem-others x zs z i e = mem-keep (λ z. not (int_eq x z)) zs z i (ap not e)

-- a state that stands in a list is found in it
mem-is_member : (x : ℤ) (xs : List ℤ) → Memᴰ x xs → is_member int_eq xs x ≡ true
mem-is_member x [] i = absurd (Memᴰ.not-nil i)
mem-is_member x (z ∷ zs) i = ⊎_elim
    (λ e. or_left (int_eq x z) (is_member int_eq zs x) ((Decides-int_eq x z).1 e))
    (λ j. or_right (int_eq x z) (is_member int_eq zs x) (mem-is_member x zs j))
    (Memᴰ.cases_cons i)

-- where each of some states is one of others, at most as many of them are different as there are others
distinct_le : (xs zs : List ℤ) → EachIn xs zs → distinct xs ≤ length zs
unfolding distinct
distinct_le [] zs each = omega arith
distinct_le (x ∷ xs) zs each =
    go (is_member int_eq xs x) refl (distinct_le xs zs (λ z i. each z (Memᴰ.tail i))) (distinct_le xs (others x zs))
  where
    go : (t : Bool) → is_member int_eq xs x ≡ t → distinct xs ≤ length zs → (EachIn xs (others x zs) → distinct xs ≤ length (others x zs)) →
        length (cond t (unique_keys int_eq xs) (x ∷ unique_keys int_eq xs)) ≤ length zs
    go true e all less = all
    go false e all less = omega (
      arith,
      length-others x zs (each x (Memᴰ.head refl)),
      less (λ z i. mem-others x zs z (each z (Memᴰ.tail i)) (apart z i (int_eq x z) refl)),
    )
      where
        apart : (z : ℤ) → Memᴰ z xs → (t : Bool) → int_eq x z ≡ t → t ≡ false
        apart z i true f = clash (mem-is_member x xs (Memᴰ.cast ((Decides-int_eq x z).0 f) i)) e
        apart z i false f = refl

-- some states are all among k + 1 states, or fewer
record FewStates (xs : List ℤ) (k : ℕ) : Type 0 where
  pub states : List ℤ
  pub most : length states ≤ suc k
  pub all : EachIn xs states

-- two states are one, or a change between them costs one step
two_few : (x y : ℤ) → FewStates (x ∷ y ∷ []) (change x y)
two_few x y = by_cases (dec_le 1 (change x y))
    (λ h. record { states = x ∷ y ∷ []; most = omega arith; all = λ z i. i })
    (λ h.
    let same : x ≡ y = change_metric.same x y (omega arith) in
    record { states = x ∷ []; most = omega arith; all = of_two (λ z. Memᴰ z (x ∷ [])) x y (Memᴰ.head refl) (Memᴰ.head (sym same)) })

-- states that share one are among all these states together, of which this one counts once
shared_few : (x : ℤ) (xs ys : List ℤ) (k l : ℕ) → FewStates (x ∷ xs) k → FewStates (x ∷ ys) l → FewStates (x ∷ (xs ++ ys)) (k + l)
shared_few x xs ys k l a b = record {
  states = a.states ++ others x b.states;
  most = omega (
    arith,
    a.most,
    b.most,
    length-append a.states (others x b.states),
    length-others x b.states (b.all x (Memᴰ.head refl)),
  );
  all = λ z i. ⊎_elim
      (λ p. Memᴰ.append_left (others x b.states) (a.all z p))
      (λ q. other z q (int_eq x z) refl)
      (Memᴰ.append_cases (x ∷ xs) i);
}
  where
    other : (z : ℤ) → Memᴰ z ys → (t : Bool) → int_eq x z ≡ t → Memᴰ z (a.states ++ others x b.states)
    other z q true e = Memᴰ.append_left (others x b.states) (a.all z (Memᴰ.head (sym ((Decides-int_eq x z).0 e))))
    other z q false e = Memᴰ.append_right a.states (mem-others x b.states z (b.all z (Memᴰ.tail q)) e)

-- among how many states some are, less one, is a spread for unordered characters
change_spread : Spread change FewStates
change_spread = record {
  fewer = λ xs ys k each few. record { states = few.states; most = few.most; all = λ z i. few.all z (each z i) };
  two = two_few;
  shared = shared_few;
}

-- the number of different states of any nodes, less one, is at most the character's length
pub distinct_least : (t : Clade) (f : ℕ → ℤ) (vs : List ℕ) → ((v : ℕ) → Memᴰ v vs → Node t v) →
    distinct (map f vs) - 1 ≤ length_in change t f
distinct_least t f vs nodes =
    let few = nodes_spread change t f FewStates change_spread vs nodes in
    omega (arith, distinct_le (map f vs) few.states few.all, few.most)
