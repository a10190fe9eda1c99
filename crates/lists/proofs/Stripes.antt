-- Laws of items written at a fixed width: the list keeps its length, each item stands at its index, and all else stays.
use mathlib.Core.Path.{◌≡◌, refl, sym, ap, ◌∙◌}
use mathlib.Core.List.{List, [], ◌∷◌, ◌++◌, map, map-append}
use Prim.Native.Nat.{ℕ, zero, suc, ◌+◌, ◌*◌, ◌≤◌, ◌<◌}
use native.Mathlib.Numerals.{add-one}
use native.Mathlib.Omega.{arith}
use lib.ListN.{length, get_or, set, take, drop, length-take, length-drop}
use lib.Seq.{get_or-take, get_or-drop, ext_get_or}
use Rattle.lists.specs.Numbers.{numbers}
use Rattle.lists.specs.Over.{over, stripes}
use Rattle.lists.proofs.Numbers.{numbers-snoc, length_map_numbers}
use Rattle.lists.proofs.Over.{length_over, over-inside, over-before, over-behind, over-else, over_nothing, over-snoc, over-cons}

-- a place in an item is that in the item before it, a width further
next_stripe : (width place k i : ℕ) → place + suc k * width + i ≡ place + width + k * width + i
next_stripe width place k i = omega arith

module _ {A : Type 0} where
  -- no item is wider than its place
  abbrev pub Narrow : ℕ → List (List A) → Type 0
  Narrow width items = (k : ℕ) → length (get_or items k []) ≤ width

  module _ (width : ℕ) where
    -- the list keeps its length
    pub length-stripes : (place : ℕ) (items : List (List A)) (old : List A) → length (stripes width place items old) ≡ length old
    unfolding stripes
    length-stripes place [] old = refl
    length-stripes place (item ∷ items) old = length-stripes (place + width) items (over place item old) ∙ length_over place item old

    -- one item more is written behind the others
    pub stripes-snoc : (place : ℕ) (items : List (List A)) (item old : List A)
        → stripes width place (items ++ (item ∷ [])) old ≡ over (place + length items * width) item (stripes width place items old)
    unfolding stripes
    stripes-snoc place [] item old = ap (λ p. over p item old) (omega arith)
    stripes-snoc place (first ∷ items) item old =
        stripes-snoc (place + width) items item (over place first old)
        ∙ ap (λ p. over p item (stripes width (place + width) items (over place first old))) (omega arith)

    -- what stands before the first item stays
    pub stripes-before : (none : A) (place : ℕ) (items : List (List A)) (old : List A) (i : ℕ) → i < place
        → get_or (stripes width place items old) i none ≡ get_or old i none
    unfolding stripes
    stripes-before none place [] old i h = refl
    stripes-before none place (item ∷ items) old i h =
        stripes-before none (place + width) items (over place item old) i (omega arith) ∙ over-before none place item old i h

    -- each item stands at its place
    pub stripes-inside : (none : A) (place : ℕ) (items : List (List A)) (old : List A) → Narrow width items → (k i : ℕ)
        → i < length (get_or items k []) → place + k * width + i < length old
        → get_or (stripes width place items old) (place + k * width + i) none ≡ get_or (get_or items k []) i none
    unfolding stripes
    stripes-inside none place [] old narrow k i h room = absurd (omega arith)
    stripes-inside none place (item ∷ items) old narrow zero i h room =
        let here : place + 0 * width + i ≡ place + i = omega arith in
        ap (λ p. get_or (stripes width (place + width) items (over place item old)) p none) here
        ∙ stripes-before none (place + width) items (over place item old) (place + i) (omega (arith, narrow 0))
        ∙ over-inside none place item old i h (omega arith)
    stripes-inside none place (item ∷ items) old narrow (suc k) i h room =
        ap (λ p. get_or (stripes width (place + width) items (over place item old)) p none) (next_stripe width place k i)
        ∙ stripes-inside none (place + width) items (over place item old) (λ j. narrow (suc j)) k i h
        (omega (arith, length_over place item old))

    -- and behind an item, up to the next one, all stays; so it does where no item is written
    pub stripes-else : (none : A) (place : ℕ) (items : List (List A)) (old : List A) → Narrow width items → (k i : ℕ)
        → length (get_or items k []) ≤ i → i < width
        → get_or (stripes width place items old) (place + k * width + i) none ≡ get_or old (place + k * width + i) none
    unfolding stripes
    stripes-else none place [] old narrow k i h l = refl
    stripes-else none place (item ∷ items) old narrow zero i h l =
        stripes-before none (place + width) items (over place item old) (place + 0 * width + i) (omega arith)
        ∙ over-behind none place item old (place + 0 * width + i) (omega arith)
    stripes-else none place (item ∷ items) old narrow (suc k) i h l =
        ap (λ p. get_or (stripes width (place + width) items (over place item old)) p none) (next_stripe width place k i)
        ∙ stripes-else none (place + width) items (over place item old) (λ j. narrow (suc j)) k i h l
        ∙ over-behind none place item old (place + width + k * width + i) (omega (arith, narrow 0))
        ∙ ap (λ p. get_or old p none) (sym (next_stripe width place k i))

    -- behind the last item all stays
    pub stripes-behind : (none : A) (place : ℕ) (items : List (List A)) (old : List A) → Narrow width items → (i : ℕ)
        → place + length items * width ≤ i → get_or (stripes width place items old) i none ≡ get_or old i none
    unfolding stripes
    stripes-behind none place [] old narrow i h = refl
    stripes-behind none place (item ∷ items) old narrow i h =
        stripes-behind none (place + width) items (over place item old) (λ j. narrow (suc j)) i (omega arith)
        ∙ over-behind none place item old i (omega (arith, narrow 0))

    -- so all stays at an index that no item is written over
    pub stripes-outside : (none : A) (place : ℕ) (items : List (List A)) (old : List A) (i : ℕ)
        → ((k : ℕ) → place + k * width ≤ i → i < place + k * width + length (get_or items k []) → ⊥)
        → get_or (stripes width place items old) i none ≡ get_or old i none
    unfolding stripes
    stripes-outside none place [] old i outside = refl
    stripes-outside none place (item ∷ items) old i outside =
        stripes-outside none (place + width) items (over place item old) i (λ k from upto. outside (suc k) (omega arith) (omega arith))
        ∙ over-else none place item old i (λ from upto. outside 0 (omega arith) (omega arith))

    -- so an item is read back from its place
    pub stripes_item : (none : A) (place : ℕ) (items : List (List A)) (old : List A) → Narrow width items → (k : ℕ)
        → place + k * width + length (get_or items k []) ≤ length old
        → take (length (get_or items k [])) (drop (place + k * width) (stripes width place items old)) ≡ get_or items k []
    stripes_item none place items old narrow k room =
        ext_get_or none (take size part) item (omega (arith, length-take size part, length-drop start written, long)) same
      where
        item : List A
        item = get_or items k []

        size : ℕ
        size = length (get_or items k [])

        start : ℕ
        start = place + k * width

        written : List A
        written = stripes width place items old

        part : List A
        part = drop start written

        long : length written ≡ length old
        long = length-stripes place items old

        same : (i : ℕ) → i < length (take size part) → get_or (take size part) i none ≡ get_or item i none
        same i h =
            let below : i < size = omega (arith, length-take size part) in
            get_or-take size part i none below
            ∙ get_or-drop start written i none
            ∙ stripes-inside none place items old narrow k i below (omega arith)

-- one item written alone
pub over-one : {A : Type 0} (place : ℕ) (x : A) (old : List A) → over place (x ∷ []) old ≡ set old place x
over-one place x old =
    let here : place + 0 ≡ place = omega arith in
    sym (rw (over_nothing place old, here) at (over-snoc place [] old x))

-- an item written before the place from which a list is written over
over-set : {A : Type 0} (place : ℕ) (xs old : List A) (a : ℕ) (x : A) → a < place
    → set (over place xs old) a x ≡ over place xs (set old a x)
unfolding over
over-set zero xs old a x h = absurd (omega arith)
over-set (suc place) xs [] a x h = refl
over-set (suc place) xs (o ∷ old) zero x h = refl
over-set (suc place) xs (o ∷ old) (suc a) x h = ap (λ rest. o ∷ rest) (over-set place xs old a x (omega arith))

-- an item written before the index of the first stripe
stripes-set : {A : Type 0} (width place : ℕ) (items : List (List A)) (old : List A) (a : ℕ) (x : A) → a < place
    → set (stripes width place items old) a x ≡ stripes width place items (set old a x)
unfolding stripes
stripes-set width place [] old a x h = refl
stripes-set width place (item ∷ items) old a x h =
    stripes-set width (place + width) items (over place item old) a x (omega arith)
    ∙ ap (stripes width (place + width) items) (over-set place item old a x h)

-- single items written side by side are the list of them
pub side_by_side : {A B : Type 0} (f : B → A) (xs : List B) (place : ℕ) (old : List A)
    → stripes 1 place (map (λ x. f x ∷ []) xs) old ≡ over place (map f xs) old
unfolding stripes
side_by_side f [] place old = sym (over_nothing place old)
side_by_side f (x ∷ xs) place old =
    side_by_side f xs (place + 1) (over place (f x ∷ []) old)
    ∙ ap (λ k. over k (map f xs) (over place (f x ∷ []) old)) (add-one place)
    ∙ over-cons place (f x) (map f xs) old

-- single items written at a fixed width, for consecutive numbers: a column
module _ {A : Type 0} (width place : ℕ) (f : ℕ → A) (first : ℕ) (old : List A) where
  -- one more is written into its own place
  pub column-next : (count : ℕ)
      → set (stripes width place (map (λ v. f v ∷ []) (numbers first count)) old) (place + count * width) (f (first + count))
      ≡ stripes width place (map (λ v. f v ∷ []) (numbers first (suc count))) old
  column-next count =
      let items : ℕ → List A = λ v. f v ∷ [] in
      let written = stripes width place (map items (numbers first count)) old in
      sym (ap (λ (vs : List ℕ). stripes width place (map items vs) old) (numbers-snoc first count)
      ∙ ap (λ (xs : List (List A)). stripes width place xs old) (map-append items (numbers first count) ((first + count) ∷ []))
      ∙ stripes-snoc width place (map items (numbers first count)) (items (first + count)) old
      ∙ ap (λ (k : ℕ). over (place + k * width) (items (first + count)) written) (length_map_numbers items first count)
      ∙ over-one (place + count * width) (f (first + count)) written)

-- a column written behind stripes of one size: each is one longer
pub stripes-column : {A : Type 0} (width size : ℕ) (r : ℕ → List A) (x : ℕ → A) → ((v : ℕ) → length (r v) ≡ size) → size < width
    → (vs : List ℕ) (place : ℕ) (old : List A)
    → stripes width (place + size) (map (λ v. x v ∷ []) vs) (stripes width place (map r vs) old)
    ≡ stripes width place (map (λ v. r v ++ (x v ∷ [])) vs) old
unfolding stripes
stripes-column width size r x each narrow [] place old = refl
stripes-column width size r x each narrow (v ∷ vs) place old =
    let below : place + size < place + width = omega arith in
    let behind : place + size + width ≡ place + width + size = omega arith in
    let written = stripes width (place + width) (map r vs) (over place (r v) old) in
    let longer : over (place + size) (x v ∷ []) written ≡ stripes width (place + width) (map r vs) (over place (r v ++ (x v ∷ [])) old) =
    over-one (place + size) (x v) written
    ∙ stripes-set width (place + width) (map r vs) (over place (r v) old) (place + size) (x v) below
    ∙ ap (stripes width (place + width) (map r vs))
    (ap (λ (k : ℕ). set (over place (r v) old) (place + k) (x v)) (sym (each v)) ∙ over-snoc place (r v) old (x v)) in
    ap (λ (k : ℕ). stripes width k (map (λ u. x u ∷ []) vs) (over (place + size) (x v ∷ []) written)) behind
    ∙ ap (stripes width (place + width + size) (map (λ u. x u ∷ []) vs)) longer
    ∙ stripes-column width size r x each narrow vs (place + width) (over place (r v ++ (x v ∷ [])) old)
