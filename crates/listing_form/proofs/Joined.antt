-- Lines joined: their bytes one line after another.
use mathlib.Core.Path.{◌≡◌, refl, sym, ap, ap₂, ◌∙◌}
use mathlib.Core.List.{List, [], ◌∷◌, ◌++◌, map, flat_map, append-nil, append_assoc, Memᴰ}
use Prim.Native.Nat.{ℕ, ◌*◌, ◌≤◌}
use native.Mathlib.Omega.{arith}
use lib.ListN.{length, length-append}
use Rattle.listing_form.specs.Lines.{joined}

-- the texts of two lists of items, one behind the other
pub flat_map-append : {A B : Type 0} (f : A → List B) (xs ys : List A) → flat_map f (xs ++ ys) ≡ flat_map f xs ++ flat_map f ys
unfolding flat_map
flat_map-append f [] ys = refl
flat_map-append f (x ∷ xs) ys = ap (λ rest. f x ++ rest) (flat_map-append f xs ys) ∙ sym (append_assoc (f x) (flat_map f xs) (flat_map f ys))

-- texts that agree on a list of items are the same together
pub flat_map-same : {A B : Type 0} (f g : A → List B) (xs : List A) → ((x : A) → Memᴰ x xs → f x ≡ g x) → flat_map f xs ≡ flat_map g xs
unfolding flat_map
flat_map-same f g [] h = refl
flat_map-same f g (x ∷ xs) h = ap₂ ◌++◌ (h x (Memᴰ.head refl)) (flat_map-same f g xs (λ y m. h y (Memᴰ.tail m)))

-- one line
pub joined-one : (x : List ℕ) → joined (x ∷ []) ≡ x
unfolding flat_map
joined-one x = append-nil x

-- a line for each item
pub joined-map : {A : Type 0} (f : A → List ℕ) (xs : List A) → joined (map f xs) ≡ flat_map f xs
unfolding flat_map
joined-map f [] = refl
joined-map f (x ∷ xs) = ap (λ rest. f x ++ rest) (joined-map f xs)

-- lines for each item
pub joined-each : {A : Type 0} (f : A → List (List ℕ)) (xs : List A) → joined (flat_map f xs) ≡ flat_map (λ x. joined (f x)) xs
unfolding flat_map
joined-each f [] = refl
joined-each f (x ∷ xs) =
    flat_map-append (λ line. line) (f x) (flat_map f xs) ∙ ap (λ rest. joined (f x) ++ rest) (joined-each f xs)

-- texts of at most so many bytes each
pub texts_room : {A : Type 0} (f : A → List ℕ) (most : ℕ) (xs : List A) → ((x : A) → Memᴰ x xs → length (f x) ≤ most)
    → length (flat_map f xs) ≤ length xs * most
unfolding flat_map
texts_room f most [] h = omega arith
texts_room f most (x ∷ xs) h =
    omega (
      arith,
      length-append (f x) (flat_map f xs),
      h x (Memᴰ.head refl),
      texts_room f most xs (λ y m. h y (Memᴰ.tail m)),
    )

-- a line for each item, and one behind them
pub joined-block : {A : Type 0} (f : A → List ℕ) (xs : List A) (x : List ℕ) → joined (map f xs ++ (x ∷ [])) ≡ flat_map f xs ++ x
joined-block f xs x = flat_map-append (λ line. line) (map f xs) (x ∷ []) ∙ ap₂ ◌++◌ (joined-map f xs) (joined-one x)

-- lines, a line behind them, and what follows it
pub joined-behind : (a : List (List ℕ)) (x : List ℕ) (b : List (List ℕ)) → joined (a ++ (x ∷ b)) ≡ joined a ++ (x ++ joined b)
unfolding flat_map
joined-behind a x b = flat_map-append (λ line. line) a (x ∷ b)

-- two blocks of lines, and what follows them
pub joined-three : (a b c : List (List ℕ)) → joined ((a ++ b) ++ c) ≡ joined a ++ (joined b ++ joined c)
joined-three a b c =
    flat_map-append (λ line. line) (a ++ b) c
    ∙ ap (λ text. text ++ joined c) (flat_map-append (λ line. line) a b)
    ∙ append_assoc (joined a) (joined b) (joined c)
