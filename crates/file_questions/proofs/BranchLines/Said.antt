-- The tree that `C` lines say, as a walk over them gathers it.
use mathlib.Core.Path.{◌≡◌, refl, sym, ap, ap₂, ◌∙◌}
use mathlib.Core.List.{List, [], ◌∷◌, ◌++◌, map, map-append}
use Prim.Native.Nat.{ℕ, ◌+◌, ◌<◌}
use native.Mathlib.Numerals.{add-one}
use native.Mathlib.Omega.{arith}
use lib.ListN.{length, take, drop, replicate, set, length-take, length-map}
use lib.Seq.{take-suc}
use Rattle.lists.specs.Filled.{filled}
use Rattle.lists.proofs.Filled.{filled-snoc}
use Rattle.tree_form.specs.Ancestors.{tree_with}
use Rattle.text_form.specs.Lines.{lines_of}
use Rattle.file_form.specs.Branches.{ancestor_in}
use Rattle.lists.proofs.Rests.{rest_below, rest_at}

-- the ancestors that the first `count` lines of a text say
abbrev pub said_in : List ℕ → ℕ → List ℕ
said_in text count = map ancestor_in (take count (lines_of text))

-- before the first line the tree has no node
pub tree-start : (text : List ℕ) → replicate 127 0 ≡ tree_with (said_in text 0)
unfolding filled
tree-start text = refl

-- the next line's ancestor is put behind those before it
pub tree_more : (text rest : List ℕ) (done : ℕ) → lines_of rest ≡ drop done (lines_of text) → (line behind : List ℕ)
    → lines_of rest ≡ line ∷ lines_of behind → done < 125 → (tree : List ℕ) → tree ≡ tree_with (said_in text done) → (ancestor : ℕ)
    → ancestor ≡ ancestor_in line → set tree (done + 2) ancestor ≡ tree_with (said_in text (done + 1))
tree_more text rest done walk line behind l few tree t ancestor a =
    let these = sym walk ∙ l in
    let below = rest_below (lines_of text) done line (lines_of behind) these in
    let said : List ℕ = said_in text done in
    let size : done + 2 ≡ length (0 ∷ (0 ∷ said)) =
    omega (arith, below, length-map (take done (lines_of text)) ancestor_in, length-take done (lines_of text)) in
    let more : said ++ (ancestor_in line ∷ []) ≡ said_in text (done + 1) =
    sym (map-append ancestor_in (take done (lines_of text)) (line ∷ []))
    ∙ ap (λ x. map ancestor_in (take done (lines_of text) ++ (x ∷ []))) (sym (rest_at (lines_of text) done line (lines_of behind) these []))
    ∙ ap (map ancestor_in) (sym (take-suc (lines_of text) done [] below) ∙ ap (λ k. take k (lines_of text)) (sym (add-one done))) in
    ap₂ (λ all x. set all (done + 2) x) t a
    ∙ filled-snoc 0 127 (done + 2) (0 ∷ (0 ∷ said)) (ancestor_in line) size (omega arith)
    ∙ ap tree_with more
