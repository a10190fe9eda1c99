-- What a sum over the branches of a tree becomes when ancestors change: counts of descendants, and the length of the tree.
use mathlib.Core.Path.{◌≡◌, sym, ap, ◌∙◌}
use mathlib.Core.Logic.{◌≢◌}
use mathlib.Core.List.{List}
use mathlib.Core.Bool.{Bool, ◌||◌}
use Prim.Native.Nat.{ℕ, ◌+◌, ◌*◌, ◌-◌, ◌≤◌, ◌<◌}
use native.Mathlib.Omega.{arith}
use lib.Dec.{leb, eqb}
use lib.ListN.{length, set, length-set}
use lib.Seq.{get_or-set_same, get_or-set_other}
use borrow.Author.Tests.{ne_eqb}
use Rattle.lists.proofs.Numbers.{numbers-within}
use Rattle.tree_form.specs.Ancestors.{ancestor}
use Rattle.tree_form.specs.Nodes.{has_ancestor, in_tree, nodes_in, other_nodes}
use Rattle.tree_form.specs.Growing.{descendant_count}
use Rattle.tree_form.specs.Hanging.{hung}
use Rattle.lists.specs.Sums.{sum_over}
use Rattle.tree_form.specs.Branches.{tree_length}
use Rattle.lists.proofs.Sums.{length-keep, sum_keep, sum_same, sum_changed, counted, pick}
use Rattle.tree_form.proofs.Descendants.{descendants-keep}

-- a node whose ancestor is changed has the new one
pub ancestor_set_same : (tree : List ℕ) (u a : ℕ) → u < length tree → ancestor (set tree u a) u ≡ a
unfolding ancestor
ancestor_set_same tree u a h = get_or-set_same tree u a 0 h

-- any other node keeps its own
pub ancestor_set_other : (tree : List ℕ) (u a v : ℕ) → v ≢ u → ancestor (set tree u a) v ≡ ancestor tree v
unfolding ancestor
ancestor_set_other tree u a v ne = get_or-set_other tree u v a 0 ne

-- a quantity of each node and its ancestor, summed over nodes 2 to 2n-2
unfoldable pub sum_of_branches : (ℕ → ℕ → ℕ) → ℕ → List ℕ → ℕ
sum_of_branches f n tree = sum_over (λ v. f v (ancestor tree v)) (other_nodes n)

-- when node u gets another ancestor, the sum changes by what it changes at u
pub sum_set : (f : ℕ → ℕ → ℕ) (n : ℕ) (tree : List ℕ) (u a : ℕ) → u < length tree → 2 ≤ u → u ≤ 2 * n - 2
    → sum_of_branches f n (set tree u a) + f u (ancestor tree u) ≡ sum_of_branches f n tree + f u a
unfolding sum_of_branches other_nodes
sum_set f n tree u a place l h =
    rw ancestor_set_same at
    (sum_changed
    (λ v. f v (ancestor (set tree u a) v))
    (λ v. f v (ancestor tree v))
    u
    2
    (2 * n - 3)
    l
    (omega arith)
    (λ v m ne. ap (f v) (ancestor_set_other tree u a v ne)))

-- how many descendants node v has, as a sum over the branches
pub count_sum : (n : ℕ) (tree : List ℕ) (v : ℕ) → descendant_count n tree v ≡ sum_of_branches (λ u a. counted (eqb a v)) n tree
unfolding descendant_count sum_of_branches
count_sum n tree v = ap length (descendants-keep tree (other_nodes n) v) ∙ length-keep (λ u. eqb (ancestor tree u) v) (other_nodes n)

-- the length of a tree, as a sum over the branches
pub tree_length_sum : (d : ℕ → ℕ → ℕ) (n : ℕ) (tree : List ℕ)
    → tree_length d n tree ≡ sum_of_branches (λ v a. pick (leb 1 a) (d v a)) n tree
unfolding tree_length sum_of_branches nodes_in other_nodes in_tree has_ancestor
tree_length_sum d n tree =
    sum_keep (λ v. d v (ancestor tree v)) (in_tree tree) (other_nodes n)
    ∙ sum_same
    (λ v. pick (in_tree tree v) (d v (ancestor tree v)))
    (λ v. pick (leb 1 (ancestor tree v)) (d v (ancestor tree v)))
    (other_nodes n)
    (λ v m.
    ap
    (λ (t : Bool). pick (t || leb 1 (ancestor tree v)) (d v (ancestor tree v)))
    (ne_eqb v 1 (λ e. omega (arith, numbers-within 2 (2 * n - 3) v m))))

-- taxon b, the lower end c and the new node y are three entries of the tree, none of them node 1
pub record Joint (n : ℕ) (tree : List ℕ) (b c y : ℕ) : Type 0 where
  pub taxon : (b < length tree) × (2 ≤ b) × (b ≤ 2 * n - 2)
  pub lower : (c < length tree) × (2 ≤ c) × (c ≤ 2 * n - 2)
  pub htu : (y < length tree) × (2 ≤ y) × (y ≤ 2 * n - 2)
  pub taxon_lower : b ≢ c
  pub taxon_htu : b ≢ y
  pub lower_htu : c ≢ y

-- where taxon b is hung through y on the interval of c, no other ancestor changes
pub hung_else : (tree : List ℕ) (b c y v : ℕ) → v ≢ b → v ≢ c → v ≢ y → ancestor (hung tree b c y) v ≡ ancestor tree v
unfolding hung
hung_else tree b c y v nb nc ny =
    ancestor_set_other (set (set tree y (ancestor tree c)) c y) b y v nb
    ∙ ancestor_set_other (set tree y (ancestor tree c)) c y v nc
    ∙ ancestor_set_other tree y (ancestor tree c) v ny

module _ (n : ℕ) (tree : List ℕ) (b c y : ℕ) (j : Joint n tree b c y) where
  -- taxon b has y
  pub hung-taxon : ancestor (hung tree b c y) b ≡ y
  unfolding hung
  hung-taxon = ancestor_set_same (set (set tree y (ancestor tree c)) c y) b y (simp length-set j.taxon.0)

  -- so has the lower end
  pub hung-lower : ancestor (hung tree b c y) c ≡ y
  unfolding hung
  hung-lower =
      ancestor_set_other (set (set tree y (ancestor tree c)) c y) b y c (λ e. j.taxon_lower (sym e))
      ∙ ancestor_set_same (set tree y (ancestor tree c)) c y (simp length-set j.lower.0)

  -- y has the lower end's old ancestor
  pub hung-htu : ancestor (hung tree b c y) y ≡ ancestor tree c
  unfolding hung
  hung-htu =
      ancestor_set_other (set (set tree y (ancestor tree c)) c y) b y y (λ e. j.taxon_htu (sym e))
      ∙ ancestor_set_other (set tree y (ancestor tree c)) c y y (λ e. j.lower_htu (sym e))
      ∙ ancestor_set_same tree y (ancestor tree c) j.htu.0

  -- no other ancestor changes
  pub hung-other : (v : ℕ) → v ≢ b → v ≢ c → v ≢ y → ancestor (hung tree b c y) v ≡ ancestor tree v
  hung-other = hung_else tree b c y

  -- what a sum over the branches becomes: the old branches of b, c and y go, their new ones come
  pub sum_hung : (f : ℕ → ℕ → ℕ)
      → sum_of_branches f n (hung tree b c y) + (f b (ancestor tree b) + f c (ancestor tree c) + f y (ancestor tree y))
      ≡ sum_of_branches f n tree + (f b y + f c y + f y (ancestor tree c))
  unfolding hung
  sum_hung f =
      let t₁ : List ℕ = set tree y (ancestor tree c) in
      let t₂ : List ℕ = set t₁ c y in
      let e₁ = sum_set f n tree y (ancestor tree c) j.htu.0 j.htu.1 j.htu.2 in
      let e₂ = sum_set f n t₁ c y (simp length-set j.lower.0) j.lower.1 j.lower.2 in
      let e₃ = sum_set f n t₂ b y (simp length-set j.taxon.0) j.taxon.1 j.taxon.2 in
      let c₁ : ancestor t₁ c ≡ ancestor tree c = ancestor_set_other tree y (ancestor tree c) c j.lower_htu in
      let b₂ : ancestor t₂ b ≡ ancestor tree b =
      ancestor_set_other t₁ c y b j.taxon_lower ∙ ancestor_set_other tree y (ancestor tree c) b j.taxon_htu in
      let e₂' = rw c₁ at e₂ in
      let e₃' = rw b₂ at e₃ in
      omega arith
