-- The length of a character from the pass up alone: it is the least cost of the clade below row 1 together with how far row 1's own set
-- lies from the clade's set.
use Rattle.std.proofs.Common.{◌≡◌, ℕ, ◌+◌, ◌-◌, ◌*◌, ◌≤◌, List, [], ◌∷◌, ℤ, sym, ap, ◌∙◌, arith}
use Rattle.difference_form.specs.Rows.{apart, most_apart, lower, higher}
use Rattle.difference_form.proofs.Laws.Codes.{apart-in_range}
use Rattle.difference_form.proofs.Laws.Order.{lower-keeps, higher-keeps}
use Rattle.tree_form.specs.Ancestors.{ancestor, descendants}
use Rattle.tree_form.specs.Nodes.{other_nodes}
use Rattle.tree_form.specs.Facts.{Grown}
use Rattle.clades.specs.Passes.{least_cost}
use Rattle.fit_form.specs.Sets.{Nonempty, gap, ordered}
use Rattle.matrix_form.specs.declared.spans.Span.{Span}
use Rattle.clades.specs.Clades.{Clade, tip, fork}
use Rattle.clades.specs.Character.{up}
use Rattle.fit_form.specs.Assignments.{character}
use Rattle.fit_form.specs.Fit.{chosen_state}
use Rattle.fit_passes.specs.Steps.{Each, Known, set_of, cost_of, character_length}
use Rattle.fit_form.proofs.Clades.Sums.{size, size-fork}
use Rattle.fit_form.proofs.Clades.Built.{Made, cost_sum_clade}
use Rattle.fit_form.proofs.Clades.Hanging.{clade_of, clade_from, clade_from_made, clade_from-size}
use Rattle.fit_form.proofs.Matrix.CharacterLength.{states-length}
use Rattle.fit_passes.proofs.Matrix.OnlyCodes.{up-each}

-- sets with ends from -999 to 999 lie at most 1998 from each other
gap-most : (a b : Span) → Each Known a → Each Known b → gap a b ≤ most_apart
unfolding gap
gap-most a b p q =
    let start = higher a.low b.low in
    let end = lower a.high b.high in
    let s : Known start = higher-keeps Known a.low b.low p.at_low q.at_low in
    let e : Known end = lower-keeps Known a.high b.high p.at_high q.at_high in
    apart-in_range start (lower start end) s (lower-keeps Known start end s e)

-- the least cost of a clade is at most 1998 for each of its nodes
least_cost-most : (n : ℕ) (tree : List ℕ) (own : ℕ → Span) → ((u : ℕ) → 1 ≤ u → u ≤ n → Each Known (own u)) →
    (t : Clade) → Made n tree t → least_cost ordered own t ≤ size t * most_apart
unfolding least_cost
least_cost-most n tree own known (tip v) made = omega arith
least_cost-most n tree own known (fork v a b) made =
    omega (
      arith,
      least_cost-most n tree own known a made.4,
      least_cost-most n tree own known b made.5,
      gap-most (up ordered own a) (up ordered own b) (up-each Known n tree own known a made.4) (up-each Known n tree own known b made.5),
      size-fork v a b,
    )

module _ (n : ℕ) (tree : List ℕ) (grown : Grown n n tree) (rows : List (List Span)) (j : ℕ) where
  -- the taxa's own sets in character j
  abbrev own : ℕ → Span
  own = character rows j

  -- the length of a character is the least cost of the clade of row 1's descendant, and how far row 1's own set lies from its set
  pub character-cost : ((v : ℕ) → 1 ≤ v → v ≤ n → Nonempty (own v)) → (top : ℕ) → descendants tree (other_nodes n) 1 ≡ top ∷ [] →
      character_length tree rows n j ≡ cost_of tree n own top + gap (set_of tree n own top) (own 1)
  unfolding character_length cost_of set_of
  character-cost proper top e =
      let clade = clade_of n tree grown in
      let taxa : 1 ≤ n = omega (arith, grown.at_least_two) in
      let states : ℕ → ℤ = λ v. chosen_state tree rows n v j in
      let first = clade.of_row1 in
      let root : top ≡ clade.root = cc in
      let same : clade_from n tree grown top ≡ clade.clade = ap (clade_from n tree grown) root ∙ clade.from_root in
      sym (cost_sum_clade apart n tree states (states 1) clade.clade clade.is_made (ap states clade.from_row1)
      ∙ clade.sums (λ v. apart (states v) (states (ancestor tree v))))
      ∙ states-length n tree rows j proper taxa clade
      ∙ ap (λ t. least_cost ordered own t + gap (up ordered own t) (own 1)) (sym same)

  module _ (known : (u : ℕ) → 1 ≤ u → u ≤ n → Each Known (own u)) (v : ℕ) (second : 2 ≤ v) (last : v ≤ 2 * n - 2) where
    -- the least cost of a node's clade is at most twice 1998 for each taxon
    pub cost-most : cost_of tree n own v ≤ 2 * most_apart * n
    unfolding cost_of
    cost-most =
        omega (
          arith,
          least_cost-most n tree own known (clade_from n tree grown v) (clade_from_made n tree grown v second last),
          clade_from-size n tree grown v second last,
        )

    -- its set lies at most 1998 from row 1's own
    pub gap_row1 : gap (set_of tree n own v) (own 1) ≤ most_apart
    unfolding set_of
    gap_row1 =
        gap-most (up ordered own (clade_from n tree grown v)) (own 1)
        (up-each Known n tree own known (clade_from n tree grown v) (clade_from_made n tree grown v second last))
        (known 1 (omega arith) (omega (arith, grown.at_least_two)))
