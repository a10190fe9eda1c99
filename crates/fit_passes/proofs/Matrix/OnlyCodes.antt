-- Fitting makes no new values: what holds of both ends of the own sets of the n taxa of a branching in one character holds of both ends of
-- every set, of the chosen state of every node, and of both ends of its range.
use Rattle.std.proofs.Common.{◌≡◌, ℕ, zero, suc, ◌-◌, ◌*◌, ◌<◌, ◌≤◌, Bool, true, false, cond, List, [], ◌∷◌, length, get_or, ℤ, pos, arith}
use lib.Signed.{le_z}
use Rattle.difference_form.specs.Rows.{lower}
use Rattle.difference_form.proofs.Laws.Order.{lower-keeps, higher-keeps}
use Rattle.tree_form.specs.Facts.{Grown}
use Rattle.clades.proofs.Clades.Sides.{Side, left, right, on, other, on_each}
use Rattle.clades.proofs.Clades.Parts.{Part, whole, below, handed}
use Rattle.clades.proofs.OneCharacter.Passes.{state_to, outside_to}
use Rattle.fit_form.specs.Sets.{join, nearest_member, insert, in_order, six_ends, middle, ordered}
use Rattle.matrix_form.specs.declared.spans.Span.{Span}
use Rattle.clades.specs.Clades.{Clade, tip, fork}
use Rattle.clades.specs.Kinds.{among}
use Rattle.clades.specs.Character.{up, state_of}
use Rattle.fit_form.specs.Clades.{clades_below}
use Rattle.fit_form.specs.Assignments.{character}
use Rattle.fit_form.specs.Fit.{chosen_state, range}
use Rattle.fit_passes.specs.Steps.{Each, set_of, outside_of}
use Rattle.fit_form.proofs.Cases.{either}
use Rattle.fit_form.proofs.Sets.Order.{length-in_order}
use Rattle.fit_form.proofs.Clades.Built.{Made, htu_two, htu_descends}
use Rattle.fit_form.proofs.Clades.Hanging.{clade_of, clade_from, clade_from_made, part_of}
use Rattle.fit_form.proofs.Matrix.AnyKind.{outside-part, state-handed, state_row1, range_row1, range-taxon}
use Rattle.fit_passes.proofs.Matrix.ByNode.{range-htu}

module _ (P : ℤ → Type 0) where
  -- it holds of the join of two sets
  pub join-each : (a b : Span) → Each P a → Each P b → Each P (join a b)
  unfolding join
  join-each a b p q =
      let start = higher-keeps P a.low b.low p.at_low q.at_low in
      let end = lower-keeps P a.high b.high p.at_high q.at_high in
      record { at_low = lower-keeps P _ _ start end; at_high = higher-keeps P _ _ start end }

  -- it holds of the member of a set nearest to a state
  pub nearest_member-each : (s : ℤ) (a : Span) → P s → Each P a → P (nearest_member s a)
  unfolding nearest_member
  nearest_member-each s a p q = higher-keeps P a.low (lower s a.high) q.at_low (lower-keeps P s a.high p q.at_high)

  -- it holds of every state of a list
  abbrev All : List ℤ → Type 0
  All [] = Unit {0}
  All (x ∷ xs) = P x × All xs

  -- it holds of every state of a list with one more written in
  insert-each : (x : ℤ) (ys : List ℤ) → P x → All ys → All (insert x ys)
  unfolding insert
  insert-each x [] p q = (p, tt)
  insert-each x (y ∷ ys) p q = go (le_z x y) (insert-each x ys p q.1)
    where
      go : (t : Bool) → All (insert x ys) → All (cond t (x ∷ y ∷ ys) (y ∷ insert x ys))
      go true later = (p, q)
      go false later = (q.0, later)

  -- it holds of every state of a list put in order
  in_order-each : (xs : List ℤ) → All xs → All (in_order xs)
  unfolding in_order
  in_order-each [] q = tt
  in_order-each (x ∷ xs) q = insert-each x (in_order xs) q.0 (in_order-each xs q.1)

  -- it holds of the state at each place of a list
  get_or-each : (xs : List ℤ) (i : ℕ) → All xs → i < length xs → P (get_or xs i (pos 0))
  get_or-each [] i q l = absurd (omega arith)
  get_or-each (x ∷ xs) zero q l = q.0
  get_or-each (x ∷ xs) (suc i) q l = get_or-each xs i q.1 (omega arith)

  -- it holds of the middle of three sets
  pub middle-each : (a b c : Span) → Each P a → Each P b → Each P c → Each P (middle a b c)
  unfolding middle
  middle-each a b c p q r =
      let all = in_order-each (six_ends a b c) (p.at_low, (p.at_high, (q.at_low, (q.at_high, (r.at_low, (r.at_high, tt)))))) in
      record {
        at_low = get_or-each (in_order (six_ends a b c)) 2 all (omega (arith, length-in_order (six_ends a b c)));
        at_high = get_or-each (in_order (six_ends a b c)) 3 all (omega (arith, length-in_order (six_ends a b c)));
      }

  module _ (n : ℕ) (tree : List ℕ) (own : ℕ → Span) (each : (u : ℕ) → 1 ≤ u → u ≤ n → Each P (own u)) where
    -- it holds of the set of a clade
    pub up-each : (t : Clade) → Made n tree t → Each P (up ordered own t)
    unfolding up
    up-each (tip v) made = each v (omega arith) made.1
    up-each (fork v a b) made = join-each (up ordered own a) (up ordered own b) (up-each a made.4) (up-each b made.5)

    -- it holds of the set of a side of a clade
    side_each : (side : Side) (v : ℕ) (a b : Clade) → Made n tree (fork v a b) → Each P (up ordered own (on side a b))
    side_each left v a b made = up-each a made.4
    side_each right v a b made = up-each b made.5

    -- it holds of the state handed to each part of a clade
    state-each : (s : Clade) (y : ℤ) → P y → (t : Clade) (p : Part s t) → Made n tree t → P (handed (state_to ordered own) y p)
    unfolding handed
    state-each s y h t whole made = h
    state-each s y h t (below side v a b p) made =
        state-each s (state_to ordered own side y a b)
        (unfold state_to up in
        nearest_member-each y (join (up ordered own a) (up ordered own b)) h (up-each (fork v a b) made))
        (on side a b) p (on_each (Made n tree) side a b made.4 made.5)

    -- it holds of the set handed to each part of a clade from outside
    outside-each : (s : Clade) (outside : Span) → Each P outside → (t : Clade) (p : Part s t) → Made n tree t →
        Each P (handed (outside_to ordered own) outside p)
    unfolding handed
    outside-each s outside h t whole made = h
    outside-each s outside h t (below side v a b p) made =
        outside-each s (outside_to ordered own side outside a b)
        (unfold outside_to in join-each (up ordered own (on (other side) a b)) outside (side_each (other side) v a b made) h)
        (on side a b) p (on_each (Made n tree) side a b made.4 made.5)

  module _ (n : ℕ) (tree : List ℕ) (grown : Grown n n tree) (rows : List (List Span)) (j : ℕ)
      (each : (u : ℕ) → 1 ≤ u → u ≤ n → Each P (character rows j u)) (v : ℕ) (first : 1 ≤ v) (last : v ≤ 2 * n - 2) where
    -- the taxa's own sets in character j
    abbrev own : ℕ → Span
    own = character rows j

    -- the clade below row 1
    abbrev clade : Clade
    clade = (clade_of n tree grown).clade

    -- it holds of row 1's own set
    row1_each : Each P (own 1)
    row1_each = each 1 (omega arith) (omega (arith, grown.at_least_two))

    -- it holds of what row 1 may have
    row1_range-each : Each P (among ordered (own 1) (up ordered own clade))
    row1_range-each =
        middle-each (own 1) (own 1) (up ordered own clade) row1_each row1_each
        (up-each n tree own each clade (clade_of n tree grown).is_made)

    -- it holds of the outside of each node below row 1
    outside_at-each : 2 ≤ v → Each P (outside_of tree n own v)
    unfolding outside_of
    outside_at-each second =
        let part = part_of n tree grown v second last in
        rw (outside-part n tree grown ordered own v part)
        (outside-each n tree own each (clade_from n tree grown v) (own 1) row1_each clade part (clade_of n tree grown).is_made)

    -- it holds of the chosen state of each node of a branching
    pub chosen_state-each : P (chosen_state tree rows n v j)
    unfolding chosen_state
    chosen_state-each = either 2 v below_row1
        (λ few. let row1 : v ≡ 1 = omega arith in rw (row1, state_row1 n tree grown ordered own) row1_range-each.at_low)
      where
        below_row1 : 2 ≤ v → P (state_of ordered own (clades_below tree n) v)
        below_row1 second =
            let part = part_of n tree grown v second last in
            rw (state-handed n tree grown ordered own v part)
            (nearest_member-each _ (up ordered own (clade_from n tree grown v))
            (state-each n tree own each (clade_from n tree grown v) _ row1_range-each.at_low clade part (clade_of n tree grown).is_made)
            (up-each n tree own each (clade_from n tree grown v) (clade_from_made n tree grown v second last)))

    -- it holds of the range of each taxon
    taxon_range-each : v ≤ n → Each P (range tree rows n v j)
    unfolding range outside_of
    taxon_range-each l = either 2 v
        (λ second.
        rw (range-taxon n tree grown ordered own v second l)
        (middle-each (own v) (own v) _ (each v first l) (each v first l) (outside_at-each second)))
        (λ few. let row1 : v ≡ 1 = omega arith in rw (row1, range_row1 n tree grown ordered own) row1_range-each)

    -- it holds of the range of each node of a branching
    pub range-each : Each P (range tree rows n v j)
    range-each = either v n taxon_range-each
        (λ l.
        let two = htu_two n tree grown v l last in
        let a = two.0 in
        let b = two.1 in
        let htu = two.2 in
        let da = htu_descends n tree grown left v a b htu in
        let db = htu_descends n tree grown right v a b htu in
        rw (range-htu n tree grown rows j v a b htu)
        (unfold set_of in
        middle-each (up ordered own (clade_from n tree grown a)) (up ordered own (clade_from n tree grown b)) _
        (up-each n tree own each (clade_from n tree grown a) (clade_from_made n tree grown a da.second da.last))
        (up-each n tree own each (clade_from n tree grown b) (clade_from_made n tree grown b db.second db.last))
        (outside_at-each (omega (arith, grown.at_least_two)))))
