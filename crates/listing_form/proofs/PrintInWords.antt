-- What is printed, line by line, in document 01's words. Each theorem uses the claims for print, so that a weaker claim would not prove it.
use mathlib.Core.Path.{◌≡◌, refl, sym, ◌∙◌, subst}
use mathlib.Core.Logic.{◌↔◌}
use mathlib.Core.Bool.{Bool, true, false, false≢true}
use mathlib.Core.List.{List, ◌∷◌, ◌++◌, Memᴰ}
use Prim.Native.Nat.{ℕ, zero, suc, ◌+◌, ◌*◌, ◌-◌, ◌≤◌, ◌<◌}
use native.Mathlib.Omega.{arith}
use lib.IntN.{ℤ}
use Rattle.std.specs.Prelude.{Option, None, Some, ◌≤ℤ◌}
use Rattle.lists.specs.Sums.{sum_over}
use Rattle.lists.proofs.Sums.{sum_same, sum_map}
use Rattle.matrix_form.specs.NodeRows.{row_of}
use Rattle.file_form.specs.Job.{Job}
use Rattle.file_form.specs.declared.header.Kind.TheVariants.{Wagner, Own}
use Rattle.difference_form.specs.Rows.{node_difference}
use Rattle.prim_form.specs.Network.{Link, taxa, network}
use Rattle.prim_form.specs.Rival.{Connected, link_ends, links_length}
use Rattle.prim_form.proofs.Placing.{Placing, network-placing}
use Rattle.tree_form.specs.declared.placement.Placement.{Placement}
use Rattle.tree_form.specs.Ancestors.{tree_with}
use Rattle.tree_form.specs.Nodes.{other_nodes}
use Rattle.tree_form.specs.Growing.{branching}
use Rattle.tree_form.specs.RowLengths.{length_under}
use Rattle.fit_form.specs.Assignments.{branch_length, total, IsAssignment, IsLeast}
use Rattle.consistency_form.specs.Floor.{floor}
use Rattle.consistency_form.specs.Index.{thousand, IsIndex, divided, no_total}
use Rattle.consistency_form.specs.declared.index.Index.{Index}
use Rattle.consistency_form.proofs.Division.{quotient_most}
use Rattle.rivals.specs.Demand.{BuildIsLeast}
use Rattle.listing_form.specs.Lines.{joined}
use Rattle.listing_form.specs.Meant.{order_meant, measure_meant, states_meant}
use Rattle.listing_form.specs.Blocks.{PrintedTree, lines_of_build, lines_of_tree}
use Rattle.listing_form.specs.Listing.{output}
use Rattle.listing_form.specs.InPrint.{TreeLeast, NoRivalInPrint, OwnInPrint}
use Rattle.listing_form.proofs.InPrint.{plus_above_zero, tree_of_build, tree_of_file}
use Rattle.listing_form.proofs.Joined.{flat_map-append}

-- a mark that is `+` exactly if a length is above 0 is `-` exactly if it is 0
minus_zero : (mark : Bool) (length : ℕ) → ((mark ≡ true) ↔ (0 < length)) → (mark ≡ false) ↔ (length ≡ 0)
minus_zero true length plus = (λ e. absurd (false≢true (sym e)), λ e. absurd (omega (arith, plus.0 refl)))
minus_zero false zero plus = (λ e. refl, λ e. refl)
minus_zero false (suc less) plus = absurd (false≢true (plus.1 (omega arith)))

-- the difference of two taxa of a job
abbrev pub taxa_apart : Job → ℕ → ℕ → ℕ
taxa_apart job = node_difference (measure_meant job).rows (row_of job.rows)

-- the lines of a fitted tree
module _ (job : Job) (x : PrintedTree) (of : TreeLeast job x) where
  -- the tree of the `T` lines is a branching of all taxa
  pub tree_whole : branching job.n x.tree ≡ true
  tree_whole = of.whole

  -- the length in each `T` line is that of its branch under the chosen states of the `H` lines
  pub t_line_length : (v : ℕ) → x.lengths v ≡ branch_length (measure_meant job).step x.tree job.m x.chosen v
  t_line_length = of.branch_lengths

  -- the lengths of the `T` lines add up to `t`
  pub t_lines_sum : sum_over x.lengths (other_nodes job.n) ≡ x.t
  unfolding total
  t_lines_sum =
      sum_same x.lengths (branch_length (measure_meant job).step x.tree job.m x.chosen) (other_nodes job.n) (λ v m. of.branch_lengths v)
      ∙ of.t_length

  -- a `T` line has the mark `-` exactly if the length beside it is 0
  pub minus_at_zero : (v : ℕ) → 2 ≤ v → v ≤ 2 * job.n - 2 → (x.marks v ≡ false) ↔ (x.lengths v ≡ 0)
  minus_at_zero v first last = minus_zero (x.marks v) (x.lengths v) (plus_above_zero job x of v first last)

  -- no choice of states has a lower total than `t`
  pub none_below_t : (rival : ℕ → ℕ → ℤ) → IsAssignment (states_meant job) job.n job.m rival
      → x.t ≤ total (measure_meant job).step x.tree job.n job.m rival
  none_below_t = of.no_states_shorter

  -- so the chosen states of the `H` lines are an assignment of least length
  pub chosen_least : IsLeast (measure_meant job).step x.tree (states_meant job) job.n job.m x.chosen
  chosen_least =
      record { assigns = of.assigns; least = λ rival is. omega (arith, of.t_length, of.no_states_shorter rival is) }

  -- the floor is no higher than any total of any branching of the taxa
  pub floor_below_all : (tree : List ℕ) → branching job.n tree ≡ true → (states : ℕ → ℕ → ℤ) → IsAssignment (states_meant job) job.n job.m states
      → floor (measure_meant job).step (states_meant job) job.n job.m ≤ total (measure_meant job).step tree job.n job.m states
  floor_below_all = of.floor_lowest.least

  -- so it is no higher than `t`
  pub floor_below_t : floor (measure_meant job).step (states_meant job) job.n job.m ≤ x.t
  floor_below_t = omega (arith, of.t_length, floor_below_all x.tree of.whole x.chosen of.assigns)

  -- a line `c` with two numbers: 1000 times the floor is the first times `t` plus the second, which is below `t`; the first is at most 1000
  pub c_divides : (quotient remainder : ℕ) → x.c ≡ Some (record { quotient = quotient; remainder = remainder })
      → (thousand * floor (measure_meant job).step (states_meant job) job.n job.m ≡ quotient * x.t + remainder)
      × (remainder < x.t) × (quotient ≤ thousand)
  c_divides quotient remainder said =
      let is = subst (IsIndex (floor (measure_meant job).step (states_meant job) job.n job.m) x.t) said of.c_index in
      let whole = parts (floor (measure_meant job).step (states_meant job) job.n job.m) x.t quotient remainder is in
      (whole.0, whole.1, quotient_most (floor (measure_meant job).step (states_meant job) job.n job.m) x.t quotient remainder floor_below_t is)
    where
      parts : (lowest total quotient remainder : ℕ) → IsIndex lowest total (Some (record { quotient = quotient; remainder = remainder }))
          → (thousand * lowest ≡ quotient * total + remainder) × (remainder < total)
      parts lowest total q r (divided quotient remainder e below) = (e, below)

  -- a line `c` with two hyphens: exactly if `t` is 0
  pub c_none : (x.c ≡ None) ↔ (x.t ≡ 0)
  c_none = by (floor (measure_meant job).step (states_meant job) job.n job.m) x.t x.c of.c_index
    where
      by : (lowest total : ℕ) (i : Option Index) → IsIndex lowest total i → (i ≡ None) ↔ (total ≡ 0)
      by lowest total i (divided quotient remainder e below) =
          (λ none. absurd (let z : ◌≡◌ {A = ℕ} 0 1 = cc in omega arith), λ nothing. absurd (omega arith))
      by lowest total i (no_total nothing) = (λ none. nothing, λ none. refl)

  module _ (v j : ℕ) (htu : job.n < v) (last : v ≤ 2 * job.n - 2) (one : 1 ≤ j) (most : j ≤ job.m) where
    -- the chosen state of an `H` line lies from its lowest to its highest
    pub chosen_within : (x.low v j ≤ℤ x.chosen v j) × (x.chosen v j ≤ℤ x.high v j)
    chosen_within =
        (of.range_exactly v j (x.chosen v j) htu last one most).1 (record { states = x.chosen; is_least = chosen_least; here = refl })

    -- a state lies from the lowest to the highest of an `H` line exactly if the HTU has it in some choice of states of total `t`
    pub h_line_exactly : (s : ℤ) → ((x.low v j ≤ℤ s) × (s ≤ℤ x.high v j))
        ↔ ((states : ℕ → ℕ → ℤ) × IsAssignment (states_meant job) job.n job.m states
        × (total (measure_meant job).step x.tree job.n job.m states ≡ x.t) × (states v j ≡ s))
    h_line_exactly s =
        let exactly = of.range_exactly v j s htu last one most in (
          λ within.
              let o = exactly.0 within in
              let least = o.is_least.least x.chosen of.assigns in
              let above = of.no_states_shorter o.states o.is_least.assigns in
              (o.states, o.is_least.assigns, omega (arith, of.t_length, least, above), o.here),
          λ found.
              exactly.1 (record {
                states = found.0;
                is_least = record { assigns = found.1; least = λ rival is. omega (arith, found.2, of.no_states_shorter rival is) };
                here = found.3;
              }),
        )

-- a `W` file
module _ (file : List ℕ) (job : Job) (x : NoRivalInPrint file job) where
  -- what is printed: the lines of network and build, then those of the tree, and nothing else
  pub printed_in_turn :
      output file ≡ joined (lines_of_build job.n job.names x.built) ++ joined (lines_of_tree job.n job.names job.m x.tree)
  printed_in_turn =
      x.lines ∙ flat_map-append (λ line. line) (lines_of_build job.n job.names x.built) (lines_of_tree job.n job.names job.m x.tree)

  -- the `P` lines are the links of the Prim Network, in its order of placing
  pub p_lines_network : x.built.links ≡ network (taxa_apart job) job.n
  p_lines_network = x.is_network

  -- each `P` line is the next link after the lines before it: it places a taxon that none of them places, and joins it to row 1 or to one
  -- that they place; no taxon left was nearer to one of these
  pub p_line_placing : (before : List Link) (l : Link) (after : List Link) → x.built.links ≡ before ++ l ∷ after
      → Placing (taxa_apart job) job.n (taxa before) l
  p_line_placing before l after split = network-placing (taxa_apart job) job.n before l after (sym p_lines_network ∙ split)

  -- the length of each `P` line is the difference of its two taxa
  pub p_line_length : (l : Link) → Memᴰ l x.built.links → l.length ≡ taxa_apart job l.taxon l.joined
  p_line_length = x.build_least.link_lengths

  -- the lengths of the `P` lines add up to `p`
  pub p_lines_sum : sum_over (λ (l : Link). l.length) x.built.links ≡ x.built.p
  unfolding links_length link_ends
  p_lines_sum =
      sum_same (λ (l : Link). l.length) (λ (l : Link). taxa_apart job l.taxon l.joined) x.built.links p_line_length
      ∙ sym (sum_map {B = ℕ × ℕ} (λ (ends : ℕ × ℕ). taxa_apart job ends.0 ends.1) (λ (l : Link). (l.taxon, l.joined)) x.built.links)
      ∙ x.build_least.p_length

  -- over the `P` lines every taxon is reached from row 1, and both names of each are those of taxa
  pub p_lines_connect : Connected job.n (link_ends x.built.links)
  p_lines_connect = x.build_least.connected

  -- no connected network of the taxa is shorter than `p`
  pub none_below_p : (rival : List (ℕ × ℕ)) → Connected job.n rival → x.built.p ≤ links_length (taxa_apart job) rival
  none_below_p = x.build_least.no_network_shorter

  -- the `W` lines are a build of least placements in the order that line 1 means
  pub w_lines_least : BuildIsLeast (order_meant job.order) (measure_meant job).rows job.n job.m job.rows x.built.built
  w_lines_least = x.build_least.no_hanging_adds_less

  -- the lengths that the `W` lines add are together `w`, and that of the tree built, with the rows made for its HTUs
  pub w_lines_sum : (sum_over (λ (placement : Placement). placement.added) x.built.built.placements ≡ x.built.w)
      × (length_under (measure_meant job).rows job.n x.built.built.tree x.built.built.rows ≡ x.built.w)
  w_lines_sum = (x.build_least.w_sum, x.build_least.w_length)

  module _ (kind : job.kind ≡ Wagner) where
    -- the tree built is a branching of all taxa
    pub built_whole : branching job.n x.built.built.tree ≡ true
    built_whole = rw (sym (tree_of_build file job kind x)) x.tree_least.whole

    -- no choice of states on the tree built has a lower total than `t`
    pub none_below_t_built : (rival : ℕ → ℕ → ℤ) → IsAssignment (states_meant job) job.n job.m rival
        → x.tree.t ≤ total (measure_meant job).step x.built.built.tree job.n job.m rival
    none_below_t_built = rw (sym (tree_of_build file job kind x)) x.tree_least.no_states_shorter

-- an `F` file
module _ (file : List ℕ) (job : Job) (x : OwnInPrint file job) where
  -- what is printed: the lines of the tree, and nothing else
  pub own_lines : output file ≡ joined (lines_of_tree job.n job.names job.m x.tree)
  own_lines = x.lines

  -- no choice of states on the file's own branching has a lower total than `t`
  pub own_none_below_t : job.kind ≡ Own → (rival : ℕ → ℕ → ℤ) → IsAssignment (states_meant job) job.n job.m rival
      → x.tree.t ≤ total (measure_meant job).step (tree_with job.ancestors) job.n job.m rival
  own_none_below_t kind = rw (sym (tree_of_file file job kind x)) x.tree_least.no_states_shorter
