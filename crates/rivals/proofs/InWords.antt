-- The claim about the three rivals, part by part, in document 01's words. Each theorem uses the claim, so that a weaker claim would not
-- prove it. `matrix` is an accepted matrix: one that a read accepts, or a lent one that passes its questions.
use mathlib.Core.Path.{◌≡◌, refl, sym, ap, subst, ◌∙◌}
use mathlib.Core.Logic.{◌↔◌}
use mathlib.Core.Bool.{true}
use mathlib.Core.List.{List, ◌∷◌, ◌++◌}
use Prim.Native.Nat.{ℕ, ◌+◌, ◌-◌, ◌*◌, ◌≤◌, ◌<◌}
use native.Mathlib.Omega.{arith}
use lib.IntN.{ℤ, pos}
use lib.ListN.{length, get_or}
use Rattle.std.specs.Prelude.{Ok}
use Rattle.matrix_form.specs.Shape.{last_node, MatrixLists}
use Rattle.matrix_form.specs.NodeRows.{row_of, rows_of}
use Rattle.matrix_form.specs.Questions.{ask_matrix}
use Rattle.file_form.specs.Job.{Job}
use Rattle.matrix_form.specs.Outcomes.{value}
use Rattle.file_form.specs.Reading.{read_answer}
use Rattle.difference_form.specs.Rows.{difference, node_difference, weighing}
use Rattle.prim_form.specs.Network.{network, network_length}
use Rattle.prim_form.specs.Rival.{Connected, link_ends, links_length}
use Rattle.tree_form.specs.declared.placement.Placement.{Placement}
use Rattle.tree_form.specs.declared.branch.Branch.{Branch}
use Rattle.tree_form.specs.Branches.{ancestors_of, lent_branching}
use Rattle.tree_form.specs.Ancestors.{ancestor}
use Rattle.tree_form.specs.Nodes.{Unplaced}
use Rattle.tree_form.specs.Growing.{branching}
use Rattle.tree_form.specs.Hanging.{only_row_one, linked}
use Rattle.tree_form.specs.RowLengths.{length_under}
use Rattle.tree_form.specs.Placing.{place}
use Rattle.tree_form.specs.Rival.{hung_length}
use Rattle.tree_form.specs.declared.order.Order.{Order}
use Rattle.tree_form.specs.declared.order.Order.TheVariants.{Closest}
use Rattle.wagner_form.specs.Build.{wagner}
use Rattle.consistency_form.specs.Floor.{floor}
use Rattle.fit_form.specs.Sets.{In}
use Rattle.matrix_form.specs.Spans.{only, singles}
use Rattle.fit_form.proofs.Sets.Single.{only_code, code-only}
use Rattle.fit_form.proofs.Matrix.Proper.{code_of, character-single, singles_proper}
use Rattle.fit_form.specs.Assignments.{IsAssignment, IsLeast, Occurs, total}
use Rattle.fit_form.specs.Fit.{chosen_state, range, fitted_length, fitted_total, marked}
use Rattle.fit_form.proofs.Matrix.Alike.{alike_total}
use Rattle.rivals.specs.Accepted.{Accepted, file_read, matrix_lent, HandedIn}
use Rattle.rivals.specs.Demand.{NoRivalDoesBetter, EachIsLeast, more, BuildIsLeast}
use Rattle.rivals.proofs.Rows.{accepted_rows}
use Rattle.rivals.proofs.Demand.{taxa-limits, no_rival}
use Rattle.rivals.proofs.Steps.{first_link, later_placements}
use Rattle.rivals.proofs.Floor.{floor_lowest}

-- for every file that a read accepts
pub for_every_file : (file : List ℕ) (job : Job) → read_answer file ≡ value job
    → NoRivalDoesBetter (weighing job.weights) job.n job.m job.rows
for_every_file file job e = no_rival job.n job.m job.weights job.rows (file_read file job e)

-- for every lent matrix that passes 12, 4, 16 and the taxa's 10
pub for_every_lent_matrix : (lists : MatrixLists) (n m : ℕ) → ask_matrix lists n m ≡ Ok tt
    → NoRivalDoesBetter (weighing lists.weights) n m (rows_of lists.codes m n)
for_every_lent_matrix lists n m e = no_rival n m lists.weights (rows_of lists.codes m n) (matrix_lent lists n m e)

-- of placements in turn in the order `closest`, the next one adds no more than any taxon that is not placed, hung on any interval through
-- an HTU with any m whole numbers
pub no_taxon_adds_less : {d : List ℤ → List ℤ → ℕ} {n m : ℕ} {tree last : List ℕ} {rows last_rows : List (List ℤ)} {next : Placement} {others : List Placement}
    → EachIsLeast Closest d n m tree rows (next ∷ others) last last_rows
    → (b : ℕ) → Unplaced n tree b → (c : ℕ) → 1 ≤ ancestor tree c → (r : List ℤ) → length r ≡ m
    → length_under d n tree rows + next.added ≤ hung_length d n tree rows b c r
no_taxon_adds_less (more taxon placed chosen least closest others) = (closest refl).least

module _ (n m : ℕ) (weights : List ℕ) (rows : List (List ℤ)) (matrix : Accepted n m weights rows) where
  -- the claim about this matrix
  abbrev claim : NoRivalDoesBetter (weighing weights) n m rows
  claim = no_rival n m weights rows matrix

  -- the difference of two taxa
  abbrev between : ℕ → ℕ → ℕ
  between = node_difference (difference weights) (row_of rows)

  -- ours is a connected network of the taxa, of length `p`
  pub our_network :
      Connected n (link_ends (network between n)) × (links_length between (link_ends (network between n)) ≡ network_length (network between n))
  our_network = (claim.network.ours, claim.network.length)

  -- no connected list of links between taxa is shorter
  pub no_network_shorter : (links : List (ℕ × ℕ)) → Connected n links → network_length (network between n) ≤ links_length between links
  no_network_shorter = claim.network.least

  module _ (tree : List ℕ) (htus : List (List ℤ)) (handed : HandedIn n m tree htus) (b : ℕ) (unplaced : Unplaced n tree b) where
    -- our placement adds its interval difference to the length of the tree
    pub our_placement_adds :
        length_under (difference weights) n (place (difference weights) (row_of (rows ++ htus)) n tree b).tree
        ((rows ++ htus) ++ (place (difference weights) (row_of (rows ++ htus)) n tree b).made)
        ≡ length_under (difference weights) n tree (rows ++ htus) + (place (difference weights) (row_of (rows ++ htus)) n tree b).placement.added
    our_placement_adds = (claim.placement tree htus handed b unplaced).adds

    -- no hanging of the taxon on any interval through an HTU with any m whole numbers adds less
    pub no_hanging_adds_less : (c : ℕ) → 1 ≤ ancestor tree c → (r : List ℤ) → length r ≡ m
        → length_under (difference weights) n tree (rows ++ htus) + (place (difference weights) (row_of (rows ++ htus)) n tree b).placement.added
        ≤ hung_length (difference weights) n tree (rows ++ htus) b c r
    no_hanging_adds_less = (claim.placement tree htus handed b unplaced).least

  -- so it is with each placement of our own build, in either order of placing
  pub each_placement_least : (order : Order) → BuildIsLeast order (difference weights) n m rows (wagner (difference weights) order n rows)
  each_placement_least = claim.build

  module _ (order : Order) (first : Placement) (others : List Placement)
      (placed : (wagner (difference weights) order n rows).placements ≡ first ∷ others) where
    -- in either order our build first links to row 1 a taxon that is not row 1, and adds their difference; a rival who may choose that
    -- taxon as well links none that is nearer
    pub our_first_link : (2 ≤ first.taxon) × (first.taxon ≤ n) × (first.lower ≡ 0) × (first.upper ≡ 1) × (first.htu ≡ 0)
        × (first.added ≡ between first.taxon 1)
        × ((v : ℕ) → 2 ≤ v → v ≤ n → first.added ≤ between v 1)
    our_first_link = first_link (claim.build order) first others placed

    -- and it goes on by placements in turn, of each of which `Steps` speaks, and in the order `closest` `no_taxon_adds_less`
    pub our_later_placements :
        EachIsLeast order (difference weights) n m (linked only_row_one first.taxon) rows others
        (wagner (difference weights) order n rows).tree (wagner (difference weights) order n rows).rows
    our_later_placements = later_placements (claim.build order) first others placed

  -- our tree has all n taxa
  pub our_tree_whole : (order : Order) → branching n (wagner (difference weights) order n rows).tree ≡ true
  our_tree_whole = claim.whole

  -- on a branching that is lent as branch records no choice of whole-number inner states has a lower total than our chosen states
  pub no_states_shorter_lent : (records : List Branch) → lent_branching n records ≡ true
      → (states : ℕ → ℕ → ℤ) → IsAssignment (singles rows) n m states
      → fitted_total (weighing weights).step (ancestors_of n records) (singles rows) n m
      ≤ total (weighing weights).step (ancestors_of n records) n m states
  no_states_shorter_lent records lent = (claim.lent_fit records lent).least

  module _ (tree : List ℕ) (whole : branching n tree ≡ true) where
    -- our chosen states are an assignment of least length, of total `t`
    pub our_states_least : IsLeast (weighing weights).step tree (singles rows) n m (chosen_state tree (singles rows) n)
    unfolding fitted_total
    our_states_least = record { assigns = (claim.fit tree whole).assigns; least = (claim.fit tree whole).least }

    -- no choice of whole-number inner states has a lower total
    pub no_states_shorter : (states : ℕ → ℕ → ℤ) → IsAssignment (singles rows) n m states
        → fitted_total (weighing weights).step tree (singles rows) n m ≤ total (weighing weights).step tree n m states
    no_states_shorter = (claim.fit tree whole).least

    -- where all rows are equal, the total is 0
    pub alike_rows : ((v : ℕ) → 1 ≤ v → v ≤ n → row_of rows v ≡ row_of rows 1) → fitted_total (weighing weights).step tree (singles rows) n m ≡ 0
    alike_rows same =
        alike_total weights n m tree (singles rows) (taxa-limits n m (accepted_rows matrix).limits).0 (singles_proper rows n m) (claim.fit tree whole) (λ v j p q r l.
        character-single rows j v
        ∙ ap (λ (codes : List ℤ). only (get_or codes (j - 1) (pos 0))) (same v p q)
        ∙ sym (character-single rows j 1))

    -- a state lies in our range of a node, taxon or HTU, exactly if some least-length choice has it there
    pub range_exactly : (v j : ℕ) (s : ℤ) → 1 ≤ v → v ≤ last_node n → 1 ≤ j → j ≤ m
        → In s (range tree (singles rows) n v j) ↔ Occurs (weighing weights).step tree (singles rows) n m v j s
    range_exactly = (claim.fit tree whole).ranges

    -- the floor never passes the total of any assignment, ours or another
    pub floor_below_every_total : (states : ℕ → ℕ → ℤ) → IsAssignment (singles rows) n m states
        → floor (weighing weights).step (singles rows) n m ≤ total (weighing weights).step tree n m states
    floor_below_every_total = (floor_lowest n m weights rows matrix).least tree whole

    -- an assignment gives a taxon its code
    pub code_kept : (states : ℕ → ℕ → ℤ) → IsAssignment (singles rows) n m states
        → (v j : ℕ) → 1 ≤ v → v ≤ n → 1 ≤ j → j ≤ m → states v j ≡ code_of rows j v
    code_kept states h v j p q r l =
        only_code (states v j) (code_of rows j v) (subst (In (states v j)) (character-single rows j v) (h.keeps v j p q r l))

    -- and states that give each taxon its code are an assignment
    pub codes_assigned : (states : ℕ → ℕ → ℤ) → ((v j : ℕ) → 1 ≤ v → v ≤ n → 1 ≤ j → j ≤ m → states v j ≡ code_of rows j v)
        → IsAssignment (singles rows) n m states
    codes_assigned states kept = record {
      keeps = λ v j p q r l.
          subst (In (states v j)) (sym (character-single rows j v)) (code-only (states v j) (code_of rows j v) (kept v j p q r l));
    }

    -- so a taxon's range is its code alone
    pub taxon_range_code : (v j : ℕ) (s : ℤ) → 1 ≤ v → v ≤ n → 1 ≤ j → j ≤ m
        → In s (range tree (singles rows) n v j) ↔ (s ≡ code_of rows j v)
    unfolding last_node
    taxon_range_code v j s p q r l =
        let occurs = range_exactly v j s p (omega arith) r l in (
          λ i. let o = occurs.0 i in sym o.here ∙ code_kept o.states o.is_least.assigns v j p q r l,
          λ e. occurs.1 (record {
            states = chosen_state tree (singles rows) n;
            is_least = our_states_least;
            here = code_kept (chosen_state tree (singles rows) n) our_states_least.assigns v j p q r l ∙ sym e;
          }),
        )

    -- the branch of a node has the mark `+` exactly if its length under our chosen states is above 0
    pub mark_above_zero : (v : ℕ) → 2 ≤ v → v ≤ 2 * n - 2
        → (marked (weighing weights).step tree (singles rows) n m v ≡ true) ↔ (0 < fitted_length (weighing weights).step tree (singles rows) n m v)
    unfolding fitted_length
    mark_above_zero v first last = ((claim.fit tree whole).marks v first last).plus
