-- The listing with every definition open, so that the checker computes it.
use mathlib.Core.List.{List, flat_map}
use Prim.Native.Nat.{ℕ}
use Prim.Native.String.{String}
use Rattle.matrix_form.specs.Shape as matrix-Shape
use Rattle.lists.specs.Tests as lists-Tests
use Rattle.lists.specs.Filled as lists-Filled
use Rattle.lists.specs.Filters as lists-Filters
use Rattle.lists.specs.Sums as lists-Sums
use Rattle.lists.specs.Numbers as lists-Numbers
use Rattle.lists.specs.Least as lists-Least
use Rattle.lists.specs.Pairs as lists-Pairs
use Rattle.matrix_form.specs.NodeRows as matrix-NodeRows
use Rattle.matrix_form.specs.Spans as matrix-Spans
use Rattle.matrix_form.specs.Outcomes as matrix-Outcomes
use Rattle.matrix_form.specs.Questions as matrix-Questions
use Rattle.difference_form.specs.Rows as difference-Rows
use Rattle.text_form.specs.Bytes as text-Bytes
use Rattle.text_form.specs.Lines as text-Lines
use Rattle.text_form.specs.Decimal as text-Decimal
use Rattle.text_form.specs.Text as text-Text
use Rattle.file_form.specs.Job as file-form-Job
use Rattle.file_form.specs.Kinds as file-form-Kinds
use Rattle.file_form.specs.Lines as file-form-Lines
use Rattle.file_form.specs.Header as file-form-Header
use Rattle.file_form.specs.Optional as file-form-Optional
use Rattle.file_form.specs.Weights as file-form-Weights
use Rattle.file_form.specs.Branches as file-form-Branches
use Rattle.file_form.specs.Rows as file-form-Rows
use Rattle.file_form.specs.Reading as file-form-Reading
use Rattle.prim_form.specs.Network as prim-Network
use Rattle.tree_form.specs.Ancestors as branching-Ancestors
use Rattle.tree_form.specs.Nodes as branching-Nodes
use Rattle.tree_form.specs.Growing as branching-Growing
use Rattle.tree_form.specs.Hanging as branching-Hanging
use Rattle.tree_form.specs.Branches as branching-Branches
use Rattle.tree_form.specs.RowLengths as branching-RowLengths
use Rattle.tree_form.specs.Placing as branching-Placing
use Rattle.wagner_form.specs.Next as wagner-Next
use Rattle.wagner_form.specs.Build as wagner-Build
use Rattle.fit_form.specs.Sets as fitting-Sets
use Rattle.fit_form.specs.Clades as fitting-Clades
use Rattle.clades.specs.ByNode as clades-ByNode
use Rattle.clades.specs.Character as clades-Character
use Rattle.fit_form.specs.Assignments as fitting-Assignments
use Rattle.fit_form.specs.Fit as fitting-Fit
use Rattle.consistency_form.specs.Floor as consistency-Floor
use Rattle.consistency_form.specs.Index as consistency-Index
use Rattle.listing_form.specs.Lines as lines-Lines
use Rattle.listing_form.specs.Kinds as lines-Kinds
use Rattle.listing_form.specs.Meant as listing-Meant
use Rattle.listing_form.specs.Blocks as listing-Blocks
use Rattle.listing_form.specs.Listing as listing-Listing

-- what is printed for a file of these lines
unfoldable pub computed : List String → List ℕ
unfolding flat_map matrix-Shape.row matrix-Shape.in_range matrix-Shape.last_node lists-Numbers.numbers lists-Least.first_least
    lists-Tests.every lists-Tests.same_numbers matrix-Questions.one_to matrix-Questions.within_limits matrix-Questions.all_in_range
    matrix-Outcomes.ask_each matrix-Questions.ask_code matrix-Questions.ask_row_of matrix-Questions.ask_rows_of matrix-Questions.ask_matrix
    matrix-Questions.nodes_exist matrix-Questions.ask_htu matrix-Questions.ask_nodes difference-Rows.apart difference-Rows.lower difference-Rows.higher
    difference-Rows.median difference-Rows.part matrix-Shape.weight_at matrix-Shape.weight_of matrix-Shape.is_weight
    difference-Rows.difference difference-Rows.medians text-Bytes.is_digit text-Bytes.is_letter
    text-Bytes.pieces_at text-Bytes.piece_length text-Bytes.first_piece text-Bytes.behind_piece
    text-Bytes.joined_by text-Decimal.digits_in text-Decimal.digits_of text-Decimal.decimal
    text-Decimal.no_leading_zero text-Decimal.number_form text-Decimal.number_from text-Decimal.number_of
    text-Decimal.code_form text-Decimal.code_of text-Bytes.in_name file-form-Job.name_form
    file-form-Job.differs_from_all file-form-Job.all_differ file-form-Job.has_codes file-form-Job.first_text file-form-Job.row_text
    text-Lines.ended file-form-Job.file_of text-Lines.lines_of text-Lines.fields_of file-form-Header.header_in
    file-form-Header.first_form file-form-Header.order_known file-form-Header.is_order file-form-Header.order_in
    file-form-Header.first_line_form file-form-Header.ask_first_line file-form-Header.ask_header
    file-form-Optional.optional_there file-form-Optional.optional_fields file-form-Optional.ask_optional
    file-form-Weights.weight_form file-form-Weights.weight_in file-form-Weights.weights_form file-form-Weights.weights_said
    file-form-Kinds.is_kind file-form-Kinds.kind_said file-form-Branches.branch_form file-form-Branches.ancestor_in
    file-form-Branches.branch_text file-form-Branches.branch_texts file-form-Reading.ask_after
    file-form-Rows.name_in file-form-Rows.codes_in file-form-Rows.ask_field file-form-Rows.ask_codes file-form-Rows.ask_row
    file-form-Lines.ask_lines
    file-form-Reading.job_of file-form-Reading.nothing_more file-form-Reading.ask_end file-form-Reading.ask_behind
    file-form-Reading.ask_file file-form-Reading.ask_length file-form-Reading.read_answer text-Text.bytes prim-Network.taxa
    prim-Network.network_length lists-Tests.among lists-Filters.without prim-Network.unplaced prim-Network.nearest_placed
    prim-Network.distance prim-Network.link prim-Network.next prim-Network.grow prim-Network.network difference-Rows.node_difference
    branching-Ancestors.ancestor branching-Ancestors.descendants branching-Nodes.has_ancestor branching-Nodes.in_tree lists-Filters.keep
    branching-Nodes.nodes_in branching-Nodes.nodes_out branching-Nodes.other_nodes branching-Nodes.taxa_placed
    branching-Growing.descendant_count branching-Growing.descendants_wanted branching-Growing.climbs branching-Growing.row_one_alone
    branching-Growing.nodes_only branching-Growing.htus_in branching-Growing.ancestors_in branching-Growing.descendants_right
    branching-Growing.all_climb branching-Growing.grown branching-Growing.growing_tree branching-Growing.branching
    branching-Hanging.only_row_one branching-Hanging.linked branching-Hanging.hung branching-Hanging.next_htu lists-Sums.sum_over
    branching-Branches.tree_length branching-Branches.branch_of branching-Branches.branch_records branching-Branches.branches_read
    branching-Branches.ancestors_of lists-Filled.filled branching-Branches.named_in_order branching-Branches.lent_branching matrix-NodeRows.row_of
    lists-Least.least_of difference-Rows.interval_by wagner-Next.advancement
    branching-RowLengths.length_under branching-Placing.median_row branching-Placing.from_interval branching-Placing.nearest_interval
    branching-Placing.link_first branching-Placing.hang branching-Placing.place_on branching-Placing.place
    wagner-Next.by_advancement wagner-Next.hangings wagner-Next.taxon_of wagner-Next.by_closeness wagner-Next.next_by lists-Pairs.pairs
    wagner-Build.added_length wagner-Build.build_on wagner-Build.build wagner-Build.wagner wagner-Build.wagner_length
    wagner-Build.wagner_branches fitting-Sets.join fitting-Sets.nearest_member fitting-Sets.insert fitting-Sets.in_order
    fitting-Sets.middle fitting-Clades.above fitting-Clades.clade_at fitting-Clades.clades_below clades-ByNode.value_at
    clades-Character.up clades-Character.chosen clades-Character.ranges clades-Character.row1_range
    clades-Character.state_of clades-Character.range_of fitting-Assignments.character matrix-Spans.only matrix-Spans.singles
    fitting-Assignments.branch_length fitting-Assignments.total fitting-Fit.chosen_state fitting-Fit.range fitting-Fit.fitted_length
    fitting-Fit.fitted_total fitting-Fit.marked consistency-Floor.left_by consistency-Floor.lowest consistency-Floor.highest
    consistency-Floor.states_of consistency-Floor.character_floor consistency-Floor.floor consistency-Index.index lines-Lines.line lines-Lines.hyphen lines-Lines.htu_name lines-Lines.node_name
    lines-Kinds.total_line lines-Kinds.index_line lines-Kinds.mark lines-Kinds.prim_line lines-Kinds.wagner_line lines-Kinds.branch_line
    lines-Kinds.state_line lines-Kinds.refusal_line listing-Meant.tree_for listing-Blocks.network_lines listing-Blocks.build_lines
    listing-Blocks.fitted_line listing-Blocks.fitted_lines listing-Blocks.state_line_of listing-Blocks.node_lines listing-Blocks.state_lines listing-Blocks.lines_of_build listing-Blocks.lines_of_tree
    listing-Listing.lines_before listing-Listing.listing listing-Listing.printed listing-Listing.listing_of listing-Listing.output
computed lines = listing-Listing.output (flat_map text-Text.bytes lines)
