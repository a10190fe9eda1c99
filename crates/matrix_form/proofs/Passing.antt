-- What passed questions tell, and which matrices pass them.
use Rattle.std.specs.Prelude.{Ok}
use mathlib.Core.Path.{◌≡◌, refl}
use mathlib.Core.Bool.{Bool, true, false, and-eq-true_iff}
use mathlib.Core.List.{List, Memᴰ}
use mathlib.Core.Logic.{◌↔◌, by_cases}
use Prim.Native.Nat.{ℕ, ◌+◌, ◌≤◌, ◌<◌}
use native.Mathlib.Omega.{arith}
use borrow.Author.Tests.{leb-true, le-leb, lt-leb, eqb-true, eq-eqb}
use lib.Dec.{leb, eqb}
use lib.IntN.{ℤ}
use lib.ListN.{length}
use native.Mathlib.Decide.{dec_le}
use Rattle.matrix_form.proofs.Row.{row-length}
use Rattle.lists.specs.Numbers.{numbers}
use Rattle.matrix_form.specs.Shape.{most_taxa, most_characters, columns, matrix_size, row, in_range, last_node, MatrixLists}
use Rattle.matrix_form.specs.Outcomes.{Asked, ask, ask_each}
use Rattle.matrix_form.specs.Questions.{one_to, within_limits, all_in_range, ask_code, ask_row_of, ask_rows_of, are_weights, ask_matrix}
use Rattle.matrix_form.specs.Questions.{LentMatrix, LentWeights, MatrixLent}
use Rattle.matrix_form.specs.Questions.{nodes_exist, ask_htu, ask_nodes}
use Rattle.matrix_form.specs.declared.refusal.Refusal.{Refusal}
use Rattle.matrix_form.specs.declared.refusal.Refusal.TheVariants.{BeyondLimits, CodeRange, ListSize, NotThere, WeightForm}
use Rattle.lists.proofs.Every.{every_iff}
use Rattle.lists.proofs.Numbers.{numbers-within, numbers-among}
use Rattle.matrix_form.proofs.Each.{and_then_passed, each_iff}

-- questions that pass: the first is answered "yes", and the rest pass
pub ask_passed : (b : Bool) (r : Refusal) (rest : Asked) → ask b r rest ≡ Ok tt → (b ≡ true) × (rest ≡ Ok tt)
ask_passed true r rest e = (refl, e)
ask_passed false r rest e = cc

-- an item that is one of `last` lies between 1 and `last`
pub one_to-true : (last item : ℕ) → one_to last item ≡ true → (1 ≤ item) × (item ≤ last)
unfolding one_to
one_to-true last item e =
    let p = (and-eq-true_iff (leb 1 item) (leb item last)).0 e in
    (leb-true 1 item p.0, leb-true item last p.1)

-- and what lies between them is one
pub true-one_to : (last item : ℕ) → 1 ≤ item → item ≤ last → one_to last item ≡ true
unfolding one_to
true-one_to last item low high = (and-eq-true_iff (leb 1 item) (leb item last)).1 (le-leb 1 item low, le-leb item last high)

-- the questions on codes pass exactly if all are in range
pub codes_asked : (codes : List ℤ) → (ask_each ask_code codes ≡ Ok tt) ↔ (all_in_range codes ≡ true)
unfolding ask_code all_in_range
codes_asked codes = (
  λ e. (every_iff in_range codes).1 (λ code m. (ask_passed (in_range code) CodeRange (Ok tt) ((each_iff ask_code codes).0 e code m)).0),
  λ e. (each_iff ask_code codes).1 (λ code m. rw ((every_iff in_range codes).0 e code m)),
)

-- those on the rows of some nodes pass exactly if all codes of each are in range
pub rows_asked : (lists : MatrixLists) (m : ℕ) (nodes : List ℕ)
    → (ask_rows_of lists m nodes ≡ Ok tt) ↔ ((v : ℕ) → Memᴰ v nodes → all_in_range (row lists.codes m v) ≡ true)
unfolding ask_rows_of ask_row_of
rows_asked lists m nodes = (
  λ e v mem. (codes_asked (row lists.codes m v)).0 ((each_iff (ask_row_of lists m) nodes).0 e v mem),
  λ h. (each_iff (ask_row_of lists m) nodes).1 (λ v mem. (codes_asked (row lists.codes m v)).1 (h v mem)),
)

-- those on the rows of the nodes from `first` on
pub numbers_asked : (lists : MatrixLists) (m first count : ℕ) → (ask_rows_of lists m (numbers first count) ≡ Ok tt)
    ↔ ((v : ℕ) → first ≤ v → v < first + count → all_in_range (row lists.codes m v) ≡ true)
numbers_asked lists m first count = (
  λ e v low high. (rows_asked lists m (numbers first count)).0 e v (numbers-among first count v low high),
  λ h. (rows_asked lists m (numbers first count)).1
      (λ v mem. let within = numbers-within first count v mem in h v within.0 within.1),
)

-- that on the row of an HTU that is named
pub htu_passes : (lists : MatrixLists) (n m v : ℕ) → ask_htu lists n m v ≡ Ok tt → n < v → all_in_range (row lists.codes m v) ≡ true
unfolding ask_htu ask_row_of
htu_passes lists n m v e high = (codes_asked (row lists.codes m v)).0 (rw (lt-leb v n high) at e)

-- n and m within their limits
pub limits_passed : (n m : ℕ) → within_limits n m ≡ true → (1 ≤ n) × (n ≤ most_taxa) × (1 ≤ m) × (m ≤ most_characters)
unfolding within_limits
limits_passed n m e =
    let both = (and-eq-true_iff (one_to most_taxa n) (one_to most_characters m)).0 e in
    let taxa = one_to-true most_taxa n both.0 in
    let characters = one_to-true most_characters m both.1 in
    (taxa.0, taxa.1, characters.0, characters.1)

-- the questions pass a lent matrix of n taxa and m characters with its weights, and nothing else
pub matrix_passes : (lists : MatrixLists) (n m : ℕ)
    → (ask_matrix lists n m ≡ Ok tt) ↔ MatrixLent lists n m
unfolding ask_matrix within_limits
matrix_passes lists n m = (passed, passes)
  where
    passed : ask_matrix lists n m ≡ Ok tt → MatrixLent lists n m
    passed e =
        let size = ask_passed (eqb (length lists.codes) matrix_size) ListSize _ e in
        let weights-size = ask_passed (eqb (length lists.weights) columns) ListSize _ size.1 in
        let limits = ask_passed (within_limits n m) BeyondLimits _ weights-size.1 in
        let weights_known = ask_passed (are_weights lists.weights m) WeightForm _ limits.1 in
        let known = (numbers_asked lists m 1 n).0 weights_known.1 in
        let most = limits_passed n m limits.0 in (
          record {
            full = eqb-true _ _ size.0;
            taxon = most.0;
            taxa = most.1;
            character = most.2;
            characters = most.3;
            known = λ v low high. known v low (omega arith);
          },
          record { full = eqb-true _ _ weights-size.0; known = weights_known.0 },
        )

    passes : MatrixLent lists n m → ask_matrix lists n m ≡ Ok tt
    passes (l, w) =
        rw (
          eq-eqb (length lists.codes) matrix_size l.full,
          eq-eqb (length lists.weights) columns w.full,
          true-one_to 64 n l.taxon l.taxa,
          true-one_to 128 m l.character l.characters,
          w.known,
          (numbers_asked lists m 1 n).1 (λ v low high. l.known v low (omega arith)),
        )

-- a matrix that passed is a lent one
pub matrix_passed : (lists : MatrixLists) (n m : ℕ) → ask_matrix lists n m ≡ Ok tt → LentMatrix lists.codes n m
matrix_passed lists n m e = ((matrix_passes lists n m).0 e).0

-- and its weights are lent ones
pub weights_passed : (lists : MatrixLists) (n m : ℕ) → ask_matrix lists n m ≡ Ok tt → LentWeights lists.weights m
weights_passed lists n m e = ((matrix_passes lists n m).0 e).1

-- what passed questions on a lent matrix and some nodes tell
pub record NodesPassed (lists : MatrixLists) (n m : ℕ) (nodes : List ℕ) : Type 0 where
  pub matrix : LentMatrix lists.codes n m
  pub weighted : LentWeights lists.weights m
  pub exist : nodes_exist n nodes ≡ true
  pub htus : ask_each (ask_htu lists n m) nodes ≡ Ok tt

-- questions on a lent matrix and some nodes that pass tell that
pub nodes_passed : (lists : MatrixLists) (n m : ℕ) (nodes : List ℕ) → ask_nodes lists n m nodes ≡ Ok tt
    → NodesPassed lists n m nodes
unfolding ask_nodes
nodes_passed lists n m nodes e =
    let both = and_then_passed (ask_matrix lists n m) _ e in
    let existing = ask_passed (nodes_exist n nodes) NotThere _ both.1 in
    let lent = (matrix_passes lists n m).0 both.0 in
    record { matrix = lent.0; weighted = lent.1; exist = existing.0; htus = existing.1 }

-- a node that passed questions name has a row of m codes from -999 to 999
pub node_passed : (lists : MatrixLists) (n m : ℕ) (nodes : List ℕ) → NodesPassed lists n m nodes → (v : ℕ)
    → Memᴰ v nodes → (length (row lists.codes m v) ≡ m) × (all_in_range (row lists.codes m v) ≡ true)
unfolding nodes_exist last_node
node_passed lists n m nodes passed v named =
    let lent = passed.matrix in
    let exists = one_to-true (last_node n) v ((every_iff (one_to (last_node n)) nodes).0 passed.exist v named) in
    let known = (each_iff (ask_htu lists n m) nodes).0 passed.htus v named in (
      row-length lists.codes m v lent.full lent.characters exists.0 (omega (arith, exists.1, lent.taxa)),
      by_cases (dec_le v n) (λ low. lent.known v exists.0 low) (λ high. htu_passes lists n m v known (omega arith)),
    )
