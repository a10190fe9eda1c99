-- What is kept by closeness is right again after a placement: three entries of each taxon are written, and its nearest interval is found by
-- what is kept.
use mathlib.Core.Path.{◌≡◌, refl, sym, ap, ◌∙◌}
use mathlib.Core.Bool.{true, true≢false}
use mathlib.Core.Logic.{◌≢◌, inl, inr, ⊎_elim, by_cases}
use mathlib.Core.List.{List, [], ◌∷◌, Memᴰ}
use Prim.Native.Nat.{ℕ, zero, suc, ◌+◌, ◌≤◌, ◌<◌}
use native.Mathlib.Omega.{arith}
use native.Mathlib.Decide.{ℕ_discrete}
use lib.IntN.{ℤ}
use lib.ListN.{length, get_or, set}
use lib.Seq.{get_or-set_same, get_or-set_other}
use Rattle.tree_form.specs.Placing.{from_interval, nearest_interval, place}
use Rattle.difference_form.specs.Rows.{difference}
use Rattle.matrix_form.specs.Shape.{row, MatrixLists, with_codes}
use Rattle.std.specs.Prelude.{Option, Some}
use Rattle.std.specs.Option.{unwrap_or}
use Rattle.lists.specs.Least.{least_key}
use Rattle.lists.proofs.Least.{least_key-of, least_of-mem, least_of_congr}
use Rattle.tree_form.specs.declared.placement.Placement.{Placement}
use Rattle.tree_form.specs.Nodes.{in_tree, Unplaced}
use Rattle.branching.specs.Calls.{place_in}
use Rattle.tree_form.proofs.Placing.{added_on}
use Rattle.tree_form.proofs.Nodes.{false-in_tree, node_nodes_in}
use Rattle.tree_form.specs.declared.order.Order.TheVariants.{Advance, Closest}
use Rattle.wagner.specs.Order.{key_of, key_by}
use Rattle.wagner.specs.Closeness.{tree_size, kept, kept_of, intervals, RowRight, KeptThree, Changed, AllChanged}
use Rattle.wagner.specs.Closeness.{RowRenewed, Table, KeysNext}

-- of the first i of some nodes, the entries among what is kept of taxon v are written
module _ (lists : MatrixLists) (m : ℕ) (tree : List ℕ) (v : ℕ) (nodes : List ℕ) where
  pub record Written (i : ℕ) (old new : List ℕ) : Type 0 where
    pub here : (e : ℕ) → e < tree_size → (k : ℕ) → k < i → e ≡ get_or nodes k 0 → kept new e
        ≡ from_interval (difference lists.weights) (row lists.codes m) tree v e
    pub else : (e : ℕ) → ((k : ℕ) → k < i → e ≢ get_or nodes k 0) → kept new e ≡ kept old e

  -- of none
  pub written_none : (row : List ℕ) → Written 0 row row
  written_none row = record { here = λ e low k less. absurd (omega arith); else = λ e out. refl }

  -- of one more, which has a place
  pub written_more : (i : ℕ) (old new : List ℕ) (c x : ℕ) → c ≡ get_or nodes i 0 → Written i old new → c < length new
      → x ≡ from_interval (difference lists.weights) (row lists.codes m) tree v c → Written (i + 1) old (set new c x)
  unfolding kept
  written_more i old new c x at w room is = record {
    here = λ e low k less one.
        by_cases (ℕ_discrete e c)
        (λ same. rw same (get_or-set_same new c x 0 room ∙ is))
        (λ other. get_or-set_other new c e x 0 other
        ∙ w.here e low k (earlier e k less one other) one);
    else = λ e out.
        get_or-set_other new c e x 0 (λ same. out i (omega arith) (same ∙ at)) ∙ w.else e (λ k less. out k (omega arith));
  }
    where
      earlier : (e k : ℕ) → k < i + 1 → e ≡ get_or nodes k 0 → e ≢ c → k < i
      earlier e k less one other =
          by_cases (ℕ_discrete k i)
          (λ last. absurd (other (one ∙ ap (λ j. get_or nodes j 0) last ∙ sym at)))
          (λ before. omega arith)

  -- or has none
  pub written_past : (i : ℕ) (old new : List ℕ) (c : ℕ) → c ≡ get_or nodes i 0 → Written i old new → tree_size ≤ c
      → Written (i + 1) old new
  written_past i old new c at w high = record {
    here = λ e low k less one.
        by_cases (ℕ_discrete k i)
        (λ last. absurd (omega (arith, one ∙ ap (λ j. get_or nodes j 0) last ∙ sym at)))
        (λ before. w.here e low k (omega arith) one);
    else = λ e out. w.else e (λ k less. out k (omega arith));
  }

-- the three nodes of a placement
abbrev pub three_nodes : Placement → List ℕ
three_nodes done = done.lower ∷ done.htu ∷ done.taxon ∷ []

-- all three written
pub three_kept : (lists : MatrixLists) (m : ℕ) (tree : List ℕ) (v : ℕ) (done : Placement) (old new : List ℕ)
    → Written lists m tree v (three_nodes done) 3 old new → KeptThree lists m tree v done old new
three_kept lists m tree v done old new w = record {
  here = λ e low one. ⊎_elim (λ is. w.here e low 2 (omega arith) is)
      (λ rest. ⊎_elim (λ is. w.here e low 1 (omega arith) is) (λ is. w.here e low 0 (omega arith) is) rest) one;
  else = λ e taxon htu lower. w.else e (out e taxon htu lower);
}
  where
    out : (e : ℕ) → e ≢ done.taxon → e ≢ done.htu → e ≢ done.lower → (k : ℕ) → k < 3 → e ≢ get_or (three_nodes done) k 0
    out e taxon htu lower zero less = lower
    out e taxon htu lower (suc zero) less = htu
    out e taxon htu lower (suc (suc zero)) less = taxon
    out e taxon htu lower (suc (suc (suc k))) less = absurd (omega arith)

-- where there is an interval, there is a least key of the intervals by what is kept, the key of the taxon if that is right
key-kept : (lists : MatrixLists) (n m : ℕ) (tree : List ℕ) (v e : ℕ) (own : List ℕ) → Memᴰ e (intervals n tree)
    → RowRight lists n m tree v own
    → least_key (kept own) (intervals n tree) ≡ Some (key_by Closest lists n m tree v)
unfolding key_by place_in place nearest_interval
key-kept lists n m tree v e own some right =
    let mem : Memᴰ (nearest_interval (difference lists.weights) (row lists.codes m) n tree v) (intervals n tree) =
    least_of-mem (from_interval (difference lists.weights) (row lists.codes m) tree v) (intervals n tree) e some in
    let low = (node_nodes_in tree n (nearest_interval (difference lists.weights) (row lists.codes m) n tree v) mem).0 in
    least_key-of (kept own) (intervals n tree) e some
    ∙ ap Some
    (ap (kept own) (least_of_congr (kept own) (from_interval (difference lists.weights) (row lists.codes m) tree v) (intervals n tree)
    (λ c mem. right c mem))
    ∙ right (nearest_interval (difference lists.weights) (row lists.codes m) n tree v) mem
    ∙ sym (added_on (difference lists.weights) n tree (row lists.codes m) v (nearest_interval (difference lists.weights) (row
    lists.codes m) n tree v) (omega (arith, low))))

-- what is kept of a taxon after a placement
module _ (lists : MatrixLists) (n m : ℕ) (few : n ≤ 64) (new : List ℕ) (v : ℕ) (done : Placement) (old own : List ℕ)
    (three : KeptThree lists m new v done old own) where
  -- is right again
  row-again : (codes : List ℤ) (before : List ℕ) → Changed (with_codes lists codes) lists.codes n m before new v done
      → RowRight (with_codes lists codes) n m before v old
      → RowRight lists n m new v own
  row-again codes before changed right c mem =
      by_cases (ℕ_discrete c done.taxon) (λ is. three.here c small (inl is)) (λ nb.
      by_cases (ℕ_discrete c done.htu) (λ is. three.here c small (inr (inl is))) (λ ny.
      by_cases (ℕ_discrete c done.lower) (λ is. three.here c small (inr (inr is))) (λ nc.
      three.else c nb ny nc
      ∙ ⊎_elim
      (λ one. absurd (⊎_elim nb (λ rest. ⊎_elim ny nc rest) one))
      (λ earlier. right c earlier.0 ∙ sym earlier.1)
      (changed.each c mem))))
    where
      small : c < tree_size
      small = omega (arith, (node_nodes_in new n c mem).1)

  -- and there is a key, which is right
  pub row_renewed : (r : Option ℕ) → r ≡ least_key (kept own) (intervals n new) → RowRenewed lists n m new v done old own r
  row_renewed r least = record {
    again = row-again;
    key = λ codes before changed right.
        least ∙ key-kept lists n m new v done.taxon own changed.some_interval (row-again codes before changed right);
  }

-- a placement after which keys and what is kept of the taxa before v are right again
module _ (lists : MatrixLists) (n m : ℕ) (new : List ℕ) (done : Placement) (old : List (List ℕ)) where
  -- what is kept of the others is as before
  pub record RenewedUpTo (v : ℕ) (table : List (List ℕ)) (all : List ℕ) : Type 0 where
    pub rest : (w : ℕ) → v ≤ w → kept_of table w ≡ kept_of old w
    pub each : (codes : List ℤ) (before : List ℕ) → AllChanged (with_codes lists codes) lists.codes n m before new done
        → Table Closest (with_codes lists codes) n m before old
        → (u : ℕ) → Unplaced n new u → u < v
        → (key_of all u ≡ key_by Closest lists n m new u) × RowRight lists n m new u (kept_of table u)

  -- of no taxon
  pub renewed_start : (keys : List ℕ) → RenewedUpTo 1 old keys
  renewed_start keys = record {
    rest = λ w high. refl;
    each = λ codes before changed right u unplaced low. absurd (omega (arith, unplaced.other));
  }

  -- a placed taxon is passed over
  pub renewed_over : (v : ℕ) (table : List (List ℕ)) (all : List ℕ) → in_tree new v ≡ true → RenewedUpTo v table all
      → RenewedUpTo (v + 1) table all
  renewed_over v table all placed up_to = record {
    rest = λ w high. up_to.rest w (omega arith);
    each = λ codes before changed right u unplaced low.
        by_cases
        (ℕ_discrete u v)
        (λ e. absurd (true≢false (sym placed ∙ ap (in_tree new) (sym e) ∙ false-in_tree new u unplaced.other unplaced.free)))
        (λ ne. up_to.each codes before changed right u unplaced (omega arith));
  }

  -- what is kept of one taxon more, and its key, which stays where there is no other
  pub renewed_next : (v : ℕ) (table : List (List ℕ)) (all own : List ℕ) (r : Option ℕ) → v < length all → v < length table
      → RenewedUpTo v table all
      → RowRenewed lists n m new v done (kept_of table v) own r
      → RenewedUpTo (v + 1) (set table v own) (set all v (unwrap_or r (get_or all v 0)))
  unfolding key_of kept_of
  renewed_next v table all own r room long up_to row = record {
    rest = λ w high. get_or-set_other table v w own [] (λ is. omega arith) ∙ up_to.rest w (omega arith);
    each = λ codes before changed right u unplaced low.
        by_cases
        (ℕ_discrete u v)
        (λ e. rw (e, get_or-set_same all v key 0 room, get_or-set_same table v own [] long)
        (here codes before changed right (rw e at unplaced)))
        (λ ne. rw (get_or-set_other all v u key 0 ne, get_or-set_other table v u own [] ne)
        (up_to.each codes before changed right u unplaced (omega arith)));
  }
    where
      key : ℕ
      key = unwrap_or r (get_or all v 0)

      here : (codes : List ℤ) (before : List ℕ) → AllChanged (with_codes lists codes) lists.codes n m before new done
          → Table Closest (with_codes lists codes) n m before old
          → Unplaced n new v → (key ≡ key_by Closest lists n m new v) × RowRight lists n m new v own
      here codes before changed right unplaced =
          let change = changed v unplaced in
          let same : kept_of table v ≡ kept_of old v = up_to.rest v (omega arith) in
          let known : RowRight (with_codes lists codes) n m before v (kept_of table v) = rw same (right refl v change.before) in
          (ap (λ (r : Option ℕ). unwrap_or r (get_or all v 0)) (row.key codes before change known), row.again codes before change known)

  -- all taxa
  pub renewed_all : (keys : List ℕ) (v : ℕ) (table : List (List ℕ)) (all : List ℕ) → v ≡ n + 1 → RenewedUpTo v table all
      → KeysNext Closest lists n m new done keys old all table
  renewed_all keys v table all end up_to = record {
    each = λ codes before changed known right. (
      record { each = λ u unplaced. (up_to.each codes before changed right u unplaced (omega (arith, unplaced.taxon))).0 },
      λ _ u unplaced. (up_to.each codes before changed right u unplaced (omega (arith, unplaced.taxon))).1,
    );
  }

-- by advancement the keys stay
pub advance_stays : (lists : MatrixLists) (n m : ℕ) (new : List ℕ) (done : Placement) (keys : List ℕ)
    (table : List (List ℕ)) → KeysNext Advance lists n m new done keys table keys table
unfolding key_by
advance_stays lists n m new done keys table = record {
  each = λ codes before changed known right. (
    record { each = λ v unplaced. let change = changed v unplaced in known.each v change.before ∙ sym change.advancement },
    λ other. let never : ◌≡◌ {A = ℕ} 0 1 = cc in absurd (omega arith),
  );
}
