-- A row that is moved in the array is moved in the pattern.
use Rattle.std.proofs.Common.{◌≡◌, ℕ, ◌+◌, ◌<◌, ◌≤◌, true, false, ◌≢◌, List, length, None, sym, refl, ap, ◌∙◌, subst, ap₂, inl, inr, arith}
use mathlib.Core.Path.{fun_ext}
use Rattle.std.proofs.lemmas.List.{get_or-set_same, get_or-set_other, get_or_past, length-set}
use Rattle.std.proofs.lemmas.Bool.{cases_eq, cases_lt, eqb-false, ltb-true, and_parts, not-true, both_ways}
use Rattle.record.specs.declared.axis.Step.{Step}
use Rattle.record.specs.declared.axis.Axis.{Axis}
use Rattle.record.specs.declared.axis.Axis.TheVariants.{Along}
use Rattle.record.specs.declared.rules.Move.{Move}
use Rattle.record.specs.declared.rules.Move.TheVariants.{Up, Join, Between}
use Rattle.tally.specs.Semirings.{Semiring}
use Rattle.ways.specs.Merging.{merged, axed}
use Rattle.ways.specs.Rewriting.{moved}
use Rattle.ways.specs.Ways.{upd, In, Weighted, Tree}
use Rattle.ways.proofs.Alike.{Alike, same_alike, tree_alike}
use Rattle.ways.proofs.Merges.{tree_axed}
use Rattle.ways.proofs.RowSums.{upd_same, upd_other}
use Rattle.ways.proofs.Whole.{ranked, tree_kept}
use Rattle.pattern.specs.Questions.{sift, pattern_of}
use Rattle.pattern.specs.Rows.{Seat, top, row, hung, rehung, has_root, second, inner, deep, free_two, room, live, fifteen, rooted, MovedTo, moved_output}
use Rattle.pattern.specs.Tests.{joined}
use Rattle.pattern.specs.declared.row.Test.{Test}
use Rattle.pattern.proofs.MergedRows.{Joins, pattern_cong, cleared, merged_array, merged_alike, merged_top, least, none, up_within, up_live, into_live}
use Rattle.pattern.proofs.Trees.{sift_cong, in_rows, rows_in, height, tree_of, rooted_from}

-- Z under W by the axis x
unfoldable pub hooked : {T : Type 0} → Weighted T → ℕ → ℕ → Axis → Weighted T
hooked P Z W x = record { rows = P.rows; up = upd P.up Z W; axis = upd P.axis Z x; gain = P.gain }

-- one row hung elsewhere
module _ (rs : List Seat) (z w : ℕ) (x : Axis) (l : z < length rs) where
  by_row : (Q : ℕ → Seat → Type 0) → Q z (hung (row rs z) w x) → ((i : ℕ) → i ≢ z → Q i (row rs i)) → (i : ℕ) → Q i (row (rehung rs z w x) i)
  by_row Q a b i = elim (cases_eq i z) [
    | inl e ↦ subst (λ j. Q j (row (rehung rs z w x) j)) (sym e) (subst (Q z) (sym (get_or-set_same rs z (hung (row rs z) w x) top l)) a)
    | inr k ↦ subst (Q i) (sym (get_or-set_other rs z i (hung (row rs z) w x) top k)) (b i k)
  ]

  pub hung_used : (i : ℕ) → (row (rehung rs z w x) i).used ≡ (row rs i).used
  hung_used i = by_row (λ i r. r.used ≡ (row rs i).used) refl (λ i k. refl) i

  pub hung_test : (i : ℕ) → (row (rehung rs z w x) i).test ≡ (row rs i).test
  hung_test i = by_row (λ i r. r.test ≡ (row rs i).test) refl (λ i k. refl) i

  pub hung_up : (i : ℕ) → (row (rehung rs z w x) i).up ≡ upd (λ j. (row rs j).up) z w i
  hung_up i = by_row (λ i r. r.up ≡ upd (λ j. (row rs j).up) z w i) (sym (upd_same (λ j. (row rs j).up) z w)) (λ i k. sym (upd_other (λ j. (row rs j).up) z w i k)) i

  pub hung_axis : (i : ℕ) → (row (rehung rs z w x) i).axis ≡ upd (λ j. (row rs j).axis) z x i
  hung_axis i = by_row (λ i r. r.axis ≡ upd (λ j. (row rs j).axis) z x i) (sym (upd_same (λ j. (row rs j).axis) z x)) (λ i k. sym (upd_other (λ j. (row rs j).axis) z x i k)) i

  pub hooked_array : {T : Type 0} (gain : Test → ℕ → T) → pattern_of gain (rehung rs z w x) ≡ hooked (pattern_of gain rs) z w x
  unfolding pattern_of hooked
  hooked_array gain =
      pattern_cong _ _ _ _ _ _ _ _
      (sift_cong fifteen _ _ (λ i _. hung_used i)) (fun_ext hung_up) (fun_ext hung_axis) (fun_ext (λ i. ap gain (hung_test i)))

  pub hung_live : (o : ℕ) → live (rehung rs z w x) o ≡ live rs o
  unfolding live
  hung_live o = rw (hung_used o) refl

pub upd_id : {A : Type 0} (f : ℕ → A) (z : ℕ) (v : A) → f z ≡ v → upd f z v ≡ f
upd_id f z v e =
    fun_ext (λ i. elim (cases_eq i z) [
      | inl k ↦ subst (λ j. upd f z v j ≡ f j) (sym k) (upd_same f z v ∙ sym e)
      | inr k ↦ upd_other f z v i k
    ])

-- after a join row z is not there
abbrev pub without : {T : Type 0} → (Test → ℕ → T) → ℕ → Move → Weighted T → Weighted T
without gain z Up P = P
without gain z (Between a b) P = P
without gain z (Join a) P = cleared gain P z

-- what a deep row is
pub inner_parts : (rs : List Seat) (z : ℕ) → length rs ≡ 16 → inner rs z ≡ true → (1 ≤ z) × (z < 16) × ((row rs z).used ≡ true)
unfolding inner
inner_parts rs z len e =
    let (a, b) = and_parts _ _ e in
    let n : z ≢ 0 = eqb-false _ _ (not-true _ a) in (
      omega arith,
      elim (cases_lt z 16) [
        | inl l ↦ l
        | inr l ↦ absurd (both_ways _ (ap (λ (r : Seat). r.used) (get_or_past rs z top (omega arith))) b)
      ],
      b,
    )

pub deep_parts : (rs : List Seat) (z : ℕ) → length rs ≡ 16 → deep rs z ≡ true → (1 ≤ z) × (z < 16) × ((row rs z).used ≡ true) × (1 ≤ (row rs z).up)
unfolding deep
deep_parts rs z len e =
    let (a, b) = and_parts _ _ e in
    let (p, q, r) = inner_parts rs z len a in
    let n : (row rs z).up ≢ 0 = eqb-false _ _ (not-true _ b) in
    (p, q, r, omega arith)

module _ (rs : List Seat) (len : length rs ≡ 16) (ok : rooted rs ≡ true) (z : ℕ) (low : 1 ≤ z) (high : z < 16) (used : (row rs z).used ≡ true) (below : 1 ≤ (row rs z).up) where
  abbrev y : ℕ
  y = (row rs z).up

  abbrev w : ℕ
  w = second rs z

  pub y_high : y < 16
  y_high = up_within rs (omega arith) ok z low high used

  in_z : In z (pattern_of none rs).rows
  in_z = in_rows none rs z low high used

  in_y : In y (pattern_of none rs).rows
  unfolding pattern_of
  in_y = elim ((tree_of none rs (omega arith) ok).ups z in_z) [ inl e ↦ absurd (omega arith) | inr i ↦ i ]

  pub y_used : (row rs y).used ≡ true
  y_used = (rows_in none rs y in_y).2

  pub w_high : w < 16
  w_high = up_within rs (omega arith) ok y below y_high y_used

  pub w_z : w ≢ z
  unfolding pattern_of
  w_z e =
      let tree = tree_of none rs (omega arith) ok in
      let a : height (λ i. (row rs i).up) 16 w < height (λ i. (row rs i).up) 16 y = tree.ranks y in_y in
      let b : height (λ i. (row rs i).up) 16 y < height (λ i. (row rs i).up) 16 z = tree.ranks z in_z in
      let c : height (λ i. (row rs i).up) 16 w ≡ height (λ i. (row rs i).up) 16 z = ap (height (λ i. (row rs i).up) 16) e in
      absurd (omega arith)

  first_hung : {T : Type 0} (S : Semiring T) (gain : Test → ℕ → T) (a : Step) → pattern_of gain (rehung rs y w (Along a)) ≡ axed (pattern_of gain rs) y (Along a)
  unfolding axed hooked pattern_of
  first_hung S gain a =
      let h = y_high in
      hooked_array rs y w (Along a) (omega arith) gain
      ∙ ap (λ u. record { rows = sift fifteen (λ r. (row rs r).used); up = u; axis = upd (λ r. (row rs r).axis) y (Along a); gain = λ r. gain (row rs r).test }) (upd_id (λ r. (row rs r).up) y w refl)

  pub moved_array : {T : Type 0} (S : Semiring T) (gain : Test → ℕ → T) → Joins S gain → (m : Move) (rs' : List Seat) → MovedTo rs z m rs' → pattern_of gain rs' ≡ without gain z m (moved S (pattern_of gain rs) w y z m)
  unfolding moved hooked pattern_of axed
  moved_array S gain joins Up rs' e =
      ap (pattern_of gain) e ∙ hooked_array rs z w (row rs z).axis (omega arith) gain
      ∙ ap (λ x. record { rows = sift fifteen (λ r. (row rs r).used); up = upd (λ r. (row rs r).up) z w; axis = x; gain = λ r. gain (row rs r).test }) (upd_id (λ r. (row rs r).axis) z _ refl)
  moved_array S gain joins (Between a b) rs' e =
      let one = rehung rs z w (Along a) in
      let l : length one ≡ length rs = length-set rs z (hung (row rs z) w (Along a)) in
      let h = y_high in
      ap (pattern_of gain) e ∙ hooked_array one y z (Along b) (omega arith) gain
      ∙ ap (λ P. hooked P y z (Along b)) (hooked_array rs z w (Along a) (omega arith) gain)
  moved_array S gain joins (Join a) rs' m = merged_array S gain joins (rehung rs y w (Along a)) rs' z w m ∙ ap (λ P. cleared gain (merged S P w z) z) (first_hung S gain a)

  -- so it is the moved pattern in the rows in use
  pub moved_alike : {T : Type 0} (S : Semiring T) (gain : Test → ℕ → T) → Joins S gain → (m : Move) (rs' : List Seat) → MovedTo rs z m rs' → Alike (pattern_of gain rs') (moved S (pattern_of gain rs) w y z m)
  moved_alike S gain joins Up rs' e = same_alike _ _ (moved_array S gain joins Up rs' e)
  moved_alike S gain joins (Between a b) rs' e = same_alike _ _ (moved_array S gain joins (Between a b) rs' e)
  moved_alike S gain joins (Join a) rs' m = unfold moved in subst (λ P. Alike (pattern_of gain rs') (merged S P w z)) (first_hung S gain a) (merged_alike S gain joins (rehung rs y w (Along a)) rs' z w low m)

  pub moved_rooted : (m : Move) (rs' : List Seat) → MovedTo rs z m rs' → rooted rs' ≡ true
  moved_rooted m rs' e =
      let up : ℕ → ℕ = λ i. (row rs i).up in
      rooted_from none rs' (ranked (height up 16) y z m)
      (tree_alike (pattern_of none rs') (moved least (pattern_of none rs) w y z m) (ranked (height up 16) y z m) (moved_alike least none (λ a b t e p. refl) m rs' e)
      (tree_kept least (pattern_of none rs) (height up 16) (tree_of none rs (omega arith) ok) w y z (unfold pattern_of in refl) (unfold pattern_of in refl) in_y in_z m))

  pub moved_top : (m : Move) (rs' : List Seat) → MovedTo rs z m rs' → has_root rs ≡ true → has_root rs' ≡ true
  moved_top Up rs' e u = subst (λ r. has_root r ≡ true) (sym e) (hung_used rs z w (row rs z).axis (omega arith) 0 ∙ u)
  moved_top (Between a b) rs' e u =
      let l : length (rehung rs z w (Along a)) ≡ length rs = length-set rs z (hung (row rs z) w (Along a)) in
      let k = y_high in
      subst (λ r. has_root r ≡ true) (sym e) (hung_used (rehung rs z w (Along a)) y z (Along b) (omega arith) 0 ∙ hung_used rs z w (Along a) (omega arith) 0 ∙ u)
  moved_top (Join a) rs' m u = let k = y_high in merged_top (rehung rs y w (Along a)) rs' z w m low (hung_used rs y w (Along a) (omega arith) 0 ∙ u)

  pub moved_live : (m : Move) (rs' : List Seat) → MovedTo rs z m rs' → (o : ℕ) → live rs o ≡ true → live rs' (moved_output rs z m o) ≡ true
  moved_live Up rs' e o h = subst (λ r. live r o ≡ true) (sym e) (hung_live rs z w (row rs z).axis (omega arith) o ∙ h)
  moved_live (Between a b) rs' e o h =
      let l : length (rehung rs z w (Along a)) ≡ length rs = length-set rs z (hung (row rs z) w (Along a)) in
      let k = y_high in
      subst (λ r. live r o ≡ true) (sym e) (hung_live (rehung rs z w (Along a)) y z (Along b) (omega arith) o ∙ hung_live rs z w (Along a) (omega arith) o ∙ h)
  moved_live (Join a) rs' m o h =
      let k = y_high in
      let same = hung_live rs y w (Along a) (omega arith) in
      into_live (rehung rs y w (Along a)) rs' z w m w_z (same w ∙ up_live rs (omega arith) ok y below y_high y_used) o (same o ∙ h)

  pub join_none : (one : List Seat) (x : Axis) → one ≡ rehung rs y w x → joined (row one w).test (row one z).test ≡ None → joined (row rs w).test (row rs z).test ≡ None
  join_none one x f e =
      let k = y_high in
      let same : (i : ℕ) → (row one i).test ≡ (row rs i).test = λ i. ap (λ o. (row o i).test) f ∙ hung_test rs y w x (omega arith) i in
      sym (ap₂ joined (same w) (same z)) ∙ e

-- another axis

pub axed_array : {T : Type 0} (gain : Test → ℕ → T) (rs : List Seat) (z : ℕ) (x : Axis) → z < length rs → pattern_of gain (rehung rs z (row rs z).up x) ≡ axed (pattern_of gain rs) z x
unfolding axed hooked pattern_of
axed_array gain rs z x l =
    hooked_array rs z (row rs z).up x l gain
    ∙ ap (λ u. record { rows = sift fifteen (λ r. (row rs r).used); up = u; axis = upd (λ r. (row rs r).axis) z x; gain = λ r. gain (row rs r).test }) (upd_id (λ r. (row rs r).up) z _ refl)

pub axed_rooted : (rs : List Seat) (z : ℕ) (x : Axis) → length rs ≡ 16 → z < 16 → rooted rs ≡ true → rooted (rehung rs z (row rs z).up x) ≡ true
axed_rooted rs z x len l ok =
    let up : ℕ → ℕ = λ i. (row rs i).up in
    rooted_from none _ (height up 16) (subst (λ P. Tree P (height up 16)) (sym (axed_array none rs z x (omega arith))) (tree_axed (pattern_of none rs) (height up 16) (tree_of none rs (omega arith) ok) z x))

-- what room for two rows is
pub free_parts : (rs : List Seat) (n : ℕ) → free_two rs n ≡ true → (1 ≤ n) × (n < 15) × ((row rs n).used ≡ false) × ((row rs (n + 1)).used ≡ false)
unfolding free_two
free_parts rs n b =
    let (p, q) = and_parts _ _ b in
    let (r, s) = and_parts _ _ q in
    let (t, u) = and_parts _ _ s in
    let k : n ≢ 0 = eqb-false _ _ (not-true _ p) in
    (omega arith, ltb-true n 15 r, not-true _ t, not-true _ u)

pub room_parts : (rs : List Seat) (z n : ℕ) → length rs ≡ 16 → room rs z n ≡ true → (inner rs z ≡ true) × (1 ≤ n) × (n < 15) × ((row rs n).used ≡ false) × ((row rs (n + 1)).used ≡ false)
unfolding room
room_parts rs z n len e = let (a, b) = and_parts _ _ e in let (p, q, r, s) = free_parts rs n b in (a, p, q, r, s)
