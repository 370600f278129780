-- What is known of a row that was looked up in a pattern, of its up-row, and of the up-row of that.
use Rattle.std.proofs.Common.{◌≡◌, ℕ, ◌<◌, ◌≤◌, true, eqb, ◌≢◌, List, length, set, slice_index_or, Some, None, Option, sym, ap, ◌∙◌, subst, ap₂, inl, inr, arith}
use Rattle.std.specs.Prelude.{is_some}
use Rattle.std.proofs.lemmas.List.{get_or_past, get_or-set_other}
use Rattle.std.proofs.lemmas.Bool.{cases_lt, both_ways, or_right}
use Rattle.record.specs.declared.axis.Step.{Step}
use Rattle.record.specs.declared.axis.Axis.{Axis}
use Rattle.record.specs.declared.axis.Axis.TheVariants.{Along}
use Rattle.record.specs.declared.rules.Move.{Move}
use Rattle.record.specs.declared.rules.Move.TheVariants.{Up, Join, Between}
use Rattle.pattern.specs.Rows.{Seat, seat, seats, row, has_root, hung, rehung, second, rooted, live, merged_row, MergedInto, Merged, MovedTo, moved_output, DroppedBy}
use Rattle.pattern.specs.Tests.{joined}
use Rattle.pattern.specs.declared.inner.Inner.{Inner}
use Rattle.pattern.specs.declared.inner.Deep.{Deep}
use Rattle.pattern.specs.declared.row.Row.{Row}
use Rattle.pattern.specs.declared.row.Test.{Test}
use Rattle.pattern.proofs.MergedRows.{up_apart}
use Rattle.pattern.proofs.Moved.{w_z, hung_used, hung_test, moved_top, moved_rooted, moved_live}
use Rattle.pattern.proofs.SeatLists.{row_where, seats_set, seats_long}

-- a row in an array that was found there
pub there : (xs : List (Option Row)) (k : ℕ) (r : Row) → slice_index_or xs k None ≡ Some r → row (seats xs) k ≡ seat (Some r)
there xs k r e = row_where xs k (Some r) e

pub there_high : (xs : List (Option Row)) (k : ℕ) (r : Row) → length xs ≡ 16 → slice_index_or xs k None ≡ Some r → k < 16
there_high xs k r len e = elim (cases_lt k 16) [
  | inl l ↦ l
  | inr l ↦ absurd (both_ways _ (ap is_some (get_or_past xs k None (omega arith))) (ap is_some e))
]

-- is hung elsewhere by one write
pub hang_row : (xs : List (Option Row)) (k : ℕ) (r : Row) (w : ℕ) (x : Axis) → slice_index_or xs k None ≡ Some r → seats (set xs k (Some (record { up = w; axis = x; test = r.test }))) ≡ rehung (seats xs) k w x
hang_row xs k r w x e =
    seats_set xs k (Some (record { up = w; axis = x; test = r.test })) ∙ ap (λ (s : Seat). set (seats xs) k (hung s w x)) (sym (there xs k r e))

module _ (i : Inner) (len : length i.pattern.rows ≡ 16) where
  abbrev rs : List Seat
  rs = seats i.pattern.rows

  pub whole : length rs ≡ 16
  whole = seats_long i.pattern.rows ∙ len

  pub at_z : row rs i.z ≡ seat (Some i.row)
  at_z = there i.pattern.rows i.z i.row i.here

  pub at_up : row rs i.row.up ≡ seat (Some i.upper)
  at_up = there i.pattern.rows i.row.up i.upper i.above

  pub used : (row rs i.z).used ≡ true
  used = ap (λ (s : Seat). s.used) at_z

  pub high : i.z < 16
  high = there_high i.pattern.rows i.z i.row len i.here

  pub ups : (row rs i.z).up ≡ i.row.up
  ups = ap (λ (s : Seat). s.up) at_z

  pub up_high : i.row.up < 16
  up_high = there_high i.pattern.rows i.row.up i.upper len i.above

  pub up_there : (row rs i.row.up).used ≡ true
  up_there = ap (λ (s : Seat). s.used) at_up

  pub up_lives : live rs i.row.up ≡ true
  unfolding live
  up_lives = or_right (eqb i.row.up 0) (row rs i.row.up).used up_there

  pub up_other : i.row.up ≢ i.z
  up_other e = let w = whole in up_apart rs (omega arith) i.pattern.ok i.z i.low high used (ups ∙ e)

  -- the two tests of a merge, and what it is
  pub tests : joined (row rs (row rs i.z).up).test (row rs i.z).test ≡ joined i.upper.test i.row.test
  tests = ap₂ joined (ap (λ u. (row rs u).test) ups ∙ ap (λ (s : Seat). s.test) at_up) (ap (λ (s : Seat). s.test) at_z)

  pub into_up : (t : Test) (rs' : List Seat) → joined i.upper.test i.row.test ≡ Some t → ((k : ℕ) → row rs' k ≡ merged_row rs i.z i.row.up t k) → MergedInto rs i.z i.row.up rs'
  into_up t rs' e m = (t, ap₂ joined (ap (λ (s : Seat). s.test) at_up) (ap (λ (s : Seat). s.test) at_z) ∙ e, m)

  pub gone_up : (rs' : List Seat) → MergedInto rs i.z i.row.up rs' → Merged rs i.z rs'
  gone_up rs' = subst (λ u. MergedInto rs i.z u rs') (sym ups)

module _ (d : Deep) (len : length d.inner.pattern.rows ≡ 16) where
  abbrev i : Inner
  i = d.inner

  abbrev xs : List (Option Row)
  xs = d.inner.pattern.rows

  abbrev rows : List Seat
  rows = seats d.inner.pattern.rows

  pub below_up : 1 ≤ (row rows i.z).up
  below_up = subst (λ u. 1 ≤ u) (sym (ups i len)) d.below

  pub second_is : second rows i.z ≡ i.upper.up
  second_is = ap (λ u. (row rows u).up) (ups i len) ∙ ap (λ (s : Seat). s.up) (at_up i len)

  pub over_there : (row rows i.upper.up).used ≡ true
  over_there = ap (λ (s : Seat). s.used) (there xs i.upper.up d.over d.top)

  pub over_high : i.upper.up < 16
  over_high = there_high xs i.upper.up d.over len d.top

  pub over_other : i.upper.up ≢ i.z
  over_other e = w_z rows (whole i len) i.pattern.ok i.z i.low (high i len) (used i len) below_up (second_is ∙ e)

  pub as_up : MovedTo rows i.z Up (seats (set xs i.z (Some (record { up = i.upper.up; axis = i.row.axis; test = i.row.test }))))
  as_up = hang_row xs i.z i.row i.upper.up i.row.axis i.here ∙ ap₂ (λ w x. rehung rows i.z w x) (sym second_is) (sym (ap (λ (s : Seat). s.axis) (at_z i len)))

  pub as_between : (a b : Step) →
      MovedTo rows i.z (Between a b)
      (seats (set (set xs i.z (Some (record { up = i.upper.up; axis = Along a; test = i.row.test }))) i.row.up (Some (record { up = i.z; axis = Along b; test = i.upper.test }))))
  as_between a b =
      let new : Option Row = Some (record { up = i.upper.up; axis = Along a; test = i.row.test }) in
      hang_row (set xs i.z new) i.row.up i.upper i.z (Along b) (get_or-set_other xs i.z i.row.up new None (up_other i len) ∙ i.above)
      ∙ ap₂ (λ o u. rehung o u i.z (Along b)) (hang_row xs i.z i.row i.upper.up (Along a) i.here ∙ ap (λ w. rehung rows i.z w (Along a)) (sym second_is)) (sym (ups i len))

  -- the up-row hung under the row over it by a step, and then z gone into that
  abbrev pub one_of : Step → List (Option Row)
  one_of a = set xs i.row.up (Some (record { up = i.upper.up; axis = Along a; test = i.upper.test }))

  one_is : (a : Step) → seats (one_of a) ≡ rehung rows (row rows i.z).up (second rows i.z) (Along a)
  one_is a = hang_row xs i.row.up i.upper i.upper.up (Along a) i.above ∙ ap₂ (λ u w. rehung rows u w (Along a)) (sym (ups i len)) (sym second_is)

  same_test : (a : Step) (k : ℕ) → (row (seats (one_of a)) k).test ≡ (row rows k).test
  same_test a k =
      let w = whole i len in
      let h = up_high i len in
      ap (λ o. (row o k).test) (hang_row xs i.row.up i.upper i.upper.up (Along a) i.above) ∙ hung_test rows i.row.up i.upper.up (Along a) (omega arith) k

  pub still_used : (a : Step) → (row (seats (one_of a)) i.upper.up).used ≡ true
  still_used a =
      let w = whole i len in
      let h = up_high i len in
      ap (λ o. (row o i.upper.up).used) (hang_row xs i.row.up i.upper i.upper.up (Along a) i.above) ∙ hung_used rows i.row.up i.upper.up (Along a) (omega arith) i.upper.up ∙ over_there

  pub as_join : (a : Step) (t : Test) (rs' : List Seat) → joined d.over.test i.row.test ≡ Some t → ((k : ℕ) → row rs' k ≡ merged_row (seats (one_of a)) i.z i.upper.up t k) → MovedTo rows i.z (Join a) rs'
  as_join a t rs' e m =
      subst (λ w. MergedInto (rehung rows (row rows i.z).up (second rows i.z) (Along a)) i.z w rs') (sym second_is)
      (subst (λ o. MergedInto o i.z i.upper.up rs') (one_is a)
      (t, ap₂ joined (same_test a i.upper.up ∙ ap (λ (s : Seat). s.test) (there xs i.upper.up d.over d.top)) (same_test a i.z ∙ ap (λ (s : Seat). s.test) (at_z i len)) ∙ e, m))

  pub no_join : (a : Step) → joined d.over.test i.row.test ≡ None → DroppedBy rows i.z (Join a)
  no_join a e = ap₂ joined (ap (λ w. (row rows w).test) second_is ∙ ap (λ (s : Seat). s.test) (there xs i.upper.up d.over d.top)) (ap (λ (s : Seat). s.test) (at_z i len)) ∙ e

  -- what is left is a pattern again
  pub left : (m : Move) (rs' : List Seat) → MovedTo rows i.z m rs' → (has_root rs' ≡ true) × ((rooted rs' ≡ true) × (live rs' (moved_output rows i.z m i.pattern.output) ≡ true))
  left m rs' to = (
    moved_top rows (whole i len) i.pattern.ok i.z i.low (high i len) (used i len) below_up m rs' to i.pattern.root,
    (
      moved_rooted rows (whole i len) i.pattern.ok i.z i.low (high i len) (used i len) below_up m rs' to,
      moved_live rows (whole i len) i.pattern.ok i.z i.low (high i len) (used i len) below_up m rs' to i.pattern.output i.pattern.shown,
    ),
  )
