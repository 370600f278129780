-- What the changes of a pattern answer, as the definitions of the ends have it.
use Rattle.std.proofs.Common.{◌≡◌, ℕ, ◌+◌, ◌<◌, ◌≤◌, Bool, true, false, cond, eqb, ◌≢◌, List, map, length, Some, None, Option, Ok, Err, Result, sym, refl, ap, ◌∙◌, subst, ap₂, inl, inr, arith, MatchOption, MatchResult, IfSome}
use Rattle.std.specs.List.{range_with_len as counting}
use Rattle.std.specs.Option.{option_map, option_flatten}
use Rattle.std.specs.Result.{result_ok}
use Rattle.std.proofs.lemmas.List.FromFn.{fill_by_all, get_or-map-range_with_len, length-map-range_with_len}
use Rattle.std.proofs.lemmas.List.{get_or_past}
use Rattle.std.proofs.lemmas.Bool.{cases_lt, ne_eqb}
use Rattle.record.specs.declared.axis.Axis.{Axis}
use Rattle.record.specs.declared.axis.Axis.TheVariants.{Along}
use Rattle.record.specs.declared.axis.Step.TheVariants.{Child}
use Rattle.record.specs.declared.rules.Move.{Move}
use Rattle.record.specs.declared.rules.Move.TheVariants.{Up, Join, Between}
use Rattle.pattern.specs.Rows.{Seat, seats, top, row, inner, deep, room, second, rehung, spread, merged_row, MergedInto, Merged, MovedTo, moved_output, DroppedBy}
use Rattle.pattern.specs.Tests.{joined}
use Rattle.pattern.specs.declared.base.Pattern.{Pattern}
use Rattle.pattern.specs.declared.row.Test.{Test}
use Rattle.pattern.specs.declared.row.Test.TheVariants.{Any}
use Rattle.pattern.proofs.SeatLists.{seats_long}
use Rattle.pattern.proofs.Moved.{hung_test, y_high, deep_parts}
use Rattle.all_ends.specs.Ends.{Shape, shape_of, shaped, merged_shape, merge_into, merge_at, axis_at, next_number, open_at, by_move, move_at}

-- the rows after a merge, one by one and as a list
pub merged_list : (rs rs' : List Seat) (z w : ℕ) (t : Test) → length rs' ≡ 16 → ((i : ℕ) → row rs' i ≡ merged_row rs z w t i) → rs' ≡ map (merged_row rs z w t) (counting 0 16)
merged_list rs rs' z w t len h = fill_by_all (merged_row rs z w t) rs' 16 top len (λ k _. h k)

past_merged : (z w i : ℕ) (t : Test) (r : Seat) → r ≡ top → 1 ≤ z → i ≢ w →
    ◌≡◌ {A = Seat} top (record { used = cond (eqb i z) false r.used; up = cond (eqb i z) 0 (cond (eqb r.up z) w r.up); axis = cond (eqb i z) (Along Child) r.axis; test = cond (eqb i z) Any (cond (eqb i w) t r.test) })
past_merged z w i t r e low k =
    rw e (let u : eqb 0 z ≡ false = ne_eqb 0 z (omega arith) in let v : eqb i w ≡ false = ne_eqb i w k in rw (u, v) (same (eqb i z)))
  where
    same : (b : Bool) → ◌≡◌ {A = Seat} top (record { used = cond b false false; up = cond b 0 0; axis = cond b (Along Child) (Along Child); test = cond b Any Any })
    same true = refl
    same false = refl

pub list_merged : (rs : List Seat) (z w : ℕ) (t : Test) → length rs ≡ 16 → 1 ≤ z → w < 16 → (i : ℕ) → row (map (merged_row rs z w t) (counting 0 16)) i ≡ merged_row rs z w t i
list_merged rs z w t len low high i = elim (cases_lt i 16) [
  | inl l ↦ get_or-map-range_with_len (merged_row rs z w t) 0 16 i i top l (omega arith)
  | inr l ↦ get_or_past (map (merged_row rs z w t) (counting 0 16)) i top (let k = length-map-range_with_len (merged_row rs z w t) 0 16 in omega arith)
      ∙ past_merged z w i t (row rs i) (get_or_past rs i top (omega arith)) low (omega arith)
]

-- the answer of a merge, where the tests and the row are known
pub merge_said : (s : Shape) (z w : ℕ) (o : Option Pattern) → IfSome o (λ Q. length Q.rows ≡ 16) → MatchOption o (joined (row s.rows w).test (row s.rows z).test ≡ None) (λ Q. MergedInto s.rows z w (seats Q.rows) × (Q.output ≡ cond (eqb s.output z) w s.output)) →
    option_map shape_of o ≡ merge_into s z w
unfolding merge_into merged_shape
merge_said s z w None l e = ap (option_map (merged_shape s z w)) (sym e)
merge_said s z w (Some Q) l ((t, e, h), k) =
    ap {B = Option Shape} Some (ap₂ {C = Shape} shaped (merged_list s.rows (seats Q.rows) z w t (seats_long Q.rows ∙ l) h) k) ∙ ap (option_map (merged_shape s z w)) (sym e)

pub when_true : {A : Type 0} (b : Bool) (x y z : A) → b ≡ true → z ≡ x → z ≡ cond b x y
when_true b x y z e h = rw e h

pub when_false : {A : Type 0} (b : Bool) (x y z : A) → b ≡ false → z ≡ y → z ≡ cond b x y
when_false b x y z e h = rw e h

module _ (P : Pattern) (len : length P.rows ≡ 16) (z : ℕ) where
  abbrev rs : List Seat
  rs = seats P.rows

  whole : length rs ≡ 16
  whole = seats_long P.rows ∙ len

  -- what a merge answers
  abbrev MergeOf : Option Pattern → Type 0
  MergeOf o = MatchOption o (joined (row rs (row rs z).up).test (row rs z).test ≡ None) (λ Q. Merged rs z (seats Q.rows) × (Q.output ≡ cond (eqb P.output z) (row rs z).up P.output))

  pub merge_told : {E : Type 0} (r : Result (Option Pattern) E) (o : Option Pattern) → o ≡ option_flatten (result_ok r) → IfSome o (λ Q. length Q.rows ≡ 16) →
      MatchResult r (λ x. (inner rs z ≡ true) × MergeOf x) (λ _. inner rs z ≡ false) → option_map shape_of o ≡ merge_at (shape_of P) z
  unfolding merge_at
  merge_told (Ok x) o e l (i, h) = when_true (inner rs z) _ _ _ i (merge_said (shape_of P) z (row rs z).up o l (subst MergeOf (sym e) h))
  merge_told (Err x) o e l i = ap (option_map shape_of) e ∙ when_false (inner rs z) _ _ _ i refl

  pub axis_told : {E : Type 0} (x : Axis) (r : Result Pattern E) (o : Option Pattern) → o ≡ result_ok r →
      MatchResult r (λ Q. (inner rs z ≡ true) × ((seats Q.rows) ≡ rehung rs z (row rs z).up x) × (Q.output ≡ P.output)) (λ _. inner rs z ≡ false) → option_map shape_of o ≡ axis_at (shape_of P) z x
  unfolding axis_at
  axis_told x (Ok Q) o e (i, a, b) = ap (option_map shape_of) e ∙ when_true (inner rs z) _ _ _ i (ap {B = Option Shape} Some (ap₂ {C = Shape} shaped a b))
  axis_told x (Err n) o e i = ap (option_map shape_of) e ∙ when_false (inner rs z) _ _ _ i refl

  -- over two new rows from n on
  abbrev opened_at : ℕ → Axis → Option Shape
  opened_at n x = cond (room rs z n) (Some (shaped (spread rs z n (n + 1) x) P.output)) None

  pub open_told : {E : Type 0} (n : ℕ) (x : Axis) (r : Result Pattern E) (o : Option Pattern) → n ≡ next_number rs → o ≡ result_ok r →
      MatchResult r (λ Q. (room rs z n ≡ true) × ((seats Q.rows) ≡ spread rs z n (n + 1) x) × (Q.output ≡ P.output)) (λ _. room rs z n ≡ false) → option_map shape_of o ≡ open_at (shape_of P) z x
  unfolding open_at
  open_told n x (Ok Q) o d e (i, a, b) =
      ap (option_map shape_of) e ∙ when_true (room rs z n) _ _ _ i (ap {B = Option Shape} Some (ap₂ {C = Shape} shaped a b)) ∙ ap (λ m. opened_at m x) d
  open_told n x (Err k) o d e i = ap (option_map shape_of) e ∙ when_false (room rs z n) _ _ _ i refl ∙ ap (λ m. opened_at m x) d

  -- what a move answers
  abbrev MoveOf : Move → Option Pattern → Type 0
  MoveOf m o = MatchOption o (DroppedBy rs z m) (λ Q. MovedTo rs z m (seats Q.rows) × (Q.output ≡ moved_output rs z m P.output))

  moves_said : (m : Move) (o : Option Pattern) → IfSome o (λ Q. length Q.rows ≡ 16) → deep rs z ≡ true → MoveOf m o → option_map shape_of o ≡ by_move (shape_of P) z m
  unfolding by_move
  moves_said Up None l d h = absurd h
  moves_said Up (Some Q) l d (a, b) = ap {B = Option Shape} Some (ap₂ {C = Shape} shaped a b)
  moves_said (Between x y) None l d h = absurd h
  moves_said (Between x y) (Some Q) l d (a, b) = ap {B = Option Shape} Some (ap₂ {C = Shape} shaped a b)
  moves_said (Join a) None l d h =
      let (low, high, used, below) = deep_parts rs z whole d in
      let k = y_high rs whole P.ok z low high used below in
      let v : length rs ≡ 16 = whole in
      let one : Shape = shaped (rehung rs (row rs z).up (second rs z) (Along a)) P.output in
      let same : (i : ℕ) → (row one.rows i).test ≡ (row rs i).test = λ i. hung_test rs (row rs z).up (second rs z) (Along a) (omega arith) i in
      merge_said one z (second rs z) None l (ap₂ joined (same (second rs z)) (same z) ∙ h)
  moves_said (Join a) (Some Q) l d h = merge_said (shaped (rehung rs (row rs z).up (second rs z) (Along a)) P.output) z (second rs z) (Some Q) l h

  pub move_told : {E : Type 0} (m : Move) (r : Result (Option Pattern) E) (o : Option Pattern) → o ≡ option_flatten (result_ok r) → IfSome o (λ Q. length Q.rows ≡ 16) →
      MatchResult r (λ x. (deep rs z ≡ true) × MoveOf m x) (λ _. deep rs z ≡ false) → option_map shape_of o ≡ move_at (shape_of P) z m
  unfolding move_at
  move_told m (Ok x) o e l (d, h) = when_true (deep rs z) _ _ _ d (moves_said m o l d (subst (MoveOf m) (sym e) h))
  move_told m (Err x) o e l d = ap (option_map shape_of) e ∙ when_false (deep rs z) _ _ _ d refl
