-- What the alternatives of a turn are: patterns again, made as the changes of a pattern promise.
use Rattle.std.proofs.Common.{◌≡◌, ℕ, ◌+◌, ◌<◌, ◌≤◌, true, cond, eqb, List, length, Some, None, Option, sym, refl, ◌∙◌, subst, ap₂, arith, MatchOption}
use Rattle.std.specs.Option.{option_map}
use Rattle.std.proofs.lemmas.List.FromFn.{length-map-range_with_len}
use Rattle.std.proofs.lemmas.List.{length-set}
use Rattle.record.specs.declared.axis.Axis.{Axis}
use Rattle.record.specs.declared.axis.Axis.TheVariants.{Along}
use Rattle.record.specs.declared.rules.Move.{Move}
use Rattle.record.specs.declared.rules.Move.TheVariants.{Up, Join, Between}
use Rattle.pattern.specs.Roots.{root_alone}
use Rattle.pattern.specs.Rows.{Seat, row, inner, deep, room, live, rooted, hung, second, rehung, spread, merged_row, MergedInto, MovedTo, moved_output, DroppedBy}
use Rattle.pattern.specs.Tests.{joined}
use Rattle.pattern.specs.declared.base.Pattern.{Pattern}
use Rattle.pattern.specs.declared.row.Test.{Test}
use Rattle.pattern.proofs.MergedRows.{up_apart, up_live, merged_rooted, into_live}
use Rattle.pattern.proofs.Moved.{hung_test, hung_live, y_high, w_high, inner_parts, deep_parts, room_parts, moved_rooted, moved_live, axed_rooted}
use Rattle.pattern.proofs.KeptRoots.{rehung_root, merged_up_root, moved_root, spread_root}
use Rattle.pattern.proofs.SeatLists.{seats_long}
use Rattle.pattern.proofs.Spreads.{spread_rooted, spread_live}
use Rattle.all_ends.specs.Ends.{Shape, shape_of, shaped, merged_shape, merge_into, by_move}
use Rattle.all_ends.proofs.Shapes.{list_merged}

-- a shape that is a pattern's
pub record Good (s : Shape) : Type 0 where
  pub whole : length s.rows ≡ 16
  pub ok : rooted s.rows ≡ true
  pub shown : live s.rows s.output ≡ true

pub good_pattern : (P : Pattern) → length P.rows ≡ 16 → Good (shape_of P)
good_pattern P len = record { whole = seats_long P.rows ∙ len; ok = P.ok; shown = P.shown }

-- what a merge gives
abbrev pub MergeKnown : Shape → ℕ → ℕ → Option Shape → Type 0
MergeKnown s z w o =
    MatchOption o (joined (row s.rows w).test (row s.rows z).test ≡ None) (λ q. MergedInto s.rows z w q.rows × (q.output ≡ cond (eqb s.output z) w s.output) × (length q.rows ≡ 16))

pub merge_known : (s : Shape) (z w : ℕ) → length s.rows ≡ 16 → 1 ≤ z → w < 16 → MergeKnown s z w (merge_into s z w)
unfolding merge_into
merge_known s z w len low high = go (joined (row s.rows w).test (row s.rows z).test) refl
  where
    go : (o : Option Test) → joined (row s.rows w).test (row s.rows z).test ≡ o → MergeKnown s z w (option_map (merged_shape s z w) o)
    go None e = e
    go (Some t) e = unfold merged_shape in ((t, e, list_merged s.rows z w t len low high), refl, length-map-range_with_len (merged_row s.rows z w t) 0 16)

-- what a move gives
abbrev pub MoveKnown : Shape → ℕ → Move → Option Shape → Type 0
MoveKnown s z m o = MatchOption o (DroppedBy s.rows z m) (λ q. MovedTo s.rows z m q.rows × (q.output ≡ moved_output s.rows z m s.output) × (length q.rows ≡ 16))

module _ (s : Shape) (g : Good s) (z : ℕ) where
  abbrev rs : List Seat
  rs = s.rows

  rehung_length : (z w : ℕ) (x : Axis) → length (rehung rs z w x) ≡ 16
  rehung_length z w x = length-set rs z (hung (row rs z) w x) ∙ g.whole

  pub move_known : deep rs z ≡ true → (m : Move) → MoveKnown s z m (by_move s z m)
  unfolding by_move
  move_known d Up = (refl, refl, rehung_length z (second rs z) (row rs z).axis)
  move_known d (Between a b) =
      (refl, refl, length-set (rehung rs z (second rs z) (Along a)) (row rs z).up (hung (row (rehung rs z (second rs z) (Along a)) (row rs z).up) z (Along b)) ∙ rehung_length z (second rs z) (Along a))
  move_known d (Join a) =
      let (low, high, used, below) = deep_parts rs z g.whole d in
      let k = y_high rs g.whole g.ok z low high used below in
      let one : Shape = shaped (rehung rs (row rs z).up (second rs z) (Along a)) s.output in
      let same : (i : ℕ) → (row one.rows i).test ≡ (row rs i).test = λ i. hung_test rs (row rs z).up (second rs z) (Along a) (let w = g.whole in omega arith) i in
      go (merge_into one z (second rs z)) same (merge_known one z (second rs z) (rehung_length (row rs z).up (second rs z) (Along a)) low (w_high rs g.whole g.ok z low high used below))
    where
      go : (o : Option Shape) → ((i : ℕ) → (row (rehung rs (row rs z).up (second rs z) (Along a)) i).test ≡ (row rs i).test) →
          MergeKnown (shaped (rehung rs (row rs z).up (second rs z) (Along a)) s.output) z (second rs z) o → MoveKnown s z (Join a) o
      go None same h = sym (ap₂ joined (same (second rs z)) (same z)) ∙ h
      go (Some q) same h = h

  -- and they are patterns again
  pub merged_good : inner rs z ≡ true → (q : Shape) → MergedInto rs z (row rs z).up q.rows × (q.output ≡ cond (eqb s.output z) (row rs z).up s.output) × (length q.rows ≡ 16) → Good q
  merged_good i q (m, o, l) =
      let (low, high, used) = inner_parts rs z g.whole i in
      let le : length rs ≤ 16 = let w = g.whole in omega arith in
      record {
        whole = l;
        ok = merged_rooted rs le g.ok z low high used q.rows m;
        shown = subst (λ x. live q.rows x ≡ true) (sym o) (into_live rs q.rows z (row rs z).up m (up_apart rs le g.ok z low high used) (up_live rs le g.ok z low high used) s.output g.shown);
      }

  pub moved_good : deep rs z ≡ true → (m : Move) (q : Shape) → MovedTo rs z m q.rows × (q.output ≡ moved_output rs z m s.output) × (length q.rows ≡ 16) → Good q
  moved_good d m q (h, o, l) =
      let (low, high, used, below) = deep_parts rs z g.whole d in
      record {
        whole = l;
        ok = moved_rooted rs g.whole g.ok z low high used below m q.rows h;
        shown = subst (λ x. live q.rows x ≡ true) (sym o) (moved_live rs g.whole g.ok z low high used below m q.rows h s.output g.shown);
      }

  pub axed_good : inner rs z ≡ true → (x : Axis) → Good (shaped (rehung rs z (row rs z).up x) s.output)
  axed_good i x =
      let (low, high, used) = inner_parts rs z g.whole i in
      record {
        whole = rehung_length z (row rs z).up x;
        ok = axed_rooted rs z x g.whole high g.ok;
        shown = hung_live rs z (row rs z).up x (let w = g.whole in omega arith) s.output ∙ g.shown;
      }

  pub opened_good : (n : ℕ) → room rs z n ≡ true → (x : Axis) → Good (shaped (spread rs z n (n + 1) x) s.output)
  opened_good n r x =
      let (i, first, last, free, spare) = room_parts rs z n g.whole r in
      let (low, high, used) = inner_parts rs z g.whole i in
      record {
        whole = simp length-set g.whole;
        ok = spread_rooted rs g.whole z n (n + 1) x high first (omega arith) (omega arith) (omega arith) (omega arith) used free spare g.ok low;
        shown = spread_live rs g.whole z n (n + 1) x high first (omega arith) (omega arith) (omega arith) (omega arith) used free spare s.output g.shown;
      }

  -- in which row 0 alone still asks for the root
  pub merged_alone : inner rs z ≡ true → (q : Shape) → MergedInto rs z (row rs z).up q.rows → root_alone rs ≡ true → root_alone q.rows ≡ true
  merged_alone i q m r = let (low, high, used) = inner_parts rs z g.whole i in merged_up_root rs g.whole g.ok z low high used r q.rows m

  pub moved_alone : deep rs z ≡ true → (m : Move) (q : Shape) → MovedTo rs z m q.rows → root_alone rs ≡ true → root_alone q.rows ≡ true
  moved_alone d m q h r = let (low, high, used, below) = deep_parts rs z g.whole d in moved_root rs g.whole g.ok z low high used r below m q.rows h

  pub axed_alone : inner rs z ≡ true → (x : Axis) → root_alone rs ≡ true → root_alone (rehung rs z (row rs z).up x) ≡ true
  axed_alone i x r = let (low, high, used) = inner_parts rs z g.whole i in rehung_root rs z (row rs z).up x (let w = g.whole in omega arith) r

  pub opened_alone : (n : ℕ) → room rs z n ≡ true → (x : Axis) → root_alone rs ≡ true → root_alone (spread rs z n (n + 1) x) ≡ true
  opened_alone n k x r =
      let (i, first, last, free, spare) = room_parts rs z n g.whole k in
      let (low, high, used) = inner_parts rs z g.whole i in
      spread_root rs g.whole g.ok z low high used r n (n + 1) x first (omega arith) (omega arith) (omega arith) (omega arith) free spare
