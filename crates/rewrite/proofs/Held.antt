-- The changes of a pattern with a factor at its output.
use Rattle.std.proofs.Common.{◌≡◌, ℕ, suc, ◌<◌, ◌≤◌, true, false, ◌≢◌, List, map, length, sym, refl, ap, ◌∙◌, inl, inr, arith}
use Rattle.record.specs.Moves.{table}
use Rattle.record.specs.declared.axis.Step.{Step}
use Rattle.record.specs.declared.axis.Step.TheVariants.{Descendant, FollowingSibling}
use Rattle.record.specs.declared.axis.Reach.TheVariants.{DescendantOrSelf, AncestorOrSelf, Following, Preceding}
use Rattle.record.specs.declared.axis.Axis.{Axis}
use Rattle.record.specs.declared.axis.Axis.TheVariants.{Along, Against, Wide}
use Rattle.record.specs.declared.rules.Move.{Move}
use Rattle.record.specs.declared.rules.Move.TheVariants.{Up, Join, Between}
use Rattle.tally.specs.Semirings.{Semiring, total}
use Rattle.ways.specs.Expanding.{Grown, star, opened}
use Rattle.ways.specs.Merging.{Under, axed, merged}
use Rattle.ways.specs.Rewriting.{Spot, moved}
use Rattle.ways.specs.Ways.{In, Weighted, value, weighted, Tree}
use Rattle.ways.proofs.Alike.{value_alike, weighted_alike}
use Rattle.ways.proofs.Merges.{Beside, weighted_merged, merged_nought}
use Rattle.ways.proofs.Steps.{step}
use Rattle.ways.proofs.Openings.{below_kept, above_kept, following_kept, preceding_kept, weighted_opened}
use Rattle.pattern.specs.Questions.{pattern_of, test_gain}
use Rattle.pattern.specs.Rows.{Seat, row, rooted, second, rehung, spread, MovedTo, moved_output, DroppedBy}
use Rattle.pattern.specs.declared.row.Test.TheVariants.{Star}
use Rattle.pattern.proofs.Kept.{weighted_apart, under_weighted}
use Rattle.pattern.proofs.MergedRows.{up_apart, tests_join, tests_apart}
use Rattle.pattern.proofs.Moved.{moved_alike, axed_array, w_z}
use Rattle.pattern.proofs.Spreads.{spread_array, spread_grown}
use Rattle.pattern.proofs.Trees.{in_rows, height, tree_of}

module _ {T : Type 0} (S : Semiring T) (D : ℕ → ℕ) (root : D 0 ≡ 0) (steps : (i : ℕ) → D (suc i) ≤ suc (D i)) (n : ℕ) (some_place : 0 < n) (lab : ℕ → ℕ)
    (rs : List Seat) (len : length rs ≡ 16) (ok : rooted rs ≡ true) (z : ℕ) (low : 1 ≤ z) (high : z < 16) (used : (row rs z).used ≡ true) (below : 1 ≤ (row rs z).up)
    (o : ℕ) (v : ℕ → T) where
  abbrev P : Weighted T
  P = pattern_of (test_gain S lab) rs

  abbrev y : ℕ
  y = (row rs z).up

  abbrev w : ℕ
  w = second rs z

  tree : Tree P (height (λ i. (row rs i).up) 16)
  tree = tree_of (test_gain S lab) rs (omega arith) ok

  in_z : In z P.rows
  in_z = in_rows (test_gain S lab) rs z low high used

  in_y : In y P.rows
  unfolding pattern_of
  in_y = elim (tree.ups z in_z) [ inl e ↦ absurd (omega arith) | inr i ↦ i ]

  pub beside_axed : (a : Step) → Beside (axed P y (Along a)) w z
  unfolding axed pattern_of
  beside_axed a = record { apart = tree.apart; no_top = tree.no_root; within = in_z; within_W = tree.ups y in_y; W_Z = w_z rs len ok z low high used below }

  -- a factor at a row of the array is one at the row of the pattern
  alike : (m : Move) (rs' : List Seat) → MovedTo rs z m rs' → (k : ℕ) → value S D n (weighted S (pattern_of (test_gain S lab) rs') k v) ≡ value S D n (weighted S (moved S P w y z m) k v)
  unfolding test_gain
  alike m rs' h k =
      value_alike S D n some_place _ _
      (weighted_alike S (pattern_of (test_gain S lab) rs') (moved S P w y z m) k v (moved_alike rs len ok z low high used below S (test_gain S lab) (tests_join S lab) m rs' h))

  -- the factor is at the row where the output goes
  pub moved_kept : (m : Move) (rs' : List Seat) → MovedTo rs z m rs' →
      value S D n (moved S (weighted S P o v) w y z m) ≡ value S D n (weighted S (pattern_of (test_gain S lab) rs') (moved_output rs z m o) v)
  unfolding moved weighted axed test_gain
  moved_kept Up rs' h = sym (alike Up rs' h o)
  moved_kept (Between a b) rs' h = sym (alike (Between a b) rs' h o)
  moved_kept (Join a) rs' h = weighted_merged S D n some_place (axed P y (Along a)) w z (beside_axed a) o v ∙ sym (alike (Join a) rs' h (moved_output rs z (Join a) o))

  beside_weighted : (a : Step) → Beside (axed (weighted S P o v) y (Along a)) w z
  unfolding axed weighted pattern_of
  beside_weighted a = record { apart = tree.apart; no_top = tree.no_root; within = in_z; within_W = tree.ups y in_y; W_Z = w_z rs len ok z low high used below }

  -- a dropped join is worth nothing
  pub moved_dropped : (m : Move) → DroppedBy rs z m → value S D n (moved S (weighted S P o v) w y z m) ≡ S.nought
  unfolding moved
  moved_dropped Up d = absurd d
  moved_dropped (Between a b) d = absurd d
  moved_dropped (Join a) d =
      merged_nought S D n some_place (axed (weighted S P o v) y (Along a)) w z (beside_weighted a)
      (unfold axed weighted pattern_of test_gain in λ p. weighted_apart S (λ r. test_gain S lab (row rs r).test) o v w z (w_z rs len ok z low high used below) p (tests_apart S lab _ _ d p))

  pub moves_kept : (sY sZ : Step) → (row rs y).axis ≡ Along sY → (row rs z).axis ≡ Against sZ →
      value S D n (weighted S P o v) ≡ total S (map (λ m. value S D n (moved S (weighted S P o v) w y z m)) (table sY sZ))
  moves_kept sY sZ aY aZ = step S D root steps n some_place (weighted S P o v) w y z sY sZ at
    where
      at : Spot (weighted S P o v) w y z sY sZ
      at = unfold weighted pattern_of in record {
        hung = record { apart = tree.apart; no_top = tree.no_root; ups = tree.ups };
        in_Y = in_y;
        in_Z = in_z;
        up_Y = refl;
        up_Z = refl;
        axis_Y = aY;
        axis_Z = aZ;
        W_Z = w_z rs len ok z low high used below;
        Y_Z = up_apart rs (omega arith) ok z low high used;
      }

-- a row in use, whatever its up-row
module _ {T : Type 0} (S : Semiring T) (D : ℕ → ℕ) (root : D 0 ≡ 0) (steps : (i : ℕ) → D (suc i) ≤ suc (D i)) (n : ℕ) (some_place : 0 < n) (others : (i : ℕ) → 0 < i → i < n → 1 ≤ D i) (lab : ℕ → ℕ)
    (rs : List Seat) (len : length rs ≡ 16) (ok : rooted rs ≡ true) (z : ℕ) (low : 1 ≤ z) (high : z < 16) (used : (row rs z).used ≡ true)
    (o : ℕ) (v : ℕ → T) where
  abbrev R : Weighted T
  R = pattern_of (test_gain S lab) rs

  abbrev u : ℕ
  u = (row rs z).up

  abbrev weighed : Under (weighted S R o v) u z
  weighed = under_weighted S D n some_place lab rs len ok z low high used o v

  axed_kept : (x : Axis) → value S D n (axed (weighted S R o v) z x) ≡ value S D n (weighted S (pattern_of (test_gain S lab) (rehung rs z u x)) o v)
  unfolding axed weighted
  axed_kept x = ap (λ Q. value S D n (weighted S Q o v)) (sym (axed_array (test_gain S lab) rs z x (omega arith)))

  pub below_split : (row rs z).axis ≡ Wide DescendantOrSelf →
      value S D n (weighted S R o v) ≡ S.plus (value S D n (weighted S (pattern_of (test_gain S lab) (rehung rs z u (Along Descendant))) o v)) (value S D n (merged S (weighted S R o v) u z))
  below_split e =
      below_kept S D root steps n some_place others (weighted S R o v) u z weighed (unfold weighted pattern_of in e)
      ∙ ap (λ x. S.plus x (value S D n (merged S (weighted S R o v) u z))) (axed_kept (Along Descendant))

  pub above_split : (row rs z).axis ≡ Wide AncestorOrSelf →
      value S D n (weighted S R o v) ≡ S.plus (value S D n (weighted S (pattern_of (test_gain S lab) (rehung rs z u (Against Descendant))) o v)) (value S D n (merged S (weighted S R o v) u z))
  above_split e =
      above_kept S D root steps n some_place others (weighted S R o v) u z weighed (unfold weighted pattern_of in e)
      ∙ ap (λ x. S.plus x (value S D n (merged S (weighted S R o v) u z))) (axed_kept (Against Descendant))

  -- two new rows, N and M
  module _ (N M : ℕ) (n_low : 1 ≤ N) (n_high : N < 16) (m_low : 1 ≤ M) (m_high : M < 16) (m_n : M ≢ N) (free : (row rs N).used ≡ false) (spare : (row rs M).used ≡ false) (o_N : o ≢ N) (o_M : o ≢ M) where
    stars : test_gain S lab Star ≡ star S
    unfolding test_gain star
    stars = refl

    abbrev L : Axis → List ℕ
    L x = (pattern_of (test_gain S lab) (spread rs z N M x)).rows

    grown : (x : Axis) → Grown R.rows (L x) N M
    grown x = spread_grown rs len z N M x high n_low n_high m_low m_high m_n used free spare S (test_gain S lab) stars

    opened_kept : (x : Axis) → value S D n (opened S (weighted S R o v) u z N M x (L x)) ≡ value S D n (weighted S (pattern_of (test_gain S lab) (spread rs z N M x)) o v)
    opened_kept x =
        ap (value S D n) (weighted_opened S R u z N M x (L x) o v o_N o_M)
        ∙ ap (λ Q. value S D n (weighted S Q o v)) (sym (spread_array rs len z N M x high n_low n_high m_low m_high m_n used free spare S (test_gain S lab) stars))

    pub following_opened : (row rs z).axis ≡ Wide Following → value S D n (weighted S R o v) ≡ value S D n (weighted S (pattern_of (test_gain S lab) (spread rs z N M (Along FollowingSibling))) o v)
    following_opened e =
        following_kept S D root steps n some_place others (weighted S R o v) u z N M (L (Along FollowingSibling)) weighed (unfold weighted in grown (Along FollowingSibling)) (unfold weighted pattern_of in e)
        ∙ opened_kept (Along FollowingSibling)

    pub preceding_opened : (row rs z).axis ≡ Wide Preceding → value S D n (weighted S R o v) ≡ value S D n (weighted S (pattern_of (test_gain S lab) (spread rs z N M (Against FollowingSibling))) o v)
    preceding_opened e =
        preceding_kept S D root steps n some_place others (weighted S R o v) u z N M (L (Against FollowingSibling)) weighed (unfold weighted in grown (Against FollowingSibling)) (unfold weighted pattern_of in e)
        ∙ opened_kept (Against FollowingSibling)
