-- One move of the table keeps the value.
use Rattle.std.proofs.Common.{◌≡◌, ℕ, suc, ◌<◌, ◌≤◌, Bool, true, false, cond, ◌&&◌, ◌||◌, eqb, ◌≢◌, List, [], ◌∷◌, map, sym, refl, ap, ◌∙◌, subst, ap₂, inl, inr, arith}
use Rattle.record.specs.Axes.{leads, holds}
use Rattle.record.specs.Moves.{table, move_holds, bit, count}
use Rattle.record.specs.declared.axis.Step.{Step}
use Rattle.record.specs.declared.axis.Axis.{Axis}
use Rattle.record.specs.declared.axis.Axis.TheVariants.{Along, Itself}
use Rattle.record.specs.declared.rules.Move.{Move}
use Rattle.record.specs.declared.rules.Move.TheVariants.{Up, Join, Between}
use Rattle.tally.specs.Semirings.{Semiring, bracket, total}
use Rattle.ways.specs.Merging.{Under, axed, merged}
use Rattle.ways.specs.Ways.{upd, In, remove, Weighted, all_rows, link, is_way, gains, value}
use Rattle.std.proofs.lemmas.Bool.{cases_eq, eq-eqb, ne_eqb, eqb-true, and_parts, and_from, or_cases, or_right}
use Rattle.std.proofs.lemmas.Bool.Decides.{same_from_decides}
use Rattle.record.proofs.Pointwise.{pointwise}
use Rattle.tally.proofs.Sums.{nought_plus, nought_times}
use Rattle.ways.proofs.Merges.{merge_kept}
use Rattle.ways.proofs.RowLists.{all_decides, all_cong, not_in}
use Rattle.ways.proofs.RowSums.{upd_same, upd_other, sum_rows_cong, sum_rows_total}
use Rattle.ways.specs.Rewriting.{moved, Spot}

-- the rows but y and z
others : ℕ → ℕ → (ℕ → Bool) → ℕ → Bool
others y z f r = (eqb r y || eqb r z) || f r

all_split : (rs : List ℕ) (f : ℕ → Bool) (y z : ℕ) → In y rs → In z rs → all_rows rs f ≡ (all_rows rs (others y z f) && (f y && f z))
unfolding others
all_split rs f y z i j = same_from_decides {P = (r : ℕ) → In r rs → f r ≡ true} _ _ (all_decides rs f) (
  λ e r k. let (a, b) = and_parts _ _ e in
      elim (or_cases _ _ ((all_decides rs (others y z f)).0 a r k)) [
        | inl u ↦ elim (or_cases _ _ u) [
          | inl v ↦ rw (eqb-true r y v) (and_parts _ _ b).0
          | inr v ↦ rw (eqb-true r z v) (and_parts _ _ b).1
        ]
        | inr u ↦ u
      ],
  λ h. and_from _ _ ((all_decides rs (others y z f)).1 (λ r k. or_right _ _ (h r k))) (and_from _ _ (h y i) (h z j)),
)

others_cong : (y z : ℕ) (f g : ℕ → Bool) (r : ℕ) → (r ≢ y → r ≢ z → f r ≡ g r) → others y z f r ≡ others y z g r
unfolding others
others_cong y z f g r h = elim (cases_eq r y) [
  | inl e ↦ rw (eq-eqb r y e)
  | inr k ↦ elim (cases_eq r z) [
    | inl e ↦ rw (eq-eqb r z e, ne_eqb r y k)
    | inr l ↦ rw (h k l)
  ]
]

pub in_upd : (up : ℕ → ℕ) (z v r : ℕ) (l : List ℕ) → In v l → In (up r) l → In (upd up z v r) l
unfolding upd
in_upd up z v r l a b = elim (cases_eq r z) [ inl e ↦ rw (eq-eqb r z e) a | inr k ↦ rw (ne_eqb r z k) b ]

-- sums of lists

module _ {T : Type 0} (S : Semiring T) where
  brackets_none : (cs : List Bool) → count cs ≡ 0 → total S (map (bracket S) cs) ≡ S.nought
  unfolding bracket total
  brackets_none [] e = refl
  brackets_none (true ∷ cs) e = absurd (omega arith)
  brackets_none (false ∷ cs) e = nought_plus S _ ∙ brackets_none cs (omega arith)

  brackets_one : (cs : List Bool) → count cs ≡ 1 → total S (map (bracket S) cs) ≡ S.one
  unfolding bracket total
  brackets_one [] e = absurd (omega arith)
  brackets_one (true ∷ cs) e = ap (S.plus S.one) (brackets_none cs (omega arith)) ∙ S.plus_nought _
  brackets_one (false ∷ cs) e = nought_plus S _ ∙ brackets_one cs (omega arith)

  -- a count of tests is a sum of brackets
  pub brackets : (b : Bool) (cs : List Bool) → bit b ≡ count cs → bracket S b ≡ total S (map (bracket S) cs)
  unfolding bracket
  brackets true cs e = sym (brackets_one cs (sym e))
  brackets false cs e = sym (brackets_none cs (sym e))

  spread_none : {X : Type 0} (xs : List X) → total S (map (λ _. S.nought) xs) ≡ S.nought
  unfolding total
  spread_none [] = refl
  spread_none (x ∷ xs) = nought_plus S _ ∙ spread_none xs

  pub total_cong : {X : Type 0} (f g : X → T) (xs : List X) → ((x : X) → f x ≡ g x) → total S (map f xs) ≡ total S (map g xs)
  unfolding total
  total_cong f g [] h = refl
  total_cong f g (x ∷ xs) h = ap₂ S.plus (h x) (total_cong f g xs h)

  total_map : {X : Type 0} (f : X → Bool) (xs : List X) → total S (map (bracket S) (map f xs)) ≡ total S (map (λ x. bracket S (f x)) xs)
  unfolding total
  total_map f [] = refl
  total_map f (x ∷ xs) = ap (S.plus (bracket S (f x))) (total_map f xs)

  total_times : {X : Type 0} (f : X → T) (c : T) (xs : List X) → S.times (total S (map f xs)) c ≡ total S (map (λ x. S.times (f x) c) xs)
  unfolding total
  total_times f c [] = nought_times S c
  total_times f c (x ∷ xs) = S.times_comm _ c ∙ S.times_plus c _ _ ∙ ap₂ S.plus (S.times_comm c _) (S.times_comm c _ ∙ total_times f c xs)

  spread : {X : Type 0} (r b : Bool) (f : X → Bool) (xs : List X) → bit b ≡ count (map f xs) → bracket S (r && b) ≡ total S (map (λ x. bracket S (r && f x)) xs)
  spread true b f xs e = brackets b (map f xs) e ∙ total_map f xs
  spread false b f xs e = sym (unfold bracket in spread_none xs)

-- the alternative with Z still there: it hangs under W by Itself in a join
soft_up : {T : Type 0} → Weighted T → ℕ → ℕ → ℕ → Move → ℕ → ℕ
soft_up P W Y Z Up = upd P.up Z W
soft_up P W Y Z (Between a b) = upd (upd P.up Z W) Y Z
soft_up P W Y Z (Join a) = upd P.up Z W

soft_axis : {T : Type 0} → Weighted T → ℕ → ℕ → ℕ → Move → ℕ → Axis
soft_axis P W Y Z Up = P.axis
soft_axis P W Y Z (Between a b) = upd (upd P.axis Z (Along a)) Y (Along b)
soft_axis P W Y Z (Join a) = upd (upd P.axis Z Itself) Y (Along a)

abbrev soft : {T : Type 0} → Weighted T → ℕ → ℕ → ℕ → Move → Weighted T
soft P W Y Z x = record { rows = P.rows; up = soft_up P W Y Z x; axis = soft_axis P W Y Z x; gain = P.gain }

module _ {T : Type 0} (D : ℕ → ℕ) (P : Weighted T) (W Y Z : ℕ) (sY sZ : Step) (at : Spot P W Y Z sY sZ) (a : ℕ → ℕ) where
  link_P : (link D P a Y && link D P a Z) ≡ (leads D sY (a W) (a Y) && leads D sZ (a Z) (a Y))
  unfolding link holds
  link_P = rw (at.up_Y, at.up_Z, at.axis_Y, at.axis_Z)

  link_soft : (x : Move) → (link D (soft P W Y Z x) a Y && link D (soft P W Y Z x) a Z) ≡ move_holds D sY sZ (a W) (a Y) (a Z) x
  unfolding link holds soft_up soft_axis
  link_soft Up = rw (upd_other P.up Z W Y at.Y_Z, upd_same P.up Z W, at.up_Y, at.axis_Y, at.axis_Z)
  link_soft (Between s t) = let yz : Y ≢ Z = at.Y_Z in let zy : Z ≢ Y = (λ e. yz (sym e)) in simp (upd_same, upd_other)
  link_soft (Join s) = let yz : Y ≢ Z = at.Y_Z in let zy : Z ≢ Y = (λ e. yz (sym e)) in simp (upd_same, upd_other, at.up_Y)

  link_else : (x : Move) (r : ℕ) → r ≢ Y → r ≢ Z → link D (soft P W Y Z x) a r ≡ link D P a r
  unfolding link soft_up soft_axis
  link_else Up r y z = simp upd_other
  link_else (Between s t) r y z = simp upd_other
  link_else (Join s) r y z = simp upd_other

  way_P : is_way D P a ≡ (all_rows P.rows (others Y Z (link D P a)) && (leads D sY (a W) (a Y) && leads D sZ (a Z) (a Y)))
  unfolding is_way
  way_P = all_split P.rows (link D P a) Y Z at.in_Y at.in_Z ∙ ap (λ b. all_rows P.rows (others Y Z (link D P a)) && b) link_P

  way_soft : (x : Move) → is_way D (soft P W Y Z x) a ≡ (all_rows P.rows (others Y Z (link D P a)) && move_holds D sY sZ (a W) (a Y) (a Z) x)
  unfolding is_way
  way_soft x =
      all_split P.rows (link D (soft P W Y Z x) a) Y Z at.in_Y at.in_Z
      ∙ ap₂ ◌&&◌ (all_cong P.rows _ _ (λ r _. others_cong Y Z _ _ r (link_else x r))) (link_soft x)

module _ {T : Type 0} (S : Semiring T) (D : ℕ → ℕ) (root : D 0 ≡ 0) (steps : (i : ℕ) → D (suc i) ≤ suc (D i)) (n : ℕ) (some_place : 0 < n)
    (P : Weighted T) (W Y Z : ℕ) (sY sZ : Step) (at : Spot P W Y Z sY sZ) where
  -- at one assignment
  at_one : (a : ℕ → ℕ) → S.times (bracket S (is_way D P a)) (gains S P a) ≡ total S (map (λ x. S.times (bracket S (is_way D (soft P W Y Z x) a)) (gains S (soft P W Y Z x) a)) (table sY sZ))
  unfolding gains
  at_one a =
      ap (λ b. S.times b (gains S P a))
      (ap (bracket S) (way_P D P W Y Z sY sZ at a)
      ∙ spread S (all_rows P.rows (others Y Z (link D P a))) _ (move_holds D sY sZ (a W) (a Y) (a Z)) (table sY sZ) (pointwise D root steps sY sZ (a W) (a Y) (a Z))
      ∙ total_cong S _ _ (table sY sZ) (λ x. ap (bracket S) (sym (way_soft D P W Y Z sY sZ at a x))))
      ∙ total_times S (λ x. bracket S (is_way D (soft P W Y Z x) a)) (gains S P a) (table sY sZ)

  soft_step : value S D n P ≡ total S (map (λ x. value S D n (soft P W Y Z x)) (table sY sZ))
  unfolding value
  soft_step =
      sum_rows_cong S n P.rows _ _ (λ a _. at_one a) (λ _. 0) (λ _. some_place)
      ∙ sum_rows_total S n P.rows (λ x a. S.times (bracket S (is_way D (soft P W Y Z x) a)) (gains S (soft P W Y Z x) a)) (table sY sZ) (λ _. 0)

  in_W : In W (0 ∷ P.rows)
  in_W = subst (λ x. In x (0 ∷ P.rows)) at.up_Y (at.hung.ups Y at.in_Y)

  -- Z hangs under W where it still stands
  under_soft : (s : Step) → Under (soft P W Y Z (Join s)) W Z
  unfolding soft_up
  under_soft s = record {
    hung = record { apart = at.hung.apart; no_top = at.hung.no_top; ups = λ r i. in_upd P.up Z W r (0 ∷ P.rows) in_W (at.hung.ups r i) };
    within = at.in_Z;
    up_Z = upd_same P.up Z W;
    W_Z = at.W_Z;
  }

  -- what is merged differs only in the row that has gone
  way_merged : (s : Step) (b : ℕ → ℕ) → is_way D (merged S (soft P W Y Z (Join s)) W Z) b ≡ is_way D (merged S (axed P Y (Along s)) W Z) b
  unfolding is_way link merged axed soft_up soft_axis
  way_merged s b = all_cong (remove Z P.rows) _ _ (λ r i. same r (λ e. not_in Z P.rows at.hung.apart (subst (λ x. In x (remove Z P.rows)) e i)))
    where
      axes : (r : ℕ) → r ≢ Z → upd (upd P.axis Z Itself) Y (Along s) r ≡ upd P.axis Y (Along s) r
      axes r k = elim (cases_eq r Y) [
        | inl e ↦ rw e (upd_same (upd P.axis Z Itself) Y (Along s) ∙ sym (upd_same P.axis Y (Along s)))
        | inr l ↦ upd_other (upd P.axis Z Itself) Y (Along s) r l ∙ upd_other P.axis Z Itself r k ∙ sym (upd_other P.axis Y (Along s) r l)
      ]

      same : (r : ℕ) → r ≢ Z → link D (merged S (soft P W Y Z (Join s)) W Z) b r ≡ link D (merged S (axed P Y (Along s)) W Z) b r
      same r k = ap₂ (λ x u. holds D x (b u) (b r)) (axes r k) (ap (λ u. cond (eqb u Z) W u) (upd_other P.up Z W r k))

  joined_kept : (s : Step) → value S D n (soft P W Y Z (Join s)) ≡ value S D n (moved S P W Y Z (Join s))
  unfolding moved value merged axed gains soft_axis
  joined_kept s =
      merge_kept S D n some_place (soft P W Y Z (Join s)) W Z (under_soft s) by_self
      ∙ sum_rows_cong S n (remove Z P.rows) _ _ (λ b _. ap (λ t. S.times (bracket S t) (gains S (merged S (axed P Y (Along s)) W Z) b)) (way_merged s b)) (λ _. 0) (λ _. some_place)
    where
      by_self : upd (upd P.axis Z Itself) Y (Along s) Z ≡ Itself
      by_self = upd_other (upd P.axis Z Itself) Y (Along s) Z (λ e. at.Y_Z (sym e)) ∙ upd_same P.axis Z Itself

  soft_hard : (x : Move) → value S D n (soft P W Y Z x) ≡ value S D n (moved S P W Y Z x)
  unfolding value moved soft_up soft_axis gains
  soft_hard Up = refl
  soft_hard (Between s t) = refl
  soft_hard (Join s) = joined_kept s

  pub step : value S D n P ≡ total S (map (λ x. value S D n (moved S P W Y Z x)) (table sY sZ))
  step = soft_step ∙ total_cong S _ _ (table sY sZ) soft_hard
