-- A number of a pattern that every turn makes smaller: what is left to expand counts most, then the rows that go against a step, then
-- how far from row 0 the rows are.
use Rattle.std.proofs.Common.{◌≡◌, ℕ, zero, suc, ◌+◌, ◌*◌, ◌<◌, ◌≤◌, true, false, cond, eqb, ◌≢◌, List, length, sym, refl, ap, ◌∙◌, subst, inl, inr, arith}
use mathlib.Core.Path.{fun_ext}
use Rattle.std.proofs.lemmas.Bool.{cases_Bool, cases_eq, eq-eqb, ne_eqb}
use Rattle.record.specs.declared.axis.Reach.TheVariants.{DescendantOrSelf, AncestorOrSelf, Following, Preceding}
use Rattle.record.specs.declared.axis.Axis.{Axis}
use Rattle.record.specs.declared.axis.Axis.TheVariants.{Along, Against, Itself, Wide}
use Rattle.ways.specs.Ways.{upd, In}
use Rattle.ways.proofs.Ends.{lsum, lsum_lt, lsum_bound}
use Rattle.ways.proofs.RowSums.{upd_same, upd_other}
use Rattle.pattern.specs.Questions.{pattern_of}
use Rattle.pattern.specs.Rows.{Seat, row, fifteen, rooted, second, rehung}
use Rattle.pattern.proofs.MergedRows.{none}
use Rattle.pattern.proofs.Moved.{hung_used, hung_up}
use Rattle.pattern.proofs.Trees.{height, tree_of, in_rows, in_fifteen}
use Rattle.all_ends.proofs.Changes.{used_only}
use Rattle.all_ends.proofs.Counts.{weigh, weigh_bound}

-- how many turns of expansion an axis may take
abbrev pub cost : Axis → ℕ
cost (Along s) = 0
cost (Against s) = 0
cost Itself = 1
cost (Wide DescendantOrSelf) = 2
cost (Wide AncestorOrSelf) = 2
cost (Wide Following) = 5
cost (Wide Preceding) = 5

-- whether it goes against a step
abbrev pub back : Axis → ℕ
back (Along s) = 0
back (Against s) = 1
back Itself = 0
back (Wide x) = 0

abbrev pub costs : List Seat → ℕ
costs rs = weigh (used_only (λ r. cost r.axis)) rs

abbrev pub backs : List Seat → ℕ
backs rs = weigh (used_only (λ r. back r.axis)) rs

abbrev ups : List Seat → ℕ → ℕ
ups rs i = (row rs i).up

-- how far a row in use is from row 0
abbrev far : List Seat → ℕ → ℕ
far rs i = cond (row rs i).used (height (ups rs) 16 i) 0

unfoldable pub heights : List Seat → ℕ
heights rs = lsum (far rs) fifteen

pub turns_left : List Seat → ℕ
turns_left rs = costs rs * 4096 + (backs rs * 256 + heights rs)

cost_le : (a : Axis) → cost a ≤ 5
cost_le (Along s) = omega arith
cost_le (Against s) = omega arith
cost_le Itself = omega arith
cost_le (Wide DescendantOrSelf) = omega arith
cost_le (Wide AncestorOrSelf) = omega arith
cost_le (Wide Following) = omega arith
cost_le (Wide Preceding) = omega arith

back_le : (a : Axis) → back a ≤ 1
back_le (Along s) = omega arith
back_le (Against s) = omega arith
back_le Itself = omega arith
back_le (Wide x) = omega arith

used_le : (c : Axis → ℕ) (K : ℕ) → ((a : Axis) → c a ≤ K) → (r : Seat) → used_only (λ r. c r.axis) r ≤ K
used_le c K h r = let l = h r.axis in elim (cases_Bool r.used) [ inl e ↦ rw e l | inr e ↦ rw e (omega arith) ]

costs_le : (rs : List Seat) → costs rs ≤ 75
costs_le rs = weigh_bound (used_only (λ r. cost r.axis)) 5 (used_le cost 5 cost_le) rs

backs_le : (rs : List Seat) → backs rs ≤ 15
backs_le rs = weigh_bound (used_only (λ r. back r.axis)) 1 (used_le back 1 back_le) rs

module _ (up : ℕ → ℕ) where
  height_le : (k r : ℕ) → height up k r ≤ k
  height_le zero r = omega arith
  height_le (suc k) r = let h = height_le k (up r) in elim (cases_Bool (eqb r 0)) [ inl e ↦ rw e (omega arith) | inr e ↦ rw e (omega arith) ]

  -- more steps
  height_more : (k r : ℕ) → height up k r ≤ height up (suc k) r
  height_more zero r = omega arith
  height_more (suc k) r = let h = height_more k (up r) in elim (cases_Bool (eqb r 0)) [ inl e ↦ rw e (omega arith) | inr e ↦ rw e (omega arith) ]

  height_one_more : (k r : ℕ) → height up (suc k) r ≤ suc (height up k r)
  height_one_more zero r = elim (cases_Bool (eqb r 0)) [ inl e ↦ rw e (omega arith) | inr e ↦ rw e (omega arith) ]
  height_one_more (suc k) r = let h = height_one_more k (up r) in elim (cases_Bool (eqb r 0)) [ inl e ↦ rw e (omega arith) | inr e ↦ rw e (omega arith) ]

  height_under : (k r : ℕ) → r ≢ 0 → height up (suc k) r ≡ suc (height up k (up r))
  height_under k r n = let e : eqb r 0 ≡ false = ne_eqb r 0 n in rw e refl

heights_le : (rs : List Seat) → heights rs ≤ 240
unfolding heights
heights_le rs = lsum_bound fifteen (far rs) 16 (λ i _. let h = height_le (ups rs) 16 i in elim (cases_Bool (row rs i).used) [ inl e ↦ rw e h | inr e ↦ rw e (omega arith) ])

-- a million turns are more than enough
pub turns_few : (rs : List Seat) → turns_left rs < 999999
unfolding turns_left
turns_few rs = let a = costs_le rs in let b = backs_le rs in let c = heights_le rs in omega arith

pub fewer_costs : (rs rs' : List Seat) → costs rs' < costs rs → turns_left rs' < turns_left rs
unfolding turns_left
fewer_costs rs rs' h = let b = backs_le rs' in let c = heights_le rs' in omega arith

pub fewer_backs : (rs rs' : List Seat) → costs rs' ≡ costs rs → backs rs' < backs rs → turns_left rs' < turns_left rs
unfolding turns_left
fewer_backs rs rs' e h = let c = heights_le rs' in omega arith

pub less_far : (rs rs' : List Seat) → costs rs' ≡ costs rs → backs rs' ≡ backs rs → heights rs' < heights rs → turns_left rs' < turns_left rs
unfolding turns_left
less_far rs rs' e f h = omega arith

-- a row that goes up
module _ (up : ℕ → ℕ) (z y w : ℕ) (up_z : up z ≡ y) (up_y : up y ≡ w) (y_low : y ≢ 0) where
  abbrev risen : ℕ → ℕ
  risen = upd up z w

  lower : (k r : ℕ) → height risen k r ≤ height up k r
  lower zero r = omega arith
  lower (suc k) r = elim (cases_eq r 0) [
    | inl e ↦ let b : eqb r 0 ≡ true = eq-eqb r 0 e in rw b (omega arith)
    | inr n ↦
        let a = height_under risen k r n in
        let b = height_under up k r n in
        elim (cases_eq r z) [
          | inl e ↦
              let c : height risen k (risen r) ≡ height risen k w = ap (height risen k) (subst (λ i. risen i ≡ w) (sym e) (upd_same up z w)) in
              let d : height up k (up r) ≡ height up k y = ap (height up k) (ap up e ∙ up_z) in
              let f = at_top k (lower k w) in
              omega arith
          | inr d ↦
              let c : height risen k (risen r) ≡ height risen k (up r) = ap (height risen k) (upd_other up z w r d) in
              let f = lower k (up r) in
              omega arith
        ]
  ]
    where
      at_top : (k : ℕ) → height risen k w ≤ height up k w → height risen k w ≤ height up k y
      at_top zero h = omega arith
      at_top (suc j) h =
          let a = height_under up j y y_low in
          let b : height up j (up y) ≡ height up j w = ap (height up j) up_y in
          let c = height_one_more up j w in
          omega arith

module _ (rs : List Seat) (len : length rs ≡ 16) (ok : rooted rs ≡ true) (z : ℕ) (low : 1 ≤ z) (high : z < 16) (used : (row rs z).used ≡ true) (below : 1 ≤ (row rs z).up) where
  abbrev y : ℕ
  y = (row rs z).up

  abbrev rs' : List Seat
  rs' = rehung rs z (second rs z) (row rs z).axis

  ups_risen : ◌≡◌ {A = ℕ → ℕ} (ups rs') (upd (ups rs) z (second rs z))
  ups_risen = fun_ext (hung_up rs z (second rs z) (row rs z).axis (omega arith))

  pub raised : heights rs' < heights rs
  unfolding pattern_of heights
  raised =
      let tree = tree_of none rs (omega arith) ok in
      let in_z = in_rows none rs z low high used in
      let in_y : In y (pattern_of none rs).rows = elim (tree.ups z in_z) [ inl e ↦ absurd (omega arith) | inr i ↦ i ] in
      let a : height (ups rs) 16 y < height (ups rs) 16 z = tree.ranks z in_z in
      let b : height (ups rs) 16 (second rs z) < height (ups rs) 16 y = tree.ranks y in_y in
      lsum_lt z fifteen (far rs') (far rs) (in_fifteen z low high) (at_z a b) (λ i _. each i)
    where
      each : (i : ℕ) → far rs' i ≤ far rs i
      each i =
          let u = hung_used rs z (second rs z) (row rs z).axis (omega arith) i in
          let h : height (ups rs') 16 i ≤ height (ups rs) 16 i = subst (λ f. height f 16 i ≤ height (ups rs) 16 i) (sym ups_risen) (lower (ups rs) z y (second rs z) refl refl (omega arith) 16 i) in
          subst (λ b. cond b (height (ups rs') 16 i) 0 ≤ far rs i) (sym u) (elim (cases_Bool (row rs i).used) [ inl e ↦ rw e h | inr e ↦ rw e (omega arith) ])

      at_z : height (ups rs) 16 y < height (ups rs) 16 z → height (ups rs) 16 (second rs z) < height (ups rs) 16 y → far rs' z < far rs z
      at_z a b =
          let u = hung_used rs z (second rs z) (row rs z).axis (omega arith) z ∙ used in
          let n : z ≢ 0 = omega arith in
          let c = height_under (upd (ups rs) z (second rs z)) 15 z n in
          let d : height (upd (ups rs) z (second rs z)) 15 (upd (ups rs) z (second rs z) z) ≡ height (upd (ups rs) z (second rs z)) 15 (second rs z) = ap (height (upd (ups rs) z (second rs z)) 15) (upd_same (ups rs) z (second rs z)) in
          let f = lower (ups rs) z y (second rs z) refl refl (omega arith) 15 (second rs z) in
          let g = height_more (ups rs) 15 (second rs z) in
          let h : height (ups rs') 16 z ≡ height (upd (ups rs) z (second rs z)) 16 z = ap (λ f. height f 16 z) ups_risen in
          let p : far rs' z ≡ height (ups rs') 16 z = ap (λ b. cond b (height (ups rs') 16 z) 0) u in
          let q : far rs z ≡ height (ups rs) 16 z = ap (λ b. cond b (height (ups rs) 16 z) 0) used in
          omega arith
