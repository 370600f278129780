-- What the changes do to a number that is summed over the rows in use.
use Rattle.std.proofs.Common.{◌≡◌, ℕ, ◌+◌, ◌<◌, ◌≤◌, true, false, cond, ◌≢◌, List, length, set, sym, refl, ap, ◌∙◌, subst, arith}
use Rattle.std.proofs.lemmas.List.{get_or-set_other, length-set}
use Rattle.std.proofs.lemmas.Bool.{eq-eqb, ne_eqb, both_ways}
use Rattle.record.specs.declared.axis.Step.{Step}
use Rattle.record.specs.declared.axis.Step.TheVariants.{Child}
use Rattle.record.specs.declared.axis.Reach.TheVariants.{DescendantOrSelf, AncestorOrSelf}
use Rattle.record.specs.declared.axis.Axis.{Axis}
use Rattle.record.specs.declared.axis.Axis.TheVariants.{Along, Against, Wide}
use Rattle.record.specs.declared.rules.Move.{Move}
use Rattle.record.specs.declared.rules.Move.TheVariants.{Up, Join, Between}
use Rattle.ways.proofs.RowSums.{upd_other}
use Rattle.pattern.specs.Rows.{Seat, top, row, rooted, deep, hung, fresh, second, rehung, spread, MergedInto, MovedTo}
use Rattle.pattern.proofs.MergedRows.{up_apart}
use Rattle.pattern.proofs.Moved.{deep_parts, y_high, y_used, hung_used, hung_axis}
use Rattle.all_ends.proofs.Counts.{weigh, weigh_change, weigh_set}

-- nothing for a row that is not in use
abbrev pub used_only : (Seat → ℕ) → Seat → ℕ
used_only c r = cond r.used (c r) 0

pub of_used : (c : Seat → ℕ) (r : Seat) → r.used ≡ true → used_only c r ≡ c r
of_used c r e = ap (λ b. cond b (c r) 0) e

pub of_free : (c : Seat → ℕ) (r : Seat) → r.used ≡ false → used_only c r ≡ 0
of_free c r e = ap (λ b. cond b (c r) 0) e

-- a row hung elsewhere
pub rehung_weigh : (c : Seat → ℕ) (rs : List Seat) (z w : ℕ) (x : Axis) → 1 ≤ z → z < 16 → length rs ≡ 16 → (row rs z).used ≡ true →
    weigh (used_only c) (rehung rs z w x) + c (row rs z) ≡ weigh (used_only c) rs + c (hung (row rs z) w x)
rehung_weigh c rs z w x low high len used =
    let a = weigh_set (used_only c) rs z (hung (row rs z) w x) low high len in
    let b = of_used c (row rs z) used in
    let d = of_used c (hung (row rs z) w x) used in
    omega arith

-- a number that goes by the axis, where z is merged
pub merged_weigh : (c : Axis → ℕ) (rs rs' : List Seat) (z w : ℕ) → MergedInto rs z w rs' → 1 ≤ z → z < 16 → (row rs z).used ≡ true →
    weigh (used_only (λ r. c r.axis)) rs' + c (row rs z).axis ≡ weigh (used_only (λ r. c r.axis)) rs
merged_weigh c rs rs' z w (t, e, h) low high used =
    let f : Seat → ℕ = used_only (λ r. c r.axis) in
    let a = weigh_change f rs rs' z low high (λ i k. ap f (h i) ∙ ap (λ b. cond (cond b false (row rs i).used) (c (cond b (Along Child) (row rs i).axis)) 0) (ne_eqb i z k)) in
    let b = of_used (λ r. c r.axis) (row rs z) used in
    let d : f (row rs' z) ≡ 0 = ap f (h z) ∙ ap (λ b. cond (cond b false (row rs z).used) (c (cond b (Along Child) (row rs z).axis)) 0) (eq-eqb z z refl) in
    omega arith

-- two new rows
pub spread_weigh : (c : Seat → ℕ) (rs : List Seat) (z n m : ℕ) (x : Axis) → 1 ≤ z → z < 16 → 1 ≤ n → n < 16 → 1 ≤ m → m < 16 → m ≢ n → length rs ≡ 16 →
    (row rs z).used ≡ true → (row rs n).used ≡ false → (row rs m).used ≡ false →
    weigh (used_only c) (spread rs z n m x) + c (row rs z) ≡ weigh (used_only c) rs + (c (fresh (row rs z).up (Wide AncestorOrSelf)) + (c (fresh n x) + c (hung (row rs z) m (Wide DescendantOrSelf))))
spread_weigh c rs z n m x z_low z_high n_low n_high m_low m_high m_n len used free spare =
    let f : Seat → ℕ = used_only c in
    let first : Seat = fresh (row rs z).up (Wide AncestorOrSelf) in
    let next : Seat = fresh n x in
    let last : Seat = hung (row rs z) m (Wide DescendantOrSelf) in
    let one : List Seat = set rs n first in
    let two : List Seat = set one m next in
    let l : length one ≡ 16 = length-set rs n first ∙ len in
    let k : length two ≡ 16 = length-set one m next ∙ l in
    let z_n : z ≢ n = λ e. both_ways _ free (subst (λ i. (row rs i).used ≡ true) e used) in
    let z_m : z ≢ m = λ e. both_ways _ spare (subst (λ i. (row rs i).used ≡ true) e used) in
    let at_m : row one m ≡ row rs m = get_or-set_other rs n m first top m_n in
    let at_z : row two z ≡ row rs z = get_or-set_other one m z next top z_m ∙ get_or-set_other rs n z first top z_n in
    let a = weigh_set f rs n first n_low n_high len in
    let b = weigh_set f one m next m_low m_high l in
    let d = weigh_set f two z last z_low z_high k in
    let free_n = of_free c (row rs n) free in
    let free_m : f (row one m) ≡ 0 = ap f at_m ∙ of_free c (row rs m) spare in
    let used_z : f (row two z) ≡ c (row rs z) = ap f at_z ∙ of_used c (row rs z) used in
    let used_last : f last ≡ c last = of_used c last used in
    omega arith

-- what leaves and what comes with a move, where a row along a step counts k and one against a step counts j
abbrev pub gone : ℕ → Move → ℕ
gone j Up = 0
gone j (Between a b) = j
gone j (Join a) = j

abbrev pub come : ℕ → Move → ℕ
come k Up = 0
come k (Between a b) = k
come k (Join a) = 0

module _ (rs : List Seat) (len : length rs ≡ 16) (ok : rooted rs ≡ true) (z : ℕ) (d : deep rs z ≡ true) (sY sZ : Step) (aY : (row rs (row rs z).up).axis ≡ Along sY) (aZ : (row rs z).axis ≡ Against sZ)
    (c : Axis → ℕ) (k j : ℕ) (along : (s : Step) → c (Along s) ≡ k) (against : (s : Step) → c (Against s) ≡ j) where
  abbrev y : ℕ
  y = (row rs z).up

  parts : (1 ≤ z) × (z < 16) × ((row rs z).used ≡ true) × (1 ≤ y)
  parts = deep_parts rs z len d

  y_z : y ≢ z
  y_z = let (low, high, used, below) = parts in up_apart rs (omega arith) ok z low high used

  -- another row has the axis that it had
  other_axis : (r w i : ℕ) (x : Axis) → r < 16 → i ≢ r → (row (rehung rs r w x) i).axis ≡ (row rs i).axis
  other_axis r w i x h n = hung_axis rs r w x (omega arith) i ∙ upd_other (λ i. (row rs i).axis) r x i n

  pub moved_weigh : (m : Move) (q : List Seat) → MovedTo rs z m q → weigh (used_only (λ r. c r.axis)) q + gone j m ≡ weigh (used_only (λ r. c r.axis)) rs + come k m
  moved_weigh Up q e =
      let (low, high, used, below) = parts in
      let a = rehung_weigh (λ r. c r.axis) rs z (second rs z) (row rs z).axis low high len used in
      let b = ap (weigh (used_only (λ r. c r.axis))) e in
      omega arith
  moved_weigh (Between a b) q e =
      let (low, high, used, below) = parts in
      let yh = y_high rs len ok z low high used below in
      let one : List Seat = rehung rs z (second rs z) (Along a) in
      let l : length one ≡ 16 = length-set rs z (hung (row rs z) (second rs z) (Along a)) ∙ len in
      let u : (row one y).used ≡ true = hung_used rs z (second rs z) (Along a) (omega arith) y ∙ y_used rs len ok z low high used below in
      let cz : c (row rs z).axis ≡ j = ap c aZ ∙ against sZ in
      let cy : c (row one y).axis ≡ k = ap c (other_axis z (second rs z) y (Along a) high y_z ∙ aY) ∙ along sY in
      let ca = along a in
      let cb = along b in
      let c1 = rehung_weigh (λ r. c r.axis) rs z (second rs z) (Along a) low high len used in
      let c2 = rehung_weigh (λ r. c r.axis) one y z (Along b) below yh l u in
      let f = ap (weigh (used_only (λ r. c r.axis))) e in
      omega arith
  moved_weigh (Join a) q e =
      let (low, high, used, below) = parts in
      let yh = y_high rs len ok z low high used below in
      let one : List Seat = rehung rs y (second rs z) (Along a) in
      let u : (row one z).used ≡ true = hung_used rs y (second rs z) (Along a) (omega arith) z ∙ used in
      let cz : c (row one z).axis ≡ j = ap c (other_axis y (second rs z) z (Along a) yh (λ e. y_z (sym e)) ∙ aZ) ∙ against sZ in
      let cy : c (row rs y).axis ≡ k = ap c aY ∙ along sY in
      let ca = along a in
      let yu = y_used rs len ok z low high used below in
      let c1 = rehung_weigh (λ r. c r.axis) rs y (second rs z) (Along a) below yh len yu in
      let c2 = merged_weigh c one q z (second rs z) e low high u in
      omega arith
