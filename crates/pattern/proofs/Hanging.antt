-- Rows hung under another row, one after another, and a row that goes into another.
use Rattle.std.proofs.Common.{◌≡◌, ℕ, ◌+◌, ◌<◌, ◌≤◌, true, false, cond, eqb, ◌≢◌, List, ◌++◌, map, length, take, drop, set, slice_index_or, Some, None, Option, sym, refl, ap, ◌∙◌, subst, inl, inr, arith}
use Rattle.std.specs.Option.{MatchOption, IsSomeAnd}
use Rattle.std.proofs.Math.ListN.{get_or-map}
use Rattle.std.proofs.lemmas.List.{get_or-set_same, get_or-set_other, get_or_default, length-set, length-map, take_all, drop_all, append-nil}
use Rattle.std.proofs.lemmas.List.Edits.{map_over_more}
use Rattle.std.proofs.lemmas.Bool.{cases_eq, eq-eqb, ne_eqb, both_ways}
use Rattle.pattern.specs.declared.row.Row.{Row}
use Rattle.pattern.specs.declared.row.Test.{Test}
use Rattle.pattern.specs.Rows.{Seat, seat, seats, top, row, redirected, retested, merged_row}
use Rattle.pattern.proofs.SeatLists.{row_seats, seats_set, seats_long}

redirect_other : (z w : ℕ) (r : Seat) → r.up ≢ z → redirected z w r ≡ r
redirect_other z w r k = ap {B = Seat} (λ b. record { used = r.used; up = cond b w r.up; axis = r.axis; test = r.test }) (ne_eqb r.up z k)

redirect_same : (z w : ℕ) (r : Seat) → r.up ≡ z → redirected z w r ≡ record { used = r.used; up = w; axis = r.axis; test = r.test }
redirect_same z w r e = ap {B = Seat} (λ b. record { used = r.used; up = cond b w r.up; axis = r.axis; test = r.test }) (eq-eqb r.up z e)

-- a row that is not in use stays so
free_stays : (z w : ℕ) → 1 ≤ z → redirected z w top ≡ top
free_stays z w low = redirect_other z w top (omega arith)

-- so that hanging anew those that are in use hangs anew all
pub each_redirected : (z w : ℕ) (To : Row → Row → Type 0) (o p : Option Row) → 1 ≤ z → ((r q : Row) → To r q → seat (Some q) ≡ redirected z w (seat (Some r))) →
    MatchOption o (p ≡ None) (λ r. IsSomeAnd p (To r)) → seat p ≡ redirected z w (seat o)
each_redirected z w To None p low k e = ap seat e ∙ sym (free_stays z w low)
each_redirected z w To (Some r) None low k e = absurd e
each_redirected z w To (Some r) (Some q) low k e = k r q e

-- the first k rows are hung anew
abbrev pub Rehung : ℕ → ℕ → List (Option Row) → ℕ → List (Option Row) → Type 0
Rehung z w xs k items = (length items ≡ length xs) × (seats items ≡ map (redirected z w) (take k (seats xs)) ++ drop k (seats xs))

pub rehung_none : (z w : ℕ) (xs : List (Option Row)) → Rehung z w xs 0 xs
rehung_none z w xs = (refl, refl)

pub rehung_more : (z w k : ℕ) (xs items : List (Option Row)) (o : Option Row) → k < length xs → Rehung z w xs k items → seat o ≡ redirected z w (seat (slice_index_or items k None)) → Rehung z w xs (k + 1) (set items k o)
rehung_more z w k xs items o h (li, inv) e =
    let a : length (seats items) ≡ length xs = seats_long items ∙ li in
    let b : length (seats xs) ≡ length xs = seats_long xs in (
      length-set items k o ∙ li,
      seats_set items k o ∙ ap (set (seats items) k) (e ∙ ap (redirected z w) (sym (row_seats items k)))
          ∙ map_over_more (redirected z w) (seats xs) (seats items) k (row (seats items) k) (omega arith) inv (get_or_default (seats items) k top (row (seats items) k) (omega arith)),
    )

pub rehung_all : (z w k : ℕ) (xs items : List (Option Row)) → length xs ≤ k → Rehung z w xs k items → seats items ≡ map (redirected z w) (seats xs)
rehung_all z w k xs items h (li, inv) =
    let b : length (seats xs) ≡ length xs = seats_long xs in
    inv ∙ ap (λ l. map (redirected z w) l ++ drop k (seats xs)) (take_all k (seats xs) (omega arith))
    ∙ ap (λ l. map (redirected z w) (seats xs) ++ l) (drop_all k (seats xs) (omega arith)) ∙ append-nil (map (redirected z w) (seats xs))

-- each row once all are hung anew
pub hung_at : (rs : List Seat) (out : List (Option Row)) (z w : ℕ) → seats out ≡ map (redirected z w) rs → 1 ≤ z → (j : ℕ) → row (seats out) j ≡ redirected z w (row rs j)
hung_at rs out z w e low j = ap (λ x. row x j) e ∙ subst (λ (d : Seat). slice_index_or (map (redirected z w) rs) j d ≡ redirected z w (row rs j)) (free_stays z w low) (get_or-map (redirected z w) rs j top)

-- a row in use with another test
pub each_retested : (t : Test) (To : Row → Row → Type 0) (o p : Option Row) → (seat o).used ≡ true → ((r q : Row) → To r q → seat (Some q) ≡ retested (seat (Some r)) t) →
    MatchOption o (p ≡ None) (λ r. IsSomeAnd p (To r)) → seat p ≡ retested (seat o) t
each_retested t To None p u k e = absurd (both_ways _ refl u)
each_retested t To (Some r) None u k e = absurd e
each_retested t To (Some r) (Some q) u k e = k r q e

-- the two writes after the rows are hung anew
pub made : (rs : List Seat) (out : List (Option Row)) (z w : ℕ) (t : Test) (o : Option Row) → seats out ≡ map (redirected z w) rs → length rs ≡ 16 → 1 ≤ z → z < 16 → w < 16 → w ≢ z →
    seat o ≡ retested (row (seats out) w) t → (i : ℕ) → row (seats (set (set out w o) z None)) i ≡ merged_row rs z w t i
made rs out z w t o e len low high within two s i =
    let l : length out ≡ 16 = sym (seats_long out) ∙ ap length e ∙ length-map rs (redirected z w) ∙ len in
    let one : List Seat = set (seats out) w (seat o) in
    let all : seats (set (set out w o) z None) ≡ set one z top = seats_set (set out w o) z None ∙ ap (λ x. set x z top) (seats_set out w o) in
    let m : length one ≡ 16 = length-set (seats out) w (seat o) ∙ seats_long out ∙ l in
    let k : length (seats out) ≡ 16 = seats_long out ∙ l in
    ap (λ x. row x i) all ∙ elim (cases_eq i z) [
      | inl q ↦ subst (λ x. row (set one z top) x ≡ merged_row rs z w t x) (sym q)
          (get_or-set_same one z top top (omega arith) ∙ (let u : eqb z z ≡ true = eq-eqb z z refl in rw u refl))
      | inr q ↦ get_or-set_other one z i top top q ∙ elim (cases_eq i w) [
        | inl p ↦ subst (λ x. row one x ≡ merged_row rs z w t x) (sym p)
            (get_or-set_same (seats out) w (seat o) top (omega arith) ∙ s ∙ ap {B = Seat} (λ r. retested r t) (hung_at rs out z w e low w)
            ∙ (let u : eqb w w ≡ true = eq-eqb w w refl in let v : eqb w z ≡ false = ne_eqb w z two in rw (u, v) refl))
        | inr p ↦ get_or-set_other (seats out) w i (seat o) top p ∙ hung_at rs out z w e low i
            ∙ (let u : eqb i w ≡ false = ne_eqb i w p in let v : eqb i z ≡ false = ne_eqb i z q in rw (u, v) refl)
      ]
    ]
