-- A row that was looked up by its number.
use Rattle.std.proofs.Common.{◌≡◌, ℕ, ◌+◌, ◌<◌, ◌≤◌, ltb, Bool, true, false, not, ◌&&◌, eqb, ◌≢◌, List, length, slice_index_or, Some, None, Option, sym, refl, ap, ◌∙◌, subst, inl, inr, arith}
use Rattle.std.specs.Prelude.{is_some, IsSome}
use Rattle.std.proofs.lemmas.List.{get_or_past}
use Rattle.std.proofs.lemmas.Bool.{cases_lt, eq-eqb, ne_eqb, eqb-true, lt-ltb, le-ltb, and_from, and_left, and_right, or_cases, both_ways, not_from_true, not_from_false}
use Rattle.pattern.specs.declared.base.Pattern.{Pattern}
use Rattle.pattern.specs.declared.inner.Inner.{Inner}
use Rattle.pattern.specs.declared.row.Row.{Row}
use Rattle.pattern.specs.Rows.{Seat, seat, seats, row, has_root, live, inner, deep, rooted, free_two}
use Rattle.pattern.proofs.MergedRows.{up_live}
use Rattle.pattern.proofs.SeatLists.{row_where, seats_long}

pub seat_used : (o : Option Row) → (seat o).used ≡ is_some o
seat_used None = refl
seat_used (Some r) = refl

pub used_at : (xs : List (Option Row)) (i : ℕ) (o : Option Row) → o ≡ slice_index_or xs i None → (row (seats xs) i).used ≡ is_some o
used_at xs i o e = ap (λ (s : Seat). s.used) (row_where xs i o (sym e)) ∙ seat_used o

live_used : (rs : List Seat) (r : ℕ) → has_root rs ≡ true → live rs r ≡ true → (row rs r).used ≡ true
unfolding live
live_used rs r h l = elim (or_cases (eqb r 0) (row rs r).used l) [
  | inl e ↦ subst (λ k. (row rs k).used ≡ true) (sym (eqb-true r 0 e)) h
  | inr u ↦ u
]

module _ (xs : List (Option Row)) (z : ℕ) where
  pub inner_zero : z ≡ 0 → inner (seats xs) z ≡ false
  unfolding inner
  inner_zero e = and_left _ _ (not_from_true _ (eq-eqb _ _ e))

  pub inner_missing : slice_index_or xs z None ≡ None → inner (seats xs) z ≡ false
  unfolding inner
  inner_missing e = and_right _ _ (ap (λ (s : Seat). s.used) (row_where xs z None e))

module _ (xs : List (Option Row)) (z : ℕ) (r : Row) (low : 1 ≤ z) (here : slice_index_or xs z None ≡ Some r) where
  pub at : row (seats xs) z ≡ seat (Some r)
  at = row_where xs z (Some r) here

  pub used_here : (row (seats xs) z).used ≡ true
  used_here = ap (λ (s : Seat). s.used) at

  pub high_here : length xs ≡ 16 → z < 16
  high_here len = elim (cases_lt z 16) [
    | inl l ↦ l
    | inr l ↦ absurd (both_ways _ (ap is_some (get_or_past xs z None (omega arith))) (ap is_some here))
  ]

  pub inner_here : inner (seats xs) z ≡ true
  unfolding inner
  inner_here = and_from _ _ (not_from_false _ (ne_eqb z 0 (omega arith))) used_here

  up_is : (row (seats xs) z).up ≡ r.up
  up_is = ap (λ (s : Seat). s.up) at

  pub deep_here : r.up ≢ 0 → deep (seats xs) z ≡ true
  unfolding deep
  deep_here n = and_from _ _ inner_here (not_from_false _ (ap (λ u. eqb u 0) up_is ∙ ne_eqb r.up 0 n))

  pub shallow : r.up ≡ 0 → deep (seats xs) z ≡ false
  unfolding deep
  shallow e = and_right _ _ (not_from_true _ (eq-eqb _ _ (up_is ∙ e)))

  -- the up-row of a row in use is there
  pub up_found : length xs ≡ 16 → has_root (seats xs) ≡ true → rooted (seats xs) ≡ true → (o : Option Row) → o ≡ slice_index_or xs r.up None → IsSome o
  up_found len root ok o e =
      let w = seats_long xs ∙ len in
      ap is_some e ∙ sym (used_at xs r.up (slice_index_or xs r.up None) refl)
      ∙ subst (λ u. (row (seats xs) u).used ≡ true) up_is (live_used (seats xs) (row (seats xs) z).up root (up_live (seats xs) (omega arith) ok z low (high_here len) used_here))

-- what was looked up in a pattern is so of the pattern
module _ (i : Inner) (P : Pattern) (z : ℕ) (p : i.pattern ≡ P) (q : i.z ≡ z) where
  pub low_moved : 1 ≤ z
  low_moved = subst (λ k. 1 ≤ k) q i.low

  pub here_moved : slice_index_or P.rows z None ≡ Some i.row
  here_moved = subst (λ (Q : Pattern). slice_index_or Q.rows z None ≡ Some i.row) p (subst (λ k. slice_index_or i.pattern.rows k None ≡ Some i.row) q i.here)

  pub above_moved : slice_index_or P.rows i.row.up None ≡ Some i.upper
  above_moved = subst (λ (Q : Pattern). slice_index_or Q.rows i.row.up None ≡ Some i.upper) p i.above

module _ (xs : List (Option Row)) (n : ℕ) where
  pub free_low : n ≡ 0 → free_two (seats xs) n ≡ false
  unfolding free_two
  free_low e = and_left _ _ (not_from_true _ (eq-eqb _ _ e))

  pub free_high : 15 ≤ n → free_two (seats xs) n ≡ false
  unfolding free_two
  free_high h = and_right _ _ (and_left _ _ (le-ltb _ _ h))

  pub free_first : (row (seats xs) n).used ≡ true → free_two (seats xs) n ≡ false
  unfolding free_two
  free_first u = and_right _ _ (and_right _ _ (and_left _ _ (not_from_true _ u)))

  pub free_pair : (a b : Bool) → 1 ≤ n → n < 15 → (row (seats xs) n).used ≡ not a → (row (seats xs) (n + 1)).used ≡ not b → free_two (seats xs) n ≡ (a && b)
  unfolding free_two
  free_pair a b low high u v = let p : eqb n 0 ≡ false = ne_eqb n 0 (omega arith) in let q : ltb n 15 ≡ true = lt-ltb n 15 high in rw (p, q, u, v) (twice a b)
    where
      twice : (a b : Bool) → (not (not a) && not (not b)) ≡ (a && b)
      twice true true = refl
      twice true false = refl
      twice false b = refl
