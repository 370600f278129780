-- The first of the fifteen rows that asks for something.
use Rattle.std.proofs.Common.{◌≡◌, ℕ, zero, suc, ◌+◌, ◌-◌, ◌<◌, ◌≤◌, true, cond, List, [], ◌∷◌, slice_index_or, Some, None, Option, sym, refl, ap, ◌∙◌, subst, inl, inr, arith}
use Rattle.std.proofs.iter.Yields.{nat_range_steps}
use Rattle.std.proofs.iter.runs.Sources.{range_runs}
use Rattle.std.proofs.lemmas.Bool.{cases_eq}
use Rattle.std.proofs.lemmas.Iterator.Adapters.{option_map_id}
use Rattle.std.proofs.lemmas.Option.{MatchOption-at_some, same_Some}
use Rattle.std.specs.Fn.{Called, Mut}
use Rattle.std.specs.Iterator.Runs.{Run, SomeRun, CallKeepsClosure, AllItemsGive, IsFirstToGive}
use Rattle.std.specs.declared.ops.Range.{Range}
use Rattle.std.specs.Option.{IsSomeAnd, IfSome, MatchOption, option_and_then, unwrap_or}
use Rattle.ways.specs.Ways.{In}
use Rattle.pattern.specs.Rows.{Seat, seat, seats, row, fifteen}
use Rattle.pattern.specs.declared.row.Row.{Row}
use Rattle.pattern.proofs.SeatLists.{row_seats}
use Rattle.pattern.proofs.Trees.{upto, fifteen_in}
use Rattle.rewrite.specs.Turns.{first_some, want_at, first_want, FirstWant, expanding, straying, shifting, turn_of}
use Rattle.rewrite.specs.declared.turns.Turn.{Turn}
use Rattle.rewrite.specs.declared.turns.Turn.TheVariants.{Kept}

module _ {A : Type 0} (f : ℕ → Option A) where
  -- the rows below i ask for nothing
  abbrev pub Quiet : ℕ → Type 0
  Quiet i = (k : ℕ) → 1 ≤ k → k < i → f k ≡ None

  pub quiet_none : Quiet 1
  quiet_none k h l = absurd (omega arith)

  pub quiet_more : (i : ℕ) → Quiet i → f i ≡ None → Quiet (i + 1)
  quiet_more i q e k h l = elim (cases_eq k i) [ inl s ↦ subst (λ n. f n ≡ None) (sym s) e | inr s ↦ q k h (omega (arith, l, s)) ]

  skip : (r : ℕ) (rs : List ℕ) → f r ≡ None → first_some f (r ∷ rs) ≡ first_some f rs
  unfolding first_some
  skip r rs e = rw (first_some, e) refl

  stop : (r : ℕ) (rs : List ℕ) (t : A) → f r ≡ Some t → first_some f (r ∷ rs) ≡ Some t
  unfolding first_some
  stop r rs t e = rw (first_some, e) refl

  pub all_quiet : (rs : List ℕ) → ((r : ℕ) → In r rs → f r ≡ None) → first_some f rs ≡ None
  unfolding first_some
  all_quiet [] h = refl
  all_quiet (r ∷ rs) h = skip r rs (h r (inl refl)) ∙ all_quiet rs (λ s i. h s (inr i))

  pub none_asks : Quiet 16 → first_some f fifteen ≡ None
  none_asks q = all_quiet fifteen (λ r j. let (a, b) = fifteen_in r j in q r a b)

  -- row i is the first
  among : (c a i : ℕ) (t : A) → a ≤ i → i < a + c → ((k : ℕ) → a ≤ k → k < i → f k ≡ None) → f i ≡ Some t → first_some f (upto a c) ≡ Some t
  among zero a i t h l q e = absurd (omega arith)
  among (suc c) a i t h l q e = elim (cases_eq a i) [
    | inl s ↦ stop a (upto (suc a) c) t (subst (λ n. f n ≡ Some t) (sym s) e)
    | inr s ↦ skip a (upto (suc a) c) (q a (omega arith) (omega arith)) ∙ among c (suc a) i t (omega arith) (omega arith) (λ k u v. q k (omega arith) v) e
  ]

  pub first_asks : (i : ℕ) (t : A) → 1 ≤ i → i < 16 → Quiet i → f i ≡ Some t → first_some f fifteen ≡ Some t
  first_asks i t h l q e = among 15 1 i t h (omega arith) q e

-- a search through the row numbers by `find_map` finds what the first row answers
module _ {A F : Type 0} (f : ℕ → Option A) (g : Mut F (ℕ × Unit {0}) (Option A)) (ask : F) (keeps : CallKeepsClosure g ask) (answers : (i : ℕ) (t : Option A) → 1 ≤ i → i < 16 → Called g ask (i, tt) t ask → t ≡ f i) where
  module _ (p : Run nat_range_steps) (first : p.from.start ≡ 1) (end : p.from.end ≡ 16) where
    -- the item at place k is row k + 1
    at_place : (k : ℕ) → k < p.len → p.at k ≡ Some (k + 1)
    at_place k l = sym (option_map_id (p.at k)) ∙ (range_runs p p.seen).3 k l ∙ ap Some (omega arith)

    row_answers : (k : ℕ) (t : Option A) → k < p.len → IfSome (p.at k) (λ x. Called g ask (x, tt) t ask) → f (k + 1) ≡ t
    row_answers k t l h = sym (answers (k + 1) t (omega arith) (omega (arith, (range_runs p p.seen).0)) (MatchOption-at_some _ _ _ (at_place k l) h))

    quiet_below : (n : ℕ) → n ≤ p.len → ((k : ℕ) → k < n → IfSome (p.at k) (λ x. Called g ask (x, tt) None ask)) → Quiet f (n + 1)
    quiet_below n l h i a b = let e : (i - 1) + 1 ≡ i = omega arith in subst (λ j. f j ≡ None) e (row_answers (i - 1) None (omega arith) (h (i - 1) (omega arith)))

  some_and : {X : Type 0} (o : Option X) (P : X → Type 0) → IsSomeAnd o P → IfSome o P
  some_and None P h = tt
  some_and (Some x) P h = h

  pub first_found : (s : Range ℕ) → s.start ≡ 1 → s.end ≡ 16 → (found : Option A) →
      SomeRun nat_range_steps s (λ p. MatchOption found ((p.whole ≡ true) × AllItemsGive p g ask None) (λ y. (i : ℕ) × (i < p.len) × (p.len ≡ i + 1) × IsFirstToGive p g ask (Some y) None i)) →
      found ≡ first_some f fifteen
  first_found s a b None (p, e, h) =
      let first : p.from.start ≡ 1 = cc in
      let end : p.from.end ≡ 16 = cc in
      sym (none_asks f (quiet_below p first end 15 (omega (arith, (range_runs p p.seen).1 h.0)) (λ k l. h.1 keeps k)))
  first_found s a b (Some t) (p, e, h) =
      let (i, l, last, d) = h in
      let first : p.from.start ≡ 1 = cc in
      let end : p.from.end ≡ 16 = cc in
      sym (first_asks f (i + 1) t (omega arith) (omega (arith, (range_runs p p.seen).0)) (quiet_below p first end i (omega arith) (λ k j. some_and (p.at k) _ ((d keeps).1 k j))) (row_answers p first end i (Some t) l (some_and (p.at i) _ (d keeps).0)))

-- what a row of an array is asked
pub asked : (rows : List (Option Row)) (want : ℕ → Seat → Option Turn) (i : ℕ) → want_at (seats rows) want i ≡ option_and_then (λ r. want i (seat (Some r))) (slice_index_or rows i None)
asked rows want i = by (slice_index_or rows i None) (row_seats rows i)
  where
    by : (o : Option Row) → row (seats rows) i ≡ seat o → want_at (seats rows) want i ≡ option_and_then (λ r. want i (seat (Some r))) o
    by None e = ap (λ (s : Seat). cond s.used (want i s) None) e
    by (Some r) e = ap (λ (s : Seat). cond s.used (want i s) None) e

-- what a search finds whose answers are those of a function
pub found_by : (want : ℕ → Seat → Option Turn) {rows : List (Option Row)} {answers : ℕ → Row → Option Turn → Type 0} {found : Option Turn} → FirstWant rows answers found →
    ((i : ℕ) (r : Row) (t : Option Turn) → 1 ≤ i → i < 16 → slice_index_or rows i None ≡ Some r → answers i r t → t ≡ want i (seat (Some r))) → found ≡ first_want (seats rows) want
found_by want f h = f.first want h

-- the turn, where each search runs if the ones before it found nothing
pub turn_found : {P Q : Type 0} (rs : List Seat) (first second third : Option Turn) →
    first ≡ first_want rs expanding → MatchOption first P (λ t. second ≡ Some t) → (P → second ≡ first_want rs straying) → MatchOption second Q (λ t. third ≡ Some t) → (Q → third ≡ first_want rs (shifting rs)) →
    unwrap_or third Kept ≡ turn_of rs
turn_found rs None None third e h k l m = rw (← e, ← (k h), m l) refl
turn_found rs None (Some t) third e h k l m = rw (← e, ← (k h), l) refl
turn_found rs (Some s) None third e h k l m = cc
turn_found rs (Some s) (Some t) third e h k l m = rw (← e, l) (same_Some _ _ h)
