-- A pattern that fits stays so, and then there is room for new rows.
use Rattle.std.proofs.Common.{◌≡◌, ℕ, ◌+◌, ◌*◌, ◌<◌, ◌≤◌, Bool, true, false, cond, ◌&&◌, ◌≢◌, List, length, Some, None, Option, sym, refl, ap, ◌∙◌, subst, inl, inr, arith}
use Rattle.std.proofs.lemmas.List.{length-set}
use Rattle.std.proofs.lemmas.Bool.{cases_eq, eq-eqb, ne_eqb, leb-true, and_parts, and_from, lt-ltb, not_from_false, both_ways}
use Rattle.record.specs.Moves.{table, bit}
use Rattle.record.specs.declared.axis.Step.{Step}
use Rattle.record.specs.declared.axis.Axis.{Axis}
use Rattle.record.specs.declared.axis.Axis.TheVariants.{Along, Against, Itself}
use Rattle.record.specs.declared.rules.Move.{Move}
use Rattle.record.specs.declared.rules.Move.TheVariants.{Up, Join, Between}
use Rattle.ways.specs.Rewriting.{Every}
use Rattle.ways.specs.Ways.{upd}
use Rattle.ways.proofs.RowSums.{upd_other}
use Rattle.pattern.specs.Rows.{Seat, row, inner, deep, room, free_two, hung, second, rehung, spread, MergedInto, MovedTo}
use Rattle.pattern.specs.Sizes.{how_many}
use Rattle.pattern.proofs.MergedRows.{up_within}
use Rattle.pattern.proofs.Moved.{inner_parts, deep_parts, room_parts, y_high, hung_used}
use Rattle.pattern.proofs.Spreads.{used_at}
use Rattle.all_ends.specs.Ends.{Shape, shaped, merge_into, merge_at, axis_at, highest, next_number, open_at, by_move, move_at, alternatives, widens, to_open, fits}
use Rattle.rewrite.specs.Turns.{turn_of}
use Rattle.rewrite.specs.declared.turns.Turn.{Turn}
use Rattle.rewrite.specs.declared.turns.Turn.TheVariants.{Kept, Dropped, Merge, Split, Open, Shift}
use Rattle.all_ends.proofs.Changed.{Good, MergeKnown, merge_known, MoveKnown, move_known}
use Rattle.all_ends.proofs.Changes.{used_only, rehung_weigh, merged_weigh, spread_weigh, gone, come, moved_weigh}
use Rattle.all_ends.proofs.Counts.{weigh, weigh_cong, how_many_weigh}
use Rattle.all_ends.proofs.Falling.{every_map, every_imp}
use Rattle.all_ends.proofs.Numbers.{above_free, used_below, highest_bound}
use Rattle.rewrite.proofs.Telling.{Seen, seen}

-- rows still to be opened
abbrev pub opening : Axis → ℕ
opening x = bit (widens x)

abbrev pub openings : List Seat → ℕ
openings rs = weigh (used_only (λ r. opening r.axis)) rs

pub bit_and : (a b : Bool) → bit (a && b) ≡ cond a (bit b) 0
bit_and true b = refl
bit_and false b = refl

pub count_openings : (rs : List Seat) → how_many to_open rs ≡ openings rs
count_openings rs = how_many_weigh to_open rs ∙ weigh_cong (λ r. bit (to_open r)) (used_only (λ r. opening r.axis)) (λ r. bit_and r.used (widens r.axis)) rs

-- the new rows have numbers
abbrev pub Numbered : List Seat → Type 0
Numbered rs = highest rs 15 + 2 * openings rs ≤ 15

pub fits_numbered : (s : Shape) → fits s ≡ true → Numbered s.rows
unfolding fits next_number
fits_numbered s e = let h = leb-true (highest s.rows 15 + 1 + 2 * how_many to_open s.rows) 16 (and_parts _ _ (and_parts _ _ e).1).0 in let c = count_openings s.rows in omega arith

-- none, or a pattern that needs no higher numbers
abbrev NoHigher : Shape → Option Shape → Type 0
NoHigher s None = Unit {0}
NoHigher s (Some q) = highest q.rows 15 + 2 * openings q.rows ≤ highest s.rows 15 + 2 * openings s.rows

-- fewer rows in use
fewer_used : (rs q : List Seat) → ((i : ℕ) → (row q i).used ≡ true → (row rs i).used ≡ true) → highest q 15 ≤ highest rs 15
fewer_used rs q h = highest_bound q 15 (highest rs 15) (λ i l u. used_below rs 15 i l (h i u))

merged_used : (rs q : List Seat) (z w : ℕ) → MergedInto rs z w q → (i : ℕ) → (row q i).used ≡ true → (row rs i).used ≡ true
merged_used rs q z w (t, e, h) i u = elim (cases_eq i z) [
  | inl k ↦ absurd (both_ways _ (ap (λ r. r.used) (h i) ∙ ap (λ b. cond b false (row rs i).used) (eq-eqb i z k)) u)
  | inr k ↦ sym (ap (λ r. r.used) (h i) ∙ ap (λ b. cond b false (row rs i).used) (ne_eqb i z k)) ∙ u
]

module _ (s : Shape) (g : Good s) (z : ℕ) where
  abbrev rs : List Seat
  rs = s.rows

  merged_higher : inner rs z ≡ true → NoHigher s (merge_at s z)
  unfolding merge_at
  merged_higher i =
      let (low, high, used) = inner_parts rs z g.whole i in
      rw i (go low high used (merge_into s z (row rs z).up) (merge_known s z (row rs z).up g.whole low (up_within rs (let w = g.whole in omega arith) g.ok z low high used)))
    where
      go : 1 ≤ z → z < 16 → (row rs z).used ≡ true → (o : Option Shape) → MergeKnown s z (row rs z).up o → NoHigher s o
      go low high used None h = tt
      go low high used (Some q) h =
          let a = merged_weigh opening rs q.rows z (row rs z).up h.0 low high used in
          let b = fewer_used rs q.rows (merged_used rs q.rows z (row rs z).up h.0) in
          omega arith

  rehung_used : (r w : ℕ) (x : Axis) → r < 16 → (i : ℕ) → (row (rehung rs r w x) i).used ≡ true → (row rs i).used ≡ true
  rehung_used r w x l i u = sym (hung_used rs r w x (let w = g.whole in omega arith) i) ∙ u

  axed_higher : inner rs z ≡ true → (x : Axis) → opening x ≤ opening (row rs z).axis → NoHigher s (axis_at s z x)
  unfolding axis_at
  axed_higher i x c =
      let (low, high, used) = inner_parts rs z g.whole i in
      let a = rehung_weigh (λ r. opening r.axis) rs z (row rs z).up x low high g.whole used in
      let b = fewer_used rs (rehung rs z (row rs z).up x) (rehung_used z (row rs z).up x high) in
      rw i (omega arith)

  opened_higher : (x : Axis) → opening x ≡ 0 → opening (row rs z).axis ≡ 1 → NoHigher s (open_at s z x)
  unfolding open_at
  opened_higher x a b = go (room rs z n) refl
    where
      n : ℕ
      n = next_number rs

      go : (b : Bool) → room rs z n ≡ b → NoHigher s (cond b (Some (shaped (spread rs z n (n + 1) x) s.output)) None)
      go false e = tt
      go true e =
          let (i, first, last, free, spare) = room_parts rs z n g.whole e in
          let (low, high, used) = inner_parts rs z g.whole i in
          let c = spread_weigh (λ r. opening r.axis) rs z n (n + 1) x low high first (omega arith) (omega arith) (omega arith) (omega arith) g.whole used free spare in
          let m : n ≡ highest rs 15 + 1 = unfold next_number in refl in
          let l : highest (spread rs z n (n + 1) x) 15 ≤ highest rs 15 + 2 =
          highest_bound (spread rs z n (n + 1) x) 15 (highest rs 15 + 2) (λ k h u. elim (cases_eq k (n + 1)) [
            | inl q ↦ omega arith
            | inr q ↦ elim (cases_eq k n) [
              | inl p ↦ omega arith
              | inr p ↦ let v = used_below rs 15 k h (sym (used_at rs g.whole z n (n + 1) x high first (omega arith) (omega arith) (omega arith) (omega arith) used free spare k ∙ upd_other (upd (λ i. (row rs i).used) n true) (n + 1) true k q ∙ upd_other (λ i. (row rs i).used) n true k p) ∙ u) in omega arith
            ]
          ]) in
          omega arith

  moved_used : deep rs z ≡ true → (m : Move) (q : List Seat) → MovedTo rs z m q → (i : ℕ) → (row q i).used ≡ true → (row rs i).used ≡ true
  moved_used d m q h i u =
      let (low, high, used, below) = deep_parts rs z g.whole d in
      go m h (y_high rs g.whole g.ok z low high used below) high
    where
      go : (m : Move) → MovedTo rs z m q → (row rs z).up < 16 → z < 16 → (row rs i).used ≡ true
      go Up e k l = rehung_used z (second rs z) (row rs z).axis l i (subst (λ x. (row x i).used ≡ true) e u)
      go (Between a b) e k l =
          let one : List Seat = rehung rs z (second rs z) (Along a) in
          let len : length one ≡ 16 = length-set rs z (hung (row rs z) (second rs z) (Along a)) ∙ g.whole in
          rehung_used z (second rs z) (Along a) l i (sym (hung_used one (row rs z).up z (Along b) (omega arith) i) ∙ subst (λ x. (row x i).used ≡ true) e u)
      go (Join a) e k l = rehung_used (row rs z).up (second rs z) (Along a) k i (merged_used (rehung rs (row rs z).up (second rs z) (Along a)) q z (second rs z) e i u)

  moved_higher : deep rs z ≡ true → (sY sZ : Step) → (row rs (row rs z).up).axis ≡ Along sY → (row rs z).axis ≡ Against sZ → (m : Move) → NoHigher s (move_at s z m)
  unfolding move_at
  moved_higher d sY sZ aY aZ m = rw d (go (by_move s z m) (move_known s g z d m))
    where
      no_more : (m : Move) (q : List Seat) → openings q + gone 0 m ≡ openings rs + come 0 m → openings q ≤ openings rs
      no_more Up q e = omega arith
      no_more (Between a b) q e = omega arith
      no_more (Join a) q e = omega arith

      go : (o : Option Shape) → MoveKnown s z m o → NoHigher s o
      go None h = tt
      go (Some q) h =
          let a = no_more m q.rows (moved_weigh rs g.whole g.ok z d sY sZ aY aZ opening 0 0 (λ _. refl) (λ _. refl) m q.rows h.0) in
          let b = fewer_used rs q.rows (moved_used d m q.rows h.0) in
          omega arith

alternatives_higher : (s : Shape) (g : Good s) → Every (NoHigher s) (alternatives s (turn_of s.rows))
unfolding alternatives
alternatives_higher s g = go (turn_of s.rows) (seen s.rows g.whole g.ok)
  where
    go : (t : Turn) → Seen s.rows t → Every (NoHigher s) (alternatives s t)
    go Kept h = tt
    go Dropped h = tt
    go (Merge z) (i, a) = (merged_higher s g z i, tt)
    go (Split z x) (i, o) =
        let d : opening x ≡ 0 = elim o [ inl (a, b) ↦ ap opening b | inr (a, b) ↦ ap opening b ] in
        (axed_higher s g z i x (omega arith), (merged_higher s g z i, tt))
    go (Open z x) (i, o) =
        let c : opening (row s.rows z).axis ≡ 1 = elim o [ inl (a, b) ↦ ap opening a | inr (a, b) ↦ ap opening a ] in
        let d : opening x ≡ 0 = elim o [ inl (a, b) ↦ ap opening b | inr (a, b) ↦ ap opening b ] in
        (opened_higher s g z x d c, tt)
    go (Shift z upper lower) ((d, a, b), n) = every_map (NoHigher s) (move_at s z) (table upper lower) (moved_higher s g z d upper lower a b)

-- so every alternative has numbers for its new rows too
abbrev pub Fit : Option Shape → Type 0
Fit None = Unit {0}
Fit (Some q) = Numbered q.rows

pub alternatives_fit : (s : Shape) (g : Good s) → Numbered s.rows → Every Fit (alternatives s (turn_of s.rows))
alternatives_fit s g f = every_imp (NoHigher s) Fit _ one (alternatives_higher s g)
  where
    one : (o : Option Shape) → NoHigher s o → Fit o
    one None h = tt
    one (Some q) h = omega arith

-- and a row that is to be opened can be
pub has_room : (rs : List Seat) (z : ℕ) → length rs ≡ 16 → Numbered rs → inner rs z ≡ true → widens (row rs z).axis ≡ true → room rs z (next_number rs) ≡ true
unfolding room free_two
has_room rs z len f i w =
    let (low, high, used) = inner_parts rs z len i in
    let k : opening (row rs z).axis ≡ 1 = ap bit w in
    let e = rehung_weigh (λ r. opening r.axis) rs z (row rs z).up Itself low high len used in
    let n : next_number rs ≡ highest rs 15 + 1 = unfold next_number in refl in
    let a : next_number rs ≢ 0 = omega arith in
    let b : next_number rs < 15 = omega arith in
    let c : (row rs (next_number rs)).used ≡ false = above_free rs 15 (next_number rs) (omega arith) (omega arith) in
    let d : (row rs (next_number rs + 1)).used ≡ false = above_free rs 15 (next_number rs + 1) (omega arith) (omega arith) in
    and_from _ _ i (and_from _ _ (not_from_false _ (ne_eqb _ _ a)) (and_from _ _ (lt-ltb _ _ b) (and_from _ _ (not_from_false _ c) (not_from_false _ d))))
