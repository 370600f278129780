-- No alternative wants a longer path than its pattern does when that is expanded, or it is dropped at once.
use Rattle.std.proofs.Common.{◌≡◌, ℕ, ◌+◌, ◌*◌, ◌<◌, ◌≤◌, Bool, true, false, cond, ◌&&◌, eqb, ltb, ◌⊎◌, List, [], ◌∷◌, length, Some, None, Option, sym, refl, ap, ◌∙◌, ap₂, inl, inr, arith}
use mathlib.Core.Path.{fun_ext}
use Rattle.std.proofs.lemmas.List.{length-set}
use Rattle.std.proofs.lemmas.Bool.{cases_eq, eq-eqb, ne_eqb, eqb-true, and_parts}
use Rattle.record.specs.Moves.{table, bit}
use Rattle.record.specs.declared.axis.Step.{Step}
use Rattle.record.specs.declared.axis.Axis.{Axis}
use Rattle.record.specs.declared.axis.Axis.TheVariants.{Along, Against}
use Rattle.record.specs.declared.rules.Move.{Move}
use Rattle.record.specs.declared.rules.Move.TheVariants.{Up, Join, Between}
use Rattle.ways.specs.Rewriting.{Every, strays}
use Rattle.ways.specs.Ways.{In}
use Rattle.ways.proofs.RowSums.{upd_same, upd_other}
use Rattle.pattern.specs.Rows.{Seat, row, fifteen, inner, deep, room, hung, second, rehung, spread, MovedTo, moved_output}
use Rattle.pattern.specs.Sizes.{how_many, in_use, at_top, forks}
use Rattle.pattern.proofs.MergedRows.{up_within, up_apart}
use Rattle.pattern.proofs.Moved.{inner_parts, deep_parts, room_parts, y_high, y_used, hung_used, hung_up, hung_axis, upd_id}
use Rattle.pattern.proofs.Trees.{in_fifteen}
use Rattle.all_ends.specs.Ends.{Shape, shaped, merge_into, merge_at, axis_at, next_number, open_at, by_move, move_at, alternatives, to_open, expanded_rows, fits}
use Rattle.rewrite.specs.Turns.{first_some, expansion_by, turn_of}
use Rattle.rewrite.specs.declared.turns.Turn.{Turn}
use Rattle.rewrite.specs.declared.turns.Turn.TheVariants.{Kept, Dropped, Merge, Split, Open, Shift}
use Rattle.all_ends.proofs.Changed.{Good, MergeKnown, merge_known, MoveKnown, move_known}
use Rattle.all_ends.proofs.Changes.{used_only, rehung_weigh, merged_weigh, spread_weigh, gone, come, moved_weigh}
use Rattle.all_ends.proofs.Counts.{weigh, weigh_cong, how_many_weigh, bit_cond}
use Rattle.all_ends.proofs.Falling.{every_map}
use Rattle.all_ends.proofs.Rooms.{opening, openings, count_openings, bit_and}
use Rattle.rewrite.proofs.Telling.{Seen, seen, expansion_at, straying_at, first_expansion, first_straying}

-- the two counts as sums over the rows in use
abbrev one_each : Axis → ℕ
one_each x = 1

abbrev tops : Seat → ℕ
tops r = bit (eqb r.up 0)

count_used : (rs : List Seat) → in_use rs ≡ weigh (used_only (λ r. one_each r.axis)) rs
count_used rs = how_many_weigh (λ r. r.used) rs ∙ weigh_cong (λ r. bit r.used) (used_only (λ r. one_each r.axis)) (λ r. bit_cond r.used) rs

count_tops : (rs : List Seat) → at_top rs ≡ weigh (used_only tops) rs
count_tops rs = how_many_weigh (λ r. r.used && eqb r.up 0) rs ∙ weigh_cong (λ r. bit (r.used && eqb r.up 0)) (used_only tops) (λ r. bit_and r.used (eqb r.up 0)) rs

bit_le : (b : Bool) → bit b ≤ 1
bit_le true = omega arith
bit_le false = omega arith

-- as many rows under row 0, with the same output
same_forks : (rs q : List Seat) (o p : ℕ) → weigh (used_only tops) q ≡ weigh (used_only tops) rs → p ≡ o → forks q p ≡ forks rs o
same_forks rs q o p e f = ap₂ (λ n k. bit (ltb (cond (eqb k 0) 0 1) n)) (count_tops q ∙ e ∙ sym (count_tops rs)) f

-- the rows of an expanded pattern
abbrev pub rows_then : Shape → ℕ
rows_then s = in_use s.rows + 2 * how_many to_open s.rows

-- none, or one with no more rows, and that wants no longer path or is dropped at once
abbrev pub NoLonger : Shape → Option Shape → Type 0
NoLonger s None = Unit {0}
NoLonger s (Some q) = (rows_then q ≤ rows_then s) × ((expanded_rows q ≤ expanded_rows s) ⊎ (turn_of q.rows ≡ Dropped))

-- one row less
fewer_rows : (s q : Shape) → in_use q.rows + 1 ≡ in_use s.rows → openings q.rows ≤ openings s.rows → NoLonger s (Some q)
fewer_rows s q a b =
    let f = bit_le (ltb (cond (eqb q.output 0) 0 1) (at_top q.rows)) in
    let c = count_openings q.rows in
    let d = count_openings s.rows in
    (omega arith, inl (omega arith))

-- a row that goes up to row 0 against a step leads nowhere from there
none_some : {A : Type 0} (t : A) → None ≡ Some t → ⊥
none_some t e = let k : ◌≡◌ {A = ℕ} 0 1 = cc in omega arith

first_same : {A : Type 0} (f h : ℕ → Option A) (L : List ℕ) → ((i : ℕ) → f i ≡ h i) → first_some f L ≡ first_some h L
first_same f h L e = ap (λ k. first_some k L) (fun_ext e)

first_only : {A : Type 0} (f : ℕ → Option A) (L : List ℕ) (t : A) → ((i : ℕ) → (f i ≡ None) ⊎ (f i ≡ Some t)) → (r : ℕ) → In r L → f r ≡ Some t → first_some f L ≡ Some t
unfolding first_some
first_only f [] t h r i e = absurd i
first_only f (k ∷ L) t h r i e = elim (h k) [
  | inl n ↦ rw (first_some, n) (elim i [ inl q ↦ absurd (none_some t (sym n ∙ sym (ap f q) ∙ e)) | inr j ↦ first_only f L t h r j e ])
  | inr n ↦ rw (first_some, n) refl
]

module _ (rs : List Seat) (len : length rs ≡ 16) (z : ℕ) (low : 1 ≤ z) (high : z < 16) (used : (row rs z).used ≡ true) (settled : first_expansion rs ≡ None) (sZ : Step) (aZ : (row rs z).axis ≡ Against sZ) where
  goes_astray : (w : ℕ) → w ≡ 0 → turn_of (rehung rs z w (row rs z).axis) ≡ Dropped
  goes_astray w e = rw (no_expansion, a_stray) refl
    where
      q : List Seat
      q = rehung rs z w (row rs z).axis

      l : z < length rs
      l = omega arith

      axes : (i : ℕ) → (row q i).axis ≡ (row rs i).axis
      axes i = hung_axis rs z w (row rs z).axis l i ∙ ap (λ f. f i) (upd_id (λ j. (row rs j).axis) z (row rs z).axis refl)

      no_expansion : first_expansion q ≡ None
      no_expansion = first_same (expansion_at q) (expansion_at rs) fifteen (λ i. ap₂ (λ u x. cond u (expansion_by i x) None) (hung_used rs z w (row rs z).axis l i) (axes i)) ∙ settled

      stray_or : (b c : Bool) → (cond b (cond c (Some Dropped) None) None ≡ None) ⊎ (cond b (cond c (Some Dropped) None) None ≡ Some Dropped)
      stray_or true true = inr refl
      stray_or true false = inl refl
      stray_or false c = inl refl

      a_stray : first_straying q ≡ Some Dropped
      a_stray =
          first_only (straying_at q) fifteen Dropped (λ i. stray_or (row q i).used (eqb (row q i).up 0 && strays (row q i).axis)) z (in_fifteen z low high)
          (let u : (row q z).used ≡ true = hung_used rs z w (row rs z).axis l z ∙ used in
          let v : eqb (row q z).up 0 ≡ true = eq-eqb _ _ (hung_up rs z w (row rs z).axis l z ∙ upd_same (λ j. (row rs j).up) z w ∙ e) in
          let x : strays (row q z).axis ≡ true = ap strays (axes z ∙ aZ) in
          rw (u, v, x) refl)

module _ (s : Shape) (g : Good s) (z : ℕ) where
  abbrev rs : List Seat
  rs = s.rows

  merged_longer : inner rs z ≡ true → NoLonger s (merge_at s z)
  unfolding merge_at
  merged_longer i =
      let (low, high, used) = inner_parts rs z g.whole i in
      rw i (go low high used (merge_into s z (row rs z).up) (merge_known s z (row rs z).up g.whole low (up_within rs (let w = g.whole in omega arith) g.ok z low high used)))
    where
      go : 1 ≤ z → z < 16 → (row rs z).used ≡ true → (o : Option Shape) → MergeKnown s z (row rs z).up o → NoLonger s o
      go low high used None h = tt
      go low high used (Some q) h =
          let a = merged_weigh opening rs q.rows z (row rs z).up h.0 low high used in
          let b = merged_weigh one_each rs q.rows z (row rs z).up h.0 low high used in
          let c = count_used rs in
          let d = count_used q.rows in
          fewer_rows s q (omega arith) (omega arith)

  axed_longer : inner rs z ≡ true → (x : Axis) → opening x ≤ opening (row rs z).axis → NoLonger s (axis_at s z x)
  unfolding axis_at
  axed_longer i x c =
      let (low, high, used) = inner_parts rs z g.whole i in
      let q : List Seat = rehung rs z (row rs z).up x in
      let a = rehung_weigh (λ r. opening r.axis) rs z (row rs z).up x low high g.whole used in
      let b = rehung_weigh (λ r. one_each r.axis) rs z (row rs z).up x low high g.whole used in
      let d = rehung_weigh tops rs z (row rs z).up x low high g.whole used in
      let e : weigh (used_only tops) q ≡ weigh (used_only tops) rs = omega arith in
      let f = same_forks rs q s.output s.output e refl in
      let u = count_used rs in
      let v = count_used q in
      let k = count_openings rs in
      let l = count_openings q in
      rw i (omega arith, inl (omega arith))

  opened_longer : (x : Axis) → opening x ≡ 0 → opening (row rs z).axis ≡ 1 → NoLonger s (open_at s z x)
  unfolding open_at
  opened_longer x a b = go (room rs z n) refl
    where
      n : ℕ
      n = next_number rs

      go : (b : Bool) → room rs z n ≡ b → NoLonger s (cond b (Some (shaped (spread rs z n (n + 1) x) s.output)) None)
      go false e = tt
      go true e =
          let (i, first, last, free, spare) = room_parts rs z n g.whole e in
          let (low, high, used) = inner_parts rs z g.whole i in
          let q : List Seat = spread rs z n (n + 1) x in
          let c = spread_weigh (λ r. opening r.axis) rs z n (n + 1) x low high first (omega arith) (omega arith) (omega arith) (omega arith) g.whole used free spare in
          let d = spread_weigh (λ r. one_each r.axis) rs z n (n + 1) x low high first (omega arith) (omega arith) (omega arith) (omega arith) g.whole used free spare in
          let t = spread_weigh tops rs z n (n + 1) x low high first (omega arith) (omega arith) (omega arith) (omega arith) g.whole used free spare in
          let t_n : bit (eqb n 0) ≡ 0 = ap bit (ne_eqb n 0 (omega arith)) in
          let t_m : bit (eqb (n + 1) 0) ≡ 0 = ap bit (ne_eqb (n + 1) 0 (omega arith)) in
          let e : weigh (used_only tops) q ≡ weigh (used_only tops) rs = omega arith in
          let f = same_forks rs q s.output s.output e refl in
          let u = count_used rs in
          let v = count_used q in
          let k = count_openings rs in
          let l = count_openings q in
          (omega arith, inl (omega arith))

  module _ (d : deep rs z ≡ true) (sY sZ : Step) (aY : (row rs (row rs z).up).axis ≡ Along sY) (aZ : (row rs z).axis ≡ Against sZ) (settled : first_expansion rs ≡ None) where
    abbrev y : ℕ
    y = (row rs z).up

    low : 1 ≤ z
    low = (deep_parts rs z g.whole d).0

    high : z < 16
    high = (deep_parts rs z g.whole d).1

    used : (row rs z).used ≡ true
    used = (deep_parts rs z g.whole d).2

    below : 1 ≤ y
    below = (deep_parts rs z g.whole d).3

    -- as many rows
    up_rows : (q : Shape) → openings q.rows + 0 ≡ openings rs + 0 → weigh (used_only (λ r. one_each r.axis)) q.rows + 0 ≡ weigh (used_only (λ r. one_each r.axis)) rs + 0 → rows_then q ≤ rows_then s
    up_rows q a b =
        let u = count_used rs in
        let v = count_used q.rows in
        let c = count_openings rs in
        let d = count_openings q.rows in
        omega arith

    longer : (q : Shape) → forks q.rows q.output ≡ forks rs s.output → openings q.rows + 0 ≡ openings rs + 0 →
        (k : ℕ) → weigh (used_only (λ r. one_each r.axis)) q.rows + k ≡ weigh (used_only (λ r. one_each r.axis)) rs + k → NoLonger s (Some q)
    longer q f a k b =
        let u = count_used rs in
        let v = count_used q.rows in
        let c = count_openings rs in
        let d = count_openings q.rows in
        (omega arith, inl (omega arith))

    moved_longer : (m : Move) → NoLonger s (move_at s z m)
    unfolding move_at
    moved_longer m = rw d (go (by_move s z m) (move_known s g z d m))
      where
        by : (m : Move) (q : Shape) → MovedTo rs z m q.rows → q.output ≡ moved_output rs z m s.output →
            openings q.rows + gone 0 m ≡ openings rs + come 0 m → weigh (used_only (λ r. one_each r.axis)) q.rows + gone 1 m ≡ weigh (used_only (λ r. one_each r.axis)) rs + come 1 m → NoLonger s (Some q)
        by Up q e o a b = elim (cases_eq (second rs z) 0) [
          | inl w ↦ (up_rows q a b, inr (ap turn_of e ∙ goes_astray rs g.whole z low high used settled sZ aZ (second rs z) w))
          | inr w ↦
              let p = rehung_weigh tops rs z (second rs z) (row rs z).axis low high g.whole used in
              let ty : bit (eqb y 0) ≡ 0 = ap bit (ne_eqb y 0 (let h = below in omega arith)) in
              let tw : bit (eqb (second rs z) 0) ≡ 0 = ap bit (ne_eqb (second rs z) 0 w) in
              let f = same_forks rs q.rows s.output q.output (ap (weigh (used_only tops)) e ∙ omega arith) o in
              longer q f a 0 b
        ]
        by (Between x t) q e o a b =
            let one : List Seat = rehung rs z (second rs z) (Along x) in
            let l : length one ≡ 16 = length-set rs z (hung (row rs z) (second rs z) (Along x)) ∙ g.whole in
            let yh = y_high rs g.whole g.ok z low high used below in
            let lz : z < length rs = let w = g.whole in let h = high in omega arith in
            let yu : (row one y).used ≡ true = hung_used rs z (second rs z) (Along x) lz y ∙ y_used rs g.whole g.ok z low high used below in
            let up_y : (row one y).up ≡ second rs z = hung_up rs z (second rs z) (Along x) lz y ∙ upd_other (λ j. (row rs j).up) z (second rs z) y (up_apart rs (let w = g.whole in omega arith) g.ok z low high used) in
            let p = rehung_weigh tops rs z (second rs z) (Along x) low high g.whole used in
            let r = rehung_weigh tops one y z (Along t) below yh l yu in
            let ty : bit (eqb y 0) ≡ 0 = ap bit (ne_eqb y 0 (let h = below in omega arith)) in
            let tz : bit (eqb z 0) ≡ 0 = ap bit (ne_eqb z 0 (let h = low in omega arith)) in
            let tu : bit (eqb (row one y).up 0) ≡ bit (eqb (second rs z) 0) = ap (λ k. bit (eqb k 0)) up_y in
            let f = same_forks rs q.rows s.output q.output (ap (weigh (used_only tops)) e ∙ omega arith) o in
            longer q f a 1 b
        by (Join x) q e o a b =
            let u = count_used rs in
            let v = count_used q.rows in
            fewer_rows s q (omega arith) (omega arith)

        go : (o : Option Shape) → MoveKnown s z m o → NoLonger s o
        go None h = tt
        go (Some q) h =
            by m q h.0 h.1
            (moved_weigh rs g.whole g.ok z d sY sZ aY aZ opening 0 0 (λ _. refl) (λ _. refl) m q.rows h.0)
            (moved_weigh rs g.whole g.ok z d sY sZ aY aZ one_each 1 1 (λ _. refl) (λ _. refl) m q.rows h.0)

pub alternatives_no_longer : (s : Shape) (g : Good s) → Every (NoLonger s) (alternatives s (turn_of s.rows))
unfolding alternatives
alternatives_no_longer s g = go (turn_of s.rows) (seen s.rows g.whole g.ok)
  where
    go : (t : Turn) → Seen s.rows t → Every (NoLonger s) (alternatives s t)
    go Kept h = tt
    go Dropped h = tt
    go (Merge z) (i, a) = (merged_longer s g z i, tt)
    go (Split z x) (i, o) =
        let d : opening x ≡ 0 = elim o [ inl (a, b) ↦ ap opening b | inr (a, b) ↦ ap opening b ] in
        (axed_longer s g z i x (omega arith), (merged_longer s g z i, tt))
    go (Open z x) (i, o) =
        let c : opening (row s.rows z).axis ≡ 1 = elim o [ inl (a, b) ↦ ap opening a | inr (a, b) ↦ ap opening a ] in
        let d : opening x ≡ 0 = elim o [ inl (a, b) ↦ ap opening b | inr (a, b) ↦ ap opening b ] in
        (opened_longer s g z x d c, tt)
    go (Shift z upper lower) ((d, a, b), n) = every_map (NoLonger s) (move_at s z) (table upper lower) (moved_longer s g z d upper lower a b n)

-- a pattern that fits has sixteen rows
pub fits_whole : (s : Shape) → fits s ≡ true → length s.rows ≡ 16
unfolding fits
fits_whole s e = eqb-true (length s.rows) 16 (and_parts _ _ e).0
