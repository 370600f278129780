-- Every alternative of a turn is a pattern again, with fewer turns left.
use Rattle.std.proofs.Common.{◌≡◌, ℕ, ◌+◌, ◌<◌, ◌≤◌, Bool, true, false, cond, List, [], ◌∷◌, map, Some, None, Option, sym, refl, ap, ◌∙◌, subst, inl, inr, arith}
use Rattle.record.specs.Moves.{table}
use Rattle.record.specs.declared.axis.Step.{Step}
use Rattle.record.specs.declared.axis.Axis.{Axis}
use Rattle.record.specs.declared.axis.Axis.TheVariants.{Along, Against}
use Rattle.record.specs.declared.rules.Move.{Move}
use Rattle.record.specs.declared.rules.Move.TheVariants.{Up, Join, Between}
use Rattle.ways.specs.Rewriting.{Every}
use Rattle.pattern.specs.Roots.{root_alone}
use Rattle.pattern.specs.Rows.{Seat, row, inner, deep, room, spread, MovedTo}
use Rattle.pattern.proofs.MergedRows.{up_within}
use Rattle.pattern.proofs.Moved.{inner_parts, deep_parts, room_parts}
use Rattle.all_ends.specs.Ends.{Shape, shaped, merge_into, merge_at, axis_at, next_number, open_at, by_move, move_at, alternatives}
use Rattle.all_ends.specs.Rewritten.{Among}
use Rattle.rewrite.specs.Turns.{turn_of}
use Rattle.rewrite.specs.declared.turns.Turn.{Turn}
use Rattle.rewrite.specs.declared.turns.Turn.TheVariants.{Kept, Dropped, Merge, Split, Open, Shift}
use Rattle.all_ends.proofs.Changed.{Good, MergeKnown, merge_known, MoveKnown, move_known, merged_good, moved_good, axed_good, opened_good, merged_alone, moved_alone, axed_alone, opened_alone}
use Rattle.all_ends.proofs.Changes.{rehung_weigh, merged_weigh, spread_weigh, gone, come, moved_weigh}
use Rattle.all_ends.proofs.Measures.{cost, back, costs, backs, turns_left, fewer_costs, fewer_backs, less_far, raised}
use Rattle.rewrite.proofs.Telling.{Seen, seen}

-- none, or a pattern with fewer turns left
abbrev pub Less : Shape → Option Shape → Type 0
Less s None = Unit {0}
Less s (Some q) = Good q × (turns_left q.rows < turns_left s.rows) × (root_alone s.rows ≡ true → root_alone q.rows ≡ true)

module _ (s : Shape) (g : Good s) (z : ℕ) where
  abbrev rs : List Seat
  rs = s.rows

  merged_less : inner rs z ≡ true → 1 ≤ cost (row rs z).axis → Less s (merge_at s z)
  unfolding merge_at
  merged_less i c =
      let (low, high, used) = inner_parts rs z g.whole i in
      rw i (go low high used (merge_into s z (row rs z).up) (merge_known s z (row rs z).up g.whole low (up_within rs (let w = g.whole in omega arith) g.ok z low high used)))
    where
      go : 1 ≤ z → z < 16 → (row rs z).used ≡ true → (o : Option Shape) → MergeKnown s z (row rs z).up o → Less s o
      go low high used None h = tt
      go low high used (Some q) h = (
        merged_good s g z i q h,
        fewer_costs rs q.rows (let e = merged_weigh cost rs q.rows z (row rs z).up h.0 low high used in omega arith),
        merged_alone s g z i q h.0,
      )

  axed_less : inner rs z ≡ true → (x : Axis) → cost x < cost (row rs z).axis → Less s (axis_at s z x)
  unfolding axis_at
  axed_less i x c =
      let (low, high, used) = inner_parts rs z g.whole i in
      rw i (
        axed_good s g z i x,
        fewer_costs rs _ (let e = rehung_weigh (λ r. cost r.axis) rs z (row rs z).up x low high g.whole used in omega arith),
        axed_alone s g z i x,
      )

  opened_less : (x : Axis) → cost x ≡ 0 → cost (row rs z).axis ≡ 5 → Less s (open_at s z x)
  unfolding open_at
  opened_less x a b = go (room rs z (next_number rs)) refl
    where
      n : ℕ
      n = next_number rs

      go : (b : Bool) → room rs z n ≡ b → Less s (cond b (Some (shaped (spread rs z n (n + 1) x) s.output)) None)
      go false e = tt
      go true e =
          let (i, first, last, free, spare) = room_parts rs z n g.whole e in
          let (low, high, used) = inner_parts rs z g.whole i in (
            opened_good s g z n e x,
            fewer_costs rs _ (let e = spread_weigh (λ r. cost r.axis) rs z n (n + 1) x low high first (omega arith) (omega arith) (omega arith) (omega arith) g.whole used free spare in omega arith),
            opened_alone s g z n e x,
          )

  module _ (d : deep rs z ≡ true) (sY sZ : Step) (aY : (row rs (row rs z).up).axis ≡ Along sY) (aZ : (row rs z).axis ≡ Against sZ) where
    moved_fewer : (m : Move) (q : List Seat) → MovedTo rs z m q → turns_left q < turns_left rs
    moved_fewer m q h = go m h (moved_weigh rs g.whole g.ok z d sY sZ aY aZ cost 0 0 (λ _. refl) (λ _. refl) m q h) (moved_weigh rs g.whole g.ok z d sY sZ aY aZ back 0 1 (λ _. refl) (λ _. refl) m q h)
      where
        go : (m : Move) → MovedTo rs z m q → costs q + gone 0 m ≡ costs rs + come 0 m → backs q + gone 1 m ≡ backs rs + come 0 m → turns_left q < turns_left rs
        go Up e a b =
            let (low, high, used, below) = deep_parts rs z g.whole d in
            subst (λ x. turns_left x < turns_left rs) (sym e)
            (less_far rs _ (sym (ap costs e) ∙ omega arith) (sym (ap backs e) ∙ omega arith) (raised rs g.whole g.ok z low high used below))
        go (Between x y) e a b = fewer_backs rs q (omega arith) (omega arith)
        go (Join x) e a b = fewer_backs rs q (omega arith) (omega arith)

    moved_less : (m : Move) → Less s (move_at s z m)
    unfolding move_at
    moved_less m = rw d (go (by_move s z m) (move_known s g z d m))
      where
        go : (o : Option Shape) → MoveKnown s z m o → Less s o
        go None h = tt
        go (Some q) h = (moved_good s g z d m q h, moved_fewer m q.rows h.0, moved_alone s g z d m q h.0)

pub every_imp : {A : Type 0} (F G : A → Type 0) (xs : List A) → ((x : A) → F x → G x) → Every F xs → Every G xs
every_imp F G [] f h = tt
every_imp F G (x ∷ xs) f h = (f x h.0, every_imp F G xs f h.1)

pub every_map : {A B : Type 0} (F : B → Type 0) (f : A → B) (xs : List A) → ((x : A) → F (f x)) → Every F (map f xs)
every_map F f [] h = tt
every_map F f (x ∷ xs) h = (h x, every_map F f xs h)

pub member : {A : Type 0} (F : A → Type 0) (xs : List A) → Every F xs → (x : A) → Among x xs → F x
member F [] h x i = absurd i
member F (y ∷ ys) h x (inl e) = subst F (sym e) h.0
member F (y ∷ ys) h x (inr i) = member F ys h.1 x i

pub alternatives_less : (s : Shape) (g : Good s) → Every (Less s) (alternatives s (turn_of s.rows))
unfolding alternatives
alternatives_less s g = go (turn_of s.rows) (seen s.rows g.whole g.ok)
  where
    go : (t : Turn) → Seen s.rows t → Every (Less s) (alternatives s t)
    go Kept h = tt
    go Dropped h = tt
    go (Merge z) (i, a) = (merged_less s g z i (let c : cost (row s.rows z).axis ≡ 1 = ap cost a in omega arith), tt)
    go (Split z x) (i, o) =
        let c : cost (row s.rows z).axis ≡ 2 = elim o [ inl (a, b) ↦ ap cost a | inr (a, b) ↦ ap cost a ] in
        let d : cost x ≡ 0 = elim o [ inl (a, b) ↦ ap cost b | inr (a, b) ↦ ap cost b ] in
        (axed_less s g z i x (omega arith), (merged_less s g z i (omega arith), tt))
    go (Open z x) (i, o) =
        let c : cost (row s.rows z).axis ≡ 5 = elim o [ inl (a, b) ↦ ap cost a | inr (a, b) ↦ ap cost a ] in
        let d : cost x ≡ 0 = elim o [ inl (a, b) ↦ ap cost b | inr (a, b) ↦ ap cost b ] in
        (opened_less s g z x d c, tt)
    go (Shift z upper lower) ((d, a, b), n) = every_map (Less s) (move_at s z) (table upper lower) (moved_less s g z d upper lower a b)
