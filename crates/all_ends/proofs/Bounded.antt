-- No kept end has more rows than its pattern has when it is expanded; from row 0 it goes down; and row 0 alone asks for the root where that
-- holds of the pattern.
use Rattle.std.proofs.Common.{◌≡◌, ℕ, zero, suc, ◌≤◌, true, List, [], ◌∷◌, Some, None, Option, sym, subst, inl, inr, arith}
use Rattle.std.specs.List.{flat_map as each}
use Rattle.ways.specs.Rewriting.{Every}
use Rattle.ways.proofs.Ends.{every_append}
use Rattle.pattern.specs.Roots.{root_alone, all_down}
use Rattle.pattern.specs.Sizes.{in_use, path_rows}
use Rattle.all_ends.specs.Ends.{Shape, alternatives, ends_from, by_turn, ends_within, ends_of, kept_of, expanded_rows}
use Rattle.rewrite.specs.Turns.{turn_of}
use Rattle.rewrite.specs.declared.turns.Turn.{Turn}
use Rattle.rewrite.specs.declared.turns.Turn.TheVariants.{Kept, Dropped, Merge, Split, Open, Shift}
use Rattle.rewrite.proofs.Telling.{Seen, seen}
use Rattle.all_ends.proofs.Changed.{Good}
use Rattle.all_ends.proofs.Falling.{Less, alternatives_less, every_imp}
use Rattle.all_ends.proofs.Shorter.{rows_then, NoLonger, alternatives_no_longer}

-- a kept end within the bounds of s
abbrev pub Within : Shape → Shape → Type 0
Within s q = (in_use q.rows ≤ rows_then s) × (path_rows q.rows q.output ≤ expanded_rows s) × (all_down q.rows ≡ true) × (root_alone s.rows ≡ true → root_alone q.rows ≡ true)

abbrev Bound : Shape → Option Shape → Type 0
Bound s None = Unit {0}
Bound s (Some q) = Within s q

every_each : {A : Type 0} (F : Option Shape → Type 0) (f : A → List (Option Shape)) (xs : List A) → Every (λ x. Every F (f x)) xs → Every F (each f xs)
every_each F f [] h = tt
every_each F f (x ∷ xs) h = every_append F (f x) (each f xs) h.0 (every_each F f xs h.1)

every_two : {A : Type 0} (F G H : A → Type 0) (xs : List A) → ((x : A) → F x → G x → H x) → Every F xs → Every G xs → Every H xs
every_two F G H [] k a b = tt
every_two F G H (x ∷ xs) k a b = (k x a.0 b.0, every_two F G H xs k a.1 b.1)

-- what is dropped at once has no kept end
dropped_ends : (s : Shape) (f : ℕ) (q : Shape) → turn_of q.rows ≡ Dropped → Every (Bound s) (ends_within f q)
unfolding ends_within by_turn
dropped_ends s zero q e = (tt, tt)
dropped_ends s (suc f) q e = subst (λ t. Every (Bound s) (by_turn (ends_within f) q t)) (sym e) (tt, tt)

bounded : (f : ℕ) (s : Shape) → Good s → Every (Bound s) (ends_within f s)
unfolding ends_within by_turn
bounded zero s g = (tt, tt)
bounded (suc f) s g =
    go (turn_of s.rows) (seen s.rows g.whole g.ok)
    (every_two (Less s) (NoLonger s) (λ o. Every (Bound s) (ends_from (ends_within f) o)) _ (one (λ q k. bounded f q k)) (alternatives_less s g) (alternatives_no_longer s g))
  where
    wider : (q : Shape) → rows_then q ≤ rows_then s → expanded_rows q ≤ expanded_rows s → (root_alone s.rows ≡ true → root_alone q.rows ≡ true) → (o : Option Shape) → Bound q o → Bound s o
    wider q a b k None h = tt
    wider q a b k (Some r) h = (let x = h.0 in omega arith, let x = h.1 in omega arith, h.2, λ e. h.3 (k e))

    one : ((q : Shape) → Good q → Every (Bound q) (ends_within f q)) → (o : Option Shape) → Less s o → NoLonger s o → Every (Bound s) (ends_from (ends_within f) o)
    one again None a b = (tt, tt)
    one again (Some q) a (r, inl b) = every_imp (Bound q) (Bound s) _ (wider q r b a.2) (again q a.0)
    one again (Some q) a (r, inr b) = dropped_ends s f q b

    go : (t : Turn) → Seen s.rows t → Every (λ o. Every (Bound s) (ends_from (ends_within f) o)) (alternatives s t) → Every (Bound s) (by_turn (ends_within f) s t)
    go Kept h a = ((omega arith, omega arith, h.1, λ e. e), tt)
    go Dropped h a = (tt, tt)
    go (Merge z) h a = every_each (Bound s) (ends_from (ends_within f)) _ a
    go (Split z x) h a = every_each (Bound s) (ends_from (ends_within f)) _ a
    go (Open z x) h a = every_each (Bound s) (ends_from (ends_within f)) _ a
    go (Shift z upper lower) h a = every_each (Bound s) (ends_from (ends_within f)) _ a

kept_every : (s : Shape) (es : List (Option Shape)) → Every (Bound s) es → Every (Within s) (kept_of es)
unfolding kept_of
kept_every s [] h = tt
kept_every s (None ∷ es) h = kept_every s es h.1
kept_every s (Some q ∷ es) h = (h.0, kept_every s es h.1)

pub ends_bounded : (s : Shape) → Good s → Every (Within s) (kept_of (ends_of s))
unfolding ends_of
ends_bounded s g = kept_every s _ (bounded 1000000 s g)
