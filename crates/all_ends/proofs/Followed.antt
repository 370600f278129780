-- What following a pattern reaches, turn by turn.
use Rattle.std.proofs.Common.{◌≡◌, ℕ, zero, suc, ◌+◌, ◌*◌, ◌<◌, ◌≤◌, true, false, List, [], ◌∷◌, ◌++◌, map, length, get_or, take, drop, Some, None, Ok, Err, Option, Result, sym, refl, ap, ◌∙◌, subst, ap₂, inl, inr, arith, MatchOption}
use Rattle.std.specs.List.{flat_map as each}
use Rattle.std.specs.Option.{option_map}
use Rattle.std.proofs.lemmas.List.{append-nil, take_all, take_more, take-append-drop, drop_more}
use Rattle.std.proofs.lemmas.Bool.{both_ways}
use Rattle.std.proofs.lemmas.Grind.{flat_map-append}
use Rattle.record.specs.Moves.{table}
use Rattle.record.specs.declared.axis.Step.{Step}
use Rattle.record.specs.declared.axis.Axis.{Axis}
use Rattle.record.specs.declared.rules.Move.{Move}
use Rattle.refusal.specs.declared.refusing.Refusal.{Refusal}
use Rattle.ways.specs.Rewriting.{Every}
use Rattle.pattern.specs.Rows.{seats, all_along}
use Rattle.pattern.specs.declared.base.Pattern.{Pattern}
use Rattle.pattern.specs.declared.forward.Forward.{Forward}
use Rattle.all_ends.specs.Ends.{Shape, shape_of, merge_at, axis_at, move_at, alternatives, ends_from, by_turn, ends_of}
use Rattle.all_ends.specs.Reached.{forward_shape, Grown, Reached}
use Rattle.all_ends.specs.Rewritten.{Among}
use Rattle.rewrite.specs.Turns.{turn_of}
use Rattle.all_ends.specs.declared.base.Ends.{Ends}
use Rattle.rewrite.specs.declared.turns.Turn.{Turn}
use Rattle.rewrite.specs.declared.turns.Turn.TheVariants.{Split, Shift}
use Rattle.all_ends.proofs.Accounts.{grown_append, many_first, many_then}
use Rattle.all_ends.proofs.Changed.{good_pattern}
use Rattle.all_ends.proofs.Falling.{Less, member, alternatives_less}
use Rattle.all_ends.proofs.Measures.{turns_left}
use Rattle.all_ends.proofs.Rules.{by_the_rules}

-- the ends by some of the moves
abbrev pub by_moves : Shape → ℕ → List Move → List (Option Shape)
by_moves s z ms = each (λ m. ends_from ends_of (move_at s z m)) ms

-- the turns that are left to an alternative, and to a pattern 2 * turns-left + 1
abbrev pub left_of : Option Pattern → ℕ
left_of None = 0
left_of (Some q) = 2 * turns_left (seats q.rows) + 2

-- the ends go by the turn
module _ (P : Pattern) (len : length P.rows ≡ 16) where
  abbrev s : Shape
  s = shape_of P

  pub by_its_turn : (t : Turn) → t ≡ turn_of (seats P.rows) → ends_of s ≡ by_turn ends_of s t
  by_its_turn t e = by_the_rules s (good_pattern P len) ∙ ap (by_turn ends_of s) (sym e)

  -- where one alternative takes the pattern's place
  pub ends_one : (t : Turn) → t ≡ turn_of (seats P.rows) → (o : Option Pattern) (x : Option Shape) → option_map shape_of o ≡ x → by_turn ends_of s t ≡ ends_from ends_of x ++ [] →
      ends_from ends_of (option_map shape_of o) ≡ ends_of s
  ends_one t e o x h k = sym (by_its_turn t e ∙ k ∙ append-nil _ ∙ ap (ends_from ends_of) (sym h))

  pub ends_split : (z : ℕ) (x : Axis) → Split z x ≡ turn_of (seats P.rows) → (o : Option Pattern) → option_map shape_of o ≡ axis_at s z x → (m : Option Shape) → m ≡ merge_at s z →
      ends_from ends_of (option_map shape_of o) ++ ends_from ends_of m ≡ ends_of s
  unfolding by_turn alternatives
  ends_split z x e o h m k =
      sym (by_its_turn (Split z x) e ∙ ap₂ (λ a b. a ++ b) (ap (ends_from ends_of) (sym h)) (append-nil _ ∙ ap (ends_from ends_of) (sym k)))

  each_map : (f : Move → Option Shape) (ms : List Move) → each (ends_from ends_of) (map f ms) ≡ each (λ m. ends_from ends_of (f m)) ms
  each_map f [] = refl
  each_map f (m ∷ ms) = ap (λ l. ends_from ends_of (f m) ++ l) (each_map f ms)

  pub ends_shifted : (z : ℕ) (upper lower : Step) → Shift z upper lower ≡ turn_of (seats P.rows) → (ms : List Move) → ms ≡ table upper lower → by_moves s z ms ≡ ends_of s
  unfolding by_turn alternatives
  ends_shifted z upper lower e ms h = ap (by_moves s z) h ∙ sym (by_its_turn (Shift z upper lower) e ∙ each_map (move_at s z) (table upper lower))

  -- fewer turns are left to each alternative, so that it may be gone on with
  fewer : (o : Option Pattern) → Less s (option_map shape_of o) → left_of o < 2 * turns_left (seats P.rows) + 1
  fewer None h = omega arith
  fewer (Some q) h = let l = h.1 in omega arith

  pub ready : (t : Turn) → t ≡ turn_of (seats P.rows) → (o : Option Pattern) → Among (option_map shape_of o) (alternatives s t) → (n : ℕ) → 2 * turns_left (seats P.rows) + 1 ≡ n → left_of o < n
  ready t e o i n m =
      let less = subst (λ u. Every (Less s) (alternatives s u)) (sym e) (alternatives_less s (good_pattern P len)) in
      let l = fewer o (member (Less s) (alternatives s t) less (option_map shape_of o) i) in
      omega arith

  among_map : (f : Move → Option Shape) (ms : List Move) (i : ℕ) (d : Move) → i < length ms → Among (f (get_or ms i d)) (map f ms)
  among_map f [] i d l = absurd (omega arith)
  among_map f (m ∷ ms) zero d l = inl refl
  among_map f (m ∷ ms) (suc i) d l = inr (among_map f ms i d (omega arith))

  pub among_moves : (z : ℕ) (upper lower : Step) (ms : List Move) → ms ≡ table upper lower → (i : ℕ) (d : Move) → i < length ms → (x : Option Shape) → x ≡ move_at s z (get_or ms i d) →
      Among x (alternatives s (Shift z upper lower))
  unfolding alternatives
  among_moves z upper lower ms f i d l x h =
      let A : List Move → Option Shape → Type 0 = λ ms y. Among y (map (move_at s z) ms) in
      subst (A (table upper lower)) (sym h) (subst (λ ms'. A ms' (move_at s z (get_or ms i d))) f (among_map (move_at s z) ms i d l))

-- the ends so far, and what comes then
pub reached_first : (a b c : Ends) (xs ys : List (Option Shape)) (e : Refusal) → Reached a xs (Err e) b → Reached a (xs ++ ys) (Err e) c
reached_first a b c xs ys e (inl m) = inl m
reached_first a b c xs ys e (inr m) = inr (m.0, many_first a xs ys m.1)

pub reached_then : (a b c : Ends) (xs ys : List (Option Shape)) (r : Result (Unit {0}) Refusal) → Grown a xs b → Reached b ys r c → Reached a (xs ++ ys) r c
reached_then a b c xs ys (Ok u) g h = grown_append a b c xs ys g h
reached_then a b c xs ys (Err e) g (inl m) = inl m
reached_then a b c xs ys (Err e) g (inr m) = inr (m.0, many_then a b xs ys g m.1)

module _ (s : Shape) (z : ℕ) (ms : List Move) (i : ℕ) (d : Move) (l : i < length ms) where
  abbrev here : List (Option Shape)
  here = ends_from ends_of (move_at s z (get_or ms i d))

  moves_more : by_moves s z (take (i + 1) ms) ≡ by_moves s z (take i ms) ++ here
  moves_more = ap (by_moves s z) (take_more ms i d l) ∙ flat_map-append _ (take i ms) (get_or ms i d ∷ []) ∙ ap (λ x. by_moves s z (take i ms) ++ x) (append-nil here)

  moves_all : by_moves s z (take i ms) ++ (here ++ by_moves s z (drop (i + 1) ms)) ≡ by_moves s z ms
  moves_all =
      sym (ap (by_moves s z) (sym (take-append-drop i ms)) ∙ flat_map-append _ (take i ms) (drop i ms)
      ∙ ap (λ x. by_moves s z (take i ms) ++ by_moves s z x) (drop_more ms i d l))

  pub turn_more : (a b c : Ends) → Grown a (by_moves s z (take i ms)) b → Grown b here c → Grown a (by_moves s z (take (i + 1) ms)) c
  turn_more a b c g h = subst (λ x. Grown a x c) (sym moves_more) (grown_append a b c _ _ g h)

  pub turn_fails : (a b c : Ends) (e : Refusal) → Grown a (by_moves s z (take i ms)) b → Reached b here (Err e) c → Reached a (by_moves s z ms) (Err e) c
  turn_fails a b c e g h = subst (λ x. Reached a x (Err e) c) moves_all (reached_then a b c _ _ (Err e) g (reached_first b c c here _ e h))

pub turns_done : (s : Shape) (z : ℕ) (ms : List Move) (i : ℕ) → length ms ≤ i → (a b : Ends) → Grown a (by_moves s z (take i ms)) b → Grown a (by_moves s z ms) b
turns_done s z ms i l a b g = subst (λ x. Grown a (by_moves s z x) b) (take_all i ms l) g

-- an end that is kept
pub kept_end : (P : Pattern) (o : Option Forward) → all_along (seats P.rows) ≡ true → MatchOption o (all_along (seats P.rows) ≡ false) (λ f. f.pattern ≡ P) → option_map forward_shape o ≡ Some (shape_of P)
kept_end P None t h = absurd (both_ways _ h t)
kept_end P (Some f) t h = ap {B = Option Shape} (λ Q. Some (shape_of Q)) h

-- the exit of a `?`
pub failed : (a b : Ends) (es : List (Option Shape)) (r : Result (Unit {0}) Refusal) (x y : Refusal) → r ≡ Err x → x ≡ y → Reached a es (Err y) b → Reached a es r b
failed a b es r x y e f h = subst (λ q. Reached a es q b) (sym (e ∙ ap {B = Result (Unit {0}) Refusal} Err f)) h
