-- What the ends of a pattern come to, in any semiring, with the output at any place.
use Rattle.std.proofs.Common.{◌≡◌, ℕ, zero, suc, ◌+◌, ◌<◌, ◌≤◌, true, eqb, ◌⊎◌, List, [], ◌∷◌, map, length, Some, None, Option, sym, refl, ap, ◌∙◌, ap₂, inl, inr, arith}
use Rattle.std.specs.List.{flat_map as each}
use Rattle.record.specs.Moves.{table}
use Rattle.record.specs.Records.{Record, depth_at}
use Rattle.record.specs.declared.axis.Step.{Step}
use Rattle.record.specs.declared.axis.Step.TheVariants.{Descendant, FollowingSibling}
use Rattle.record.specs.declared.axis.Reach.TheVariants.{DescendantOrSelf, AncestorOrSelf, Following, Preceding}
use Rattle.record.specs.declared.axis.Axis.{Axis}
use Rattle.record.specs.declared.axis.Axis.TheVariants.{Along, Against, Itself, Wide}
use Rattle.record.specs.declared.place.Place.{Place}
use Rattle.record.specs.declared.rules.Move.{Move}
use Rattle.record.proofs.Proved.{root_depth, all_steps, all_nested}
use Rattle.tally.specs.Semirings.{Semiring, bracket, total}
use Rattle.ways.specs.Rewriting.{moved, Every}
use Rattle.ways.specs.Merging.{merged}
use Rattle.ways.specs.Ways.{Weighted, Tree, value, weighted, held}
use Rattle.ways.proofs.Whole.{dropped, total_append, map_append}
use Rattle.pattern.specs.Questions.{label_at, pattern_of, test_gain, value_within, value_at}
use Rattle.pattern.specs.Rows.{Seat, row, second, inner, deep, room, rehung, spread}
use Rattle.pattern.specs.declared.base.Pattern.{Pattern}
use Rattle.pattern.proofs.Kept.{self_kept, merged_kept, merged_dropped}
use Rattle.pattern.proofs.MergedRows.{up_within}
use Rattle.pattern.proofs.Moved.{inner_parts, deep_parts, room_parts}
use Rattle.pattern.proofs.Trees.{in_rows, height, tree_of}
use Rattle.all_ends.specs.Ends.{Shape, shape_of, merge_into, merge_at, axis_at, next_number, open_at, by_move, move_at, alternatives, ends_from, by_turn, ends_within, widens}
use Rattle.rewrite.specs.Turns.{turn_of}
use Rattle.rewrite.specs.declared.turns.Turn.{Turn}
use Rattle.rewrite.specs.declared.turns.Turn.TheVariants.{Kept, Dropped, Merge, Split, Open, Shift}
use Rattle.all_ends.proofs.Changed.{Good, MergeKnown, merge_known, MoveKnown, move_known}
use Rattle.all_ends.proofs.Falling.{Less, alternatives_less}
use Rattle.all_ends.proofs.Rooms.{Fit, Numbered, alternatives_fit, has_room}
use Rattle.rewrite.proofs.Held.{moved_kept, moved_dropped, moves_kept, below_split, above_split, following_opened, preceding_opened}
use Rattle.all_ends.proofs.Measures.{turns_left}
use Rattle.rewrite.proofs.Proved.{apart_live}
use Rattle.rewrite.proofs.Telling.{Stray, Seen, seen}

module _ {T : Type 0} (S : Semiring T) (places : List Place) (rec : Record places) (p : ℕ) where
  abbrev v : ℕ → T
  v q = bracket S (eqb p q)

  abbrev plain : List Seat → Weighted T
  plain rs = pattern_of (test_gain S (label_at places)) rs

  -- what a pattern comes to with its output at p; nothing where there is none
  pub worth : Option Shape → T
  worth None = S.nought
  worth (Some s) = value S (depth_at places) (length places) (weighted S (plain s.rows) s.output v)

  pub worth_none : worth None ≡ S.nought
  unfolding worth
  worth_none = refl

  pub worth_value : (P : Pattern) → worth (Some (shape_of P)) ≡ value_at S places P p
  unfolding worth value_at value_within held
  worth_value P = refl

  module _ (s : Shape) (g : Good s) (z : ℕ) where
    abbrev rs : List Seat
    rs = s.rows

    abbrev merging : T
    merging = value S (depth_at places) (length places) (merged S (weighted S (plain rs) s.output v) (row rs z).up z)

    worth_merged : inner rs z ≡ true → merging ≡ worth (merge_at s z)
    unfolding merge_at
    worth_merged i =
        let (low, high, used) = inner_parts rs z g.whole i in
        rw i (go low high used (merge_into s z (row rs z).up) (merge_known s z (row rs z).up g.whole low (up_within rs (let w = g.whole in omega arith) g.ok z low high used)))
      where
        go : 1 ≤ z → z < 16 → (row rs z).used ≡ true → (o : Option Shape) → MergeKnown s z (row rs z).up o → merging ≡ worth o
        go low high used None h = unfold worth in merged_dropped S (depth_at places) (length places) rec.some_place (label_at places) rs g.whole g.ok z low high used h s.output v
        go low high used (Some q) h = unfold worth in
            merged_kept S (depth_at places) (length places) rec.some_place (label_at places) rs g.whole g.ok z low high used q.rows h.0 s.output v
            ∙ ap (λ o. value S (depth_at places) (length places) (weighted S (plain q.rows) o v)) (sym h.1)

    abbrev worth_s : T
    worth_s = value S (depth_at places) (length places) (weighted S (plain rs) s.output v)

    worth_self : inner rs z ≡ true → (row rs z).axis ≡ Itself → worth_s ≡ worth (merge_at s z)
    worth_self i a =
        let (low, high, used) = inner_parts rs z g.whole i in
        self_kept S (depth_at places) (length places) rec.some_place (label_at places) rs g.whole g.ok z low high used a s.output v ∙ worth_merged i

    worth_axed : inner rs z ≡ true → (x : Axis) → value S (depth_at places) (length places) (weighted S (plain (rehung rs z (row rs z).up x)) s.output v) ≡ worth (axis_at s z x)
    unfolding axis_at worth
    worth_axed i x = rw i refl

    worth_split : inner rs z ≡ true → (x : Axis) → (((row rs z).axis ≡ Wide DescendantOrSelf) × (x ≡ Along Descendant)) ⊎ (((row rs z).axis ≡ Wide AncestorOrSelf) × (x ≡ Against Descendant)) →
        worth_s ≡ S.plus (worth (axis_at s z x)) (worth (merge_at s z))
    worth_split i x o =
        let (low, high, used) = inner_parts rs z g.whole i in
        elim o [
          | inl (a, e) ↦ below_split S (depth_at places) (root_depth places rec) (all_steps places rec) (length places) rec.some_place (all_nested places rec) (label_at places) rs g.whole g.ok z low high used s.output v a
              ∙ ap₂ S.plus (worth_axed i (Along Descendant) ∙ ap (λ y. worth (axis_at s z y)) (sym e)) (worth_merged i)
          | inr (a, e) ↦ above_split S (depth_at places) (root_depth places rec) (all_steps places rec) (length places) rec.some_place (all_nested places rec) (label_at places) rs g.whole g.ok z low high used s.output v a
              ∙ ap₂ S.plus (worth_axed i (Against Descendant) ∙ ap (λ y. worth (axis_at s z y)) (sym e)) (worth_merged i)
        ]

    worth_spread : (x : Axis) → room rs z (next_number rs) ≡ true → value S (depth_at places) (length places) (weighted S (plain (spread rs z (next_number rs) (next_number rs + 1) x)) s.output v) ≡ worth (open_at s z x)
    unfolding open_at worth
    worth_spread x r = rw r refl

    worth_opened : inner rs z ≡ true → Numbered rs → (x : Axis) → (((row rs z).axis ≡ Wide Following) × (x ≡ Along FollowingSibling)) ⊎ (((row rs z).axis ≡ Wide Preceding) × (x ≡ Against FollowingSibling)) →
        worth_s ≡ worth (open_at s z x)
    worth_opened i f x o =
        let n : ℕ = next_number rs in
        let r : room rs z n ≡ true = has_room rs z g.whole f i (elim o [ inl (a, e) ↦ ap widens a | inr (a, e) ↦ ap widens a ]) in
        let (j, first, last, free, spare) = room_parts rs z n g.whole r in
        let (low, high, used) = inner_parts rs z g.whole i in
        let o_n = apart_live rs s.output n g.shown first free in
        let o_m = apart_live rs s.output (n + 1) g.shown (omega arith) spare in
        elim o [
          | inl (a, e) ↦ following_opened S (depth_at places) (root_depth places rec) (all_steps places rec) (length places) rec.some_place (all_nested places rec) (label_at places) rs g.whole g.ok z low high used s.output v
              n (n + 1) first (omega arith) (omega arith) (omega arith) (omega arith) free spare o_n o_m a
              ∙ worth_spread (Along FollowingSibling) r ∙ ap (λ y. worth (open_at s z y)) (sym e)
          | inr (a, e) ↦ preceding_opened S (depth_at places) (root_depth places rec) (all_steps places rec) (length places) rec.some_place (all_nested places rec) (label_at places) rs g.whole g.ok z low high used s.output v
              n (n + 1) first (omega arith) (omega arith) (omega arith) (omega arith) free spare o_n o_m a
              ∙ worth_spread (Against FollowingSibling) r ∙ ap (λ y. worth (open_at s z y)) (sym e)
        ]

    worth_moved : deep rs z ≡ true → (m : Move) → value S (depth_at places) (length places) (moved S (weighted S (plain rs) s.output v) (second rs z) (row rs z).up z m) ≡ worth (move_at s z m)
    unfolding move_at
    worth_moved d m =
        let (low, high, used, below) = deep_parts rs z g.whole d in
        rw d (go low high used below (by_move s z m) (move_known s g z d m))
      where
        go : 1 ≤ z → z < 16 → (row rs z).used ≡ true → 1 ≤ (row rs z).up → (o : Option Shape) → MoveKnown s z m o →
            value S (depth_at places) (length places) (moved S (weighted S (plain rs) s.output v) (second rs z) (row rs z).up z m) ≡ worth o
        go low high used below None h = unfold worth in
            moved_dropped S (depth_at places) (root_depth places rec) (all_steps places rec) (length places) rec.some_place (label_at places) rs g.whole g.ok z low high used below s.output v m h
        go low high used below (Some q) h = unfold worth in
            moved_kept S (depth_at places) (root_depth places rec) (all_steps places rec) (length places) rec.some_place (label_at places) rs g.whole g.ok z low high used below s.output v m q.rows h.0
            ∙ ap (λ o. value S (depth_at places) (length places) (weighted S (plain q.rows) o v)) (sym h.1)

    totals : (f : Move → T) (h : Move → Option Shape) → ((m : Move) → f m ≡ worth (h m)) → (ms : List Move) → total S (map f ms) ≡ total S (map worth (map h ms))
    unfolding total
    totals f h e [] = refl
    totals f h e (m ∷ ms) = ap₂ S.plus (e m) (totals f h e ms)

    worth_shifted : deep rs z ≡ true → (sY sZ : Step) → (row rs (row rs z).up).axis ≡ Along sY → (row rs z).axis ≡ Against sZ → worth_s ≡ total S (map worth (map (move_at s z) (table sY sZ)))
    worth_shifted d sY sZ aY aZ =
        let (low, high, used, below) = deep_parts rs z g.whole d in
        moves_kept S (depth_at places) (root_depth places rec) (all_steps places rec) (length places) rec.some_place (label_at places) rs g.whole g.ok z low high used below s.output v sY sZ aY aZ
        ∙ totals _ (move_at s z) (worth_moved d) (table sY sZ)

  -- a pattern that goes astray is worth nothing
  worth_astray : (s : Shape) (g : Good s) → Stray s.rows → worth (Some s) ≡ S.nought
  unfolding worth
  worth_astray s g (r, low, high, used, a, u) =
      dropped S (depth_at places) (root_depth places rec) (all_steps places rec) (length places) rec.some_place
      (weighted S (plain s.rows) s.output v) (height (λ i. (row s.rows i).up) 16) tree_held r
      (unfold weighted in in_rows (test_gain S (label_at places)) s.rows r low high used) (unfold weighted pattern_of in a) (unfold weighted pattern_of in u)
    where
      tree_held : Tree (weighted S (plain s.rows) s.output v) (height (λ i. (row s.rows i).up) 16)
      tree_held = let t = tree_of (test_gain S (label_at places)) s.rows (let w = g.whole in omega arith) g.ok in unfold weighted in record { apart = t.apart; no_root = t.no_root; ups = t.ups; ranks = t.ranks }

  -- sums of sums
  total_each : {A : Type 0} (f : A → List (Option Shape)) (xs : List A) → total S (map worth (each f xs)) ≡ total S (map (λ x. total S (map worth (f x))) xs)
  unfolding total
  total_each f [] = refl
  total_each f (x ∷ xs) = ap (total S) (map_append S worth (f x) (each f xs)) ∙ total_append S _ _ ∙ ap (S.plus (total S (map worth (f x)))) (total_each f xs)

  total_every : (f : Option Shape → T) (xs : List (Option Shape)) → Every (λ o. f o ≡ worth o) xs → total S (map f xs) ≡ total S (map worth xs)
  unfolding total
  total_every f [] h = refl
  total_every f (x ∷ xs) h = ap₂ S.plus h.0 (total_every f xs h.1)

  total_one : (x : T) → total S (x ∷ []) ≡ x
  unfolding total
  total_one x = S.plus_nought x

  pub ends_kept : (f : ℕ) (s : Shape) → Good s → Numbered s.rows → turns_left s.rows < f → total S (map worth (ends_within f s)) ≡ worth (Some s)
  unfolding ends_within by_turn
  ends_kept zero s g h l = absurd (omega arith)
  ends_kept (suc f) s g h l =
      go (turn_of s.rows) (seen s.rows g.whole g.ok)
      (every_both (Less s) Fit (λ o. total S (map worth (ends_from (ends_within f) o)) ≡ worth o) (alternatives s (turn_of s.rows)) (one (λ q k i j. ends_kept f q k i (omega arith))) (alternatives_less s g) (alternatives_fit s g h))
    where
      every_both : (F G H : Option Shape → Type 0) (xs : List (Option Shape)) → ((x : Option Shape) → F x → G x → H x) → Every F xs → Every G xs → Every H xs
      every_both F G H [] k a b = tt
      every_both F G H (x ∷ xs) k a b = (k x a.0 b.0, every_both F G H xs k a.1 b.1)

      one : ((q : Shape) → Good q → Numbered q.rows → turns_left q.rows < turns_left s.rows → total S (map worth (ends_within f q)) ≡ worth (Some q)) →
          (o : Option Shape) → Less s o → Fit o → total S (map worth (ends_from (ends_within f) o)) ≡ worth o
      one again None a b = total_one (worth None)
      one again (Some q) a b = again q a.0 b a.1

      go : (t : Turn) → Seen s.rows t → Every (λ o. total S (map worth (ends_from (ends_within f) o)) ≡ worth o) (alternatives s t) → total S (map worth (by_turn (ends_within f) s t)) ≡ worth (Some s)
      go Kept k a = total_one (worth (Some s))
      go Dropped k a = total_one (worth None) ∙ unfold worth in sym (worth_astray s g k)
      go (Merge z) k a = total_each (ends_from (ends_within f)) _ ∙ total_every _ _ a ∙ unfold alternatives worth in total_one _ ∙ sym (worth_self s g z k.0 k.1)
      go (Split z x) k a = total_each (ends_from (ends_within f)) _ ∙ total_every _ _ a ∙ unfold alternatives worth total in ap (S.plus _) (S.plus_nought _) ∙ sym (worth_split s g z k.0 x k.1)
      go (Open z x) k a = total_each (ends_from (ends_within f)) _ ∙ total_every _ _ a ∙ unfold alternatives worth in total_one _ ∙ sym (worth_opened s g z k.0 h x k.1)
      go (Shift z upper lower) k a = total_each (ends_from (ends_within f)) _ ∙ total_every _ _ a ∙ unfold alternatives worth in sym (worth_shifted s g z k.0.0 upper lower k.0.1 k.0.2)
