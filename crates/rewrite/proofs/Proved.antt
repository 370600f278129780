-- The laws, of patterns and the places of a record.
use Rattle.std.proofs.Common.{◌≡◌, ℕ, ◌+◌, ◌<◌, ◌≤◌, true, false, eqb, ◌≢◌, List, [], ◌∷◌, map, length, Some, None, Option, sym, refl, ◌∙◌, ap₂, arith}
use Rattle.std.proofs.lemmas.Grind.{common_steps}
use Rattle.record.specs.Moves.{table}
use Rattle.record.specs.Records.{Record, depth_at}
use Rattle.record.specs.declared.place.Place.{Place}
use Rattle.record.specs.declared.rules.Move.{Move}
use Rattle.record.proofs.Proved.{root_depth, all_steps, all_nested}
use Rattle.tally.specs.Semirings.{Semiring, bracket, total}
use Rattle.ways.specs.Rewriting.{moved}
use Rattle.ways.specs.Merging.{merged}
use Rattle.ways.specs.Ways.{value, weighted, held}
use Rattle.pattern.specs.Questions.{label_at, pattern_of, test_gain, value_within, value_at}
use Rattle.pattern.specs.Rows.{Seat, seats, row, second, live}
use Rattle.pattern.specs.declared.base.Pattern.{Pattern}
use Rattle.pattern.proofs.SeatLists.{seats_long}
use Rattle.pattern.proofs.Kept.{merged_kept, merged_dropped}
use Rattle.pattern.proofs.Moved.{inner_parts, deep_parts, room_parts}
use Rattle.pattern.specs.Changes.{MergeOf, MoveOf}
use Rattle.rewrite.specs.Laws.{value_of_rest, MovesOf, ChangeLaws}
use Rattle.rewrite.proofs.Held.{moved_kept, moved_dropped, moves_kept, below_split, above_split, following_opened, preceding_opened}

-- a row that is in use is not one that is free
pub apart_live : (rs : List Seat) (o k : ℕ) → live rs o ≡ true → 1 ≤ k → (row rs k).used ≡ false → o ≢ k
unfolding live
apart_live rs o k h l f e = grind (arith, common_steps)

module _ {T : Type 0} (S : Semiring T) (places : List Place) (rec : Record places) (P : Pattern) (len : length (seats P.rows) ≡ 16) (p : ℕ) where
  abbrev v : ℕ → T
  v q = bracket S (eqb p q)

  abbrev worth : List Seat → ℕ → T
  worth rs o = value S (depth_at places) (length places) (weighted S (pattern_of (test_gain S (label_at places)) rs) o v)

  value_worth : (Q : Pattern) → value_at S places Q p ≡ worth (seats Q.rows) Q.output
  unfolding value_at value_within held
  value_worth Q = refl

  same_worth : (Q : Pattern) (rs : List Seat) (o : ℕ) → seats Q.rows ≡ rs → Q.output ≡ o → worth rs o ≡ value_at S places Q p
  same_worth Q rs o a b = sym (value_worth Q ∙ ap₂ worth a b)

  -- one move
  module _ (z : ℕ) (low : 1 ≤ z) (high : z < 16) (used : (row (seats P.rows) z).used ≡ true) (below : 1 ≤ (row (seats P.rows) z).up) where
    abbrev by : Move → T
    by m = value S (depth_at places) (length places) (moved S (weighted S (pattern_of (test_gain S (label_at places)) (seats P.rows)) P.output v) (second (seats P.rows) z) (row (seats P.rows) z).up z m)

    one : (m : Move) (r : Option Pattern) → MoveOf P z m r → by m ≡ value_of_rest S places r p
    unfolding value_of_rest
    one m None d = moved_dropped S (depth_at places) (root_depth places rec) (all_steps places rec) (length places) rec.some_place (label_at places) (seats P.rows) len P.ok z low high used below P.output v m d
    one m (Some Q) h =
        moved_kept S (depth_at places) (root_depth places rec) (all_steps places rec) (length places) rec.some_place (label_at places) (seats P.rows) len P.ok z low high used below P.output v m (seats Q.rows) h.0
        ∙ same_worth Q (seats Q.rows) _ refl h.1

    pub many : (ms : List Move) (rest : List (Option Pattern)) → MovesOf P z ms rest → total S (map by ms) ≡ total S (map (λ r. value_of_rest S places r p) rest)
    unfolding total
    many [] [] h = refl
    many [] (r ∷ rest) h = absurd h
    many (m ∷ ms) [] h = absurd h
    many (m ∷ ms) (r ∷ rest) h = ap₂ S.plus (one m r h.0) (many ms rest h.1)

  -- a merged row
  module _ (z : ℕ) (low : 1 ≤ z) (high : z < 16) (used : (row (seats P.rows) z).used ≡ true) where
    pub merged_rest : (r : Option Pattern) → MergeOf P z r →
        value S (depth_at places) (length places) (merged S (weighted S (pattern_of (test_gain S (label_at places)) (seats P.rows)) P.output v) (row (seats P.rows) z).up z) ≡ value_of_rest S places r p
    unfolding value_of_rest
    merged_rest None d = merged_dropped S (depth_at places) (length places) rec.some_place (label_at places) (seats P.rows) len P.ok z low high used d P.output v
    merged_rest (Some Q) h =
        merged_kept S (depth_at places) (length places) rec.some_place (label_at places) (seats P.rows) len P.ok z low high used (seats Q.rows) h.0 P.output v
        ∙ same_worth Q (seats Q.rows) _ refl h.1

pub change_laws : {T : Type 0} (S : Semiring T) → ChangeLaws S
change_laws S = record {
  moves = λ places rec P len z sY sZ d aY aZ rest h p.
      let (low, high, used, below) = deep_parts (seats P.rows) z (seats_long P.rows ∙ len) d in
      value_worth S places rec P (seats_long P.rows ∙ len) p P
      ∙ moves_kept S (depth_at places) (root_depth places rec) (all_steps places rec) (length places) rec.some_place (label_at places) (seats P.rows) (seats_long P.rows ∙ len) P.ok z low high used below P.output (λ q. bracket S (eqb p q)) sY sZ aY aZ
      ∙ many S places rec P (seats_long P.rows ∙ len) p z low high used below (table sY sZ) rest h;
  descendant_or_self = λ places rec P Q len z i a eq out r h p.
      let (low, high, used) = inner_parts (seats P.rows) z (seats_long P.rows ∙ len) i in
      value_worth S places rec P (seats_long P.rows ∙ len) p P
      ∙ below_split S (depth_at places) (root_depth places rec) (all_steps places rec) (length places) rec.some_place (all_nested places rec) (label_at places) (seats P.rows) (seats_long P.rows ∙ len) P.ok z low high used P.output (λ q. bracket S (eqb p q)) a
      ∙ ap₂ S.plus (same_worth S places rec P (seats_long P.rows ∙ len) p Q _ _ eq out) (merged_rest S places rec P (seats_long P.rows ∙ len) p z low high used r h);
  ancestor_or_self = λ places rec P Q len z i a eq out r h p.
      let (low, high, used) = inner_parts (seats P.rows) z (seats_long P.rows ∙ len) i in
      value_worth S places rec P (seats_long P.rows ∙ len) p P
      ∙ above_split S (depth_at places) (root_depth places rec) (all_steps places rec) (length places) rec.some_place (all_nested places rec) (label_at places) (seats P.rows) (seats_long P.rows ∙ len) P.ok z low high used P.output (λ q. bracket S (eqb p q)) a
      ∙ ap₂ S.plus (same_worth S places rec P (seats_long P.rows ∙ len) p Q _ _ eq out) (merged_rest S places rec P (seats_long P.rows ∙ len) p z low high used r h);
  following = λ places rec P Q len z n g a eq out p.
      let (i, first, last, free, spare) = room_parts (seats P.rows) z n (seats_long P.rows ∙ len) g in
      let (low, high, used) = inner_parts (seats P.rows) z (seats_long P.rows ∙ len) i in
      value_worth S places rec P (seats_long P.rows ∙ len) p P
      ∙ following_opened S (depth_at places) (root_depth places rec) (all_steps places rec) (length places) rec.some_place (all_nested places rec) (label_at places) (seats P.rows) (seats_long P.rows ∙ len) P.ok z low high used P.output (λ q. bracket S (eqb p q))
      n (n + 1) first (omega arith) (omega arith) (omega arith) (omega arith) free spare (apart_live (seats P.rows) P.output n P.shown first free) (apart_live (seats P.rows) P.output (n + 1) P.shown (omega arith) spare) a
      ∙ same_worth S places rec P (seats_long P.rows ∙ len) p Q _ _ eq out;
  preceding = λ places rec P Q len z n g a eq out p.
      let (i, first, last, free, spare) = room_parts (seats P.rows) z n (seats_long P.rows ∙ len) g in
      let (low, high, used) = inner_parts (seats P.rows) z (seats_long P.rows ∙ len) i in
      value_worth S places rec P (seats_long P.rows ∙ len) p P
      ∙ preceding_opened S (depth_at places) (root_depth places rec) (all_steps places rec) (length places) rec.some_place (all_nested places rec) (label_at places) (seats P.rows) (seats_long P.rows ∙ len) P.ok z low high used P.output (λ q. bracket S (eqb p q))
      n (n + 1) first (omega arith) (omega arith) (omega arith) (omega arith) free spare (apart_live (seats P.rows) P.output n P.shown first free) (apart_live (seats P.rows) P.output (n + 1) P.shown (omega arith) spare) a
      ∙ same_worth S places rec P (seats_long P.rows ∙ len) p Q _ _ eq out;
}
