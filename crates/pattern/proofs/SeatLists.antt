-- The rows of an array, as they stand in it and as they are spoken of.
use Rattle.std.proofs.Common.{◌≡◌, ℕ, zero, suc, ◌+◌, Bool, true, false, cond, ◌&&◌, List, ◌∷◌, map, length, drop, set, None, Option, sym, refl, ap, ◌∙◌, ap₂, arith, slice_index_or, count_by}
use Rattle.std.specs.List.{list_all, range_with_len}
use Rattle.std.proofs.Math.ListN.{get_or-map}
use Rattle.std.proofs.Math.Seq.{drop-cons}
use Rattle.std.proofs.lemmas.List.{map-set, length-map, drop_all}
use Rattle.std.proofs.lemmas.List.Recursion.{is_count_by}
use Rattle.record.specs.Moves.{bit, count}
use Rattle.ways.specs.Ways.{all_rows}
use Rattle.pattern.specs.Rows.{Seat, seat, seats, row, fifteen}
use Rattle.pattern.specs.Sizes.{how_many}
use Rattle.pattern.specs.declared.row.Row.{Row}
use Rattle.pattern.proofs.Trees.{upto}

pub row_seats : (xs : List (Option Row)) (i : ℕ) → row (seats xs) i ≡ seat (slice_index_or xs i None)
row_seats xs i = get_or-map seat xs i None

pub row_where : (xs : List (Option Row)) (i : ℕ) (o : Option Row) → slice_index_or xs i None ≡ o → row (seats xs) i ≡ seat o
row_where xs i o e = row_seats xs i ∙ ap seat e

pub seats_set : (xs : List (Option Row)) (i : ℕ) (o : Option Row) → seats (set xs i o) ≡ set (seats xs) i (seat o)
seats_set xs i o = map-set seat xs i o

pub seats_long : (xs : List (Option Row)) → length (seats xs) ≡ length xs
seats_long xs = length-map xs seat

-- what is asked of each of the fifteen

module _ (f : Seat → Bool) (xs : List (Option Row)) where
  all_from : (c a : ℕ) → length xs ≡ a + c → list_all (λ x. f (seat x)) (drop a xs) ≡ all_rows (upto a c) (λ i. f (row (seats xs) i))
  unfolding all_rows
  all_from zero a e = ap (list_all (λ x. f (seat x))) (drop_all a xs (omega arith))
  all_from (suc c) a e =
      ap (list_all (λ x. f (seat x))) (drop-cons xs a None (omega arith))
      ∙ ap₂ ◌&&◌ (ap f (sym (row_seats xs a))) (all_from c (suc a) (omega arith))

  pub all_fifteen : length xs ≡ 16 → list_all (λ x. f (seat x)) (drop 1 xs) ≡ all_rows fifteen (λ i. f (row (seats xs) i))
  all_fifteen e = all_from 15 1 e

  asked_from : (c a : ℕ) → length xs ≡ a + c → map (λ x. f (seat x)) (drop a xs) ≡ map (λ i. f (row (seats xs) i)) (upto a c)
  asked_from zero a e = ap (map (λ x. f (seat x))) (drop_all a xs (omega arith))
  asked_from (suc c) a e =
      ap (map (λ x. f (seat x))) (drop-cons xs a None (omega arith))
      ∙ ap₂ {C = List Bool} (λ b bs. b ∷ bs) (ap f (sym (row_seats xs a))) (asked_from c (suc a) (omega arith))

  counted : (ys : List (Option Row)) → count (map (λ x. f (seat x)) ys) ≡ count_by (λ x. f (seat x)) ys
  counted ys = is_count_by (λ zs. count (map (λ x. f (seat x)) zs)) (λ x. f (seat x)) refl (λ x zs. one (f (seat x)) (count (map (λ x. f (seat x)) zs))) ys
    where
      one : (b : Bool) (n : ℕ) → bit b + n ≡ cond b (1 + n) n
      one true n = refl
      one false n = omega arith

  pub count_fifteen : length xs ≡ 16 → count_by (λ x. f (seat x)) (drop 1 xs) ≡ how_many f (seats xs)
  unfolding how_many
  count_fifteen e = sym (counted (drop 1 xs)) ∙ ap count (asked_from 15 1 e)

pub all_range : (f : ℕ → Bool) → list_all f (range_with_len 1 15) ≡ all_rows fifteen f
unfolding all_rows
all_range f = refl
