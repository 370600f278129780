-- What rewriting a question answers, and what that means.
use Rattle.std.specs.Prelude.{◌≡◌, ℕ, ◌+◌, ◌*◌, ◌<◌, ◌≤◌, Bool, true, ◌⊎◌, List, [], ◌∷◌, map, length, Err, MatchBool, Result, MatchResult}
use Rattle.std.specs.List.{list_all}
use Rattle.record.specs.Records.{Record}
use Rattle.record.specs.declared.place.Place.{Place}
use Rattle.refusal.specs.Memory.{no_memory}
use Rattle.refusal.specs.declared.cause.Cause.TheVariants.{TooManyRows}
use Rattle.refusal.specs.declared.refusing.Refusal.{Refusal}
use Rattle.ways.specs.Rewriting.{Every}
use Rattle.pattern.specs.Questions.{question_ways, selects}
use Rattle.pattern.specs.Roots.{root_alone, all_down}
use Rattle.pattern.specs.Rows.{seats, all_along}
use Rattle.pattern.specs.Sizes.{how_many, in_use, path_rows}
use Rattle.pattern.specs.declared.base.Pattern.{Pattern}
use Rattle.pattern.specs.declared.forward.Forward.{Forward}
use Rattle.all_ends.specs.Ends.{shape_of, ends_of, kept_of, question_ends, to_open, expanded_rows, fits}
use Rattle.all_ends.specs.Reached.{max_ends, too_many_ends, forward_shape, shapes}
use Rattle.all_ends.specs.declared.base.Ends.{Ends}

abbrev pub too_many_rows : Refusal
too_many_rows = record { cause = TooManyRows; position = 0 }

-- every pattern fits
abbrev pub all_fit : List Pattern → Bool
all_fit Ps = list_all (λ P. fits (shape_of P)) Ps

-- exactly the ends by the rules: how many there are, and the kept ones in order
pub record Finished (sources : List Pattern) (ends : Ends) : Type 0 where
  pub number : ends.number ≡ length (question_ends sources)
  pub kept : shapes ends ≡ kept_of (question_ends sources)

-- a pattern that does not fit is refused first; then it is the ends, unless there are more than 64 of them or memory fails
abbrev pub Outcome : List Pattern → Result Ends Refusal → Type 0
Outcome sources r =
    MatchBool (all_fit sources) (MatchResult r (Finished sources) (λ e. (e ≡ no_memory) ⊎ ((e ≡ too_many_ends) × (max_ends < length (question_ends sources))))) (r ≡ Err too_many_rows)

abbrev pub plain : Forward → Pattern
plain f = f.pattern

abbrev pub Among : {A : Type 0} → A → List A → Type 0
Among x [] = ⊥
Among x (y ∷ ys) = (x ≡ y) ⊎ Among x ys

abbrev pub Any : {A : Type 0} → (A → Type 0) → List A → Type 0
Any F [] = ⊥
Any F (x ∷ xs) = F x ⊎ Any F xs

-- a kept end of the pattern, with no more rows than that has when it is expanded, and a path for it is no longer; it leads on from row 0 by
-- child and descendant alone, and its row 0 alone asks for the root if that holds of the pattern
pub record EndOf (P : Pattern) (f : Forward) : Type 0 where
  pub reached : Among (forward_shape f) (kept_of (ends_of (shape_of P)))
  pub rows : in_use (seats f.pattern.rows) ≤ in_use (seats P.rows) + 2 * how_many to_open (seats P.rows)
  pub path : path_rows (seats f.pattern.rows) f.pattern.output ≤ expanded_rows (shape_of P)
  pub down : all_down (seats f.pattern.rows) ≡ true
  pub root : root_alone (seats P.rows) ≡ true → root_alone (seats f.pattern.rows) ≡ true

-- the alternatives stand for the question: in every record, at every place, they have together exactly its ways, and so select what it
-- selects; none looks back; each is an end of one of the patterns, and a path for it has at most 15 rows
pub record Faithful (sources : List Pattern) (alternatives : List Forward) : Type 0 where
  pub ways : (places : List Place) → Record places → (p : ℕ) → question_ways places (map plain alternatives) p ≡ question_ways places sources p
  pub selected : (places : List Place) → Record places → (p : ℕ) → selects places (map plain alternatives) p ≡ selects places sources p
  pub forward : Every (λ f. all_along (seats f.pattern.rows) ≡ true) alternatives
  pub ends : Every (λ f. Any (λ P. EndOf P f) sources) alternatives
  pub short : Every (λ f. path_rows (seats f.pattern.rows) f.pattern.output ≤ 15) alternatives
