-- Ends as the checker computes them. 3 is ash, 4 dust.
use Rattle.std.specs.Prelude.{◌≡◌, ℕ, List, ◌∷◌, length, None, Option, replicate}
use Rattle.record.specs.declared.axis.Step.TheVariants.{Descendant}
use Rattle.record.specs.declared.axis.Reach.TheVariants.{Preceding}
use Rattle.record.specs.declared.axis.Axis.TheVariants.{Along, Against, Wide}
use Rattle.pattern.specs.Example.{under, first, ancestors_of_dust}
use Rattle.pattern.specs.Rows.{seats}
use Rattle.pattern.specs.declared.row.Row.{Row}
use Rattle.pattern.specs.declared.row.Test.TheVariants.{Any, Label}
use Rattle.all_ends.specs.Ends.{shaped, ends_of, kept_of}

-- /descendant::ash/preceding::dust
abbrev pub dust_before_ash : List (Option Row)
dust_before_ash = first ∷ under 0 (Along Descendant) (Label 3) ∷ under 1 (Wide Preceding) (Label 4) ∷ replicate 13 None

-- three times /descendant::node(), then [ancestor::node()] twice
abbrev pub three_deep : List (Option Row)
three_deep =
    first ∷ under 0 (Along Descendant) Any ∷ under 1 (Along Descendant) Any ∷ under 2 (Along Descendant) Any ∷ under 3 (Against Descendant) Any ∷ under 3 (Against Descendant) Any ∷ replicate 10 None

-- so many ends, and so many of them kept
abbrev pub HasEnds : List (Option Row) → ℕ → ℕ → ℕ → Type 0
HasEnds rows o all kept = (length (ends_of (shaped (seats rows) o)) ≡ all) × (length (kept_of (ends_of (shaped (seats rows) o))) ≡ kept)

pub record EndExamples : Type 0 where
  pub ancestors : HasEnds ancestors_of_dust 2 3 2
  pub preceding : HasEnds dust_before_ash 2 8 4
  pub many : HasEnds three_deep 3 49 42
