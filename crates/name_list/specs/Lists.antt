-- Which lists of names have a block, and why the others have none.
use Rattle.std.specs.Prelude.{◌≡◌, ℕ, ◌+◌, ◌<◌, false, ◌⊎◌, List, [], map, length, Some, None, Option, slice_index_or}
use Rattle.std.specs.Borrow.{Bor}
use Rattle.refusal.specs.declared.cause.Cause.TheVariants.{BlockSize, NameForm, NameTwice}
use Rattle.refusal.specs.declared.refusing.Refusal.{Refusal}
use Rattle.refusal.specs.Memory.{no_memory}
use Rattle.glossary.specs.Checks.{NoneOf, If, IfSome}
use Rattle.glossary.specs.Limits.{max_names}
use Rattle.glossary.specs.Names.{good_name}

-- what the slices of a list hold
abbrev pub bytes_of : List (Bor (List ℕ)) → List (List ℕ)
bytes_of = map (λ name. name.now)

-- no name, or too many
abbrev pub Unsized : List (List ℕ) → Type 0
Unsized names = (length names ≡ 0) ⊎ (max_names < length names)

-- the name k, from 0, is none
abbrev pub Bad : List (List ℕ) → ℕ → Type 0
Bad names k = good_name (slice_index_or names k []) ≡ false

-- the name k stands earlier too
abbrev pub Repeated : List (List ℕ) → ℕ → Type 0
Repeated names k = (j : ℕ) × (j < k) × (slice_index_or names j [] ≡ slice_index_or names k [])

-- the checks of a list of names in their order; the position is the number of the first name that fails, from 1
abbrev pub Judged : List (List ℕ) → Option Refusal → Type 0
Judged names r =
    If (Unsized names) (r ≡ Some (record { cause = BlockSize; position = 0 }))
    (IfSome (Bad names) (length names) (λ k. r ≡ Some (record { cause = NameForm; position = k + 1 }))
    (IfSome (Repeated names) (length names) (λ k. r ≡ Some (record { cause = NameTwice; position = k + 1 }))
    (r ≡ None)))

-- a refused list fails a check, or there was no memory for the block of names that pass the first two
abbrev pub Refused : List (List ℕ) → Refusal → Type 0
Refused names x = Judged names (Some x) ⊎ ((x ≡ no_memory) × (Unsized names → ⊥) × NoneOf (Bad names) (length names))
