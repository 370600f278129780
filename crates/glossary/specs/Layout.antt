-- Where the names of a block stand, and the first check that a block fails.
use Rattle.std.specs.Prelude.{◌≡◌, ℕ, zero, suc, ◌+◌, ◌<◌, false, cond, ◌⊎◌, List, [], ◌∷◌, map, length, take, drop, Some, None, Option, nat_lt, slice_index}
use Rattle.std.specs.List.{range_with_len}
use Rattle.refusal.specs.declared.cause.Cause.TheVariants.{BlockSize, BlockEnd, NameForm, NameTwice}
use Rattle.refusal.specs.declared.refusing.Refusal.{Refusal}
use Rattle.glossary.specs.Checks.{If, IfSome}
use Rattle.glossary.specs.Limits.{max_block, head_size, max_names}
use Rattle.glossary.specs.Names.{good_name}

-- the count of names that the head of a block holds
abbrev pub count_in : List ℕ → ℕ
count_in block = slice_index block 0

-- where the entry of the name k, from 0, begins: an entry is a byte with a length and that many bytes
abbrev pub start : List ℕ → ℕ → ℕ
start block zero = head_size
start block (suc k) = start block k + (1 + slice_index block (start block k))

-- the bytes of the name k, from 0
abbrev pub name_at : List ℕ → ℕ → List ℕ
name_at block k = take (slice_index block (start block k)) (drop (start block k + 1) block)

-- the first n names
abbrev pub listed : List ℕ → ℕ → List (List ℕ)
listed block n = map (name_at block) (range_with_len 0 n)

-- the names in the first n entries of bytes, up to the first entry that is cut off
abbrev pub names_in : List ℕ → ℕ → List (List ℕ)
names_in bytes zero = []
names_in bytes (suc n) = cond (nat_lt (length bytes) (1 + slice_index bytes 0)) [] (take (slice_index bytes 0) (drop 1 bytes) ∷ names_in (drop (1 + slice_index bytes 0) bytes) n)

-- the block is empty or too long, or it counts no name or too many
abbrev pub Unsized : List ℕ → Type 0
Unsized block = ((length block < head_size) ⊎ (max_block < length block)) ⊎ ((count_in block ≡ 0) ⊎ (max_names < count_in block))

-- the entry of the name k ends past the end of the block
abbrev pub Cut : List ℕ → ℕ → Type 0
Cut block k = length block < start block (k + 1)

-- bytes follow the last entry
abbrev pub Overlong : List ℕ → Type 0
Overlong block = start block (count_in block) < length block

-- the name k is none
abbrev pub Bad : List ℕ → ℕ → Type 0
Bad block k = good_name (name_at block k) ≡ false

-- the name k stands earlier too
abbrev pub Repeated : List ℕ → ℕ → Type 0
Repeated block k = (j : ℕ) × (j < k) × (name_at block j ≡ name_at block k)

-- the checks of a block in their order. Each is over the whole block before the next, and names count from 1
abbrev pub Judged : List ℕ → Option Refusal → Type 0
Judged block r =
    If (Unsized block) (r ≡ Some (record { cause = BlockSize; position = 0 }))
    (IfSome (Cut block) (count_in block) (λ k. r ≡ Some (record { cause = BlockEnd; position = k + 1 }))
    (If (Overlong block) (r ≡ Some (record { cause = BlockEnd; position = 0 }))
    (IfSome (Bad block) (count_in block) (λ k. r ≡ Some (record { cause = NameForm; position = k + 1 }))
    (IfSome (Repeated block) (count_in block) (λ k. r ≡ Some (record { cause = NameTwice; position = k + 1 }))
    (r ≡ None)))))
