-- Entries begin one behind the other.
use Rattle.std.proofs.Common.{◌≡◌, ℕ, zero, suc, ◌+◌, ◌-◌, ◌<◌, ◌≤◌, List, get_or, refl, inl, inr, add-one, arith}
use Rattle.std.proofs.lemmas.Bool.{cases_lt}
use Rattle.glossary.specs.Layout.{start}

-- a number that is not above another is at most that
pub not_above : (a b : ℕ) → (b < a → ⊥) → a ≤ b
not_above a b f = elim (cases_lt b a) [ inl l ↦ absurd (f l) | inr l ↦ l ]

pub start_more : (block : List ℕ) (k : ℕ) → start block (k + 1) ≡ start block k + (1 + get_or block (start block k) 0)
start_more block k = rw add-one refl

-- an entry that begins k + d-th begins behind the k-th
start_grows : (block : List ℕ) (k d : ℕ) → start block k ≤ start block (d + k)
start_grows block k zero = let z : zero + k ≡ k = omega arith in rw z (omega arith)
start_grows block k (suc d) =
    let z : suc d + k ≡ suc (d + k) = omega arith in rw z (omega (arith, start_grows block k d))

pub starts_rise : (block : List ℕ) (j k : ℕ) → j ≤ k → start block j ≤ start block k
starts_rise block j k h =
    let z : (k - j) + j ≡ k = omega arith in rw z at (start_grows block j (k - j))
