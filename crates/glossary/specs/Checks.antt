-- Checks that are made one after the other.
use Rattle.std.specs.Prelude.{ℕ, ◌<◌, ◌⊎◌, Option, MatchOption}

-- k is the first number below n of which P holds
abbrev pub First : (ℕ → Type 0) → ℕ → ℕ → Type 0
First P n k = (k < n) × P k × ((j : ℕ) → j < k → P j → ⊥)

-- P holds of no number below n
abbrev pub NoneOf : (ℕ → Type 0) → ℕ → Type 0
NoneOf P n = (k : ℕ) → k < n → P k → ⊥

-- r is the first number below n of which P holds, if there is one
abbrev pub FirstIn : (ℕ → Type 0) → ℕ → Option ℕ → Type 0
FirstIn P n r = MatchOption r (NoneOf P n) (λ k. First P n k)

-- A where P holds, and else B
abbrev pub If : Type 0 → Type 0 → Type 0 → Type 0
If P A B = (P × A) ⊎ ((P → ⊥) × B)

-- A of the first number below n of which P holds, and B where there is none
abbrev pub IfSome : (ℕ → Type 0) → ℕ → (ℕ → Type 0) → Type 0 → Type 0
IfSome P n A B = ((k : ℕ) × First P n k × A k) ⊎ (NoneOf P n × B)
