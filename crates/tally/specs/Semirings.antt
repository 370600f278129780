-- A commutative semiring, and finite sums and products in it.
use Rattle.std.specs.Prelude.{◌≡◌, ℕ, zero, suc, Bool, cond, List, [], ◌∷◌}

-- plus and times with their neutral elements and laws
pub record Semiring (T : Type 0) : Type 0 where
  pub nought : T
  pub one : T
  pub plus : T → T → T
  pub times : T → T → T
  pub plus_assoc : (a b c : T) → plus (plus a b) c ≡ plus a (plus b c)
  pub plus_comm : (a b : T) → plus a b ≡ plus b a
  pub plus_nought : (a : T) → plus a nought ≡ a
  pub times_assoc : (a b c : T) → times (times a b) c ≡ times a (times b c)
  pub times_comm : (a b : T) → times a b ≡ times b a
  pub times_one : (a : T) → times a one ≡ a
  pub times_nought : (a : T) → times a nought ≡ nought
  pub times_plus : (a b c : T) → times a (plus b c) ≡ plus (times a b) (times a c)

module _ {T : Type 0} (S : Semiring T) where
  -- one where b holds, nought elsewhere
  unfoldable pub bracket : Bool → T
  bracket b = cond b S.one S.nought

  -- f 0 + f 1 + .. + f (n - 1)
  unfoldable pub sum : ℕ → (ℕ → T) → T
  sum zero f = S.nought
  sum (suc k) f = S.plus (sum k f) (f k)

  -- the sum of a list
  unfoldable pub total : List T → T
  total [] = S.nought
  total (x ∷ xs) = S.plus x (total xs)

  -- the product of f over a list of numbers
  unfoldable pub product : List ℕ → (ℕ → T) → T
  product [] f = S.one
  product (r ∷ rs) f = S.times (f r) (product rs f)

-- h carries one semiring into another
pub record Carries {T U : Type 0} (S : Semiring T) (R : Semiring U) (h : T → U) : Type 0 where
  pub nought : h S.nought ≡ R.nought
  pub one : h S.one ≡ R.one
  pub plus : (a b : T) → h (S.plus a b) ≡ R.plus (h a) (h b)
  pub times : (a b : T) → h (S.times a b) ≡ R.times (h a) (h b)
