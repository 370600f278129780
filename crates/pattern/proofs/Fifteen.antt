-- The way up from a row.
use Rattle.std.proofs.Common.{◌≡◌, ℕ, zero, suc, ◌-◌, ◌≤◌, Bool, true, false, ◌&&◌, ◌||◌, eqb, sym, refl, ap, ◌∙◌, arith}
use Rattle.std.proofs.lemmas.Bool.{ne_eqb, and_left}
use Rattle.pattern.specs.Rows.{climbs}

module _ (used : ℕ → Bool) (up : ℕ → ℕ) where
  pub climbs_root : (k : ℕ) → climbs used up k 0 ≡ true
  unfolding climbs
  climbs_root zero = refl
  climbs_root (suc k) = refl

  climbs_step : (k r : ℕ) → (r ≡ 0 → ⊥) → climbs used up (suc k) r ≡ (used r && climbs used up k (up r))
  unfolding climbs
  climbs_step k r n = ap (λ (b : Bool). b || (used r && climbs used up k (up r))) (ne_eqb r 0 n)

  -- where the way up stops
  pub climbs_stops : (m r : ℕ) → 1 ≤ m → (r ≡ 0 → ⊥) → used r ≡ false → climbs used up m r ≡ false
  climbs_stops zero r h n e = absurd (omega arith)
  climbs_stops (suc k) r h n e = climbs_step k r n ∙ and_left _ _ e

  -- and where it goes on
  pub climbs_goes : (m r : ℕ) → 1 ≤ m → (r ≡ 0 → ⊥) → used r ≡ true → climbs used up (m - 1) (up r) ≡ climbs used up m r
  climbs_goes zero r h n e = absurd (omega arith)
  climbs_goes (suc k) r h n e =
      let z : suc k - 1 ≡ k = omega arith in
      ap (λ m. climbs used up m (up r)) z ∙ sym (climbs_step k r n ∙ ap (λ (b : Bool). b && climbs used up k (up r)) e)

  pub climbs_none : (r : ℕ) → climbs used up 0 r ≡ eqb r 0
  unfolding climbs
  climbs_none r = refl
