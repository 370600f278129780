-- Merging a row into its up-row, on patterns with gains.
use Rattle.std.specs.Prelude.{◌≡◌, ℕ, cond, ◌≢◌, ◌∷◌, ◌==◌}
use Rattle.record.specs.declared.axis.Axis.{Axis}
use Rattle.tally.specs.Semirings.{Semiring}
use Rattle.ways.specs.Ways.{upd, In, Apart, remove, Weighted}

-- all rows hang below row 0, which is not among them
pub record Hung {T : Type 0} (P : Weighted T) : Type 0 where
  pub apart : Apart P.rows
  pub no_top : In 0 P.rows → ⊥
  pub ups : (r : ℕ) → In r P.rows → In (P.up r) (0 ∷ P.rows)

-- Z hangs under W
pub record Under {T : Type 0} (P : Weighted T) (W Z : ℕ) : Type 0 where
  pub hung : Hung P
  pub within : In Z P.rows
  pub up_Z : P.up Z ≡ W
  pub W_Z : W ≢ Z

-- Z goes by another axis
unfoldable pub axed : {T : Type 0} → Weighted T → ℕ → Axis → Weighted T
axed P Z x = record { rows = P.rows; up = P.up; axis = upd P.axis Z x; gain = P.gain }

module _ {T : Type 0} (S : Semiring T) where
  -- Z goes into W: a place of W has the gain of both, and what was under Z is under W
  unfoldable pub merged : Weighted T → ℕ → ℕ → Weighted T
  merged P W Z = record {
    rows = remove Z P.rows;
    up = λ r. cond (P.up r == Z) W (P.up r);
    axis = P.axis;
    gain = upd P.gain W (λ p. S.times (P.gain W p) (P.gain Z p));
  }
