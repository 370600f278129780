use Rattle.std.proofs.Common.{◌≡◌, ℕ, List, subst, arith}
use Rattle.record.specs.Records.{Record}
use Rattle.record.specs.declared.axis.Axis.TheVariants.{Itself}
use Rattle.record.specs.declared.place.Place.{Place}
use Rattle.pattern.specs.Questions.{ways, ways_of_rest}
use Rattle.pattern.specs.Rows.{seats, row}
use Rattle.pattern.specs.declared.base.Pattern.{Pattern}
use Rattle.pattern.specs.declared.inner.Inner.{Inner}
use Rattle.pattern.proofs.Known.{whole, high, used}
use Rattle.pattern.proofs.KeptWays.{merged_ways}
use Rattle.pattern.proofs.base.Pattern.merge.Goals as goal

pub returns-clause-kept : goal.returns-clause-kept
returns-clause-kept c =
    let i : Inner = c.in_ok-inner.field-0 in
    let e = c.in_ok-inner.ensures in
    let Kept : Pattern → ℕ → Type 0 = (λ P z. (places : List Place) → Record places → (row (seats P.rows) z).axis ≡ Itself → (p : ℕ) → ways places P p ≡ ways_of_rest places c.merged.result p) in
    let kept : Kept i.pattern i.z = (λ places rec x p. merged_ways places rec i.pattern (whole i (omega arith)) i.z i.low (high i (omega arith)) (used i (omega arith)) x c.merged.result c.merged.ensures p) in
    subst (λ P. Kept P c.args.z) e.0 (subst (λ z. Kept i.pattern z) e.1 kept)
