use Rattle.std.proofs.Common.{◌≡◌, ℕ, ◌+◌, ◌-◌, Bool, true, Some, None, sym, ap, ◌∙◌, subst, arith}
use Rattle.pattern.specs.Rows.{Seat, seats, row, climbs}
use Rattle.pattern.proofs.Fifteen.{climbs_root, climbs_stops, climbs_goes, climbs_none}
use Rattle.pattern.proofs.SeatLists.{row_where}
use Rattle.pattern.proofs.making.leads_to_root.Goals as goal

pub returns-then-r-eq0 : goal.returns-then-r-eq0
returns-then-r-eq0 c =
    let used : ℕ → Bool = (λ i. (row (seats c.args.rows.now) i).used) in
    let up : ℕ → ℕ = (λ i. (row (seats c.args.rows.now) i).up) in
    sym (sym c.loop.invariant ∙ subst (λ x. climbs used up (16 - c.loop.counter) x ≡ true) (sym c.if-r-eq0.true) (climbs_root used up (16 - c.loop.counter)))

pub returns-in_default : goal.returns-in_default
returns-in_default c =
    let used : ℕ → Bool = (λ i. (row (seats c.args.rows.now) i).used) in
    let up : ℕ → ℕ = (λ i. (row (seats c.args.rows.now) i).up) in
    let free = row_where c.args.rows.now c.loop.r None (sym c.row_at.ensures ∙ c.in_default.is) in
    sym (sym c.loop.invariant ∙ climbs_stops used up (16 - c.loop.counter) c.loop.r (omega arith) c.if-r-eq0.false (ap (λ (x : Seat). x.used) free))

pub loop-preserved : goal.loop-preserved
loop-preserved c =
    let used : ℕ → Bool = (λ i. (row (seats c.args.rows.now) i).used) in
    let up : ℕ → ℕ = (λ i. (row (seats c.args.rows.now) i).up) in
    let z : 16 - (c.loop.counter + 1) ≡ (16 - c.loop.counter) - 1 = omega arith in
    let found = row_where c.args.rows.now c.loop.r (Some c.in-Some.row) (sym c.row_at.ensures ∙ c.in-Some.is) in
    ap (λ m. climbs used up m c.in-Some.row.up) z
    ∙ (ap (climbs used up ((16 - c.loop.counter) - 1)) (sym (ap (λ (x : Seat). x.up) found))
    ∙ (climbs_goes used up (16 - c.loop.counter) c.loop.r (omega arith) c.if-r-eq0.false (ap (λ (x : Seat). x.used) found)
    ∙ c.loop.invariant))

pub returns : goal.returns
returns c =
    let used : ℕ → Bool = (λ i. (row (seats c.args.rows.now) i).used) in
    let up : ℕ → ℕ = (λ i. (row (seats c.args.rows.now) i).up) in
    let z : 16 - c.loop.counter ≡ 0 = omega arith in
    sym (climbs_none used up c.loop.r) ∙ (ap (λ m. climbs used up m c.loop.r) (sym z) ∙ c.loop.invariant)
