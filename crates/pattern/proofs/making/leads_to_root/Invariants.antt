use Rattle.std.proofs.Common.{◌≡◌, ◌-◌}
use Rattle.pattern.specs.Rows.{seats, row, climbs}
use Rattle.pattern.proofs.making.leads_to_root.Given as goal

-- the steps that are left decide
abbrev pub invariant-loop : goal.invariant-loop
invariant-loop l =
    climbs (λ i. (row (seats l.rows) i).used) (λ i. (row (seats l.rows) i).up) (16 - l.counter) l.r ≡ climbs (λ i. (row (seats l.rows) i).used) (λ i. (row (seats l.rows) i).up) 16 l.start
