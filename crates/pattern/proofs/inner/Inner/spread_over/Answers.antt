use Rattle.std.proofs.Common.{◌≡◌, ℕ, ◌+◌, true, List, sym, refl, subst, arith}
use Rattle.pattern.specs.Rows.{Seat, seats, live, rooted, has_root}
use Rattle.pattern.proofs.Known.{whole, used, high}
use Rattle.pattern.proofs.Moved.{free_parts}
use Rattle.pattern.proofs.Spreads.{spread_rooted, spread_live, spread_top}
use Rattle.pattern.proofs.Spread.{spread_seats}
use Rattle.pattern.proofs.inner.Inner.spread_over.Goals as goal

pub bounds-rows-n : goal.bounds-rows-n
bounds-rows-n c = let (p, q, r, s) = free_parts (seats c.args.self.pattern.rows) c.args.n c.requires in omega arith

pub bounds-rows-n-2 : goal.bounds-rows-n-2
bounds-rows-n-2 c = let (p, q, r, s) = free_parts (seats c.args.self.pattern.rows) c.args.n c.requires in omega arith

pub overflow_add-rows-2 : goal.overflow_add-rows-2
overflow_add-rows-2 c = let (p, q, r, s) = free_parts (seats c.args.self.pattern.rows) c.args.n c.requires in omega arith

pub invariant_of-result : goal.invariant_of-result
invariant_of-result c =
    let i = c.args.self in
    let n : ℕ = c.args.n in
    let x = c.args.aside in
    let rs : List Seat = seats i.pattern.rows in
    let w = whole c.args.self (omega arith) in
    let h = high c.args.self (omega arith) in
    let (p, q, r, s) = free_parts (seats c.args.self.pattern.rows) c.args.n c.requires in
    let e = spread_seats c.args.self c.args.n c.args.aside in
    record {
      root = subst (λ (o : List Seat). has_root o ≡ true) (sym e) (spread_top rs w i.z n (n + 1) x h (omega arith) (omega arith) (omega arith) (omega arith) (omega arith) (used c.args.self (omega arith)) r s i.pattern.root);
      ok = subst (λ (o : List Seat). rooted o ≡ true) (sym e) (spread_rooted rs w i.z n (n + 1) x h (omega arith) (omega arith) (omega arith) (omega arith) (omega arith) (used c.args.self (omega arith)) r s i.pattern.ok i.low);
      shown = subst (λ (o : List Seat). live o i.pattern.output ≡ true) (sym e) (spread_live rs w i.z n (n + 1) x h (omega arith) (omega arith) (omega arith) (omega arith) (omega arith) (used c.args.self (omega arith)) r s i.pattern.output i.pattern.shown);
    }

pub returns : goal.returns
returns c = (spread_seats c.args.self c.args.n c.args.aside, refl)
