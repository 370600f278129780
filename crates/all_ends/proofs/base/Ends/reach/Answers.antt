use Rattle.std.proofs.Common.{rules, vec_items, refl}
use Rattle.all_ends.proofs.Accounts.{one_dropped, one_kept}
use Rattle.all_ends.proofs.base.Ends.reach.Goals as goal

pub returns-in_ok-push : goal.returns-in_ok-push
returns-in_ok-push c = record {
  number = refl;
  kept = one_kept (vec_items c.args.self.now.kept) (vec_items c.push.new.self) c.in-Some.forward c.args.end c.in-Some.is c.in_ok-push.ensures.items;
}

pub returns-in_default : goal.returns-in_default
returns-in_default c = record { number = refl; kept = one_dropped _ c.args.end (search rules) }
