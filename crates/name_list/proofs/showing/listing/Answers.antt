use Rattle.std.proofs.Common.{Err, sym, ap}
use Rattle.std.proofs.lemmas.Option.{none-some, same_Some}
use Rattle.std.proofs.lemmas.Result.{err_from_is_err_and}
use Rattle.name_list.proofs.showing.listing.Goals as goal

pub returns-in_err-glossary-clause-refused : goal.returns-in_err-glossary-clause-refused
returns-in_err-glossary-clause-refused c =
    let p = err_from_is_err_and c.from_residual.result c.from_residual.ensures.1 in
    rw (p.1, p.2) (λ x j. ap Err (sym (same_Some _ _ (c.in_err-glossary.ensures.alone _ j))))

pub returns-in_err-describe-clause-refused : goal.returns-in_err-describe-clause-refused
returns-in_err-describe-clause-refused c = λ x j. absurd (none-some x (sym (c.in_ok-glossary.ensures.alone _ j)))

pub returns-clause-refused : goal.returns-clause-refused
returns-clause-refused c = λ x j. absurd (none-some x (sym (c.in_ok-glossary.ensures.alone _ j)))
