use Rattle.std.proofs.Common.{Some, sym, refl, ap, ◌∙◌, subst, inl, inr, rules}
use Rattle.std.proofs.lemmas.Result.{err_from_is_err_and}
use Rattle.glossary.specs.Format.{BlockOf}
use Rattle.name_list.specs.Lists.{bytes_of}
use Rattle.name_list.proofs.Judging.{judged_list, read_back}
use Rattle.name_list.proofs.Slices.{first_of_slices, none_of_slices, sized_slices}
use Rattle.name_list.proofs.writing.write_block.Goals as goal

pub returns-in-Some : goal.returns-in-Some
returns-in-Some c =
    inl (inr (sized_slices _ (search rules) (search rules), inl (c.in-Some.k, first_of_slices _ _ (sym c.in-Some.ensures), ap Some c.at.ensures)))

pub encode-requires-clause-good : goal.encode-requires-clause-good
encode-requires-clause-good c = none_of_slices c.args.names.now (sym c.in_default.ensures)

pub returns-in_err-block : goal.returns-in_err-block
returns-in_err-block c =
    let p = err_from_is_err_and c.from_residual.result c.from_residual.ensures.1 in
    rw (p.1, p.2)
    (inr (refl, sized_slices _ (search rules) (search rules), none_of_slices _ (sym c.in_default.ensures)))

pub returns-in_err-new : goal.returns-in_err-new
returns-in_err-new c =
    let p = err_from_is_err_and c.from_residual-in_err-new.result c.from_residual-in_err-new.ensures.1 in
    rw (p.1, p.2)
    (inl (judged_list (bytes_of c.args.names.now) _ _ (c.deref.ensures.value ∙ c.in_ok-block.ensures)
    (sized_slices _ (search rules) (search rules)) (none_of_slices _ (sym c.in_default.ensures)) c.in_err-new.ensures.judged))

pub returns : goal.returns
returns c =
    let names = bytes_of c.args.names.now in
    subst (BlockOf names) c.deref.ensures.value
    (read_back names _ _ (c.deref.ensures.value ∙ c.in_ok-block.ensures) c.in_ok-new.ensures.stands_for.1)
