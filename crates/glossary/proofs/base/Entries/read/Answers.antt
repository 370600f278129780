use Rattle.std.proofs.Common.{◌≡◌, ◌∙◌, inl, arith, below_more}
use Rattle.std.proofs.lemmas.Result.{err_from_is_err_and}
use Rattle.glossary.proofs.Walks.{entry_whole, entry_cut}
use Rattle.glossary.proofs.base.Entries.read.Goals as goal

pub returns-in_err-rest-clause-refused : goal.returns-in_err-rest-clause-refused
returns-in_err-rest-clause-refused c =
    let p = err_from_is_err_and c.from_residual.result c.from_residual.ensures.1 in
    let s = rw c.in_err-rest.ensures.ok_part at c.split_entry.ensures in
    let v = rw c.in_err-rest.ensures.ok_part at c.in_err-rest.ensures.value in
    let w : c.in_err-rest.field-0.0 ≡ c.at.result = cc in
    let named = rw c.from.ensures at c.at.ensures in
    let cut = entry_cut _ _ _ c.loop-k.invariant.0 c.loop-k.invariant.2 s.cut in
    rw (p.1, p.2) (inl (c.loop-k.k, (c.loop-k-test.true, cut, c.loop-k.invariant.1), w ∙ named))

pub loop-k-preserved : goal.loop-k-preserved
loop-k-preserved c =
    let s = rw c.in_ok-rest.ensures.ok_part at c.split_entry.ensures in
    let n = entry_whole _ _ _ _ c.loop-k.invariant.0 c.loop-k.invariant.2 s.whole s.rest in
    (n.0, below_more _ _ c.loop-k.invariant.1 (λ h. omega (arith, n.1, h)), n.1)
