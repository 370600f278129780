use Rattle.std.proofs.Common.{◌∙◌, ap}
use Rattle.std.proofs.lemmas.Iterator.Consumers.{YieldsList-at, YieldsList-end, YieldsList-from_first, YieldsList-from_enumerate}
use Rattle.glossary.specs.Meaning.{names_of, names_left}
use Rattle.name_list.proofs.Texts.{all_rows_taken}
use Rattle.name_list.proofs.showing.all_rows.Goals as goal

pub returns : goal.returns
returns c =
    let all = YieldsList-from_enumerate (YieldsList-from_first (λ x. x.now) names_left _ (ap names_left c.enumerate-k-items.ensures.source ∙ c.names.ensures)) c.enumerate-k-items.ensures.count in
    let end = YieldsList-end (YieldsList-at c.into_iter-k-iterator.ensures.into_iter_gives all) c.loop-k.yielded _ c.loop-k.yielded_by _ c.next.new.self c.in-None.is c.next.ensures.steps in
    c.loop-k.invariant ∙ all_rows_taken (names_of c.args.glossary.now) _ end.0
