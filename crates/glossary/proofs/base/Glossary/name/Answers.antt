use Rattle.std.proofs.Common.{◌≡◌, ◌-◌, ◌∙◌, refl, sym}
use Rattle.std.specs.List.{slice_get}
use Rattle.std.proofs.lemmas.Iterator.Consumers.{YieldsList-from_first, nth_from_yields_List}
use Rattle.glossary.specs.Layout.{listed}
use Rattle.glossary.specs.Meaning.{names_left}
use Rattle.glossary.proofs.Inverse.{name_of_later, place_of_name}
use Rattle.glossary.proofs.base.Glossary.name.Goals as goal

pub returns : goal.returns
returns c =
    let block = c.args.self.now.entries.block.now in
    let count = c.args.self.now.entries.count in
    let n = nth_from_yields_List _ c.nth.new.self _ c.nth.ensures.ran (YieldsList-from_first (λ x. x.now) names_left _ c.names.ensures) in
    let z : slice_get (listed block count) c.from.result ≡ slice_get (listed block count) (c.args.label - 1) = rw (c.from.ensures, c.in_ok-k.ensures.1) refl in
    let e = n ∙ z in
    record { value = e ∙ sym (name_of_later _ _ c.in_ok-k.ensures.0); place = place_of_name block count (c.args.label - 1) _ e }
