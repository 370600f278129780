use Rattle.std.proofs.Common.{not, ◌∙◌, arith, rules, tests}
use Rattle.std.proofs.lemmas.Iterator.{YieldsList-from_slice}
use Rattle.std.proofs.lemmas.Iterator.Search.{position_from_yields_List}
use Rattle.std.proofs.lemmas.List.{same_lists, places}
use Rattle.glossary.specs.Names.{good_name}
use Rattle.name_list.proofs.writing.first_bad.Goals as goal

-- the slices that are searched are told to be those of the call by their places, so that an edit of what is searched fails at a fact
pub returns : goal.returns
returns c =
    position_from_yields_List (λ name. not (good_name name.now)) _ _ c.position.result c.position.ensures.ran
    (YieldsList-from_slice c.args.names.now (c.iter.ensures.rest ∙ same_lists _ _ (search (rules, places)) (λ k d h. grind (arith, places))))
    (λ x b q k. search (rules, tests))
