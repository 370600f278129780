use Rattle.std.proofs.Common.{rules, ◌∙◌, tests}
use Rattle.std.specs.Str.{bytes_eq}
use Rattle.std.proofs.lemmas.Iterator.{YieldsList-from_slice}
use Rattle.std.proofs.lemmas.Iterator.Search.{find_from_yields_List}
use Rattle.record.specs.Words.{word_of}
use Rattle.record.specs.declared.words.TheConstants.{AXES}
use Rattle.record.proofs.Finding.{found_by_word}
use Rattle.record.proofs.axis.Axis.from_word.Goals as goal

pub returns-clause-finds : goal.returns-clause-finds
returns-clause-finds c =
    λ a e. c.copied.ensures ∙ find_from_yields_List (λ x. bytes_eq (word_of x) c.args.word.now) _ _ c.find.result c.find.ensures.ran (YieldsList-from_slice AXES c.iter.ensures.rest) (λ x b q k. search (rules, tests)) ∙ found_by_word a c.args.word.now e
