use Rattle.std.proofs.Common.{List, ◌∙◌, ℕ, ap, arith}
use Rattle.std.proofs.lemmas.List.{take_all, length-drop}
use Rattle.glossary.specs.Layout.{names_in}
use Rattle.glossary.proofs.Walks.{names_of_whole}
use Rattle.glossary.proofs.base.Entries.names.Goals as goal

pub returns : goal.returns
returns c =
    ap (λ (l : List ℕ). names_in l c.args.self.now.count) (take_all _ _ (omega (arith, length-drop 1 c.args.self.now.block.now)))
    ∙ names_of_whole _ _ c.args.self.now.headed c.args.self.now.whole
