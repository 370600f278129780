use Rattle.std.proofs.Common.{◌≡◌, ℕ, List, rules, tests}
use Rattle.std.proofs.lemmas.Iterator.{IsFirst-from_position}
use Rattle.std.proofs.lemmas.Iterator.Consumers.{YieldsList-from_first}
use Rattle.glossary.specs.Meaning.{names_left}
use Rattle.glossary.proofs.Walks.{first_listed}
use Rattle.glossary.proofs.base.Entries.find.Goals as goal

pub returns : goal.returns
returns c =
    let Yes : List ℕ → Type 0 = λ n. n ≡ c.args.sought.now in
    let No : List ℕ → Type 0 = λ n. n ≡ c.args.sought.now → ⊥ in
    first_listed _ _ Yes No (λ x f e. f e) _
    (IsFirst-from_position c.position.new.self _ _ Yes No c.position.ensures.ran (YieldsList-from_first (λ x. x.now) names_left _ c.names.ensures) (λ x q k. search (rules, tests)) (λ x q k. search (rules, tests)))
