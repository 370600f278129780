use Rattle.std.proofs.Common.{◌≡◌, ℕ, ◌<◌, ◌∙◌, ap, arith, List, [], rules, tests}
use Rattle.std.proofs.lemmas.Iterator.{IsFirst-from_position}
use Rattle.std.proofs.lemmas.Iterator.Consumers.{YieldsList-from_first, YieldsList-from_enumerate}
use Rattle.std.proofs.lemmas.List.FromFn.{length-enumerate_from}
use Rattle.glossary.specs.Layout.{name_at, listed}
use Rattle.glossary.specs.Meaning.{names_left}
use Rattle.glossary.proofs.Readback.{length_listed}
use Rattle.glossary.proofs.Walks.{first_place, numbered}
use Rattle.glossary.proofs.base.Entries.first_repeated.Goals as goal

pub returns : goal.returns
returns c =
    let block = c.args.self.now.block.now in
    let count = c.args.self.now.count in
    let Yes : ℕ × List ℕ → Type 0 = λ p. (j : ℕ) × (j < p.0) × (name_at block j ≡ p.1) in
    let No : ℕ × List ℕ → Type 0 = λ p. (j : ℕ) → j < count → j < p.0 → name_at block j ≡ p.1 → ⊥ in
    first_place _ _ _ (0, []) Yes No (length-enumerate_from 0 (listed block count) ∙ length_listed block count)
    (λ k h e. rw (numbered block count k h) at e)
    (λ k h f e. (rw (numbered block count k h) at f) e.0 (omega arith) e.1 e.2) _
    (IsFirst-from_position c.position.new.self _ _ Yes No c.position.ensures.ran (YieldsList-from_enumerate (YieldsList-from_first (λ x. x.now) names_left _ (ap names_left c.enumerate.ensures.source ∙ c.names.ensures)) c.enumerate.ensures.count) (λ x q k. search (rules, tests)) (λ x q k. search (rules, tests)))
