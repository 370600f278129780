use Rattle.std.proofs.Common.{◌≡◌, ℕ, List, None, sym, ap, ◌∙◌, subst}
use Rattle.std.proofs.lemmas.Result.{err_from_is_err_and}
use Rattle.glossary.specs.Format.{BlockOf}
use Rattle.glossary.specs.Layout.{count_in, listed, Judged}
use Rattle.glossary.proofs.Verdicts.{one_verdict, passed_is_block, refused_is_no_block, one_list}
use Rattle.glossary.proofs.base.Glossary.new.Goals as goal

pub returns-in_err-entries : goal.returns-in_err-entries
returns-in_err-entries c =
    let p = err_from_is_err_and c.from_residual.result c.from_residual.ensures.1 in
    let j = c.in_err-entries.ensures.judged in
    rw (p.1, p.2) (record { judged = j; alone = λ v w. one_verdict _ v _ w j; stands_for = tt; accepts = λ names b. refused_is_no_block names _ _ j b })

-- the names of the entries are those of the block that passed
same_names : (block other : List ℕ) (n : ℕ) → other ≡ block → n ≡ count_in block → listed other n ≡ listed block (count_in block)
same_names block other n o e = ap (λ (b : List ℕ). listed b n) o ∙ ap (listed block) e

of_names : (block other : List ℕ) (n : ℕ) → other ≡ block → n ≡ count_in block → Judged block None → BlockOf (listed other n) block
of_names block other n o e j =
    subst (λ (ns : List (List ℕ)). BlockOf ns block) (sym (same_names block other n o e)) (passed_is_block block j)

pub invariant_of-result : goal.invariant_of-result
invariant_of-result c =
    let e = c.in_ok-entries.ensures.same in
    record { of_names = subst (BlockOf (listed c.in_ok-entries.entries.block.now c.in_ok-entries.entries.count)) (sym e.0) (of_names _ _ _ e.0 e.1 c.in_ok-entries.ensures.judged) }

pub returns : goal.returns
returns c =
    let j = c.in_ok-entries.ensures.judged in
    let e = c.in_ok-entries.ensures.same in
    record {
      judged = j;
      alone = λ v w. one_verdict _ v _ w j;
      stands_for = (e.0, of_names _ _ _ e.0 e.1 j);
      accepts = λ names b. same_names _ _ _ e.0 e.1 ∙ one_list names _ b;
    }
