use Rattle.std.proofs.Common.{sym, ◌∙◌, arith, rules}
use Rattle.glossary.proofs.Inverse.{name_of_label, label_of_name, listed_label, listed_no_label}
use Rattle.glossary.proofs.Readback.{length_listed}
use Rattle.glossary.proofs.base.Glossary.label.Goals as goal

pub overflow_cast-result : goal.overflow_cast-result
overflow_cast-result c = search (arith, rules, c.args.self.now.of_names.names_are_good.few, length_listed)

pub overflow_add-result : goal.overflow_add-result
overflow_add-result c = search (arith, rules, c.args.self.now.of_names.names_are_good.few, length_listed)

pub returns-in_err-k-clause-value : goal.returns-in_err-k-clause-value
returns-in_err-k-clause-value c = search (rules, listed_no_label)

pub returns-in_err-k-clause-only : goal.returns-in_err-k-clause-only
returns-in_err-k-clause-only c = λ l h. returns-in_err-k-clause-value c ∙ label_of_name _ _ l c.args.self.now.of_names.names_are_good h

pub returns-clause-value : goal.returns-clause-value
returns-clause-value c = search (rules, listed_label)

pub returns-clause-back : goal.returns-clause-back
returns-clause-back c = λ l h. name_of_label _ _ l (sym (returns-clause-value c) ∙ h)

pub returns-clause-only : goal.returns-clause-only
returns-clause-only c = λ l h. returns-clause-value c ∙ label_of_name _ _ l c.args.self.now.of_names.names_are_good h
