use Rattle.std.proofs.Common.{Some, refl, ap, inl, inr, rules}
use Rattle.glossary.proofs.reading.judge.Goals as goal

pub returns-in-Some-first_repeated-clause-judged : goal.returns-in-Some-first_repeated-clause-judged
returns-in-Some-first_repeated-clause-judged c =
    let e = c.in_ok-entries.ensures.same in
    let whole = rw (e.0, e.1, c.from-count.ensures) at c.in_ok-entries.entries.whole in
    let good = rw (e.0, e.1, c.from-count.ensures) at c.in_default.ensures in
    let twice = rw (e.0, e.1, c.from-count.ensures) at c.in-Some-first_repeated.ensures in
    inr (search rules, inr (whole, inr (search rules, inr (good, inl (c.in-Some-first_repeated.k, twice, ap Some c.at-in-Some-first_repeated.ensures)))))

pub returns-clause-judged : goal.returns-clause-judged
returns-clause-judged c =
    let e = c.in_ok-entries.ensures.same in
    let whole = rw (e.0, e.1, c.from-count.ensures) at c.in_ok-entries.entries.whole in
    let good = rw (e.0, e.1, c.from-count.ensures) at c.in_default.ensures in
    let once = rw (e.0, e.1, c.from-count.ensures) at c.in_default-first_repeated.ensures in
    inr (search rules, inr (whole, inr (search rules, inr (good, inr (once, refl)))))
