use Rattle.std.proofs.Common.{rules, ◌≡◌, None, Some, slice_index_or, sym, refl, ◌∙◌}
use Rattle.std.specs.Option.{option_and_then}
use Rattle.pattern.specs.Rows.{seat, seats}
use Rattle.rewrite.specs.Turns.{want_at}
use Rattle.rewrite.proofs.Firsts.{asked, first_found}
use Rattle.rewrite.proofs.searching.first_want.Goals as goal

pub returns : goal.returns
returns g c = record {
  first = λ want h.
      first_found (want_at (seats c.args.rows.now) want) _ _ (λ a r q k. search rules)
      (λ i t a b k. (let e : t ≡ option_and_then (λ r. want i (seat (Some r))) (slice_index_or c.args.rows.now i None) = search rules in e ∙ sym (asked c.args.rows.now want i)))
      (record { start = 1; end = 16 }) refl refl _ c.find_map.ensures.runs;
}
