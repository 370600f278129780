use Rattle.std.proofs.Common.{List, [], ◌∷◌, Err, Option, sym, refl, ap, ◌∙◌, subst, inl, inr, arith}
use Rattle.std.proofs.lemmas.Result.{err_from_is_err_and}
use Rattle.record.specs.declared.rules.Move.TheVariants.{Up}
use Rattle.rewrite.specs.declared.turns.Turn.TheVariants.{Kept, Dropped, Merge, Split, Open, Shift}
use Rattle.all_ends.specs.Ends.{Shape, shape_of, alternatives, by_turn, ends_from, ends_of}
use Rattle.all_ends.specs.Reached.{Grown, Reached}
use Rattle.all_ends.proofs.Accounts.{grown_none}
use Rattle.all_ends.proofs.Followed.{by_its_turn, ends_one, ends_split, ends_shifted, ready, among_moves, reached_first, reached_then, turn_more, turn_fails, turns_done, kept_end, failed}
use Rattle.all_ends.proofs.ending.+follow_go_on.Goals as goal

pub follow-go_on-requires : goal.follow-go_on-requires
unfolding alternatives
follow-go_on-requires t c = (ready c.args.pattern (omega arith) (Merge c.in-Merge.z) c.in-Merge.ensures.value c.merge_at.result (inl c.merge_at.ensures) t c.decreases, tt)

pub follow-go_on-requires-in-Split : goal.follow-go_on-requires-in-Split
unfolding alternatives
follow-go_on-requires-in-Split t c = (ready c.args.pattern (omega arith) (Split c.in-Split.z c.in-Split.axis) c.in-Split.ensures.value c.axis_at-plain.result (inl c.axis_at-plain.ensures) t c.decreases, tt)

pub follow-returns-in_err-go_on-in-Split : goal.follow-returns-in_err-go_on-in-Split
follow-returns-in_err-go_on-in-Split t c =
    let p = err_from_is_err_and c.from_residual.result c.from_residual.ensures.1 in
    failed c.args.ends.now c.go_on-in-Split.new.ends _ _ _ _ p.1 p.2
    (subst (λ (x : List (Option Shape)). Reached c.args.ends.now x (Err c.in_err-go_on-in-Split.field-0.0) c.go_on-in-Split.new.ends)
    (ends_split c.args.pattern (omega arith) c.in-Split.z c.in-Split.axis c.in-Split.ensures.value c.axis_at-plain.result c.axis_at-plain.ensures _ refl)
    (reached_first c.args.ends.now c.go_on-in-Split.new.ends c.go_on-in-Split.new.ends _ _ _ c.in_err-go_on-in-Split.ensures))

pub follow-go_on-requires-in-Split-2 : goal.follow-go_on-requires-in-Split-2
unfolding alternatives
follow-go_on-requires-in-Split-2 t c = (ready c.args.pattern (omega arith) (Split c.in-Split.z c.in-Split.axis) c.in-Split.ensures.value c.merge_at-merged.result (inr (inl c.merge_at-merged.ensures)) t c.decreases, tt)

pub follow-go_on-requires-in-Open : goal.follow-go_on-requires-in-Open
unfolding alternatives
follow-go_on-requires-in-Open t c = (ready c.args.pattern (omega arith) (Open c.in-Open.z c.in-Open.aside) c.in-Open.ensures.value c.open_at.result (inl c.open_at.ensures) t c.decreases, tt)

pub follow-loop-by-init : goal.follow-loop-by-init
follow-loop-by-init t c = grown_none c.args.ends.now

pub follow-go_on-requires-in-loop-by : goal.follow-go_on-requires-in-loop-by
follow-go_on-requires-in-loop-by t c =
    let i = among_moves c.args.pattern (omega arith) c.in-Shift.z c.in-Shift.upper c.in-Shift.lower c.moves-by-items.result.now c.moves-by-items.ensures c.loop-by.by-index Up c.loop-by-test.true _ c.move_at.ensures in
    (ready c.args.pattern (omega arith) (Shift c.in-Shift.z c.in-Shift.upper c.in-Shift.lower) c.in-Shift.ensures.value c.move_at.result i t c.decreases, tt)

pub follow-returns-in_err-go_on-in-Shift : goal.follow-returns-in_err-go_on-in-Shift
follow-returns-in_err-go_on-in-Shift t c =
    let p = err_from_is_err_and c.from_residual-in_err-go_on-in-Shift.result c.from_residual-in_err-go_on-in-Shift.ensures.1 in
    failed c.args.ends.now c.go_on-in-loop-by.new.ends _ _ _ _ p.1 p.2
    (subst (λ (x : List (Option Shape)). Reached c.args.ends.now x (Err c.in_err-go_on-in-Shift.field-0.0) c.go_on-in-loop-by.new.ends)
    (ends_shifted c.args.pattern (omega arith) c.in-Shift.z c.in-Shift.upper c.in-Shift.lower c.in-Shift.ensures.value c.moves-by-items.result.now c.moves-by-items.ensures)
    (turn_fails (shape_of c.args.pattern) c.in-Shift.z c.moves-by-items.result.now c.loop-by.by-index Up c.loop-by-test.true c.args.ends.now c.loop-by.ends c.go_on-in-loop-by.new.ends _ c.loop-by.invariant
    (subst (λ (x : Option Shape). Reached c.loop-by.ends (ends_from ends_of x) (Err c.in_err-go_on-in-Shift.field-0.0) c.go_on-in-loop-by.new.ends) c.move_at.ensures c.in_err-go_on-in-Shift.ensures)))

pub follow-loop-by-preserved : goal.follow-loop-by-preserved
follow-loop-by-preserved t c =
    turn_more (shape_of c.args.pattern) c.in-Shift.z c.moves-by-items.result.now c.loop-by.by-index Up c.loop-by-test.true c.args.ends.now c.loop-by.ends c.go_on-in-loop-by.new.ends c.loop-by.invariant
    (subst (λ (x : Option Shape). Grown c.loop-by.ends (ends_from ends_of x) c.go_on-in-loop-by.new.ends) c.move_at.ensures c.in_ok-go_on-in-Shift.ensures)

pub follow-returns-in-Kept : goal.follow-returns-in-Kept
unfolding by_turn
follow-returns-in-Kept t c =
    subst (λ (x : List (Option Shape)). Reached c.args.ends.now x c.reach.result c.reach.new.self)
    (ap (λ (e : Option Shape). e ∷ []) (kept_end c.args.pattern c.new.result c.in-Kept.ensures.told c.new.ensures) ∙ sym (by_its_turn c.args.pattern (omega arith) Kept c.in-Kept.ensures.value))
    c.reach.ensures

pub follow-returns-in-Dropped : goal.follow-returns-in-Dropped
unfolding by_turn
follow-returns-in-Dropped t c =
    subst (λ (x : List (Option Shape)). Reached c.args.ends.now x c.reach-in-Dropped.result c.reach-in-Dropped.new.self)
    (sym (by_its_turn c.args.pattern (omega arith) Dropped c.in-Dropped.ensures.value)) c.reach-in-Dropped.ensures

pub follow-returns-in-Merge : goal.follow-returns-in-Merge
unfolding by_turn alternatives
follow-returns-in-Merge t c =
    subst (λ (x : List (Option Shape)). Reached c.args.ends.now x c.go_on.result c.go_on.new.ends)
    (ends_one c.args.pattern (omega arith) (Merge c.in-Merge.z) c.in-Merge.ensures.value c.merge_at.result _ c.merge_at.ensures refl) c.go_on.ensures

pub follow-returns-in_ok-go_on-in-Split : goal.follow-returns-in_ok-go_on-in-Split
follow-returns-in_ok-go_on-in-Split t c =
    subst (λ (x : List (Option Shape)). Reached c.args.ends.now x c.go_on-in-Split-2.result c.go_on-in-Split-2.new.ends)
    (ends_split c.args.pattern (omega arith) c.in-Split.z c.in-Split.axis c.in-Split.ensures.value c.axis_at-plain.result c.axis_at-plain.ensures _ c.merge_at-merged.ensures)
    (reached_then c.args.ends.now c.go_on-in-Split.new.ends c.go_on-in-Split-2.new.ends _ _ c.go_on-in-Split-2.result c.in_ok-go_on-in-Split.ensures c.go_on-in-Split-2.ensures)

pub follow-returns-in-Open : goal.follow-returns-in-Open
unfolding by_turn alternatives
follow-returns-in-Open t c =
    subst (λ (x : List (Option Shape)). Reached c.args.ends.now x c.go_on-in-Open.result c.go_on-in-Open.new.ends)
    (ends_one c.args.pattern (omega arith) (Open c.in-Open.z c.in-Open.aside) c.in-Open.ensures.value c.open_at.result _ c.open_at.ensures refl) c.go_on-in-Open.ensures

pub follow-returns-after-loop-by : goal.follow-returns-after-loop-by
follow-returns-after-loop-by t c =
    subst (λ (x : List (Option Shape)). Grown c.args.ends.now x c.loop-by.ends)
    (ends_shifted c.args.pattern (omega arith) c.in-Shift.z c.in-Shift.upper c.in-Shift.lower c.in-Shift.ensures.value c.moves-by-items.result.now c.moves-by-items.ensures)
    (turns_done (shape_of c.args.pattern) c.in-Shift.z c.moves-by-items.result.now c.loop-by.by-index c.loop-by-test.false c.args.ends.now c.loop-by.ends c.loop-by.invariant)
