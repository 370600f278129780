use Rattle.std.proofs.Common.{◌≡◌, ℕ, eqb, List, refl, sym, ap, ◌∙◌, subst, Bor, arith, rules, tests}
use Rattle.std.proofs.lemmas.Bool.Decides.{Decides-eqb}
use Rattle.std.proofs.lemmas.Iterator.Consumers.{map_from_collect}
use Rattle.std.proofs.lemmas.Iterator.Splits.{YieldsList-from_slice_split}
use Rattle.std.proofs.lemmas.List.{same_lists, places}
use Rattle.std.proofs.lemmas.Result.{IfOk-weaker}
use Rattle.std.proofs.lemmas.Slice.Eq.{strip_suffix_is}
use Rattle.std.specs.Option.{unwrap_or}
use Rattle.name_list.proofs.Splits.{lines_from_parts}
use Rattle.name_list.specs.Lines.{LinesOf}
use Rattle.name_list.proofs.splitting.lines.Goals as goal

-- what is cut is told to be the text without its end by its places, as in `first_bad`
pub returns : goal.returns
returns c =
    let text = c.args.text in
    let front = c.strip_suffix.result in
    let bytes = c.split.result.rest.now in
    let stripped : c.unwrap_or-text.result.now ≡ (unwrap_or front text).now = ap (λ (t : Bor (List ℕ)). t.now) c.unwrap_or-text.ensures in
    let same : bytes ≡ (unwrap_or front text).now = c.split.ensures.rest ∙ (same_lists _ _ (search (rules, places)) (λ k d h. grind (arith, places)) ∙ stripped) in
    let cut = map_from_collect c.collect.result c.collect.ensures.ran (YieldsList-from_slice_split _ (λ byte. eqb byte 10) bytes refl c.split.ensures.done c.split.ensures.closure (λ x r q k. search (rules, tests))) in
    let lines = lines_from_parts text bytes front (search (rules, tests)) (strip_suffix_is Decides-eqb text.now _ front c.strip_suffix.ensures.cases) same in
    IfOk-weaker c.collect.result _ _ (λ v e. subst (λ (x : List (List ℕ)). LinesOf x text.now) (sym e) lines) cut
