use Rattle.std.proofs.Common.{ℕ, ◌<◌, ◌≤◌, List, length, subst, arith}
use Rattle.glossary.specs.Limits.{max_name}
use Rattle.name_list.specs.Lists.{bytes_of}
use Rattle.name_list.proofs.Judging.{good_name_length, not_bad, encode_more}
use Rattle.name_list.proofs.Slices.{bytes_at, length_bytes_of}
use Rattle.name_list.proofs.writing.encode.Goals as goal

pub append-requires : goal.append-requires
append-requires c =
    let names = bytes_of c.args.names.now in
    let inside : c.loop-name.name-index < length names = omega (arith, c.loop-name-test.true, length_bytes_of c.args.names.now) in
    subst (λ (l : List ℕ). length l ≤ max_name) (bytes_at c.args.names.now c.loop-name.name-index _ c.loop-name-test.true)
    (good_name_length _ (not_bad names c.loop-name.name-index (c.requires.good c.loop-name.name-index inside)))

pub loop-name-preserved : goal.loop-name-preserved
loop-name-preserved c =
    let names = bytes_of c.args.names.now in
    let inside : c.loop-name.name-index < length names = omega (arith, c.loop-name-test.true, length_bytes_of c.args.names.now) in
    encode_more names c.loop-name.name-index _ _ _ inside c.loop-name.invariant (bytes_at c.args.names.now c.loop-name.name-index _ c.loop-name-test.true) c.in_ok-append.ensures
