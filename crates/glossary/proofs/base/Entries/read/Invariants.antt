use Rattle.std.proofs.Common.{◌≡◌, ◌≤◌, length, drop}
use Rattle.glossary.specs.Checks.{NoneOf}
use Rattle.glossary.specs.Layout.{start, Cut}
use Rattle.glossary.proofs.base.Entries.read.Given as goal

abbrev pub invariant-loop-k : goal.invariant-loop-k
invariant-loop-k l =
    (l.rest ≡ drop (start l.block l.k) l.block) × NoneOf (Cut l.block) l.k × (start l.block l.k ≤ length l.block)
