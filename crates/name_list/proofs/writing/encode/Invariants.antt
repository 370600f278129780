use Rattle.std.proofs.Common.{◌≡◌, ◌++◌, length, take, vec_items}
use Rattle.std.specs.List.{flat_map}
use Rattle.glossary.specs.Format.{head_of, entry_of}
use Rattle.name_list.specs.Lists.{bytes_of}
use Rattle.name_list.proofs.writing.encode.Given as goal

abbrev pub invariant-loop-name : goal.invariant-loop-name
invariant-loop-name l =
    vec_items l.block ≡ head_of (length (bytes_of l.names)) ++ flat_map entry_of (take l.name-index (bytes_of l.names))
