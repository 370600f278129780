-- What a glossary stands for.
use Rattle.std.specs.Prelude.{ℕ, ◌+◌, ◌-◌, List}
use Rattle.glossary.specs.declared.base.Glossary.{Glossary}
use Rattle.glossary.specs.declared.names.Names.{Names}
use Rattle.glossary.specs.Layout.{start, listed, names_in}

-- its names, in the order of their labels
abbrev pub names_of : Glossary → List (List ℕ)
names_of g = listed g.entries.block.now g.entries.count

-- the byte of its block at which the name of a label begins: behind the byte with its length
abbrev pub offset_of : Glossary → ℕ → ℕ
offset_of g label = start g.entries.block.now (label - 1) + 1

-- the names that an iterator over names has still to give
abbrev pub names_left : Names → List (List ℕ)
names_left s = names_in s.bytes.now s.left
