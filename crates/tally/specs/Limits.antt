-- Where a count stops.
use Rattle.std.specs.Prelude.{ℕ}

abbrev pub max_count : ℕ
max_count = 65535
