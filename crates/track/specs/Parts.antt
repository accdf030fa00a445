-- The parts of a turn, of at most 1,024 intervals each.
use Rattle.std.specs.Prelude.{ℕ, ◌+◌, ◌*◌, ◌/◌, min}
use Rattle.track.specs.declared.parts.Part.{Part}

-- how many parts n intervals have
abbrev pub part_count : ℕ → ℕ
part_count n = (n + 1023) / 1024

-- part i of n intervals, from 0 on; past the last it is empty, at the end
abbrev pub part : ℕ → ℕ → Part
part n i = record { from = min (1024 * i) n; end = min (1024 * i + 1024) n }
