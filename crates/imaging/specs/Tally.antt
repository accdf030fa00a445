-- How many files were fitted and how many were not: what the last line counts.
use Rattle.std.specs.Prelude.{ℕ, ◌+◌, Bool, true, false}
use Rattle.imaging.specs.declared.tally.Tally.{Tally}

-- one file more, fitted or not
unfoldable pub tallied : Bool → Tally → Tally
tallied true t = record { fitted = t.fitted + 1; not = t.not }
tallied false t = record { fitted = t.fitted; not = t.not + 1 }

-- how many files are counted
abbrev pub files : Tally → ℕ
files t = t.fitted + t.not
