-- The listing: the bytes that show a tape, as a function of the machine.
use Rattle.std.specs.Prelude.{ℕ, cond, List, [], ◌∷◌, ◌++◌, get_or}
use Rattle.text.specs.Numerals.{bytes, hex, decimal}
use Rattle.tape.specs.Numbers.{Numbers}
use Rattle.tape.specs.Machine.{Arrays, Machine}
use Rattle.tape.specs.Walk.{indexes}
use Rattle.tape.specs.declared.tape.Tape.{Tape}

abbrev pub header : Tape → List ℕ
header t =
    bytes "nodes=" ++ decimal t.length ++ bytes " mark=" ++ decimal t.mark ++ bytes " active=" ++ decimal (cond t.active 1 0) ++ bytes "\n"

abbrev pub line : {N : Numbers} → Arrays N → ℕ → List ℕ
line {N} A i =
    bytes "node=" ++ decimal i
    ++ bytes " val=" ++ hex (N.bits (get_or A.value i N.blank))
    ++ bytes " adj=" ++ hex (N.bits (get_or A.adjoint i N.blank))
    ++ bytes "\n"

abbrev pub lines : {N : Numbers} → Arrays N → List ℕ → List ℕ
lines A [] = []
lines A (i ∷ is) = line A i ++ lines A is

-- the header, then one line per live node
abbrev pub listing : {N : Numbers} → Machine N → List ℕ
listing M = header M.state ++ lines M.lent (indexes 0 M.state.length)
