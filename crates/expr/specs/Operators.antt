-- The calls of the two recordings that have a method of their own.
use Rattle.std.specs.Prelude.{Float}
use Rattle.tape.specs.Numbers.{floats}
use Rattle.tape.specs.Handles.{Operand, plain}
use Rattle.tape.specs.Operations.{Given, LEAF}
use Rattle.tape.specs.Calls.{Call, operate}

-- a leaf uses no right operand and nothing that is supplied: +0.0 stands there
abbrev pub unused : Operand floats
unused = plain floats.nought

abbrev pub nothing : Given floats
nothing = record { value = floats.nought; left = floats.nought; right = floats.nought }

abbrev pub new_leaf : Float → Call floats
new_leaf x = operate LEAF (plain x) unused nothing

abbrev pub put_on_tape : Operand floats → Call floats
put_on_tape x = operate LEAF x unused nothing
