-- What recording answers and what it is supplied, in the machine's terms.
use Rattle.std.specs.Prelude.{◌≡◌, Option, None, Some, Result, Ok, Err, OnErr, Float}
use Rattle.tape.specs.Numbers.{floats}
use Rattle.tape.specs.Machine.{Arrays, Machine, machine}
use Rattle.tape.specs.Operations.{Given}
use Rattle.tape.specs.Answers.{Answer, refused, detached, recorded}
use Rattle.tape.specs.declared.errors.Refusal.{Refusal}
use Rattle.tape.specs.declared.node.Handle.{Handle}
use Rattle.tape.specs.declared.tape.Tape.{Tape}
use Rattle.expr.specs.declared.operations.Supplied.{Supplied}
use Rattle.expr.specs.declared.recording.Recorded.{Recorded}

-- a value and its node's handle, or a value alone
abbrev pub told : Float → Option Handle → Answer floats
told v (Some h) = recorded v h
told v None = detached v

-- a refusal leaves the state
abbrev pub outcome : Result Recorded Refusal → Tape → Arrays floats → Answer floats × Machine floats
outcome (Ok x) t A = (told x.value x.handle, machine x.tape A)
outcome (Err r) t A = (refused r, machine t A)

-- what the host supplied
abbrev pub given : Supplied → Given floats
given s = record { value = s.value; left = s.left; right = s.right }

-- no two answers with their arrays say the same, nor two refusals of two states. Proved in proofs/OneToOne.antt
abbrev pub OneToOne : Type 0
OneToOne =
    (x y : Result Recorded Refusal) (t u : Tape) (A B : Arrays floats) → outcome x t A ≡ outcome y u B
    → (x ≡ y) × (A ≡ B) × OnErr x (t ≡ u)
