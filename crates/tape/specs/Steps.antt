-- One call, and a list of them.
use Rattle.std.specs.Prelude.{List, [], ◌∷◌}
use Rattle.std.proofs.Math.Option.{Option, none, some}
use Rattle.tape.specs.Numbers.{Numbers}
use Rattle.tape.specs.Machine.{Machine}
use Rattle.tape.specs.Answers.{Answer, refused}
use Rattle.tape.specs.Calls.{Call, carried}
use Rattle.tape.specs.Refusals.{refusal_of}
use Rattle.tape.specs.declared.errors.Refusal.{Refusal}

-- a refusal leaves the machine as it was; otherwise the call does what it does
abbrev pub unless : {N : Numbers} → Option Refusal → Machine N → Answer N × Machine N → Answer N × Machine N
unless none M otherwise = otherwise
unless (some r) M otherwise = (refused r, M)

-- one call
unfoldable pub step : {N : Numbers} → Call N → Machine N → Answer N × Machine N
step c M = unless (refusal_of c M) M (carried c M)

-- a list of them, each getting the machine as the call before left it
abbrev pub run : {N : Numbers} → List (Call N) → Machine N → List (Answer N) × Machine N
run [] M = ([], M)
run (c ∷ cs) M =
    let one = step c M in
    let rest = run cs one.1 in
    (one.0 ∷ rest.0, rest.1)
