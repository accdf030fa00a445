-- The statements of specs/, each with its proof.
use Rattle.files.specs.Example.{Example}
use Rattle.files.specs.Files.{RunIsRun, LiveBelow, EveryAnswer}
use Rattle.files.specs.Summed.{Demand3}
use Rattle.files.proofs.Example as computed
use Rattle.files.proofs.Held as held
use Rattle.files.proofs.Refused as refused
use Rattle.files.proofs.Runs as runs
use Rattle.files.proofs.Summed as summed

run_is_run : RunIsRun
run_is_run = runs.run_is_run

live_below : LiveBelow
live_below = held.live_below

every_answer : EveryAnswer
every_answer = refused.every_answer

demand_3 : Demand3
demand_3 = summed.demand_3_of_files

example : Example
example = computed.example
