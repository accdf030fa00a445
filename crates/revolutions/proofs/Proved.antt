-- The statements of specs/, each with its proof.
use Rattle.revolutions.specs.Answered.{Demand1}
use Rattle.revolutions.specs.Examples.{Example, Overlapping, ApartHere, Cut, InSlices}
use Rattle.revolutions.specs.Folded.{OnLists}
use Rattle.revolutions.specs.Revolutions.{Demand3}
use Rattle.revolutions.specs.Trading.{TradingPlaces}
use Rattle.revolutions.specs.Table.{ProvedTable}
use Rattle.revolutions.proofs.Answered as answered
use Rattle.revolutions.proofs.Examples as examples
use Rattle.revolutions.proofs.Folded as folded
use Rattle.revolutions.proofs.Sum as sum
use Rattle.revolutions.proofs.Swap as swap
use Rattle.revolutions.proofs.Table as table
use Rattle.revolutions.proofs.Trade as trade

demand_1 : Demand1
demand_1 = answered.demand_1

demand_3 : Demand3
demand_3 = sum.demand_3

trading_places : TradingPlaces
trading_places = record { same_adjoints = trade.same_adjoints; either_order = swap.either_order }

on_lists : OnLists
on_lists = folded.on_lists

example : Example
example = examples.example

overlapping : Overlapping
overlapping = examples.overlapping

apart_here : ApartHere
apart_here = examples.apart_here

cut : Cut
cut = examples.cut

in_slices : InSlices
in_slices = examples.in_slices

proved_table : ProvedTable
proved_table = table.proved_table
