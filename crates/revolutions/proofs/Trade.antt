-- Two neighbours among the revolutions trade places. Both sessions' adjoints are those of their revolutions one by one,
-- and on lists the two may be swapped.
use mathlib.Core.Path.{◌≡◌, sym, ap, ◌∙◌}
use mathlib.Core.List.{List, [], map, map-append}
use lib.ListN.{length, length-map}
use Rattle.tape.specs.Numbers.{Numbers}
use Rattle.tape.specs.Machine.{Machine}
use Rattle.tape.specs.Calls.{Call}
use Rattle.revolutions.specs.Revolutions.{Session, ResolvedOperation, ResolvedRevolution, resolve, nodes, RunsAs, model_adjoints}
use Rattle.revolutions.specs.Trading.{Apart, with_both}
use Rattle.revolutions.specs.Folded.{Part}
use Rattle.revolutions.proofs.Folded.{on_lists}
use Rattle.revolutions.proofs.Turns.{part, summed, by_turns}

-- what two resolved sessions sum to that differ in the order of p and q
traded : {N : Numbers} (model : List (ResolvedOperation N)) (before later : List (ResolvedRevolution N)) (p q : ResolvedRevolution N) → Apart model p q → summed (with_both model before p q later) ≡ summed (with_both model before q p later)
traded {N} model before later p q apart =
    let first = nodes 0 [] [] model in
    let values = map (λ n. n.value) first in
    let m = length values in
    let parts : List (ResolvedRevolution N) → List (Part N) = map (part m values) in
    let same : length (map (λ n. n.edges) first) ≡ m = simp length-map in
    rw (map-append, map-append) (on_lists.trade (map (λ n. n.edges) first) (parts before) (parts later) (part m values p) (part m values q) (λ i h. apart i (rw same at h)))

pub same_adjoints : {N : Numbers} (s t : Session N) (cs ds : List (Call N)) (M L : Machine N) (model : List (ResolvedOperation N)) (before later : List (ResolvedRevolution N)) (p q : ResolvedRevolution N) → RunsAs s cs M → RunsAs t ds L
    → resolve s ≡ with_both model before p q later → resolve t ≡ with_both model before q p later
    → Apart model p q → model_adjoints s cs M ≡ model_adjoints t ds L
same_adjoints s t cs ds M L model before later p q runs played e f apart =
    by_turns s cs M runs ∙ ap summed e ∙ traded model before later p q apart ∙ sym (by_turns t ds L played ∙ ap summed f)
