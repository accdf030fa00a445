-- Demand 3: the session's adjoints are those of its revolutions one by one (`by_turns`), which on lists are those of
-- all at once; and all at once is the long tape.
use Prim.Native.Nat.{ℕ, ◌+◌, ◌-◌, ◌≤◌}
use native.Mathlib.Omega.{arith}
use mathlib.Core.Path.{◌≡◌, refl, sym, ap, ◌∙◌}
use mathlib.Core.Bool.{Bool, true, false, cond}
use mathlib.Core.List.{List, [], ◌∷◌, ◌++◌, map, map-append}
use mathlib.Core.Option.{Option, none, some}
use borrow.Author.Tests.{le-ltb}
use lib.Dec.{ltb}
use lib.ListN.{length, length-map}
use Rattle.tape.specs.Numbers.{Numbers}
use Rattle.tape.specs.Handles.{Operand, plain, node}
use Rattle.tape.specs.Operations.{Row, apply, one_sided}
use Rattle.tape.proofs.Tests.{by_test}
use Rattle.revolutions.specs.Revolutions.{Operation, Revolution, Session, ResolvedOperand, number, resolve_operand, resolve_operation, ResolvedRevolution, resolve_revolution, resolve, operand_value, edge, nodes, behind, seeds, long_tape, Demand3}
use Rattle.revolutions.specs.Folded.{Part, up, placed, all_seeds}
use Rattle.revolutions.proofs.Folded.{on_lists}
use Rattle.revolutions.proofs.Turns.{length_nodes, part, summed, as_many, by_turns}
use Rattle.revolutions.proofs.Walks.{raise}

-- ---- a revolution moved to its place

module _ {N : Numbers} (m k : ℕ) where
  -- its edges to the model stay, and those to its own nodes go with it
  edge_raised : (o : Operand N) (p : Option N.Number) → edge (m + k) (resolve_operand m o) p ≡ raise m k (edge m (resolve_operand m o) p)
  edge_raised (plain x) none = refl
  edge_raised (plain x) (some p) = refl
  edge_raised (node h) none = refl
  edge_raised (node h) (some p) =
      by_test (λ (d : ResolvedOperand N). edge (m + k) d (some p) ≡ raise m k (edge m d (some p))) (ltb h.index m) (λ t. rw t)
      (λ _. let j = h.index - m in let past : m ≤ m + j = omega arith in let up : m + k + j ≡ m + j + k = omega arith in rw (le-ltb (m + j) m past, up))

  -- so do those of the right operand, used or not
  right_raised : (t : Bool) (o : Operand N) (p : Option N.Number) → let d = cond t (number N.nought) (resolve_operand m o) in edge (m + k) d p ≡ raise m k (edge m d p)
  right_raised true o none = refl
  right_raised true o (some p) = refl
  right_raised false o p = edge_raised o p

  -- a node's edges, and the edges of all nodes
  both_raised : (o : Operation N) (s : Row N) → let d = resolve_operation m o in edge (m + k) d.left s.left ++ edge (m + k) d.right s.right ≡ raise m k (edge m d.left s.left ++ edge m d.right s.right)
  both_raised o s = rw (edge_raised o.left s.left, right_raised (one_sided o.operation) o.right s.right, map-append)

  nodes_raised : (models owns : List N.Number) (os : List (Operation N)) → map (λ n. n.edges) (nodes (m + k) models owns (map (resolve_operation m) os)) ≡ up m k (map (λ n. n.edges) (nodes m models owns (map (resolve_operation m) os)))
  nodes_raised models owns [] = refl
  nodes_raised models owns (o ∷ os) =
      let d = resolve_operation m o in
      let s = apply d.operation (operand_value models owns d.left) (operand_value models owns d.right) d.supplied in
      λ i. both_raised o s i ∷ nodes_raised models (owns ++ (s.value ∷ [])) os i

-- ---- the long tape

module _ {N : Numbers} (models : List N.Number) where
  abbrev parts : List (Revolution N) → List (Part N)
  parts rs = map (part (length models) models) (map (resolve_revolution (length models)) rs)

  -- the revolutions behind the model are the parts, each in its place
  behind_placed : (rs : List (Revolution N)) → map (λ n. n.edges) (behind models (map (resolve_revolution (length models)) rs)) ≡ placed (length models) (parts rs)
  behind_placed [] = refl
  behind_placed (r ∷ rs) =
      let m = length models in
      let later = behind models (map (resolve_revolution m) rs) in
      let k : length (placed m (parts rs)) ≡ length later = ap length (sym (behind_placed rs)) ∙ length-map later (λ n. n.edges) in
      rw (map-append, behind_placed rs, k, nodes_raised m (length later) models [] r.operations)

  -- and so are the seeds
  seeds_placed : (ts : List (ResolvedRevolution N)) → seeds ts ≡ all_seeds (map (part (length models) models) ts)
  seeds_placed [] = refl
  seeds_placed (t ∷ ts) = rw (length-map, length_nodes, seeds_placed ts)

-- one by one is at once, which is the long tape
summed_long : {N : Numbers} (s : Session N) → summed (resolve s) ≡ long_tape (resolve s)
summed_long s =
    let first = nodes 0 [] [] (resolve s).model in
    let models = map (λ n. n.value) first in
    on_lists.sum (map (λ n. n.edges) first) (map (part (length models) models) (resolve s).revolutions)
    ∙ rw (length-map first (λ n. n.edges), ← as_many s, ← length-map first (λ n. n.value), map-append, behind_placed models s.revolutions, seeds_placed models (map (resolve_revolution (length models)) s.revolutions))

pub demand_3 : Demand3
demand_3 = record { sum_over_revolutions = λ s cs M p. by_turns s cs M p ∙ summed_long s }
