-- Demand 3 on lists alone, with no calls and no arrays: nodes are given by their edges, and gradients are passed back
-- by the walk. Over any numbers; no law of them is assumed.
use Rattle.std.specs.Prelude.{ℕ, ◌+◌, ◌<◌, ◌≡◌, false, ◌&&◌, cond, List, [], ◌∷◌, ◌++◌, map, ltb, length, set, take, replicate}
use Rattle.tape.specs.Numbers.{Numbers}
use Rattle.tape.specs.Walk.{Edge, walk}
use Rattle.revolutions.specs.Trading.{goes}

-- the nodes of a revolution, standing right behind the model's, and which of them is the root
pub record Part (N : Numbers) : Type 0 where
  pub nodes : List (List (Edge N))
  pub root : ℕ

-- zero for each node, and one for the root
abbrev pub seed : {N : Numbers} → Part N → List N.Number
seed {N} p = set (replicate (length p.nodes) N.nought) p.root N.one

-- ---- one after the other

-- a revolution behind a model with these adjoints: passed back to the model and cut off
abbrev pub folded : {N : Numbers} → Part N → List N.Number → List N.Number
folded p adjoints = let m = length adjoints in take m (walk m p.nodes (adjoints ++ seed p))

abbrev pub folded_all : {N : Numbers} → List (Part N) → List N.Number → List N.Number
folded_all [] adjoints = adjoints
folded_all (p ∷ ps) adjoints = folded_all ps (folded p adjoints)

-- the model's adjoints, first zero, after the revolutions and its own walk
abbrev pub one_by_one : {N : Numbers} → List (List (Edge N)) → List (Part N) → List N.Number
one_by_one {N} model ps = walk 0 model (folded_all ps (replicate (length model) N.nought))

-- ---- at once

-- k places up: the edges to the model's m nodes stay
abbrev pub up : {N : Numbers} → ℕ → ℕ → List (List (Edge N)) → List (List (Edge N))
up m k nodes =
    map (map (λ e. record { child = cond (ltb e.child m) e.child (e.child + k); weight = e.weight })) nodes

-- last to first, each moved to its place
abbrev pub placed : {N : Numbers} → ℕ → List (Part N) → List (List (Edge N))
placed m [] = []
placed m (p ∷ ps) = let later = placed m ps in later ++ up m (length later) p.nodes

abbrev pub all_seeds : {N : Numbers} → List (Part N) → List N.Number
all_seeds [] = []
all_seeds (p ∷ ps) = all_seeds ps ++ seed p

-- walked once, from the end to 0: the model's part
abbrev pub at_once : {N : Numbers} → List (List (Edge N)) → List (Part N) → List N.Number
at_once {N} model ps =
    let m = length model in take m (walk 0 (model ++ placed m ps) (replicate m N.nought ++ all_seeds ps))

-- ---- what is proved

-- Proved in proofs/Folded.antt
pub record OnLists : Type 1 where
  pub sum : {N : Numbers} (model : List (List (Edge N))) (ps : List (Part N)) → one_by_one model ps ≡ at_once model ps
  -- neighbours with no edge to a common node of the model
  pub trade : {N : Numbers} (model : List (List (Edge N))) (before later : List (Part N)) (p q : Part N)
      → ((i : ℕ) → i < length model → (goes i p.nodes && goes i q.nodes) ≡ false)
      → one_by_one model (before ++ (p ∷ q ∷ later)) ≡ one_by_one model (before ++ (q ∷ p ∷ later))
