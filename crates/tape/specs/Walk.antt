-- The chain rule, over any numbers: what a walk does to the adjoints, and how the nodes that it walks are read off the
-- arrays.
use Rattle.std.specs.Prelude.{ℕ, zero, suc, ◌+◌, Bool, ◌&&◌, List, [], ◌∷◌, map, ltb, leb, get_or, set}
use Rattle.tape.specs.Numbers.{Numbers}
use Rattle.tape.specs.Machine.{Arrays, most_edges, slot, all}

pub record Edge (N : Numbers) : Type 0 where
  pub child : ℕ
  pub weight : N.Number

-- a node of adjoint a, edge by edge: child adjoint = child adjoint + (partial * node adjoint)
abbrev pub push : {N : Numbers} → N.Number → List (Edge N) → List N.Number → List N.Number
push a [] adjoints = adjoints
push {N} a (e ∷ es) adjoints =
    push a es (set adjoints e.child (N.plus (get_or adjoints e.child N.blank) (N.times e.weight a)))

-- some nodes, each given by its edges, that stand at i, i + 1 and so on: from the highest index down
abbrev pub walk : {N : Numbers} → ℕ → List (List (Edge N)) → List N.Number → List N.Number
walk i [] adjoints = adjoints
walk {N} i (es ∷ above) adjoints =
    let later = walk (suc i) above adjoints in
    push (get_or later i N.blank) es later

-- ---- read off the arrays

-- k edges, from a slot on
abbrev pub edges_from : {N : Numbers} → List ℕ → List N.Number → ℕ → ℕ → List (Edge N)
edges_from children partials s zero = []
edges_from {N} children partials s (suc k) =
    record { child = get_or children s 0; weight = get_or partials s N.blank } ∷ edges_from children partials (suc s) k

-- the edges that node i counts
abbrev pub edges_at : {N : Numbers} → Arrays N → ℕ → List (Edge N)
edges_at A i = edges_from A.child A.partial (slot i) (get_or A.count i 0)

-- k indexes, from i on
abbrev pub indexes : ℕ → ℕ → List ℕ
indexes i zero = []
indexes i (suc k) = i ∷ indexes (suc i) k

abbrev pub sum : List ℕ → ℕ
sum [] = 0
sum (k ∷ ks) = k + sum ks

-- how many edges a walk of the range visits: the sum of its edge counts
abbrev pub visited : {N : Numbers} → Arrays N → List ℕ → ℕ
visited A range = sum (map (λ i. get_or A.count i 0) range)

-- what refusal 7 asks of node i: at most two edges, and the child of each below i
abbrev pub sound : {N : Numbers} → Arrays N → ℕ → Bool
sound A i = leb (get_or A.count i 0) most_edges && all (map (λ e. ltb e.child i) (edges_at A i))
