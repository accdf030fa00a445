-- What the private functions promise: the rule as the code goes about it. Only their proofs use it; every public
-- promise speaks of `step`.
use Rattle.std.specs.Prelude.{ℕ, ◌+◌, ◌-◌, ◌≤◌, ◌<◌, ◌≡◌, Bool, true, List, [], ◌∷◌, map, Float, length, get_or, Option, None, Some, Result, Ok, Err}
use Rattle.std.specs.Result.{result_and}
use Rattle.std.proofs.Math.Option.{Option as Maybe, none, some}
use Rattle.std.specs.Float.{nan}
use Rattle.tape.specs.Numbers.{floats}
use Rattle.tape.specs.Machine.{most_nodes, most_edges, slot, all, lent}
use Rattle.tape.specs.Handles.{Operand, plain, node, usable_as}
use Rattle.tape.specs.Walk.{walk, edges_at, indexes, visited, sound}
use Rattle.tape.specs.Calls.{Plan, seeded, span_of}
use Rattle.tape.specs.declared.errors.Refusal.{Refusal}
use Rattle.tape.specs.declared.errors.Refusal.TheVariants.{Detached}
use Rattle.tape.specs.declared.node.Handle.{Handle}
use Rattle.tape.specs.declared.nodes.Nodes.{Nodes}
use Rattle.tape.specs.declared.tape.Span.{Span}
use Rattle.tape.specs.declared.tape.Tape.{Tape}
use Rattle.dual.specs.declared.planning.Plan as code

-- ---- reads

abbrev pub behind_node : Tape → List ℕ → List Float → Handle → Result Float Refusal
behind_node t serials held h = result_and (usable_as t serials h) (Ok (get_or held h.index nan))

-- ---- plans

-- the root of a pass that is let in
abbrev pub found_root : Tape → List ℕ → List (Operand floats) → Result (Option Handle) Refusal
found_root t serials [] = Ok None
found_root t serials (plain x ∷ os) = Err Detached
found_root t serials (node h ∷ os) = result_and (usable_as t serials h) (Ok (Some h))

-- a plan's root, as the code has it; a number is no root, and refused
abbrev pub root_of : List (Operand floats) → Option Handle
root_of [] = None
root_of (plain x ∷ os) = None
root_of (node h ∷ os) = Some h

-- and the other way
abbrev pub operands_of : Option Handle → List (Operand floats)
operands_of None = []
operands_of (Some h) = node h ∷ []

-- the plan, unless the pass is refused
abbrev pub planned : Maybe Refusal → Plan floats → Result code.Plan Refusal
planned none P = Ok (record { root = root_of P.root; span = span_of P })
planned (some r) P = Err r

abbrev pub inside : Span → List ℕ
inside s = indexes s.from (s.end - s.from)

abbrev pub all_sound : Nodes → Span → Bool
all_sound n s = all (map (sound (lent n [])) (inside s))

-- ---- walks

-- node i's entries are there, and its edge slots
pub record EdgeRoom (i : ℕ) (n : Nodes) : Type 0 where
  pub small : i < most_nodes
  pub count : i < length n.count.now
  pub child : slot i + most_edges ≤ length n.child.now

-- node i can be walked
pub record NodeRoom (i : ℕ) (n : Nodes) (adjoints : List Float) : Type 0 where
  pub adjoint : i < length adjoints
  pub edges : EdgeRoom i n
  pub partial : slot i + most_edges ≤ length n.partial.now
  pub sound : sound (lent n []) i ≡ true

-- a span whose nodes can be tested: its end is within the arrays, which hold no more nodes than a tape does
pub record Within (s : Span) (n : Nodes) : Type 0 where
  pub small : s.end ≤ most_nodes
  pub count : s.end ≤ length n.count.now
  pub child : slot s.end ≤ length n.child.now

-- a span whose nodes can be walked
pub record Walkable (s : Span) (n : Nodes) (adjoints : List Float) : Type 0 where
  pub within : Within s n
  pub adjoint : s.end ≤ length adjoints
  pub partial : slot s.end ≤ length n.partial.now
  pub sound : all_sound n s ≡ true

-- a root whose adjoint is there
abbrev pub Below : Option Handle → List Float → Type 0
Below None adjoints = Unit {0}
Below (Some h) adjoints = h.index < length adjoints

-- a plan that can be carried out
pub record Ready (p : code.Plan) (n : Nodes) (adjoints : List Float) : Type 0 where
  pub root : Below p.root adjoints
  pub span : Walkable p.span n adjoints

abbrev pub walked_back : Span → Nodes → List Float → List Float
walked_back s n adjoints = walk s.from (map (edges_at (lent n [])) (inside s)) adjoints

abbrev pub visits : Span → Nodes → ℕ
visits s n = visited (lent n []) (inside s)

-- the adjoints once a plan is carried out
abbrev pub carried_out : code.Plan → Nodes → List Float → List Float
carried_out p n adjoints = walked_back p.span n (seeded (operands_of p.root) adjoints)
