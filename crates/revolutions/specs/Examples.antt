-- What demand 3 says of one session of three revolutions, in bits, and what would not meet it; of one revolution that is
-- cut into parts; and of passes in slices. Proved in proofs/Examples.antt, by computation.
-- The revolutions pass 3, 2^53 and -2^53 back to one node of the model, so that the order of the three sums shows: (0 +
-- 3) + 2^53 is 2^53 + 4 in floats, and less 2^53 it is 4.
use Rattle.std.specs.Prelude.{ℕ, ◌+◌, ◌-◌, ◌*◌, ◌^◌, ◌≡◌, true, List, [], ◌∷◌, ◌++◌, map, reverse, Float, length, take, drop, replicate}
use Rattle.std.specs.Float.{binary64}
use Rattle.std.specs.Float.Ieee.{to_bits, neg}
use Rattle.tape.specs.Numbers.{floats}
use Rattle.tape.specs.Machine.{Machine, machine, most_nodes, state}
use Rattle.tape.specs.Operations.{LEAF, ADD, MULTIPLY, SUPPLIED_ONE}
use Rattle.tape.specs.Handles.{Operand, plain, node}
use Rattle.tape.specs.Calls.{Call, open_pass, slice, backward_to_mark, propagate_mark_to_start, adjoint_of, value_of, list}
use Rattle.tape.specs.Steps.{run}
use Rattle.tape.specs.Kept.{fresh}
use Rattle.tape.specs.Passes.{Unrefused}
use Rattle.tape.specs.Rows.{float, sevens, handle, given, node_at, with_open}
use Rattle.revolutions.specs.Revolutions.{Operation, Revolution, Session, ResolvedRevolution, ResolvedSession, resolve_revolution, resolve, calls, all_in_one_go, long_tape, RunsAs, model_adjoints}
use Rattle.revolutions.specs.Trading.{Apart, with_both}

-- ---- the session

abbrev pub operation : ℕ → Operand floats → Operand floats → Operation floats
operation op left right =
    record { operation = op; left = left; right = right; supplied = given (float 0) (float 0) (float 0) }

-- where an operation does not use its right operand: a handle that is not live
abbrev pub unused : Operand floats
unused = node (handle 9 9)

-- x = 3, and x * x
abbrev pub model : List (Operation floats)
model = operation LEAF (plain (float 3)) unused ∷ operation MULTIPLY (node_at 0) (node_at 0) ∷ []

-- On node i of the model: its value put on the tape again; a value of 5 with supplied partial w; that plus 1, which is
-- the root; and past the root its product with the first. The serials of the four nodes begin at k
abbrev pub revolution : ℕ → Float → ℕ → Revolution floats
revolution i w k = record {
  operations = operation LEAF (node_at i) unused
      ∷ record { operation = SUPPLIED_ONE; left = node_at i; right = unused; supplied = given (float 5) w w }
      ∷ operation ADD (node (handle 3 (k + 1))) (plain (float 1))
      ∷ operation MULTIPLY (node (handle 4 (k + 2))) (node (handle 2 k))
      ∷ [];
  root = handle 4 (k + 2);
}

-- what it resolves to, whatever the serials
abbrev pub back : ℕ → Float → ResolvedRevolution floats
back i w = resolve_revolution 2 (revolution i w 0)

abbrev pub high : Float
high = float (2 ^ 53)

abbrev pub three : Session floats
three =
    record { model = model; revolutions = revolution 1 (float 3) 3 ∷ revolution 1 high 7 ∷ revolution 1 (neg high) 11 ∷ [] }

-- with reads between: x * x's adjoint after the first revolution, and at the end its value and a listing
abbrev pub three_calls : List (Call floats)
three_calls =
    take 11 (calls three) ++ (adjoint_of (node_at 1) ∷ drop 11 (calls three)) ++ (value_of (node_at 1) ∷ list 1000 ∷ [])

-- six nodes' room, all sevens
abbrev pub before : Machine floats
before = fresh (sevens 6)

-- the last two revolutions in the other order
abbrev pub swapped : Session floats
swapped =
    record { model = model; revolutions = revolution 1 (float 3) 3 ∷ revolution 1 (neg high) 7 ∷ revolution 1 high 11 ∷ [] }

-- ---- rules that are not the long tape's

abbrev pub first_only : ResolvedSession floats → List Float
first_only resolved = long_tape (record { model = resolved.model; revolutions = take 1 resolved.revolutions })

-- the revolutions in the order in which they were recorded
abbrev pub in_recording_order : ResolvedSession floats → List Float
in_recording_order resolved =
    long_tape (record { model = resolved.model; revolutions = reverse resolved.revolutions })

-- adjoints that no walk changes
abbrev pub idle : ResolvedSession floats → List Float
idle resolved = replicate 2 (float 0)

-- ---- what is proved

abbrev pub bits : List Float → List ℕ
bits = map (to_bits binary64)

-- the session's model adjoints are what a rule gives
abbrev pub Meets : (ResolvedSession floats → List Float) → Type 0
Meets rule = model_adjoints three three_calls before ≡ rule (resolve three)

-- the adjoint of x is 24 and that of x * x is 4, by the calls and by the long tape
pub record Example : Type 0 where
  pub runs : RunsAs three three_calls before
  pub adjoints : bits (model_adjoints three three_calls before) ≡ 0x4038_0000_0000_0000 ∷ 0x4010_0000_0000_0000 ∷ []
  pub long : bits (long_tape (resolve three)) ≡ 0x4038_0000_0000_0000 ∷ 0x4010_0000_0000_0000 ∷ []
  -- these rules are not met
  pub not_first_only : Meets first_only → ⊥
  pub not_in_recording_order : Meets in_recording_order → ⊥
  pub not_idle : Meets idle → ⊥

-- The last two share a node of the model, and where they trade places the adjoints are 18 and 3: `Apart` is needed
pub record Overlapping : Type 0 where
  pub runs : RunsAs swapped (calls swapped) before
  pub adjoints : bits (model_adjoints swapped (calls swapped) before) ≡ 0x4032_0000_0000_0000 ∷ 0x4008_0000_0000_0000
      ∷ []
  pub resolves : resolve three ≡ with_both (resolve three).model (back 1 (float 3) ∷ []) (back 1 high) (back 1 (neg high)) []
  pub swapped_resolves : resolve swapped ≡ with_both (resolve three).model (back 1 (float 3) ∷ []) (back 1 (neg high)) (back 1 high) []
  pub changed : model_adjoints three three_calls before ≡ model_adjoints swapped (calls swapped) before → ⊥
  pub not_apart : Apart (resolve three).model (back 1 high) (back 1 (neg high)) → ⊥

-- one that passes back to x and one that passes back to x * x share none
abbrev pub ApartHere : Type 0
ApartHere = Apart (resolve three).model (back 0 (float 3)) (back 1 high)

-- ---- a revolution in parts

-- a term for each partial, passed back to node 1 of the model, and after it the sum so far: on nodes from i on, whose
-- serials begin at k
abbrev pub summed : ℕ → ℕ → Operand floats → List Float → List (Operation floats)
summed i k sum [] = []
summed i k sum (w ∷ ws) =
    record { operation = SUPPLIED_ONE; left = node_at 1; right = unused; supplied = given (float 5) w w }
    ∷ operation ADD sum (node (handle i k))
    ∷ summed (i + 2) (k + 2) (node (handle (i + 1) (k + 1))) ws

-- the terms from a plain 0 on; the last sum is the root
abbrev pub part : ℕ → List Float → Revolution floats
part k ws = record {
  operations = summed 2 k (plain (float 0)) ws;
  root = handle (2 * length ws + 1) (k + 2 * length ws - 1);
}

abbrev pub parts : List (Revolution floats) → Session floats
parts revolutions = record { model = model; revolutions = revolutions }

-- the session's model adjoints, in bits
abbrev pub adjoints_of : Session floats → List ℕ
adjoints_of s = bits (model_adjoints s (calls s) (fresh (sevens 8)))

-- Three terms on one tape; cut before the third, with the last part recorded first, which leaves the same bits; and with
-- the first part first, which does not
pub record Cut : Type 0 where
  pub whole : adjoints_of (parts (part 3 (neg high ∷ high ∷ float 3 ∷ []) ∷ [])) ≡ 0x4038_0000_0000_0000 ∷ 0x4010_0000_0000_0000 ∷ []
  pub last_part_first : adjoints_of (parts (part 3 (float 3 ∷ []) ∷ part 5 (neg high ∷ high ∷ []) ∷ [])) ≡ 0x4038_0000_0000_0000 ∷ 0x4010_0000_0000_0000 ∷ []
  pub first_part_first : adjoints_of (parts (part 3 (neg high ∷ high ∷ []) ∷ part 7 (float 3 ∷ []) ∷ [])) ≡ 0x4032_0000_0000_0000 ∷ 0x4008_0000_0000_0000 ∷ []

-- ---- passes in slices

-- the pass of the revolution whose serials begin at k, over its four nodes: slices of 1, of 2 and of what is left, with
-- an adjoint read between
abbrev pub cut_turn : ℕ → List (Call floats)
cut_turn k =
    let root = node (handle 4 (k + 2)) in
    open_pass (backward_to_mark root) ∷ slice 1 ∷ adjoint_of root ∷ slice 2 ∷ slice most_nodes ∷ []

-- the last pass, over the model's two
abbrev pub cut_last : List (Call floats)
cut_last = open_pass propagate_mark_to_start ∷ slice 1 ∷ adjoint_of (node_at 0) ∷ slice 1 ∷ []

-- these calls in the place of the one at i
abbrev pub instead : ℕ → List (Call floats) → List (Call floats) → List (Call floats)
instead i xs cs = take i cs ++ (xs ++ drop (i + 1) cs)

-- the session's calls, with every pass cut
abbrev pub all_cut : List (Call floats)
all_cut =
    instead 9 (cut_turn 3) (instead 15 (cut_turn 7) (instead 21 (cut_turn 11) (instead 23 cut_last (calls three))))

-- on a tape that was left with a walk open
abbrev pub walking : Machine floats
walking = with_open 0 1 (machine (state 1 0 true 1) (sevens 6))

-- with the last pass opened and no more
abbrev pub unfinished : List (Call floats)
unfinished = take (length all_cut - 3) all_cut

-- The session with every pass cut leaves the same bits. If its last pass is opened and no more, the rest of the premise
-- holds, but a walk is open after the last call, and the adjoint of x is 0: `over` is needed
pub record InSlices : Type 0 where
  pub runs : RunsAs three all_cut walking
  pub adjoints : bits (model_adjoints three all_cut walking) ≡ 0x4038_0000_0000_0000 ∷ 0x4010_0000_0000_0000 ∷ []
  pub unfinished_so : all_cut ≡ unfinished ++ (slice 1 ∷ adjoint_of (node_at 0) ∷ slice 1 ∷ [])
  pub unfinished_session : all_in_one_go unfinished ≡ calls three
  pub unfinished_unrefused : Unrefused (run unfinished walking).0
  pub unfinished_adjoints : bits (model_adjoints three unfinished walking) ≡ 0 ∷ 0x4010_0000_0000_0000 ∷ []
