-- Worked rows: calls, what they have to answer, and what has to be seen on the tape after them. P1 to P8 are document
-- 01's; the other rows shut out wrong rules that those would let through.
-- `EveryRow` is proved in proofs/Rows.antt, by computation.
use Rattle.std.specs.Prelude.{ℕ, ◌+◌, ◌^◌, ◌≡◌, true, false, List, [], ◌∷◌, ◌++◌, pos, Float, take, replicate}
use Prim.Native.String.{String}
use Rattle.std.specs.Float.{nan, inf, binary64}
use Rattle.std.specs.Float.Ieee.{of_bits, of_int, neg}
use Rattle.text.specs.Numerals.{bytes}
use Rattle.tape.specs.Numbers.{floats}
use Rattle.tape.specs.Machine.{Arrays, Machine, arrays, machine, most_nodes, slot, with_walk, state, span}
use Rattle.tape.specs.Handles.{Operand, plain, node}
use Rattle.tape.specs.Operations.{Given, LEAF, ADD, MULTIPLY, MAX, MIN, SUPPLIED_ONE, SUPPLIED_TWO, SQRT}
use Rattle.tape.specs.Listing.{header, listing}
use Rattle.tape.specs.Answers.{Answer, refused, done, read_value, recorded, counted, cut}
use Rattle.tape.specs.Calls.{Pass, Call, move, start, stop, set_mark, reset_mark, rewind_to_mark, rewind_to_init, operate, clear, pass, open_pass, slice, backward, backward_to_mark, backward_mark_to_start, propagate_to_mark, propagate_mark_to_start, value_of, adjoint_of, is_live, list}
use Rattle.tape.specs.Refusals.{last_serial}
use Rattle.tape.specs.Steps.{run}
use Rattle.tape.specs.Kept.{fresh, after}
use Rattle.tape.specs.declared.errors.Refusal.{Refusal}
use Rattle.tape.specs.declared.errors.Refusal.TheVariants.{Misshapen, Stale, Detached, UnsoundEdge, ListingTooLong, NeverIssued, OutOfTurn, UnfitSlice}
use Rattle.tape.specs.declared.node.Handle.{Handle}
use Rattle.std.specs.Prelude.{Some}

-- ---- what a row is

-- what is to be seen on a tape: an array, whole, or the listing
pub data Sight : Type 0 where
  adjoints partials : List Float → Sight
  edge_counts : List ℕ → Sight
  lists : String → Sight

abbrev pub Seen : Machine floats → Sight → Type 0
Seen M (adjoints xs) = M.lent.adjoint ≡ xs
Seen M (partials xs) = M.lent.partial ≡ xs
Seen M (edge_counts ks) = M.lent.count ≡ ks
Seen M (lists text) = listing M ≡ bytes text

pub record Row : Type 0 where
  pub before : Machine floats
  pub calls : List (Call floats)
  pub answers : List (Answer floats)
  pub sights : List Sight

abbrev pub AllSeen : Machine floats → List Sight → Type 0
AllSeen M [] = Unit {0}
AllSeen M (s ∷ ss) = Seen M s × AllSeen M ss

abbrev pub Holds : Row → Type 0
Holds r = ((run r.calls r.before).0 ≡ r.answers) × AllSeen (after r.calls r.before) r.sights

abbrev pub All : List Row → Type 0
All [] = Unit {0}
All (r ∷ rs) = Holds r × All rs

-- ---- words for the rows

-- the float of the whole number k
abbrev pub float : ℕ → Float
float k = of_int binary64 (pos k)

-- arrays for n nodes that hold nothing but sevens, so that what a call writes and what it leaves both show
abbrev pub sevens : ℕ → Arrays floats
sevens n =
    arrays (replicate n (float 7)) (replicate n (float 7)) (replicate n 7) (replicate n 7) (replicate (slot n) 7) (replicate (slot n) (float 7))

abbrev pub handle : ℕ → ℕ → Handle
handle i s = record { index = i; serial = s }

-- node i of a tape that was started once and not rewound
abbrev pub first : ℕ → Handle
first i = handle i (i + 1)

abbrev pub node_at : ℕ → Operand floats
node_at i = node (first i)

abbrev pub given : Float → Float → Float → Given floats
given v p q = record { value = v; left = p; right = q }

abbrev pub leaf : Float → Call floats
leaf x = operate LEAF (plain x) (plain x) (given x x x)

abbrev pub binary : ℕ → Operand floats → Operand floats → Call floats
binary op left right = operate op left right (given (float 0) (float 0) (float 0))

abbrev pub plus : Operand floats → Operand floats → Call floats
plus = binary ADD

abbrev pub times : Operand floats → Operand floats → Call floats
times = binary MULTIPLY

abbrev pub max : Operand floats → Operand floats → Call floats
max = binary MAX

-- operation 8 with partial p
abbrev pub weighed : Operand floats → Float → Call floats
weighed x p = operate SUPPLIED_ONE x x (given (float 1) p p)

-- operation 9 with partials p and q
abbrev pub weighed_twice : Operand floats → Operand floats → Float → Float → Call floats
weighed_twice left right p q = operate SUPPLIED_TWO left right (given (float 1) p q)

-- ---- the rows

-- the listing's four nodes: leaves 3 and 2, their product, the product plus the first leaf, and backward from the last
abbrev pub four_calls : List (Call floats)
four_calls =
    move start ∷ leaf (float 3) ∷ leaf (float 2) ∷ times (node_at 0) (node_at 1) ∷ plus (node_at 2) (node_at 0)
    ∷ pass (backward (node_at 3)) ∷ []

abbrev pub four_answers : List (Answer floats)
four_answers =
    done ∷ recorded (float 3) (first 0) ∷ recorded (float 2) (first 1) ∷ recorded (float 6) (first 2)
    ∷ recorded (float 9) (first 3) ∷ counted 4 ∷ []

abbrev pub four_adjoints : Sight
four_adjoints = adjoints (float 3 ∷ float 3 ∷ float 1 ∷ float 1 ∷ float 7 ∷ [])

abbrev pub four_listing : Sight
four_listing =
    lists "nodes=4 mark=0 active=1\nnode=0 val=4008000000000000 adj=4008000000000000\nnode=1 val=4000000000000000 adj=4008000000000000\nnode=2 val=4018000000000000 adj=3ff0000000000000\nnode=3 val=4022000000000000 adj=3ff0000000000000\n"

-- further calls on the four nodes, of five that the tape has room for
abbrev pub on_four : List (Call floats) → List (Answer floats) → List Sight → Row
on_four calls answers sights =
    record { before = fresh (sevens 5); calls = four_calls ++ calls; answers = four_answers ++ answers; sights = sights }

-- P1 without a root, mark 0 walked to start, or mark = length walked from the end: nothing changes, count 0
abbrev pub P1_to_start : Row
P1_to_start = on_four (pass propagate_mark_to_start ∷ []) (counted 0 ∷ []) (four_adjoints ∷ four_listing ∷ [])

abbrev pub P1_to_mark : Row
P1_to_mark =
    on_four
    (move set_mark ∷ pass propagate_to_mark ∷ [])
    (done ∷ counted 0 ∷ [])
    (four_adjoints
    ∷ lists "nodes=4 mark=4 active=1\nnode=0 val=4008000000000000 adj=4008000000000000\nnode=1 val=4000000000000000 adj=4008000000000000\nnode=2 val=4018000000000000 adj=3ff0000000000000\nnode=3 val=4022000000000000 adj=3ff0000000000000\n"
    ∷ [])

-- P2 the listing's four nodes and adjoints; count 4
abbrev pub P2 : Row
P2 = on_four [] [] (four_adjoints ∷ four_listing ∷ [])

-- P3 x*x at 3: adjoint 6, count 2. P4 backward again without clearing: 12
abbrev pub squared : List (Call floats)
squared = move start ∷ leaf (float 3) ∷ times (node_at 0) (node_at 0) ∷ pass (backward (node_at 1)) ∷ []

abbrev pub squared_answers : List (Answer floats)
squared_answers = done ∷ recorded (float 3) (first 0) ∷ recorded (float 9) (first 1) ∷ counted 2 ∷ []

abbrev pub P3 : Row
P3 =
    record { before = fresh (sevens 2); calls = squared; answers = squared_answers; sights = adjoints (float 6 ∷ float 1 ∷ []) ∷ [] }

abbrev pub P4 : Row
P4 =
    record { before = fresh (sevens 2); calls = squared ++ (pass (backward (node_at 1)) ∷ []); answers = squared_answers ++ (counted 2 ∷ []); sights = adjoints (float 12 ∷ float 1 ∷ []) ∷ [] }

-- P5 plain 2 times plain 3, active: a node with no edge
abbrev pub P5 : Row
P5 = record {
  before = fresh (sevens 1);
  calls = move start ∷ times (plain (float 2)) (plain (float 3)) ∷ [];
  answers = done ∷ recorded (float 6) (first 0) ∷ [];
  sights = edge_counts (0 ∷ []) ∷ partials (float 7 ∷ float 7 ∷ []) ∷ [];
}

-- P6 max of two leaves at 1: value 1, partials 1 and 0
abbrev pub P6 : Row
P6 = record {
  before = fresh (sevens 3);
  calls = move start ∷ leaf (float 1) ∷ leaf (float 1) ∷ max (node_at 0) (node_at 1) ∷ [];
  answers = done ∷ recorded (float 1) (first 0) ∷ recorded (float 1) (first 1) ∷ recorded (float 1) (first 2) ∷ [];
  sights =
      edge_counts (0 ∷ 0 ∷ 2 ∷ []) ∷ partials (float 7 ∷ float 7 ∷ float 7 ∷ float 7 ∷ float 1 ∷ float 0 ∷ []) ∷ [];
}

-- a pass, with how many edges it visits, on x and x*x, passed back once before, then the mark, x*x*x, and x*x*x + x
abbrev pub marked : Pass floats → ℕ → List Sight → Row
marked p edges sights = record {
  before = fresh (sevens 4);
  calls = squared ++ (move set_mark ∷ times (node_at 1) (node_at 0) ∷ plus (node_at 2) (node_at 0) ∷ pass p ∷ []);
  answers =
      squared_answers ++ (done ∷ recorded (float 27) (first 2) ∷ recorded (float 30) (first 3) ∷ counted edges ∷ []);
  sights = sights;
}

-- P7 mark form to start with a root at or past the mark: root adjoint 1, its edges not walked
abbrev pub P7_at_the_mark : Row
P7_at_the_mark =
    marked (backward_mark_to_start (node_at 2)) 2 (adjoints (float 12 ∷ float 1 ∷ float 1 ∷ float 0 ∷ []) ∷ [])

abbrev pub P7_past_it : Row
P7_past_it = marked (backward_mark_to_start (node_at 3)) 2 (adjoints (float 12 ∷ float 1 ∷ float 0 ∷ float 1 ∷ []) ∷ [])

-- P8 rewind, then record at the same index: adjoint +0.0, the old handle refused 3, as operand, root and read
abbrev pub P8 : Row
P8 =
    let old = node (handle 1 2) in
    let new = node (handle 1 3) in
    record {
      before = fresh (sevens 2);
      calls =
          move start ∷ leaf (float 3) ∷ move set_mark ∷ plus (node_at 0) (node_at 0) ∷ pass (backward old) ∷ is_live old
          ∷ move rewind_to_mark ∷ leaf (float 2)
          ∷ adjoint_of new ∷ plus old (node_at 0) ∷ pass (backward old) ∷ value_of old ∷ adjoint_of old ∷ is_live old
          ∷ is_live new ∷ [];
      answers =
          done ∷ recorded (float 3) (first 0) ∷ done ∷ recorded (float 6) (handle 1 2) ∷ counted 2 ∷ counted 1 ∷ done
          ∷ recorded (float 2) (handle 1 3)
          ∷ read_value (float 0) ∷ refused Stale ∷ refused Stale ∷ refused Stale ∷ refused Stale ∷ counted 2
          ∷ counted 1 ∷ [];
      sights = adjoints (float 2 ∷ float 0 ∷ []) ∷ [];
    }

-- a root in the middle: what stands above it is not walked
abbrev pub in_the_middle : Row
in_the_middle =
    on_four (pass (backward (node_at 2)) ∷ []) (counted 2 ∷ []) (adjoints (float 5 ∷ float 6 ∷ float 1 ∷ float 1 ∷ float 7 ∷ []) ∷ [])

-- the mark forms with a root elsewhere: the same range, wherever the root lies
abbrev pub start_from_below : Row
start_from_below =
    marked (backward_mark_to_start (node_at 0)) 2 (adjoints (float 7 ∷ float 1 ∷ float 0 ∷ float 0 ∷ []) ∷ [])

abbrev pub mark_from_the_end : Row
mark_from_the_end =
    marked (backward_to_mark (node_at 3)) 4 (adjoints (float 16 ∷ float 4 ∷ float 1 ∷ float 1 ∷ []) ∷ [])

abbrev pub mark_from_between : Row
mark_from_between =
    marked (backward_to_mark (node_at 2)) 4 (adjoints (float 15 ∷ float 4 ∷ float 1 ∷ float 0 ∷ []) ∷ [])

abbrev pub mark_from_below : Row
mark_from_below = marked (backward_to_mark (node_at 0)) 4 (adjoints (float 1 ∷ float 1 ∷ float 0 ∷ float 0 ∷ []) ∷ [])

-- no edge is skipped for a zero adjoint: infinity times zero is no number
abbrev pub zero_adjoint : Row
zero_adjoint = record {
  before = fresh (sevens 3);
  calls =
      move start ∷ leaf (float 3) ∷ weighed (node_at 0) (inf false) ∷ leaf (float 2) ∷ pass (backward (node_at 2)) ∷ [];
  answers =
      done ∷ recorded (float 3) (first 0) ∷ recorded (float 1) (first 1) ∷ recorded (float 2) (first 2) ∷ counted 1
      ∷ [];
  sights = adjoints (nan ∷ float 0 ∷ float 1 ∷ []) ∷ [];
}

-- left before right: (2^53 + 1) - 2^53 is 0 and (2^53 - 2^53) + 1 is 1
abbrev pub left_first : Row
left_first = record {
  before = fresh (sevens 4);
  calls =
      move start ∷ leaf (float 3) ∷ weighed_twice (node_at 0) (node_at 0) (float 1) (neg (float (2 ^ 53)))
      ∷ weighed (node_at 0) (float (2 ^ 53)) ∷ plus (node_at 1) (node_at 2) ∷ pass (backward (node_at 3)) ∷ [];
  answers =
      done ∷ recorded (float 3) (first 0) ∷ recorded (float 1) (first 1) ∷ recorded (float 1) (first 2)
      ∷ recorded (float 2) (first 3) ∷ counted 5 ∷ [];
  sights = adjoints (float 0 ∷ float 1 ∷ float 1 ∷ float 1 ∷ []) ∷ [];
}

-- clearing: +0.0 in each live adjoint, and nothing past the length
abbrev pub clearing : Row
clearing = on_four (clear ∷ []) (done ∷ []) (adjoints (float 0 ∷ float 0 ∷ float 0 ∷ float 0 ∷ float 7 ∷ []) ∷ [])

-- plain numbers: read as they are, found to be numbers, and refused 4 as a root and where an adjoint is read
abbrev pub plain_numbers : Row
plain_numbers =
    let x = plain (float 5) in
    on_four
    (value_of x ∷ is_live x ∷ adjoint_of x ∷ pass (backward x) ∷ pass (backward_to_mark x) ∷ pass (backward_mark_to_start x) ∷ value_of (node_at 2) ∷ adjoint_of (node_at 1) ∷ [])
    (read_value (float 5) ∷ counted 0 ∷ refused Detached ∷ refused Detached ∷ refused Detached ∷ refused Detached ∷ read_value (float 6) ∷ read_value (float 3) ∷ [])
    (four_adjoints ∷ [])

-- a node that is its own child is refused 7 before the root's adjoint is set; a walk that does not reach it is not
abbrev pub own_child : Row
own_child = record {
  before =
      machine (state 3 1 false 8) (arrays (replicate 3 (float 7)) (replicate 3 (float 7)) (7 ∷ 7 ∷ 7 ∷ []) (0 ∷ 1 ∷ 1 ∷ []) (replicate 4 1 ++ (0 ∷ 7 ∷ [])) (replicate 6 (float 1)));
  calls =
      pass (backward (node (handle 2 7))) ∷ pass (backward_to_mark (node (handle 0 7))) ∷ pass propagate_to_mark
      ∷ pass (backward_mark_to_start (node (handle 2 7))) ∷ [];
  answers = refused UnsoundEdge ∷ refused UnsoundEdge ∷ refused UnsoundEdge ∷ counted 0 ∷ [];
  sights = adjoints (float 7 ∷ float 7 ∷ float 1 ∷ []) ∷ [];
}

-- three edges are refused 7, but after 3 for a stale root, and not where the walk does not reach them; a root that
-- is a number is refused 4
abbrev pub three_edges : Row
three_edges = record {
  before =
      machine (state 2 0 false 8) (arrays (replicate 2 (float 7)) (replicate 2 (float 7)) (7 ∷ 7 ∷ []) (0 ∷ 3 ∷ []) (replicate 4 0) (replicate 4 (float 1)));
  calls =
      pass (backward (node (handle 1 7))) ∷ pass (backward (node (handle 1 6))) ∷ pass (backward (plain (float 1)))
      ∷ pass (backward (node (handle 0 7))) ∷ [];
  answers = refused UnsoundEdge ∷ refused Stale ∷ refused Detached ∷ counted 0 ∷ [];
  sights = adjoints (float 1 ∷ float 7 ∷ []) ∷ [];
}

-- a mark over the length: every call is refused 1, before anything else
abbrev pub mark_over_length : Row
mark_over_length = record {
  before = machine (state 1 2 true 8) (sevens 2);
  calls =
      move start ∷ times (node_at 0) (node_at 0) ∷ clear ∷ pass (backward (node_at 0)) ∷ pass propagate_to_mark
      ∷ value_of (node_at 0) ∷ adjoint_of (plain (float 1)) ∷ is_live (node_at 0) ∷ list 0 ∷ [];
  answers = replicate 9 (refused Misshapen);
  sights = adjoints (float 7 ∷ float 7 ∷ []) ∷ [];
}

-- an empty tape has a header alone
abbrev pub listed_empty : Row
listed_empty =
    record { before = fresh (sevens 0); calls = move start ∷ list 24 ∷ []; answers = done ∷ counted 24 ∷ []; sights = lists "nodes=0 mark=0 active=1\n" ∷ [] }

-- the sign of a zero shows
abbrev pub listed_zero : Row
listed_zero = record {
  before = fresh (sevens 1);
  calls = move start ∷ leaf (neg (float 0)) ∷ [];
  answers = done ∷ recorded (neg (float 0)) (first 0) ∷ [];
  sights = lists "nodes=1 mark=0 active=1\nnode=0 val=8000000000000000 adj=0000000000000000\n" ∷ [];
}

-- any NaN is listed as 7ff8000000000000; 24 bytes of header and 49 of line do not fit 72
abbrev pub listed_nan : Row
listed_nan = record {
  before = fresh (sevens 1);
  calls = move start ∷ leaf nan ∷ list 72 ∷ list 73 ∷ [];
  answers = done ∷ recorded nan (first 0) ∷ refused ListingTooLong ∷ counted 73 ∷ [];
  sights = lists "nodes=1 mark=0 active=1\nnode=0 val=7ff8000000000000 adj=0000000000000000\n" ∷ [];
}

abbrev pub rows : List Row
rows =
    P1_to_start ∷ P1_to_mark ∷ P2 ∷ P3 ∷ P4 ∷ P5 ∷ P6 ∷ P7_at_the_mark ∷ P7_past_it ∷ P8
    ∷ in_the_middle ∷ start_from_below ∷ mark_from_the_end ∷ mark_from_between ∷ mark_from_below ∷ zero_adjoint
    ∷ left_first
    ∷ clearing ∷ plain_numbers ∷ own_child ∷ three_edges ∷ mark_over_length ∷ listed_empty ∷ listed_zero ∷ listed_nan
    ∷ []

abbrev pub EveryRow : Type 0
EveryRow = All rows

-- max or min of leaves l and r: value v, left partial p and right partial q
abbrev pub chosen : ℕ → Float → Float → Float → Float → Float → Row
chosen op l r v p q = record {
  before = fresh (sevens 3);
  calls = move start ∷ leaf l ∷ leaf r ∷ binary op (node_at 0) (node_at 1) ∷ [];
  answers = done ∷ recorded l (first 0) ∷ recorded r (first 1) ∷ recorded v (first 2) ∷ [];
  sights = partials (float 7 ∷ float 7 ∷ float 7 ∷ float 7 ∷ p ∷ q ∷ []) ∷ [];
}

-- the two compare equal, be they zeros of unlike sign: the left operand, which pulls
abbrev pub tied : ℕ → Float → Float → Row
tied op l r = chosen op l r l (float 1) (float 0)

-- a NaN on either side: the right operand, and neither pulls
abbrev pub with_nan : ℕ → Float → Float → Row
with_nan op l r = chosen op l r r (float 0) (float 0)

-- where the Rust departs from the table, so that no run beside it compares all of the answer: ties, and a NaN on the
-- right; with a NaN on the left it does not. Proved in proofs/Rows.antt
abbrev pub EveryChoice : Type 0
EveryChoice =
    Holds (tied MIN (float 1) (float 1))
    × Holds (tied MAX (neg (float 0)) (float 0))
    × Holds (tied MIN (float 0) (neg (float 0)))
    × Holds (with_nan MAX (float 1) nan)
    × Holds (with_nan MIN (float 1) nan)
    × Holds (with_nan MAX nan (float 1))
    × Holds (with_nan MIN nan (float 1))

-- the square root of leaf x, with a right operand that is not live and not used: value v, and partial p on its one edge
abbrev pub rooted : Float → Float → Float → Row
rooted x v p = record {
  before = fresh (sevens 2);
  calls = move start ∷ leaf x ∷ binary SQRT (node_at 0) (node (handle 1 9)) ∷ [];
  answers = done ∷ recorded x (first 0) ∷ recorded v (first 1) ∷ [];
  sights = edge_counts (0 ∷ 1 ∷ []) ∷ partials (float 7 ∷ float 7 ∷ p ∷ float 7 ∷ []) ∷ [];
}

-- the root of 4 has partial 0.25; then either zero, +infinity, and what has no root. Proved in proofs/Rows.antt
abbrev pub EveryRoot : Type 0
EveryRoot =
    Holds (rooted (float 4) (float 2) (of_bits binary64 0x3fd0_0000_0000_0000))
    × Holds (rooted (float 0) (float 0) (inf false))
    × Holds (rooted (neg (float 0)) (neg (float 0)) (inf true))
    × Holds (rooted (inf false) (inf false) (float 0))
    × Holds (rooted nan nan nan)
    × Holds (rooted (neg (float 1)) nan nan)
    × Holds (rooted (inf true) nan nan)

-- ---- passes in slices

-- the four nodes, before their pass
abbrev pub unpassed : List (Call floats)
unpassed = take 5 four_calls

-- further calls on them, which answer this; then these are the adjoints
abbrev pub on_unpassed : List (Call floats) → List (Answer floats) → List Float → Row
on_unpassed calls answers after =
    record { before = fresh (sevens 5); calls = unpassed ++ calls; answers = take 5 four_answers ++ answers; sights = adjoints after ∷ [] }

-- P2's pass, cut: slices of 1, of 2 and of more than is left, with adjoints read and the nodes listed between them
abbrev pub cut_in_three : Row
cut_in_three =
    on_unpassed
    (open_pass (backward (node_at 3)) ∷ adjoint_of (node_at 2) ∷ slice 1 ∷ adjoint_of (node_at 0) ∷ slice 2 ∷ list 220 ∷ slice 5 ∷ value_of (node_at 3) ∷ [])
    (cut 0 4 ∷ read_value (float 0) ∷ cut 2 3 ∷ read_value (float 1) ∷ cut 2 1 ∷ counted 220 ∷ cut 0 0 ∷ read_value (float 9) ∷ [])
    (float 3 ∷ float 3 ∷ float 1 ∷ float 1 ∷ float 7 ∷ [])

-- an empty range is over when it is opened: the root's seed is set all the same, and nothing is open
abbrev pub opened_empty : Row
opened_empty =
    on_unpassed
    (open_pass (backward_mark_to_start (node_at 1)) ∷ slice 1 ∷ value_of (node_at 1) ∷ [])
    (cut 0 0 ∷ refused OutOfTurn ∷ read_value (float 2) ∷ [])
    (float 0 ∷ float 1 ∷ float 0 ∷ float 0 ∷ float 7 ∷ [])

-- with a walk open everything is refused 12 but a slice, an adjoint read, the listing and start, which drops it
abbrev pub while_it_is_open : Row
while_it_is_open =
    on_unpassed
    (open_pass propagate_to_mark
    ∷ move stop ∷ move set_mark ∷ move reset_mark ∷ move rewind_to_mark ∷ move rewind_to_init ∷ leaf (float 5) ∷ clear
    ∷ pass (backward (node_at 3)) ∷ pass propagate_mark_to_start ∷ open_pass propagate_to_mark ∷ value_of (node_at 3)
    ∷ is_live (node_at 3)
    ∷ slice 1 ∷ adjoint_of (node_at 3) ∷ list 220 ∷ move start ∷ slice 1 ∷ leaf (float 5) ∷ [])
    (cut 0 4
    ∷ replicate 12 (refused OutOfTurn)
    ++ (cut 2 3 ∷ read_value (float 0) ∷ counted 220 ∷ done ∷ refused OutOfTurn ∷ recorded (float 5) (handle 0 5) ∷ []))
    (float 0 ∷ float 0 ∷ float 0 ∷ float 0 ∷ float 7 ∷ [])

-- a machine with these nodes left to be walked
abbrev pub with_open : ℕ → ℕ → Machine floats → Machine floats
with_open from end M = machine (with_walk (Some (span from end)) M.state) M.lent

-- a tape of two nodes with these left
abbrev pub left_open : ℕ → ℕ → Machine floats
left_open from end = with_open from end (machine (state 2 0 true 8) (sevens 2))

-- a walk of which no node is left, or that reaches past the length: refused 1, start and stop too
abbrev pub walk_misshapen : ℕ → ℕ → Row
walk_misshapen from end = record {
  before = left_open from end;
  calls = move start ∷ move stop ∷ slice 1 ∷ clear ∷ adjoint_of (node (handle 0 7)) ∷ list 0 ∷ [];
  answers = replicate 6 (refused Misshapen);
  sights = adjoints (float 7 ∷ float 7 ∷ []) ∷ [];
}

-- one node is a walk; the slice's own nodes are tested for 7, here for their seven edges
abbrev pub walk_of_one : Row
walk_of_one = record {
  before = left_open 1 2;
  calls = slice 0 ∷ slice 65536 ∷ slice 65535 ∷ move start ∷ [];
  answers = refused UnfitSlice ∷ refused UnfitSlice ∷ refused UnsoundEdge ∷ done ∷ [];
  sights = adjoints (float 7 ∷ float 7 ∷ []) ∷ [];
}

-- node 0 has three edges, which is refused 7, and node 1 has none
abbrev pub unsound_below : Machine floats
unsound_below =
    machine (state 2 0 false 8) (arrays (replicate 2 (float 7)) (replicate 2 (float 7)) (7 ∷ 7 ∷ []) (3 ∷ 0 ∷ []) (replicate 4 0) (replicate 4 (float 1)))

-- a slice tests its own nodes and no others; and while a walk is open an inactive recording is refused too, and what is
-- asked of a number
abbrev pub own_nodes : Row
own_nodes = record {
  before = with_open 0 2 unsound_below;
  calls = slice 2 ∷ slice 1 ∷ slice 1 ∷ leaf (float 5) ∷ value_of (plain (float 5)) ∷ is_live (plain (float 5)) ∷ pass propagate_to_mark ∷ [];
  answers = refused UnsoundEdge ∷ cut 0 1 ∷ refused UnsoundEdge ∷ replicate 4 (refused OutOfTurn);
  sights = adjoints (float 7 ∷ float 7 ∷ []) ∷ [];
}

-- an opening tests the whole range, before the seed
abbrev pub whole_range : Row
whole_range = record {
  before = unsound_below;
  calls = open_pass (backward (node (handle 1 7))) ∷ slice 1 ∷ [];
  answers = refused UnsoundEdge ∷ refused OutOfTurn ∷ [];
  sights = adjoints (float 7 ∷ float 7 ∷ []) ∷ [];
}

-- Proved in proofs/Rows.antt
abbrev pub EverySlice : Type 0
EverySlice =
    Holds cut_in_three
    × Holds opened_empty
    × Holds while_it_is_open
    × Holds (walk_misshapen 1 1)
    × Holds (walk_misshapen 2 1)
    × Holds (walk_misshapen 1 3)
    × Holds walk_of_one
    × Holds own_nodes
    × Holds whole_range

-- ---- handles that are not live

-- calls that read a handle, ask about it, and take it as a root and as both operands
abbrev pub tries : Handle → List (Call floats)
tries h =
    let x = node h in
    value_of x ∷ adjoint_of x ∷ is_live x ∷ pass (backward x) ∷ open_pass (backward_to_mark x) ∷ plus x x ∷ []

-- what they answer: is_live this count, and each of the others this refusal
abbrev pub met : Refusal → ℕ → List (Answer floats)
met r k = refused r ∷ refused r ∷ counted k ∷ refused r ∷ refused r ∷ refused r ∷ []

-- on four leaves of serials 1 to 4, with room for a fifth
abbrev pub on_leaves : List (Call floats) → List (Answer floats) → List Float → Row
on_leaves calls answers after = record {
  before =
      machine (state 4 0 true 5) (arrays (replicate 5 (float 7)) (replicate 5 (float 7)) (1 ∷ 2 ∷ 3 ∷ 4 ∷ 7 ∷ []) (0 ∷ 0 ∷ 0 ∷ 0 ∷ 7 ∷ []) (replicate 10 7) (replicate 10 (float 7)));
  calls = calls;
  answers = answers;
  sights = adjoints after ∷ [];
}

-- there, a handle that is refused so
abbrev pub refused_as : Refusal → ℕ → Handle → Row
refused_as r k h = on_leaves (tries h) (met r k) (replicate 5 (float 7))

-- serial 0, the next serial and the largest were given to no node so far, whatever the index
abbrev pub never_given : Handle → Row
never_given h = refused_as NeverIssued 3 h

-- serials 1 to 4 were given out, and not to a node at this index, which may be past the length: garbage, refused 3
abbrev pub given_elsewhere : Handle → Row
given_elsewhere h = refused_as Stale 2 h

-- the first operand that is not live decides, left before right; a right operand that is not used does not
abbrev pub left_decides : Row
left_decides =
    let old = node (handle 4 4) in
    let made_up = node (handle 1 5) in
    on_leaves
    (plus old made_up ∷ plus made_up old ∷ plus (node_at 0) made_up ∷ plus (node_at 0) old ∷ plus (plain (float 5)) made_up ∷ binary LEAF old made_up ∷ binary LEAF (plain (float 8)) made_up ∷ [])
    (refused Stale ∷ refused NeverIssued ∷ refused NeverIssued ∷ refused Stale ∷ refused NeverIssued ∷ refused Stale ∷ recorded (float 8) (first 4) ∷ [])
    (replicate 4 (float 7) ++ (float 0 ∷ []))

-- 11 is for serials that were not given out so far: a made_up handle can come to be that of the next node, or stale
abbrev pub given_later : Row
given_later =
    let next = node (handle 4 5) in
    let elsewhere = node (handle 0 5) in
    on_leaves
    (value_of next ∷ value_of elsewhere ∷ leaf (float 8) ∷ value_of next ∷ value_of elsewhere ∷ [])
    (refused NeverIssued ∷ refused NeverIssued ∷ recorded (float 8) (first 4) ∷ read_value (float 8) ∷ refused Stale ∷ [])
    (replicate 4 (float 7) ++ (float 0 ∷ []))

-- a tape that no calls left: a handle whose serial is not below the next one is live, if it is stored at its index
abbrev pub live_first : Row
live_first = record {
  before = machine (state 1 0 true 3) (sevens 1);
  calls = value_of (node (handle 0 7)) ∷ is_live (node (handle 0 7)) ∷ value_of (node (handle 0 3)) ∷ value_of (node (handle 0 2)) ∷ [];
  answers = read_value (float 7) ∷ counted 1 ∷ refused NeverIssued ∷ refused Stale ∷ [];
  sights = [];
}

-- Proved in proofs/Rows.antt
abbrev pub EveryHandle : Type 0
EveryHandle =
    Holds (never_given (handle 0 0))
    × Holds (never_given (handle 0 5))
    × Holds (never_given (handle 0 last_serial))
    × Holds (never_given (handle 4 0))
    × Holds (never_given (handle 4 5))
    × Holds (never_given (handle 9 5))
    × Holds (given_elsewhere (handle 0 4))
    × Holds (given_elsewhere (handle 1 1))
    × Holds (given_elsewhere (handle 4 4))
    × Holds (given_elsewhere (handle 9 1))
    × Holds left_decides
    × Holds given_later
    × Holds live_first

-- the header's numbers, where a listing of the rows has too few digits to tell. Proved in proofs/Rows.antt
abbrev pub EveryText : Type 0
EveryText = header (state most_nodes 10 false 1) ≡ bytes "nodes=65535 mark=10 active=0\n"
