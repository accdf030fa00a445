-- The machine: a small state and six lent arrays. The state is the code's own `Tape`: length, mark, active flag, next
-- serial and the walk that is open, if one is.
use Rattle.std.specs.Prelude.{ℕ, ◌≡◌, ◌*◌, Bool, true, false, ◌&&◌, cond, List, [], ◌∷◌, ltb, length, Option, None, Some}
use Rattle.std.specs.Borrow.{Bor, MutBor}
use Rattle.tape.specs.Numbers.{Numbers, floats}
use Rattle.tape.specs.declared.tape.Span.{Span}
use Rattle.tape.specs.declared.tape.Tape.{Tape}
use Rattle.tape.specs.declared.nodes.Nodes.{Nodes}
use Rattle.tape.specs.declared.nodes.NodesMut.{NodesMut}

-- value, adjoint, serial and edge count have an entry for each node; edge child and edge partial have two
pub record Arrays (N : Numbers) : Type 0 where
  pub value : List N.Number
  pub adjoint : List N.Number
  pub serial : List ℕ
  pub count : List ℕ
  pub child : List ℕ
  pub partial : List N.Number

pub record Machine (N : Numbers) : Type 0 where
  pub state : Tape
  pub lent : Arrays N

abbrev pub arrays : {N : Numbers} → List N.Number → List N.Number → List ℕ → List ℕ → List ℕ → List N.Number
    → Arrays N
arrays v a s c h p = record { value = v; adjoint = a; serial = s; count = c; child = h; partial = p }

abbrev pub machine : {N : Numbers} → Tape → Arrays N → Machine N
machine t A = record { state = t; lent = A }

abbrev pub capacity : {N : Numbers} → Arrays N → ℕ
capacity A = length A.value

-- a tape has room for no more nodes
abbrev pub most_nodes : ℕ
most_nodes = 65535

-- a node has room for two edges, which stand from its slot on
abbrev pub most_edges : ℕ
most_edges = 2

abbrev pub slot : ℕ → ℕ
slot i = most_edges * i

abbrev pub all : List Bool → Bool
all [] = true
all (b ∷ bs) = b && all bs

-- ---- the state

-- the walk that is open, if one is: the nodes that are left of it
abbrev pub Walk : Type 0
Walk = Option Span

-- length 0, mark 0, inactive, the first serial 1, no walk open
abbrev pub new_tape : Tape
new_tape = record { length = 0; mark = 0; active = false; next = 1; walk = None }

-- a state with one field changed
abbrev pub with_length : ℕ → Tape → Tape
with_length n t = record { length = n; mark = t.mark; active = t.active; next = t.next; walk = t.walk }

abbrev pub with_mark : ℕ → Tape → Tape
with_mark n t = record { length = t.length; mark = n; active = t.active; next = t.next; walk = t.walk }

abbrev pub with_active : Bool → Tape → Tape
with_active b t = record { length = t.length; mark = t.mark; active = b; next = t.next; walk = t.walk }

abbrev pub with_next : ℕ → Tape → Tape
with_next n t = record { length = t.length; mark = t.mark; active = t.active; next = n; walk = t.walk }

abbrev pub with_walk : Walk → Tape → Tape
with_walk w t = record { length = t.length; mark = t.mark; active = t.active; next = t.next; walk = w }

-- a state by its length, mark, active flag and next serial; whatever else it has is a new tape's
abbrev pub state : ℕ → ℕ → Bool → ℕ → Tape
state length mark active next = with_length length (with_mark mark (with_active active (with_next next new_tape)))

-- the nodes from end - 1 down to from
abbrev pub span : ℕ → ℕ → Span
span from end = record { from = from; end = end }

-- a walk of which these nodes are left: if they are none, it is over
abbrev pub walk_left : Span → Walk
walk_left s = cond (ltb s.from s.end) (Some s) None

-- ---- what a call is lent, in a promise

-- the six arrays, lent to be read but for the adjoints, of which a pass's are written: as it finds them (`.old`) or leaves
-- them (`.new`)
abbrev pub lent : Nodes → List floats.Number → Arrays floats
lent n a = arrays n.value.now a n.serial.now n.count.now n.child.now n.partial.now

abbrev pub read_only : {A : Type 0} → MutBor A → Bor A
read_only x = record { ref_ptr = x.ref_ptr; now = x.now }

-- the same arrays, to be read
abbrev pub shared : NodesMut → Nodes
shared n =
    record { value = read_only n.value; serial = read_only n.serial; count = read_only n.count; child = read_only n.child; partial = read_only n.partial }

-- the six, lent to be written: as a recording finds them (`nodes.old`) or leaves them (`nodes.new`)
abbrev pub lent_mut : NodesMut → List floats.Number → Arrays floats
lent_mut n a = lent (shared n) a

abbrev pub Same : {A : Type 0} → MutBor A → MutBor A → Type 0
Same x y = (y.ref_ptr ≡ x.ref_ptr) × (y.ghost_name ≡ x.ghost_name)

-- they are the arrays that were lent: a call writes into them, and puts no other in their place
abbrev pub SameArrays : NodesMut → NodesMut → Type 0
SameArrays n m =
    Same n.value m.value × Same n.serial m.serial × Same n.count m.count × Same n.child m.child × Same n.partial m.partial
