-- What is proved of every call and of every sequence of calls, over any numbers. A sequence hands on one state and one
-- set of arrays, each call getting them as the call before left them.
use Rattle.std.specs.Prelude.{ℕ, ◌+◌, ◌≤◌, ◌<◌, ◌≡◌, true, false, List, [], ◌∷◌, get_or, take}
use Rattle.std.proofs.Math.Option.{Option, none, some}
use Rattle.tape.specs.Numbers.{Numbers, floats}
use Rattle.tape.specs.Machine.{Arrays, Machine, machine, slot, new_tape}
use Rattle.tape.specs.Handles.{Operand, node, live, operand_value}
use Rattle.tape.specs.Operations.{Given}
use Rattle.tape.specs.Walk.{sound}
use Rattle.tape.specs.Answers.{Answer}
use Rattle.tape.specs.Calls.{Move, Call, move, operate}
use Rattle.tape.specs.Steps.{step, run}
use Rattle.tape.specs.declared.node.Handle.{Handle}

-- a new tape over any arrays
abbrev pub fresh : {N : Numbers} → Arrays N → Machine N
fresh A = machine new_tape A

-- the machine that a sequence of calls leaves
abbrev pub after : {N : Numbers} → List (Call N) → Machine N → Machine N
after cs M = (run cs M).1

-- ---- stale handles

-- each serial below the length is below the next serial
abbrev pub SerialsIssued : {N : Numbers} → Machine N → Type 0
SerialsIssued M = (i : ℕ) → i < M.state.length → get_or M.lent.serial i 0 < M.state.next

-- a handle that stopped being live is never live again, whatever calls follow: from a new tape, and from any machine of
-- which `SerialsIssued` holds, as it does after any calls from a new tape.
-- Proved in proofs/Stale.antt
pub record StaleHandles : Type 1 where
  pub never_again_from_new : {N : Numbers} (A : Arrays N) (h : Handle) (before between later : List (Call N))
      → let M = after before (fresh A) in
      live M h ≡ true → live (after between M) h ≡ false → live (after later (after between M)) h ≡ false
  pub from_new : {N : Numbers} (A : Arrays N) (cs : List (Call N)) → SerialsIssued (after cs (fresh A))
  pub never_again : {N : Numbers} (M : Machine N) (h : Handle) (between later : List (Call N)) → SerialsIssued M
      → live M h ≡ true → live (after between M) h ≡ false → live (after later (after between M)) h ≡ false

-- on a machine of no such history it could be: `SerialsIssued` is needed. Length 1, serial 7 at 0 and 7 next. Proved in
-- proofs/Revived.antt
pub record Revived : Type 0 where
  pub before : Machine floats
  pub handle : Handle
  pub between : List (Call floats)
  pub later : List (Call floats)
  pub was_live : live before handle ≡ true
  pub stopped : live (after between before) handle ≡ false
  pub again : live (after later (after between before)) handle ≡ true

-- ---- serials

abbrev pub serial_of : Option Handle → List ℕ → List ℕ
serial_of none ss = ss
serial_of (some h) ss = h.serial ∷ ss

-- the serials of the handles answered, in order
abbrev pub serials : {N : Numbers} → List (Answer N) → List ℕ
serials [] = []
serials (a ∷ rest) = serial_of a.handle (serials rest)

-- each at least k and above those before it
abbrev pub Ascending : ℕ → List ℕ → Type 0
Ascending k [] = Unit {0}
Ascending k (s ∷ ss) = (k ≤ s) × Ascending (s + 1) ss

abbrev pub NoneNought : List ℕ → Type 0
NoneNought [] = Unit {0}
NoneNought (s ∷ ss) = (s ≡ 0 → ⊥) × NoneNought ss

-- Proved in proofs/Serials.antt
pub record Serials : Type 1 where
  pub never_fall : {N : Numbers} (cs : List (Call N)) (M : Machine N) → M.state.next ≤ (after cs M).state.next
  pub never_nought : {N : Numbers} (cs : List (Call N)) (M : Machine N) → NoneNought (serials (run cs M).0)
  pub never_repeat : {N : Numbers} (cs : List (Call N)) (M : Machine N)
      → Ascending M.state.next (serials (run cs M).0)

-- ---- recording

-- two sets of arrays agree on the first n nodes
pub record SameBelow {N : Numbers} (n : ℕ) (A B : Arrays N) : Type 0 where
  pub value : take n B.value ≡ take n A.value
  pub adjoint : take n B.adjoint ≡ take n A.adjoint
  pub serial : take n B.serial ≡ take n A.serial
  pub count : take n B.count ≡ take n A.count
  pub child : take (slot n) B.child ≡ take (slot n) A.child
  pub partial : take (slot n) B.partial ≡ take (slot n) A.partial

-- Proved in proofs/Recording.antt
pub record Recording : Type 1 where
  -- the handle that is answered is live, and the value read through it is the value answered
  pub answered : {N : Numbers} (c : Call N) (M : Machine N) (h : Handle) → (step c M).0.handle ≡ some h
      → (live (step c M).1 h ≡ true) × (operand_value (step c M).1 (node h) ≡ (step c M).0.value)
  -- a tape that only these calls wrote has sound nodes
  pub sound_nodes : {N : Numbers} (A : Arrays N) (cs : List (Call N)) (i : ℕ) → i < (after cs (fresh A)).state.length
      → sound (after cs (fresh A)).lent i ≡ true
  -- nothing below the old length changes
  pub below : {N : Numbers} (op : ℕ) (left right : Operand N) (g : Given N) (M : Machine N)
      → SameBelow M.state.length M.lent (step (operate op left right g) M).1.lent
  -- start, stop, marks and rewinds write no array
  pub moves : {N : Numbers} (m : Move) (M : Machine N) → (step (move m) M).1.lent ≡ M.lent
