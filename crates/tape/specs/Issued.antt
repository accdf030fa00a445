-- What refusals 3 and 11 tell of a handle, over any numbers: 11, that it is garbage; 3, of a handle that a call
-- answered, that its node was rewound or the tape started anew. Garbage whose serial happens to have been given out is
-- refused 3 as well, since the serial alone sorts what is not live (`given_elsewhere` and `given_later` in Rows.antt).
use Rattle.std.specs.Prelude.{ℕ, suc, ◌<◌, ◌≡◌, Bool, true, false, ◌&&◌, cond, List, [], ◌∷◌, ltb, eqb}
use Rattle.std.proofs.Math.Option.{Option, none, some}
use Rattle.tape.specs.Numbers.{Numbers, floats}
use Rattle.tape.specs.Machine.{Arrays, Machine}
use Rattle.tape.specs.Handles.{node, live, never_issued, handles}
use Rattle.tape.specs.Answers.{refused}
use Rattle.tape.specs.Calls.{Call, start, stop, set_mark, reset_mark, rewind_to_mark, rewind_to_init, move, operate, clear, pass, open_pass, slice, value_of, adjoint_of, is_live, list}
use Rattle.tape.specs.Refusals.{asked}
use Rattle.tape.specs.Steps.{step, run}
use Rattle.tape.specs.Kept.{fresh, after, serials}
use Rattle.tape.specs.declared.errors.Refusal.{Refusal}
use Rattle.tape.specs.declared.errors.Refusal.TheVariants.{Stale, NeverIssued}
use Rattle.tape.specs.declared.node.Handle.{Handle}

-- the first of some handles that is not live
abbrev pub first_not_live : {N : Numbers} → Machine N → List Handle → Option Handle
first_not_live M [] = none
first_not_live M (h ∷ hs) = cond (live M h) (first_not_live M hs) (some h)

-- the call is refused so, and of the handles that it needs, left before right, this is the first that is not live
pub record RefusedFor {N : Numbers} (h : Handle) (r : Refusal) (c : Call N) (M : Machine N) : Type 0 where
  pub outcome : step c M ≡ (refused r, M)
  pub first : first_not_live M (handles (asked c M.state).operands) ≡ some h

-- how often a serial is among these
abbrev pub how_often : ℕ → List ℕ → ℕ
how_often k [] = 0
how_often k (s ∷ ss) = cond (eqb s k) (suc (how_often k ss)) (how_often k ss)

-- does each of these calls leave the tape longer than this index
abbrev pub stays_below : {N : Numbers} → ℕ → List (Call N) → Machine N → Bool
stays_below i [] M = true
stays_below i (c ∷ cs) M = let next = (step c M).1 in ltb i next.state.length && stays_below i cs next

-- is a call a start or a rewind
abbrev pub takes_off : {N : Numbers} → Call N → Bool
takes_off (move start) = true
takes_off (move stop) = false
takes_off (move set_mark) = false
takes_off (move reset_mark) = false
takes_off (move rewind_to_mark) = true
takes_off (move rewind_to_init) = true
takes_off (operate op left right g) = false
takes_off clear = false
takes_off (pass p) = false
takes_off (open_pass p) = false
takes_off (slice n) = false
takes_off (value_of x) = false
takes_off (adjoint_of x) = false
takes_off (is_live x) = false
takes_off (list bytes) = false

-- Proved in proofs/Issued.antt
pub record Sorting : Type 1 where
  -- a call that is refused 3 or 11 is refused so for one handle, which its serial sorts
  pub refused_three : {N : Numbers} (c : Call N) (M : Machine N) → (step c M).0.number ≡ 3
      → (h : Handle) × RefusedFor h Stale c M × (never_issued M.state h ≡ false)
  pub refused_eleven : {N : Numbers} (c : Call N) (M : Machine N) → (step c M).0.number ≡ 11
      → (h : Handle) × RefusedFor h NeverIssued c M × (never_issued M.state h ≡ true)
  -- is_live counts 2 or 3 of a handle exactly where its value is refused 3 or 11
  pub counted_two : {N : Numbers} (h : Handle) (M : Machine N)
      → ((step (is_live (node h)) M).0.count ≡ 2 → RefusedFor h Stale (value_of (node h)) M)
      × (RefusedFor h Stale (value_of (node h)) M → (step (is_live (node h)) M).0.count ≡ 2)
  pub counted_three : {N : Numbers} (h : Handle) (M : Machine N)
      → ((step (is_live (node h)) M).0.count ≡ 3 → RefusedFor h NeverIssued (value_of (node h)) M)
      × (RefusedFor h NeverIssued (value_of (node h)) M → (step (is_live (node h)) M).0.count ≡ 3)
  -- a handle that a call answered is never refused 11, whatever calls follow
  pub never_eleven : {N : Numbers} (c : Call N) (M : Machine N) (h : Handle) (later : List (Call N)) (d : Call N)
      → (step c M).0.handle ≡ some h → RefusedFor h NeverIssued d (after later (step c M).1) → ⊥
  -- a handle that is refused 11 has a serial that no answer so far had
  pub eleven_unanswered : {N : Numbers} (cs : List (Call N)) (M : Machine N) (h : Handle) (d : Call N)
      → RefusedFor h NeverIssued d (after cs M) → how_often h.serial (serials (run cs M).0) ≡ 0
  -- from a new tape, a handle that is refused 3 has a serial that was answered, once
  pub three_answered_once : {N : Numbers} (A : Arrays N) (cs : List (Call N)) (h : Handle) (d : Call N)
      → RefusedFor h Stale d (after cs (fresh A)) → how_often h.serial (serials (run cs (fresh A)).0) ≡ 1
  -- a handle that a call answered is live exactly as long as every call since left the tape longer than its index
  pub live_while : {N : Numbers} (c : Call N) (M : Machine N) (h : Handle) (later : List (Call N))
      → (step c M).0.handle ≡ some h → live (after later (step c M).1) h ≡ stays_below h.index later (step c M).1
  -- and no call but a start or a rewind leaves it shorter than it was
  pub shortened : {N : Numbers} (c : Call N) (M : Machine N) → (step c M).1.state.length < M.state.length
      → takes_off c ≡ true

-- from a tape that is taken up later, a handle that is refused 3 may have a serial that no answer had. Proved in
-- proofs/Issued.antt
pub record TakenUpLater : Type 0 where
  pub before : Machine floats
  pub calls : List (Call floats)
  pub handle : Handle
  pub refused_three : RefusedFor handle Stale (value_of (node handle)) (after calls before)
  pub unanswered : how_often handle.serial (serials (run calls before).0) ≡ 0
