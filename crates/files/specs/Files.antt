-- What is proved of whole session files: of any bytes, read by any reader of lines, with any lent bytes.
use Rattle.std.specs.Prelude.{ℕ, ◌+◌, ◌-◌, ◌/◌, ◌%◌, ◌≤◌, ◌<◌, ◌≡◌, true, false, ◌||◌, cond, List, [], ◌∷◌, ◌++◌, ltb, eqb, length, get_or, drop}
use Rattle.std.proofs.Math.Option.{Option, none, some}
use Rattle.tape.specs.Numbers.{floats}
use Rattle.tape.specs.Machine.{Arrays, Machine}
use Rattle.tape.specs.Handles.{live}
use Rattle.tape.specs.Listing.{listing}
use Rattle.tape.specs.Calls.{Call, move, start}
use Rattle.tape.specs.Refusals.{refusal_of}
use Rattle.tape.specs.Steps.{run}
use Rattle.tape.specs.Kept.{fresh, after}
use Rattle.tape.specs.Passes.{Unrefused}
use Rattle.tape.specs.declared.errors.Refusal.TheVariants.{Full}
use Rattle.revolutions.specs.Answered.{among}
use Rattle.session.specs.Lines.{Line, Reader}
use Rattle.session.specs.Session.{standing, call, stands, run_read, lines, ended, stopped, run_lines, session_nodes, zeros, started, most_session, least_refusal, answered}

-- ---- the run of a file is a run of calls

-- the call that a line names; what is no line names none
abbrev pub called : Option Line → Machine floats → List (Call floats)
called none M = []
called (some l) M = call M l ∷ []

-- the calls of the lines before the first refused one, each made on the machine as the one before left it
abbrev pub calls_of : (List ℕ → Option Line) → List (List ℕ) → Machine floats → List (Call floats)
calls_of read [] M = []
calls_of read (line ∷ lines) M =
    let one = run_read (read line) M in
    cond (eqb one.0.number 0) (called (read line) M ++ calls_of read lines one.1) []

-- those of a session, and the machine that they leave from a start on a new tape
abbrev pub session_calls : Reader → List ℕ → List (Call floats)
session_calls R session = calls_of R.read (lines session) started

abbrev pub left_by : Reader → List ℕ → Machine floats
left_by R session = after (move start ∷ session_calls R session) (fresh zeros)

-- what is read of a line, the first being line 1
abbrev pub read_at : Reader → List ℕ → ℕ → Option Line
read_at R session line = R.read (get_or (lines session) (line - 1) [])

-- What holds of any calls from a new tape holds of files. Proved in proofs/Runs.antt
pub record RunIsRun : Type 0 where
  pub unrefused : (R : Reader) (session : List ℕ) → Unrefused (run (move start ∷ session_calls R session) (fresh zeros)).0
  -- a run that ends has called every line, and leaves the machine that the calls leave
  pub ended_so : (R : Reader) (session : List ℕ) (M : Machine floats)
      → run_lines R.read 1 (lines session) started ≡ ended M
      → (M ≡ left_by R session) × (length (session_calls R session) ≡ length (lines session))
  -- one that stops does so at the line behind those that were called, which is refused there, by being no line or by
  -- its step
  pub stopped_so : (R : Reader) (session : List ℕ) (number line : ℕ)
      → run_lines R.read 1 (lines session) started ≡ stopped number line
      → (line ≡ 1 + length (session_calls R session))
      × (line ≤ length (lines session))
      × ((run_read (read_at R session line) (left_by R session)).0.number ≡ number)
      × (number ≡ 0 → ⊥)

-- ---- handles

-- After any calls from a new tape, and so at every line of a session, the handle that `n` and an index is, is live
-- exactly where the index is below the length. Proved in proofs/Held.antt
abbrev pub LiveBelow : Type 0
LiveBelow =
    (A : Arrays floats) (cs : List (Call floats)) (i : ℕ) → let M = after cs (fresh A) in
    live M (standing M i) ≡ ltb i M.state.length

-- ---- what a session can be answered

-- the refusal in the number that is returned, and its line
abbrev pub refusal_in : ℕ → ℕ
refusal_in x = x / least_refusal

abbrev pub line_in : ℕ → ℕ
line_in x = x % least_refusal

-- the refusals that a session can meet
abbrev pub met : List ℕ
met = 3 ∷ 5 ∷ 8 ∷ 9 ∷ []

-- the longest listing: 30 bytes of header, and for each of 1,024 nodes 48 bytes and the digits of its index
abbrev pub most_listing : ℕ
most_listing = 52168

-- what is so of x, the number that is returned, and of the lent bytes after it
pub record Says (R : Reader) (session lent : List ℕ) (x : ℕ) (bytes : List ℕ) : Type 0 where
  -- these refusals and nothing else
  pub only : ltb x least_refusal || among (refusal_in x) met ≡ true
  -- 3: the line names an index that is not below the length
  pub three : refusal_in x ≡ 3 → (l : Line) × (read_at R session (line_in x) ≡ some l) × (stands (left_by R session) l ≡ false)
  -- 5: the line records, and the tape has its 1,024 nodes
  pub five : refusal_in x ≡ 5 → let L = left_by R session in
      (l : Line) × (read_at R session (line_in x) ≡ some l) × (refusal_of (call L l) L ≡ some Full) × (L.state.length ≡ session_nodes)
  -- 8: no line is at fault, the listing does not fit
  pub eight : refusal_in x ≡ 8 → (line_in x ≡ 0) × (length lent < length (listing (left_by R session)))
  -- 9: the session is overlong, or the line is none
  pub nine : refusal_in x ≡ 9
      → (line_in x ≡ 0 → most_session < length session) × ((line_in x ≡ 0 → ⊥) → read_at R session (line_in x) ≡ none)
  -- at a refusal the lent bytes stay
  pub untouched : least_refusal ≤ x → bytes ≡ lent
  -- otherwise it is the listing of the machine that the calls leave, and the bytes behind it stay
  pub lists : x < least_refusal → let text = listing (left_by R session) in
      (x ≡ length text) × (bytes ≡ text ++ drop (length text) lent)
  -- no listing is longer, and with that room 8 never comes
  pub longest : x < least_refusal → x ≤ most_listing
  pub has_room : most_listing ≤ length lent → refusal_in x ≡ 8 → ⊥

-- Proved in proofs/Refused.antt
abbrev pub EveryAnswer : Type 0
EveryAnswer =
    (R : Reader) (session lent : List ℕ) → let y = answered R session lent in Says R session lent y.0 y.1
