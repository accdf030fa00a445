-- What a session answers, by what its last line or its listing meets: on a machine as in `Held` every row of the table
-- gives none but those of a full tape and of a listing that does not fit.
use Prim.Native.Nat.{ℕ, suc, ◌+◌, ◌/◌, ◌%◌, ◌-◌, ◌≤◌, ◌<◌}
use native.Mathlib.Nat.{zero-add}
use native.Mathlib.Omega.{arith}
use mathlib.Core.Path.{◌≡◌, refl, sym, ap, subst, ◌∙◌}
use mathlib.Core.Bool.{Bool, true, false, cond, and-eq-true_iff}
use mathlib.Core.List.{List, [], ◌∷◌, ◌++◌, map, map-append}
use mathlib.Core.Option.{Option, none, some}
use borrow.Author.Tests.{ltb-true, ltb-false, eqb-true, lt-ltb, le-ltb, ne_eqb}
use lib.Dec.{ltb, eqb}
use lib.ListN.{length, get_or, drop}
use Rattle.tape.specs.Numbers.{floats}
use Rattle.tape.specs.Machine.{Machine, capacity, all, most_nodes}
use Rattle.tape.specs.Handles.{Operand, handles, any_plain}
use Rattle.tape.specs.Operations.{known, one_sided, used}
use Rattle.tape.specs.Listing.{listing}
use Rattle.tape.specs.Answers.{Answer}
use Rattle.tape.specs.Calls.{Call, Move, move, set_mark, reset_mark, rewind_to_mark, rewind_to_init, operate, clear, Pass, pass, plan, list}
use Rattle.tape.specs.Admission.{fits, while_closed, in_turn}
use Rattle.tape.specs.Refusals.{mover, first_amiss, refusal_of, last_serial}
use Rattle.tape.specs.Steps.{step}
use Rattle.tape.specs.declared.admission.Caller.{Caller}
use Rattle.tape.specs.declared.admission.Caller.TheVariants as caller
use Rattle.tape.specs.declared.errors.Refusal.TheVariants.{Full, ListingTooLong}
use Rattle.tape.proofs.Passes.{answers, range_sound}
use Rattle.tape.proofs.Ranges.{all_append}
use Rattle.tape.proofs.Tests.{by_test, state_fit_so, refits}
use Rattle.expr.specs.Operators.{nothing}
use Rattle.revolutions.specs.Answered.{among}
use Rattle.revolutions.proofs.Answered.{demand_1}
use Rattle.revolutions.proofs.ToRun.{moves_so}
use Rattle.session.specs.Lines.{n, c, Line, leaf, op, op_7, op_10, mark_set, mark_reset, rewind_mark, rewind_init, clear_adj, pass_back, pass_tomark, pass_tostart, pass_rest, Within, Reader}
use Rattle.session.specs.Lines as line
use Rattle.session.specs.Session.{operand, call, indexes_of, stands, run_read, lines, onto, Outcome, ended, stopped, run_lines, session_nodes, started, most_session, least_refusal, refusal, reported, answered}
use Rattle.files.specs.Files.{session_calls, left_by, read_at, met, most_listing, Says, EveryAnswer}
use Rattle.files.proofs.Runs.{follows, run_is_run}
use Rattle.files.proofs.Held.{alive, Held, held_on, held_first}
use Rattle.files.proofs.Longest.{longest}

-- ---- one line

-- the number that what is read can meet, and why
pub data Meets (M : Machine floats) (read : Option Line) : ℕ → Type 0 where
  fine : Meets M read 0
  three : (l : Line) → read ≡ some l → stands M l ≡ false → Meets M read 3
  full : (l : Line) → read ≡ some l → refusal_of (call M l) M ≡ some Full → M.state.length ≡ session_nodes → Meets M read 5
  nine : read ≡ none → Meets M read 9

module _ {j : ℕ} {M : Machine floats} (h : Held j M) (few : j ≤ most_session) where
  -- it is let in
  lent_fits : fits true M ≡ true
  lent_fits = let f = h.shaped.fit in refits M M.state f f.state

  turn : (k : Caller) → while_closed k ≡ true → in_turn M.state.walk k ≡ true
  turn k e = subst (λ w. in_turn w k ≡ true) (sym h.shaped.over) e

  -- an operand whose index is below the length is live
  operand_lives : (x : line.Operand) (os : List (Operand floats)) → all (map (λ i. ltb i M.state.length) (indexes_of x)) ≡ true → first_amiss M (handles os) ≡ none → first_amiss M (handles (operand M x ∷ os)) ≡ none
  operand_lives (n i) os e rest = let below = ltb-true i M.state.length ((and-eq-true_iff (ltb i M.state.length) true).0 e).0 in rw (alive M h.numbered i below) rest
  operand_lives (c pattern) os e rest = rest

  both_live : (alone : Bool) (x y : line.Operand) → all (map (λ i. ltb i M.state.length) (indexes_of x ++ indexes_of y)) ≡ true → first_amiss M (handles (cond alone (operand M x ∷ []) (operand M x ∷ operand M y ∷ []))) ≡ none
  both_live alone x y e =
      let below : ℕ → Bool = λ i. ltb i M.state.length in
      let both = (and-eq-true_iff (all (map below (indexes_of x))) (all (map below (indexes_of y)))).0 (sym (all_append (map below (indexes_of x)) (map below (indexes_of y))) ∙ ap all (sym (map-append below (indexes_of x) (indexes_of y))) ∙ e) in
      by_test (λ os. first_amiss M (handles os) ≡ none) alone (λ _. operand_lives x [] both.0 refl) (λ _. operand_lives x (operand M y ∷ []) both.0 (operand_lives y [] both.1 refl))

  answers_so : {read : Option Line} (d : Call floats) → refusal_of d M ≡ none → Meets M read (step d M).0.number
  answers_so {read} d e = subst (Meets M read) (sym (demand_1.answered d M e).1) fine

  -- a recording is refused on a full tape alone
  records_so : (l : Line) (k : ℕ) (left right : Operand floats) → call M l ≡ operate k left right nothing → known k ≡ true → first_amiss M (handles (used k left right)) ≡ none → Meets M (some l) (step (operate k left right nothing) M).0.number
  records_so l k left right same there live = by_room (eqb M.state.length (capacity M.lent)) refl where
    by_room : (b : Bool) → eqb M.state.length (capacity M.lent) ≡ b → Meets M (some l) (step (operate k left right nothing) M).0.number
    by_room true e =
        let so : refusal_of (operate k left right nothing) M ≡ some Full = rw (lent_fits, turn caller.Recording refl, there, live, h.shaped.active, e) in
        subst (Meets M (some l)) (sym (ap (λ x. x.0.number) (demand_1.refused (operate k left right nothing) M Full so))) (full l refl (ap (λ d. refusal_of d M) same ∙ so) (eqb-true _ _ e ∙ h.shaped.large))
    by_room false e =
        answers_so (operate k left right nothing) (rw (lent_fits, turn caller.Recording refl, there, live, h.shaped.active, e, ne_eqb M.state.next last_serial (λ e. omega (arith, h.shaped.next))))

  moved_so : {read : Option Line} (m : Move) → in_turn M.state.walk (mover m) ≡ true → Meets M read (step (move m) M).0.number
  moved_so {read} m t =
      let f = h.shaped.fit in
      subst (Meets M read) (sym (answers (moves_so m M (state_fit_so most_nodes M.state (record { length = omega arith; mark = omega arith; next = f.state.next; walk = f.state.walk })) t))) fine

  walks_so : {read : Option Line} (p : Pass floats) → first_amiss M (handles (plan p M.state).root) ≡ none → any_plain (plan p M.state).root ≡ false → Meets M read (step (pass p) M).0.number
  walks_so p root standing =
      answers_so (pass p) (rw (lent_fits, turn caller.Passing refl, root, standing, range_sound M h.sound (pass p) (rw (lent_fits, turn caller.Passing refl)) root))

  line_meets : (l : Line) → Within l → stands M l ≡ true → Meets M (some l) (step (call M l) M).0.number
  line_meets (leaf pattern) w s = records_so (leaf pattern) _ _ _ refl refl refl
  line_meets (op k left right) (_, most, _, _) s = records_so (op k left right) k _ _ refl (lt-ltb k 11 (omega arith)) (both_live (one_sided k) left right s)
  line_meets (op_7 left) w s = records_so (op_7 left) _ _ _ refl refl (operand_lives left [] s refl)
  line_meets (op_10 left) w s = records_so (op_10 left) _ _ _ refl refl (operand_lives left [] s refl)
  line_meets mark_set w s = moved_so set_mark (turn caller.Move refl)
  line_meets mark_reset w s = moved_so reset_mark (turn caller.Move refl)
  line_meets rewind_mark w s = moved_so rewind_to_mark (turn caller.Move refl)
  line_meets rewind_init w s = moved_so rewind_to_init (turn caller.Move refl)
  line_meets clear_adj w s = answers_so clear (rw (lent_fits, turn caller.Clearing refl))
  line_meets (pass_back root) w s = walks_so _ (operand_lives (n root) [] s refl) refl
  line_meets (pass_tomark root) w s = walks_so _ (operand_lives (n root) [] s refl) refl
  line_meets (pass_tostart root) w s = walks_so _ (operand_lives (n root) [] s refl) refl
  line_meets pass_rest w s = walks_so _ refl refl

  pub meets : (R : Reader) (text : List ℕ) → Meets M (R.read text) (run_read (R.read text) M).0.number
  meets R text = by_reading (R.read text) refl where
    by_reading : (o : Option Line) → R.read text ≡ o → Meets M o (run_read o M).0.number
    by_reading none e = nine refl
    by_reading (some l) e = by_test (λ (x : Answer floats × Machine floats). Meets M (some l) x.0.number) (stands M l) (line_meets l (R.only text l e).0) (three l refl)

  -- the listing is written, or refused 8
  abbrev said : List ℕ → Answer floats × Machine floats → ℕ × List ℕ
  said lent x = let number = x.0.number in (cond (eqb number 0) x.0.count (refusal number 0), cond (eqb number 0) (listing M ++ drop (length (listing M)) lent) lent)

  pub reports : (lent : List ℕ) → reported (ended M) lent ≡ cond (ltb (length lent) (length (listing M))) (refusal 8 0, lent) (length (listing M), listing M ++ drop (length (listing M)) lent)
  reports lent = by_room (ltb (length lent) (length (listing M))) refl where
    by_room : (b : Bool) → ltb (length lent) (length (listing M)) ≡ b → said lent (step (list (length lent)) M) ≡ cond b (refusal 8 0, lent) (length (listing M), listing M ++ drop (length (listing M)) lent)
    by_room true e = ap (said lent) (demand_1.refused (list (length lent)) M ListingTooLong (rw (lent_fits, turn caller.Listing refl, e)))
    by_room false e = ap (said lent) (demand_1.answered (list (length lent)) M (rw (lent_fits, turn caller.Listing refl, e))).0

-- ---- a session

lines_few : (bytes : List ℕ) → length (lines bytes) ≤ length bytes
lines_few [] = omega arith
lines_few (byte ∷ bytes) = let rest = lines_few bytes in by_test (λ (ls : List (List ℕ)). length ls ≤ suc (length bytes)) (eqb byte 10) (λ _. omega (arith, rest)) (λ _. omega (arith, onto_few (lines bytes))) where
  onto_few : (ls : List (List ℕ)) → length (onto byte ls) ≤ 1 + length ls
  onto_few [] = omega arith
  onto_few (l ∷ ls) = omega arith

module _ (R : Reader) (session : List ℕ) where
  abbrev ran : ℕ
  ran = length (session_calls R session)

  abbrev L : Machine floats
  L = left_by R session

  -- a line has a byte or more
  few_ran : ran ≤ length session
  few_ran = omega (arith, lines_few session, (follows R.read Held (λ j M text l e s. held_on j M l) 1 (lines session) started).few)

  pub held_last : Held ran L
  held_last = rw zero-add at ((follows R.read Held (λ j M text l e s. held_on j M l) 1 (lines session) started).keeps 0 held_first)

  -- a run that ends lists what it leaves, where there is room
  pub lists_so : (lent : List ℕ) (M : Machine floats) → length session ≤ most_session → run_lines R.read 1 (lines session) started ≡ ended M → length (listing M) ≤ length lent
      → answered R session lent ≡ (length (listing M), listing M ++ drop (length (listing M)) lent)
  lists_so lent M short e room =
      let held = subst (Held ran) (sym (run_is_run.ended_so R session M e).0) held_last in
      ap (λ b. cond b (refusal 9 0, lent) (reported (run_lines R.read 1 (lines session) started) lent)) (le-ltb most_session (length session) short)
      ∙ ap (λ r. reported r lent) e
      ∙ reports held (omega (arith, few_ran)) lent
      ∙ ap (λ b. cond b (refusal 8 0, lent) (length (listing M), listing M ++ drop (length (listing M)) lent)) (le-ltb (length lent) (length (listing M)) room)

  -- the ways to answer
  pub data Ways (lent : List ℕ) : ℕ × List ℕ → Type 0 where
    lists : run_lines R.read 1 (lines session) started ≡ ended L → length (listing L) ≤ length lent → Ways lent (length (listing L), listing L ++ drop (length (listing L)) lent)
    too_long : length lent < length (listing L) → Ways lent (refusal 8 0, lent)
    stops : (number line : ℕ) → 0 < line → line ≤ most_session → Meets L (read_at R session line) number → (number ≡ 0 → ⊥) → Ways lent (refusal number line, lent)
    overlong : most_session < length session → Ways lent (refusal 9 0, lent)

  pub ways : (lent : List ℕ) → Ways lent (answered R session lent)
  ways lent = by_test (Ways lent) (ltb most_session (length session)) (λ e. overlong (ltb-true most_session (length session) e)) (λ e. by_run (ltb-false most_session (length session) e) (run_lines R.read 1 (lines session) started) refl) where
    by_run : length session ≤ most_session → (r : Outcome) → run_lines R.read 1 (lines session) started ≡ r → Ways lent (reported r lent)
    by_run h (ended M) e =
        let all : ran ≤ most_session = omega (arith, few_ran) in
        let same : M ≡ L = (run_is_run.ended_so R session M e).0 in
        subst (λ K. Ways lent (reported (ended K) lent)) (sym same)
        (subst (Ways lent) (sym (reports held_last all lent)) (by_test (Ways lent) (ltb (length lent) (length (listing L))) (λ t. too_long (ltb-true (length lent) (length (listing L)) t)) (λ t. lists (e ∙ ap ended same) (ltb-false (length lent) (length (listing L)) t))))
    by_run h (stopped number line) e =
        let (at, short, refuses, z) = run_is_run.stopped_so R session number line e in
        stops number line (omega arith) (omega (arith, lines_few session)) (subst (Meets L (read_at R session line)) refuses (meets held_last (omega (arith, few_ran)) R (get_or (lines session) (line - 1) []))) z

  -- with a number below 16,777,216 the run ended, and what it left was listed
  pub listed_so : (lent : List ℕ) → (answered R session lent).0 < least_refusal
      → (run_lines R.read 1 (lines session) started ≡ ended L) × (answered R session lent ≡ (length (listing L), listing L ++ drop (length (listing L)) lent))
  listed_so lent = by_way (answered R session lent) (ways lent) where
    by_way : (y : ℕ × List ℕ) → Ways lent y → y.0 < least_refusal → (run_lines R.read 1 (lines session) started ≡ ended L) × (y ≡ (length (listing L), listing L ++ drop (length (listing L)) lent))
    by_way _ (lists e h) below = (e, refl)
    by_way _ (too_long h) below = absurd (omega arith)
    by_way _ (stops k at first few m z) below = absurd (z (omega arith))
    by_way _ (overlong h) below = absurd (omega arith)

-- ---- what is so of the number and the bytes, each way

module _ (R : Reader) (session lent : List ℕ) where
  counted_so : let text = listing (left_by R session) in length text ≤ most_listing → Says R session lent (length text) (text ++ drop (length text) lent)
  counted_so h = record {
    only = rw (lt-ltb (length (listing (left_by R session))) least_refusal (omega arith));
    three = λ e. absurd (omega arith);
    five = λ e. absurd (omega arith);
    eight = λ e. absurd (omega arith);
    nine = λ e. absurd (omega arith);
    untouched = λ e. absurd (omega arith);
    lists = λ _. (refl, refl);
    longest = λ _. h;
    has_room = λ _ e. omega arith;
  }

  -- no listing of the machine that is left is longer
  short : length (listing (left_by R session)) ≤ most_listing
  short = let f = (held_last R session).shaped in longest (left_by R session) (omega (arith, f.large)) (omega arith)

  -- the line there records, and the tape has no room
  abbrev Filled : ℕ → Type 0
  Filled at = let L = left_by R session in (l : Line) × (read_at R session at ≡ some l) × (refusal_of (call L l) L ≡ some Full) × (L.state.length ≡ session_nodes)

  refused_so : (k at : ℕ) → at < least_refusal → among k met ≡ true → (k ≡ 0 → ⊥)
      → (k ≡ 3 → (l : Line) × (read_at R session at ≡ some l) × (stands (left_by R session) l ≡ false))
      → (k ≡ 5 → Filled at)
      → (k ≡ 8 → (at ≡ 0) × (length lent < length (listing (left_by R session))))
      → (k ≡ 9 → (at ≡ 0 → most_session < length session) × ((at ≡ 0 → ⊥) → read_at R session at ≡ none))
      → Says R session lent (refusal k at) lent
  refused_so k at small found z at_3 at_5 at_8 at_9 =
      let number : refusal k at / least_refusal ≡ k = omega arith in
      let line : refusal k at % least_refusal ≡ at = omega arith in
      record {
        only = rw (le-ltb (refusal k at) least_refusal (omega arith), number) found;
        three = λ e. subst (λ i. (l : Line) × (read_at R session i ≡ some l) × (stands (left_by R session) l ≡ false)) (sym line) (at_3 (sym number ∙ e));
        five = λ e. subst Filled (sym line) (at_5 (sym number ∙ e));
        eight = λ e. let (none_at_fault, long) = at_8 (sym number ∙ e) in (line ∙ none_at_fault, long);
        nine = λ e. subst (λ i. (i ≡ 0 → most_session < length session) × ((i ≡ 0 → ⊥) → read_at R session i ≡ none)) (sym line) (at_9 (sym number ∙ e));
        untouched = λ _. refl;
        lists = λ e. absurd (omega arith);
        longest = λ e. absurd (omega arith);
        has_room = λ h e. omega (arith, (at_8 (sym number ∙ e)).1, short);
      }

  stopped_so : (k at : ℕ) → 0 < at → at ≤ most_session → Meets (left_by R session) (read_at R session at) k → (k ≡ 0 → ⊥) → Says R session lent (refusal k at) lent
  stopped_so _ at first few fine z = absurd (z refl)
  stopped_so _ at first few (three l e s) z = refused_so 3 at (omega arith) refl z (λ _. (l, e, s)) (λ e. absurd (omega arith)) (λ e. absurd (omega arith)) (λ e. absurd (omega arith))
  stopped_so _ at first few (full l e so k) z = refused_so 5 at (omega arith) refl z (λ e. absurd (omega arith)) (λ _. (l, e, so, k)) (λ e. absurd (omega arith)) (λ e. absurd (omega arith))
  stopped_so _ at first few (nine e) z = refused_so 9 at (omega arith) refl z (λ e. absurd (omega arith)) (λ e. absurd (omega arith)) (λ e. absurd (omega arith)) (λ _. (λ e. absurd (omega arith), λ _. e))

  by_way : (y : ℕ × List ℕ) → Ways R session lent y → Says R session lent y.0 y.1
  by_way _ (lists e h) = counted_so short
  by_way _ (too_long h) = refused_so 8 0 (omega arith) refl (λ e. omega arith) (λ e. absurd (omega arith)) (λ e. absurd (omega arith)) (λ _. (refl, h)) (λ e. absurd (omega arith))
  by_way _ (stops k at first few m z) = stopped_so k at first few m z
  by_way _ (overlong h) = refused_so 9 0 (omega arith) refl (λ e. omega arith) (λ e. absurd (omega arith)) (λ e. absurd (omega arith)) (λ e. absurd (omega arith)) (λ _. (λ _. h, λ z. absurd (z refl)))

pub every_answer : EveryAnswer
every_answer R session lent = by_way R session lent (answered R session lent) (ways R session lent)
