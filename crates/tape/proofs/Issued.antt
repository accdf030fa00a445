-- The handle that a refusal is given for, by the table; then serials, by cases on what a step leaves.
use Prim.Native.Nat.{ℕ, ◌+◌, ◌≤◌, ◌<◌}
use native.Mathlib.Omega.{arith}
use native.Mathlib.Decide.{dec_lt}
use mathlib.Core.Path.{◌≡◌, refl, sym, ap, subst, ◌∙◌}
use mathlib.Core.Bool.{Bool, true, false, not, ◌||◌, cond, true≢false}
use mathlib.Core.List.{List, [], ◌∷◌}
use mathlib.Core.Option.{none, some, some-injective}
use borrow.Author.Tests.{ltb-true, ltb-false, eqb-true, eqb-false, lt-ltb, le-ltb, eq-eqb, ne_eqb, not-true, not-false}
use lib.Dec.{ltb, eqb}
use lib.Seq.{get_or-set_other}
use Rattle.tape.specs.Numbers.{Numbers, floats}
use Rattle.tape.specs.Machine.{Machine, machine, arrays, state}
use Rattle.tape.specs.Handles.{plain, node, live, never_issued, counted_as, handles}
use Rattle.tape.specs.Answers.{Answer, number, refused}
use Rattle.tape.specs.Calls.{Call, start, stop, set_mark, reset_mark, rewind_to_mark, rewind_to_init, move, operate, clear, pass, open_pass, slice, value_of, adjoint_of, is_live, list, carried}
use Rattle.tape.specs.Admission.{let_in, in_turn}
use Rattle.tape.specs.Refusals.{asked, refusal_of}
use Rattle.tape.specs.Steps.{step, run}
use Rattle.tape.specs.Kept.{fresh, after, serials, serial_of, Ascending, NoneNought}
use Rattle.tape.specs.Issued.{first_not_live, RefusedFor, how_often, stays_below, takes_off, Sorting, TakenUpLater}
use Rattle.tape.specs.declared.admission.Caller.TheVariants as caller
use Rattle.tape.specs.declared.errors.Refusal.{Refusal}
use Rattle.tape.specs.declared.errors.Refusal.TheVariants.{Stale, NeverIssued}
use Rattle.tape.specs.declared.node.Handle.{Handle}
use Rattle.tape.specs.declared.node.Lookup.TheVariants as lookup
use Rattle.tape.specs.declared.tape.Tape.{Tape}
use Rattle.tape.specs.Machine.{Walk}
use Rattle.std.specs.Prelude.{None, Some}
use Rattle.tape.proofs.OneToOne.{never_nought, one_to_one}
use Rattle.tape.proofs.Passes.{carried_number}
use Rattle.tape.proofs.Recording.{recording}
use Rattle.tape.proofs.Serials.{serials_kept, never_fall}
use Rattle.tape.proofs.Stale.{past_dead}
use Rattle.tape.proofs.Steps.{not_some, by_refusal, by_table, granted, Effect, keeps, records, effect, Lives, lives_parts, lives_so}
use Rattle.tape.proofs.Tests.{by_test, by_or, or_false}

-- ---- the handle that a refusal is given for

-- the first that is not live, and how its serial sorts it
record Sorted {N : Numbers} (c : Call N) (M : Machine N) (never : Bool) : Type 0 where
  handle : Handle
  first : first_not_live M (handles (asked c M.state).operands) ≡ some handle
  sort : never_issued M.state handle ≡ never
  in_so : let_in (asked c M.state).caller M ≡ none

-- what refusal k says of it
record Says {N : Numbers} (c : Call N) (M : Machine N) (k : ℕ) : Type 0 where
  three : k ≡ 3 → Sorted c M false
  eleven : k ≡ 11 → Sorted c M true

module _ {N : Numbers} (c : Call N) (M : Machine N) where
  -- the other rows give neither number
  neither : (k : ℕ) → eqb k 3 || eqb k 11 ≡ false → Says c M k
  neither k e =
      let (three, eleven) = or_false (eqb k 3) (eqb k 11) e in
      record { three = λ t. absurd (eqb-false _ _ three t); eleven = λ t. absurd (eqb-false _ _ eleven t) }

  says : (r : Refusal) → refusal_of c M ≡ some r → Says c M (number r)
  says = by_table (λ r. Says c M (number r)) c M (record {
    misshapen = neither 1 refl;
    out_of_turn = λ _. neither 12 refl;
    unfit = neither 13 refl;
    unknown = neither 2 refl;
    stale = λ i h f s. record { three = λ _. record { handle = h; first = f; sort = s; in_so = i }; eleven = λ e. absurd (omega arith) };
    never_issued = λ i h f s. record { three = λ e. absurd (omega arith); eleven = λ _. record { handle = h; first = f; sort = s; in_so = i } };
    detached = neither 4 refl;
    full = neither 5 refl;
    spent = neither 6 refl;
    unsound = λ _ _ _. neither 7 refl;
    too_long = neither 8 refl;
  })

  -- a number that is given is that of a row
  stepped : Says c M (step c M).0.number
  stepped = by_refusal (λ x. Says c M x.0.number) c M says (λ _. neither _ (rw (carried_number c M)))

  -- and the call did nothing
  refused_so : (r : Refusal) → (step c M).0.number ≡ number r → step c M ≡ (refused r, M)
  refused_so r =
      by_refusal (λ x. x.0.number ≡ number r → x ≡ (refused r, M)) c M
      (λ s _ e. let same : s ≡ r = one_to_one.numbers s r e in ap (λ k. (refused k, M)) same)
      (λ _ e. absurd (never_nought r (sym e ∙ carried_number c M)))

  for_one : (r : Refusal) (never : Bool) → (step c M).0.number ≡ number r → Sorted c M never → (h : Handle) × RefusedFor h r c M × (never_issued M.state h ≡ never)
  for_one r never e s = (s.handle, record { outcome = refused_so r e; first = s.first }, s.sort)

  -- the handle that a call is refused for is sorted so
  same_handle : (h : Handle) (never : Bool) → first_not_live M (handles (asked c M.state).operands) ≡ some h → Sorted c M never → never_issued M.state h ≡ never
  same_handle h never f s = let e : s.handle ≡ h = some-injective _ _ (sym s.first ∙ f) in subst (λ k. never_issued M.state k ≡ never) e s.sort

  by_stale : (h : Handle) → RefusedFor h Stale c M → Sorted c M false
  by_stale h f = stepped.three (ap (λ x. x.0.number) f.outcome)

  by_never : (h : Handle) → RefusedFor h NeverIssued c M → Sorted c M true
  by_never h f = stepped.eleven (ap (λ x. x.0.number) f.outcome)

  stale_so : (h : Handle) → RefusedFor h Stale c M → never_issued M.state h ≡ false
  stale_so h f = same_handle h false f.first (by_stale h f)

  never_so : (h : Handle) → RefusedFor h NeverIssued c M → never_issued M.state h ≡ true
  never_so h f = same_handle h true f.first (by_never h f)

-- ---- what is_live counts

-- a read of a value and is_live are let in alike
same_turn : (w : Walk) → in_turn w caller.Value ≡ in_turn w caller.Liveness
same_turn None = refl
same_turn (Some s) = refl

abbrev counts : Bool → Bool → ℕ
counts l n = counted_as (cond l lookup.Live (cond n lookup.NeverIssued lookup.Stale))

is_two : (l n : Bool) → counts l n ≡ 2 → (l ≡ false) × (n ≡ false)
is_two true n e = absurd (omega arith)
is_two false true e = absurd (omega arith)
is_two false false e = (refl, refl)

is_three : (l n : Bool) → counts l n ≡ 3 → (l ≡ false) × (n ≡ true)
is_three true n e = absurd (omega arith)
is_three false true e = (refl, refl)
is_three false false e = absurd (omega arith)

module _ {N : Numbers} (h : Handle) (M : Machine N) where
  -- a handle that is not live, where its value is read
  unread : (never : Bool) → let_in caller.Liveness M ≡ none → live M h ≡ false → never_issued M.state h ≡ never → RefusedFor h (cond never NeverIssued Stale) (value_of (node h)) M
  unfolding step
  unread never e dead sort = record { outcome = rw (same_turn M.state.walk, e, dead, sort); first = rw dead }

  -- a refusal counts 0
  counted_so : (k : ℕ) (never : Bool) → (0 ≡ k → ⊥) → ((l n : Bool) → counts l n ≡ k → (l ≡ false) × (n ≡ never)) → (step (is_live (node h)) M).0.count ≡ k → RefusedFor h (cond never NeverIssued Stale) (value_of (node h)) M
  counted_so k never some-count so =
      by_refusal (λ x. x.0.count ≡ k → RefusedFor h (cond never NeverIssued Stale) (value_of (node h)) M) (is_live (node h)) M
      (λ _ _ e. absurd (some-count e))
      (λ p e. let (dead, sort) = so (live M h) (never_issued M.state h) e in unread never (granted p) dead sort)

  dead_so : (l : Bool) → cond l none (some h) ≡ some h → l ≡ false
  dead_so true e = not_some (sym e)
  dead_so false e = refl

  -- and back: what is refused 3 or 11 was let in
  back : (never : Bool) → first_not_live M (h ∷ []) ≡ some h → Sorted (value_of (node h)) M never → (step (is_live (node h)) M).0.count ≡ counts false never
  unfolding step
  back never f s =
      rw (← same_turn M.state.walk, s.in_so, dead_so (live M h) f, same_handle (value_of (node h)) M h never f s)

-- ---- serials

-- what is sorted as issued has a serial from 1 up and below the next, and the other way
issued_so : (t : Tape) (h : Handle) → never_issued t h ≡ false → (h.serial ≡ 0 → ⊥) × (h.serial < t.next)
issued_so t h e = let (z, b) = or_false (eqb h.serial 0) (not (ltb h.serial t.next)) e in (eqb-false _ _ z, ltb-true _ _ (not-false _ b))

so_issued : (t : Tape) (h : Handle) → (h.serial ≡ 0 → ⊥) → h.serial < t.next → never_issued t h ≡ true → ⊥
so_issued t h z b = by_or (eqb h.serial 0) (not (ltb h.serial t.next)) (λ e. z (eqb-true _ _ e)) (λ e. true≢false (sym (lt-ltb _ _ b) ∙ not-true _ e))

-- a serial below all of them
not_below : (k a : ℕ) (ss : List ℕ) → Ascending a ss → k < a → how_often k ss ≡ 0
not_below k a [] _ l = refl
not_below k a (s ∷ ss) (b, rest) l = rw (ne_eqb s k (λ e. omega arith)) (not_below k (s + 1) ss rest (omega arith))

nought_unanswered : (ss : List ℕ) → NoneNought ss → how_often 0 ss ≡ 0
nought_unanswered [] _ = refl
nought_unanswered (s ∷ ss) (z, rest) = rw (ne_eqb s 0 z) (nought_unanswered ss rest)

module _ {N : Numbers} {M : Machine N} where
  -- a serial not below the next one after a step
  above_step : {x : Answer N × Machine N} (k : ℕ) (ss : List ℕ) → Effect M x → x.1.state.next ≤ k → how_often k ss ≡ 0 → how_often k (serial_of x.0.handle ss) ≡ 0
  above_step k ss (keeps l e) b none-later = none-later
  above_step k ss (records v es r s) b none-later = rw (ne_eqb M.state.next k (λ e. omega arith)) none-later

  -- one not below the next one before it, which is answered now or later
  once_step : {x : Answer N × Machine N} (k : ℕ) (ss : List ℕ) → Effect M x → Ascending x.1.state.next ss → M.state.next ≤ k → (x.1.state.next ≤ k → how_often k ss ≡ 1) → how_often k (serial_of x.0.handle ss) ≡ 1
  once_step k ss (keeps l e) up b later = later (omega arith)
  once_step k ss (records v es r s) up b later = either (dec_lt M.state.next k) where
    either : Dec (M.state.next < k) → how_often k (M.state.next ∷ ss) ≡ 1
    either (yes l) = rw (ne_eqb M.state.next k (λ e. omega arith)) (later (omega arith))
    either (no g) = rw (eq-eqb M.state.next k (omega arith), not_below k (M.state.next + 1) ss up (omega arith))

  -- the handle that is answered has a serial that is given out
  answered_step : {x : Answer N × Machine N} (h : Handle) → Effect M x → x.0.handle ≡ some h → (h.serial ≡ 0 → ⊥) × (h.serial < x.1.state.next)
  answered_step h (keeps l e) n = not_some (sym n)
  answered_step h (records v es r s) n =
      let same : M.state.next ≡ h.serial = ap (λ k. k.serial) (some-injective _ _ n) in
      (λ e. r.fit.state.next (same ∙ e), omega arith)

above : {N : Numbers} (cs : List (Call N)) (M : Machine N) (k : ℕ) → (after cs M).state.next ≤ k → how_often k (serials (run cs M).0) ≡ 0
above [] M k b = refl
above (c ∷ cs) M k b =
    above_step k (serials (run cs (step c M).1).0) (effect c M) (omega (arith, serials_kept.never_fall cs (step c M).1)) (above cs (step c M).1 k b)

once : {N : Numbers} (cs : List (Call N)) (M : Machine N) (k : ℕ) → M.state.next ≤ k → k < (after cs M).state.next → how_often k (serials (run cs M).0) ≡ 1
once [] M k a b = absurd (omega arith)
once (c ∷ cs) M k a b =
    once_step k (serials (run cs (step c M).1).0) (effect c M) (serials_kept.never_repeat cs (step c M).1) a (λ later. once cs (step c M).1 k later b)

unanswered : {N : Numbers} (cs : List (Call N)) (M : Machine N) (h : Handle) → never_issued (after cs M).state h ≡ true → how_often h.serial (serials (run cs M).0) ≡ 0
unanswered cs M h =
    by_or (eqb h.serial 0) (not (ltb h.serial (after cs M).state.next))
    (λ e. rw (eqb-true h.serial 0 e) (nought_unanswered (serials (run cs M).0) (serials_kept.never_nought cs M)))
    (λ e. above cs M h.serial (ltb-false _ _ (not-true _ e)))

answered_issued : {N : Numbers} (c : Call N) (M : Machine N) (h : Handle) (later : List (Call N)) → (step c M).0.handle ≡ some h → never_issued (after later (step c M).1).state h ≡ true → ⊥
answered_issued c M h later e =
    let (z, b) = answered_step h (effect c M) e in
    so_issued (after later (step c M).1).state h z (omega (arith, serials_kept.never_fall later (step c M).1))

-- ---- live while the tape is longer than its index

-- no call but a start or a rewind leaves the tape shorter
shortened : {N : Numbers} (c : Call N) (M : Machine N) → (step c M).1.state.length < M.state.length → takes_off c ≡ true
shortened {N} c M =
    by_refusal (λ (x : Answer N × Machine N). x.1.state.length < M.state.length → takes_off c ≡ true) c M (λ _ _ l. absurd (omega arith)) (λ _. by_call c)
  where
    by_call : (c : Call N) → (carried c M).1.state.length < M.state.length → takes_off c ≡ true
    by_call (move start) l = refl
    by_call (move stop) l = absurd (omega arith)
    by_call (move set_mark) l = absurd (omega arith)
    by_call (move reset_mark) l = absurd (omega arith)
    by_call (move rewind_to_mark) l = refl
    by_call (move rewind_to_init) l = refl
    by_call (operate op left right g) l =
        by_test (λ (x : Answer N × Machine N). x.1.state.length < M.state.length → false ≡ true) M.state.active (λ _ l. absurd (omega arith)) (λ _ l. absurd (omega arith)) l
    by_call clear l = absurd (omega arith)
    by_call (pass p) l = absurd (omega arith)
    by_call (open_pass p) l = absurd (omega arith)
    by_call (slice n) l = absurd (omega arith)
    by_call (value_of x) l = absurd (omega arith)
    by_call (adjoint_of x) l = absurd (omega arith)
    by_call (is_live x) l = absurd (omega arith)
    by_call (list bytes) l = absurd (omega arith)

-- a node that is still below the length is as it was
still : {N : Numbers} (h : Handle) (M : Machine N) (x : Answer N × Machine N) → Effect M x → h.index < x.1.state.length → Lives M.state.length M.lent.serial h → Lives x.1.state.length x.1.lent.serial h
still h M _ (keeps l e) b a = record { below = b; serial = a.serial; same = a.same }
still h M _ (records v es r s) b a =
    record { below = b; serial = a.serial; same = get_or-set_other M.lent.serial M.state.length h.index M.state.next 0 (λ e. omega arith) ∙ a.same }

module _ {N : Numbers} (h : Handle) where
  -- once it is not, it is past
  past_so : (later : List (Call N)) (M : Machine N) → M.state.length ≤ h.index → h.serial < M.state.next → live (after later M) h ≡ false
  past_so later M b s = past_dead h later M (record { dead = λ a. omega (arith, a.below); serial = s })

  live_while : (later : List (Call N)) (M : Machine N) → Lives M.state.length M.lent.serial h → h.serial < M.state.next → live (after later M) h ≡ stays_below h.index later M
  live_while [] M a s = lives_so _ _ h a
  live_while (d ∷ later) M a s = either (dec_lt h.index (step d M).1.state.length) (λ l. live_while later (step d M).1 (still h M (step d M) (effect d M) l a) issued) where
    issued : h.serial < (step d M).1.state.next
    issued = omega (arith, never_fall (effect d M))

    either : Dec (h.index < (step d M).1.state.length) → (h.index < (step d M).1.state.length → live (after later (step d M).1) h ≡ stays_below h.index later (step d M).1) → live (after later (step d M).1) h ≡ stays_below h.index (d ∷ later) M
    either (yes l) on = rw (lt-ltb _ _ l) (on l)
    either (no g) on = rw (le-ltb h.index (step d M).1.state.length (omega arith)) (past_so later (step d M).1 (omega arith) issued)

pub sorting : Sorting
sorting = record {
  refused_three = λ c M e. for_one c M Stale false e ((stepped c M).three e);
  refused_eleven = λ c M e. for_one c M NeverIssued true e ((stepped c M).eleven e);
  counted_two = λ h M. (counted_so h M 2 false (λ e. omega arith) is_two, λ f. back h M false f.first (by_stale (value_of (node h)) M h f));
  counted_three = λ h M. (counted_so h M 3 true (λ e. omega arith) is_three, λ f. back h M true f.first (by_never (value_of (node h)) M h f));
  never_eleven = λ c M h later d e f. answered_issued c M h later e (never_so d (after later (step c M).1) h f);
  eleven_unanswered = λ cs M h d f. unanswered cs M h (never_so d (after cs M) h f);
  three_answered_once = λ A cs h d f. let (z, b) = issued_so (after cs (fresh A)).state h (stale_so d (after cs (fresh A)) h f) in once cs (fresh A) h.serial (omega arith) b;
  live_while = λ c M h later e. live_while h later (step c M).1 (lives_parts _ _ h (recording.answered c M h e).0) (answered_step h (effect c M) e).1;
  shortened = shortened;
}

pub taken_up_later : TakenUpLater
unfolding step
taken_up_later =
    let O = floats.nought in
    record {
      before = machine (state 0 0 true 2) (arrays (O ∷ []) (O ∷ []) (0 ∷ []) (0 ∷ []) (0 ∷ 0 ∷ []) (O ∷ O ∷ []));
      calls = operate 0 (plain O) (plain O) (record { value = O; left = O; right = O }) ∷ [];
      handle = record { index = 0; serial = 1 };
      refused_three = record { outcome = refl; first = refl };
      unanswered = refl;
    }
