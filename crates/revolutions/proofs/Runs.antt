-- Runs taken apart: one list of calls after another, and passes that were cut put down in one go. A walk that is open is
-- seen as if it had gone on to its end (`settled`).
use Prim.Native.Nat.{ℕ}
use mathlib.Core.Path.{◌≡◌, refl, sym, ap, subst, ◌∙◌}
use mathlib.Core.Bool.{Bool, true, false, true≢false}
use mathlib.Core.List.{List, [], ◌∷◌, ◌++◌}
use Rattle.tape.specs.Numbers.{Numbers}
use Rattle.tape.specs.Machine.{Machine}
use Rattle.tape.specs.Answers.{Answer}
use Rattle.tape.specs.Calls.{Call, move, start, stop, set_mark, reset_mark, rewind_to_mark, rewind_to_init, operate, clear, Pass, pass, open_pass, slice, propagate_mark_to_start, value_of, adjoint_of, is_live, list, carried}
use Rattle.tape.specs.Admission.{while_open}
use Rattle.tape.specs.Refusals.{asked}
use Rattle.tape.specs.Steps.{step, run}
use Rattle.tape.specs.Kept.{after}
use Rattle.tape.specs.Passes.{Unrefused}
use Rattle.tape.specs.Slices.{Over}
use Rattle.tape.proofs.Passes.{only_adjoints, accepted, answers}
use Rattle.tape.proofs.Slices.{settled, settled_over, opening_settles, slice_settles, as_opened}
use Rattle.tape.proofs.Steps.{Passed, by_refusal, closed}
use Rattle.tape.proofs.Tests.{by_test}
use Rattle.revolutions.specs.Revolutions.{Operation, Revolution, Session, recordings, revolution_calls, calls, all_in_one_go, RunsAs}

-- ---- one list of calls after another

pub after_append : {N : Numbers} (cs ds : List (Call N)) (M : Machine N) → after (cs ++ ds) M ≡ after ds (after cs M)
after_append [] ds M = refl
after_append (c ∷ cs) ds M = after_append cs ds (step c M).1

pub unrefused_parts : {N : Numbers} (cs ds : List (Call N)) (M : Machine N) → Unrefused (run (cs ++ ds) M).0 → Unrefused (run cs M).0 × Unrefused (run ds (after cs M)).0
unrefused_parts [] ds M u = (tt, u)
unrefused_parts (c ∷ cs) ds M (first, rest) = let both = unrefused_parts cs ds (step c M).1 rest in ((first, both.0), both.1)

pub unrefused_append : {N : Numbers} (cs ds : List (Call N)) (M : Machine N) → Unrefused (run cs M).0 → Unrefused (run ds (after cs M)).0 → Unrefused (run (cs ++ ds) M).0
unrefused_append [] ds M _ u = u
unrefused_append (c ∷ cs) ds M (first, rest) u = (first, unrefused_append cs ds (step c M).1 rest u)

-- ---- calls that leave no walk open

-- the calls of a session behind its start
abbrev steady : {N : Numbers} → Call N → Bool
steady (move start) = false
steady (move stop) = true
steady (move set_mark) = true
steady (move reset_mark) = true
steady (move rewind_to_mark) = true
steady (move rewind_to_init) = true
steady (operate op left right g) = true
steady clear = true
steady (pass p) = true
steady (open_pass p) = false
steady (slice n) = false
steady (value_of x) = false
steady (adjoint_of x) = false
steady (is_live x) = false
steady (list bytes) = false

abbrev pub AllSteady : {N : Numbers} → List (Call N) → Type 0
AllSteady [] = Unit {0}
AllSteady (c ∷ cs) = (steady c ≡ true) × AllSteady cs

pub steady_append : {N : Numbers} (cs ds : List (Call N)) → AllSteady cs → AllSteady ds → AllSteady (cs ++ ds)
steady_append [] ds _ t = t
steady_append (c ∷ cs) ds (first, rest) t = (first, steady_append cs ds rest t)

-- while a walk is open they are refused
needs_over : {N : Numbers} (c : Call N) (M : Machine N) → steady c ≡ true → while_open (asked c M.state).caller ≡ false
needs_over (move start) M e = absurd (true≢false (sym e))
needs_over (move stop) M e = refl
needs_over (move set_mark) M e = refl
needs_over (move reset_mark) M e = refl
needs_over (move rewind_to_mark) M e = refl
needs_over (move rewind_to_init) M e = refl
needs_over (operate op left right g) M e = refl
needs_over clear M e = refl
needs_over (pass p) M e = refl
needs_over (open_pass p) M e = refl
needs_over (slice n) M e = absurd (true≢false (sym e))
needs_over (value_of x) M e = refl
needs_over (adjoint_of x) M e = absurd (true≢false (sym e))
needs_over (is_live x) M e = refl
needs_over (list bytes) M e = absurd (true≢false (sym e))

-- and they open none
carried_over : {N : Numbers} (c : Call N) (M : Machine N) → steady c ≡ true → Over M → Over (carried c M).1
carried_over (move start) M e o = refl
carried_over (move stop) M e o = o
carried_over (move set_mark) M e o = o
carried_over (move reset_mark) M e o = o
carried_over (move rewind_to_mark) M e o = o
carried_over (move rewind_to_init) M e o = o
carried_over {N} (operate op left right g) M e o = by_test (λ (x : Answer N × Machine N). Over x.1) M.state.active (λ _. o) (λ _. o)
carried_over clear M e o = o
carried_over (pass p) M e o = o
carried_over (open_pass p) M e o = absurd (true≢false (sym e))
carried_over (slice n) M e o = absurd (true≢false (sym e))
carried_over (value_of x) M e o = o
carried_over (adjoint_of x) M e o = o
carried_over (is_live x) M e o = o
carried_over (list bytes) M e o = o

pub over_after : {N : Numbers} (cs : List (Call N)) (M : Machine N) → AllSteady cs → Over M → Over (after cs M)
over_after [] M _ o = o
over_after (c ∷ cs) M (e, es) o = over_after cs (step c M).1 es (by_refusal (λ x. Over x.1) c M (λ _ _. o) (λ _. carried_over c M e o))

-- ---- in one go

-- these calls are not refused, and leave this machine
pub record Left {N : Numbers} (cs : List (Call N)) (M end : Machine N) : Type 0 where
  pub machine : after cs M ≡ end
  pub unrefused : Unrefused (run cs M).0

module _ {N : Numbers} where
  one_more : (c : Call N) (cs : List (Call N)) (M L end : Machine N) → (step c M).0.number ≡ 0 → (step c M).1 ≡ L → Left cs L end → Left (c ∷ cs) M end
  one_more c cs M L end first e rest =
      let there : Left cs (step c M).1 end = rw e rest in
      record { machine = there.machine; unrefused = (first, there.unrefused) }

  -- a call that stands for itself, for its pass, or for nothing
  itself : (c : Call N) (cs : List (Call N)) (M end : Machine N) → steady c ≡ true → (step c M).0.number ≡ 0 → Left cs (settled (step c M).1) end → Left (c ∷ cs) (settled M) end
  itself c cs M end e first rest =
      let a = accepted c M first in
      let o : Over M = closed a.passed (needs_over c M e) in
      let after_it : Over (step c M).1 = rw a.carries (carried_over c M e o) in
      rw (settled_over M o) (one_more c cs M (settled (step c M).1) end first (sym (settled_over (step c M).1 after_it)) rest)

  its_pass : (p : Pass N) (cs : List (Call N)) (M end : Machine N) → (step (open_pass p) M).0.number ≡ 0 → Left cs (settled (step (open_pass p) M).1) end → Left (pass p ∷ cs) (settled M) end
  its_pass p cs M end first rest =
      let a = accepted (open_pass p) M first in
      let b = as_opened p M a in
      let o : Over M = closed a.passed refl in
      let same : (step (pass p) M).1 ≡ settled (step (open_pass p) M).1 = ap (λ x. x.1) b.carries ∙ sym (opening_settles p M o) ∙ ap (λ x. settled x.1) (sym a.carries) in
      rw (settled_over M o) (one_more (pass p) cs M (settled (step (open_pass p) M).1) end (answers b) same rest)

  nothing : (c : Call N) (cs : List (Call N)) (M end : Machine N) → settled (step c M).1 ≡ settled M → Left cs (settled (step c M).1) end → Left cs (settled M) end
  nothing c cs M end e rest = subst (λ L. Left cs L end) e rest

  sliced : (n : ℕ) (M : Machine N) → (step (slice n) M).0.number ≡ 0 → settled (step (slice n) M).1 ≡ settled M
  sliced n M first = let a = accepted (slice n) M first in ap (λ x. settled x.1) a.carries ∙ slice_settles n M a.passed

  -- behind the start, calls that are not refused do what they do in one go, up to the end of the walk that is open
  gone : (cs : List (Call N)) (M : Machine N) → AllSteady (all_in_one_go cs) → Unrefused (run cs M).0 → Left (all_in_one_go cs) (settled M) (settled (after cs M))
  gone [] M t u = record { machine = refl; unrefused = tt }
  gone (open_pass p ∷ cs) M (t, ts) (first, rest) = its_pass p (all_in_one_go cs) M _ first (gone cs (step (open_pass p) M).1 ts rest)
  gone (slice n ∷ cs) M t (first, rest) = nothing (slice n) (all_in_one_go cs) M _ (sliced n M first) (gone cs (step (slice n) M).1 t rest)
  gone (value_of x ∷ cs) M t (first, rest) = nothing (value_of x) (all_in_one_go cs) M _ (ap settled (only_adjoints.values x M)) (gone cs (step (value_of x) M).1 t rest)
  gone (adjoint_of x ∷ cs) M t (first, rest) = nothing (adjoint_of x) (all_in_one_go cs) M _ (ap settled (only_adjoints.adjoints x M)) (gone cs (step (adjoint_of x) M).1 t rest)
  gone (is_live x ∷ cs) M t (first, rest) = nothing (is_live x) (all_in_one_go cs) M _ (ap settled (only_adjoints.liveness x M)) (gone cs (step (is_live x) M).1 t rest)
  gone (list bytes ∷ cs) M t (first, rest) = nothing (list bytes) (all_in_one_go cs) M _ (ap settled (only_adjoints.listings bytes M)) (gone cs (step (list bytes) M).1 t rest)
  gone (move m ∷ cs) M (t, ts) (first, rest) = itself (move m) (all_in_one_go cs) M _ t first (gone cs (step (move m) M).1 ts rest)
  gone (operate op left right g ∷ cs) M (t, ts) (first, rest) = itself (operate op left right g) (all_in_one_go cs) M _ t first (gone cs (step (operate op left right g) M).1 ts rest)
  gone (clear ∷ cs) M (t, ts) (first, rest) = itself clear (all_in_one_go cs) M _ t first (gone cs (step clear M).1 ts rest)
  gone (pass p ∷ cs) M (t, ts) (first, rest) = itself (pass p) (all_in_one_go cs) M _ t first (gone cs (step (pass p) M).1 ts rest)

-- ---- from the start on

-- The calls are these in one go, on the machine that the start finds: before it there are reads, and slices of a walk
-- that was open. What goes back over a slice holds of the first machine if it holds of that one
pub record FromStart {N : Numbers} (cs ds : List (Call N)) (M : Machine N) : Type 1 where
  pub found : Machine N
  pub left : Left (move start ∷ ds) found (after cs M)
  pub back : (P : Machine N → Type 0) → ((n : ℕ) (L : Machine N) → Passed (slice n) L → P (carried (slice n) L).1 → P L) → P found → P M

-- only the start is not steady, of the calls that a list in one go begins with
abbrev begins_steady : {N : Numbers} → List (Call N) → Bool
begins_steady [] = true
begins_steady (c ∷ cs) = steady c

abbrev behind_first : {N : Numbers} → List (Call N) → List (Call N)
behind_first [] = []
behind_first (c ∷ cs) = cs

module _ {N : Numbers} (ds : List (Call N)) (t : AllSteady ds) where
  -- at the start
  started : (cs : List (Call N)) (M : Machine N) → all_in_one_go cs ≡ ds → Unrefused (run (move start ∷ cs) M).0 → Over (after (move start ∷ cs) M) → FromStart (move start ∷ cs) ds M
  started cs M e (first, rest) over =
      let S = (step (move start) M).1 in
      let new : Over S = ap (λ x. x.1.state.walk) (accepted (move start) M first).carries in
      let steady_cs : AllSteady (all_in_one_go cs) = rw e t in
      let there : Left ds S (after cs S) = rw (e, settled_over S new, settled_over (after cs S) over) at (gone cs S steady_cs rest) in
      record { found = M; left = record { machine = there.machine; unrefused = (first, there.unrefused) }; back = λ P each h. h }

  -- before it: a read changes nothing, and what goes back over a slice does
  read_before : (c : Call N) (cs : List (Call N)) (M : Machine N) → (step c M).1 ≡ M → FromStart cs ds (step c M).1 → FromStart (c ∷ cs) ds M
  read_before c cs M e f = record { found = f.found; left = f.left; back = λ P each h. subst P e (f.back P each h) }

  slice_before : (n : ℕ) (cs : List (Call N)) (M : Machine N) → (step (slice n) M).0.number ≡ 0 → FromStart cs ds (step (slice n) M).1 → FromStart (slice n ∷ cs) ds M
  slice_before n cs M first f =
      let a = accepted (slice n) M first in
      record { found = f.found; left = f.left; back = λ P each h. each n M a.passed (rw a.carries at (f.back P each h)) }

  pub from_start : (cs : List (Call N)) (M : Machine N) → all_in_one_go cs ≡ move start ∷ ds → Unrefused (run cs M).0 → Over (after cs M) → FromStart cs ds M
  from_start [] M e u over = absurd (true≢false (ap begins_steady e))
  from_start (move start ∷ cs) M e u over = started cs M (ap behind_first e) u over
  from_start (slice n ∷ cs) M e (first, rest) over = slice_before n cs M first (from_start cs (step (slice n) M).1 e rest over)
  from_start (value_of x ∷ cs) M e (first, rest) over = read_before (value_of x) cs M (only_adjoints.values x M) (from_start cs (step (value_of x) M).1 e rest over)
  from_start (adjoint_of x ∷ cs) M e (first, rest) over = read_before (adjoint_of x) cs M (only_adjoints.adjoints x M) (from_start cs (step (adjoint_of x) M).1 e rest over)
  from_start (is_live x ∷ cs) M e (first, rest) over = read_before (is_live x) cs M (only_adjoints.liveness x M) (from_start cs (step (is_live x) M).1 e rest over)
  from_start (list bytes ∷ cs) M e (first, rest) over = read_before (list bytes) cs M (only_adjoints.listings bytes M) (from_start cs (step (list bytes) M).1 e rest over)
  from_start (move stop ∷ cs) M e u over = absurd (true≢false (ap begins_steady e))
  from_start (move set_mark ∷ cs) M e u over = absurd (true≢false (ap begins_steady e))
  from_start (move reset_mark ∷ cs) M e u over = absurd (true≢false (ap begins_steady e))
  from_start (move rewind_to_mark ∷ cs) M e u over = absurd (true≢false (ap begins_steady e))
  from_start (move rewind_to_init ∷ cs) M e u over = absurd (true≢false (ap begins_steady e))
  from_start (operate op left right g ∷ cs) M e u over = absurd (true≢false (ap begins_steady e))
  from_start (clear ∷ cs) M e u over = absurd (true≢false (ap begins_steady e))
  from_start (pass p ∷ cs) M e u over = absurd (true≢false (ap begins_steady e))
  from_start (open_pass p ∷ cs) M e u over = absurd (true≢false (ap begins_steady e))

-- ---- a session's calls

recordings_steady : {N : Numbers} (os : List (Operation N)) → AllSteady (recordings os)
recordings_steady [] = tt
recordings_steady (o ∷ os) = (refl, recordings_steady os)

turns_steady : {N : Numbers} (rs : List (Revolution N)) → AllSteady (revolution_calls rs)
turns_steady [] = tt
turns_steady (r ∷ rs) = steady_append (recordings r.operations) _ (recordings_steady r.operations) (refl, (refl, turns_steady rs))

-- those behind the start
abbrev pub after_start : {N : Numbers} → Session N → List (Call N)
after_start s =
    recordings s.model ++ (move set_mark ∷ clear ∷ revolution_calls s.revolutions ++ (pass propagate_mark_to_start ∷ []))

session_steady : {N : Numbers} (s : Session N) → AllSteady (after_start s)
session_steady s =
    steady_append (recordings s.model) _ (recordings_steady s.model) (refl, (refl, steady_append (revolution_calls s.revolutions) _ (turns_steady s.revolutions) (refl, tt)))

pub session_from_start : {N : Numbers} (s : Session N) (cs : List (Call N)) (M : Machine N) → RunsAs s cs M → FromStart cs (after_start s) M
session_from_start s cs M p = from_start (after_start s) (session_steady s) cs M p.session p.unrefused p.over

-- after them no walk is open
pub session_over : {N : Numbers} (s : Session N) (M : Machine N) → (step (move start) M).0.number ≡ 0 → Over (after (calls s) M)
session_over s M first =
    over_after (after_start s) (step (move start) M).1 (session_steady s) (ap (λ x. x.1.state.walk) (accepted (move start) M first).carries)
