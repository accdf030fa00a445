-- A walk that is open, seen as if it had gone on to its end: a slice does not change that, and opening a pass makes it
-- what the pass in one go leaves. By the cut of a range in two (`Passes`).
use Prim.Native.Nat.{ℕ, zero, suc, ◌+◌, ◌-◌, ◌*◌, ◌/◌, ◌%◌, ◌≤◌, ◌<◌}
use native.Mathlib.Nat.{zero-add, div-add-mod', mod-lt, mul-le-mul_right}
use native.Mathlib.Omega.{arith}
use mathlib.Core.Path.{◌≡◌, refl, sym, ap, ◌∙◌}
use mathlib.Core.Bool.{true, and-eq-true_iff}
use mathlib.Core.List.{List, [], ◌∷◌, map, map-append}
use mathlib.Core.Option.{none}
use borrow.Author.Tests.{ltb-true, ltb-false, lt-ltb, le-leb}
use lib.Dec.{ltb}
use lib.ListN.{length, replicate}
use Rattle.tape.specs.Numbers.{Numbers}
use Rattle.tape.specs.Machine.{Arrays, Machine, machine, all, most_nodes, span, walk_left, with_walk}
use Rattle.tape.specs.Walk.{walk, edges_at, indexes, visited, sound}
use Rattle.tape.specs.Calls.{Pass, pass, open_pass, slice, with_adjoints, plan, range, seeded, nodes_in, span_of, leaving, left_of, cut_at, slice_plan, slice_leaves, carried}
use Rattle.tape.specs.Admission.{walk_fits, in_turn}
use Rattle.tape.specs.Refusals.{refusal_of}
use Rattle.tape.specs.Steps.{step, run}
use Rattle.tape.specs.Kept.{after}
use Rattle.tape.specs.Passes.{Unrefused, counts}
use Rattle.tape.specs.Slices.{Over, nodes_left, in_slices, AnyCutting, GoesOn, rounded_up, AllOneSize, EachSlice}
use Rattle.tape.specs.declared.admission.Caller.TheVariants as caller
use Rattle.tape.specs.declared.tape.Span.{Span}
use Rattle.tape.specs.Machine.{Walk}
use Rattle.std.specs.Prelude.{None, Some}
use Rattle.tape.proofs.Passes.{Accepted, accepted, passes, answers, walk_cut, visited_cut, ends, left_ends, left_in_order, length_seeded, length_walked}
use Rattle.tape.proofs.Ranges.{length_indexes, nothing_left, indexes_cut, all_append}
use Rattle.tape.proofs.Steps.{Passed, by_refusal, shape, closed, all_live, sound_range}
use Rattle.tape.proofs.Tests.{by_test, walk_fit_so, walk_fit, Fit, fit, refits}

-- ---- where a slice is cut

module _ (n : ℕ) (s : Span) where
  cut_below : cut_at n s ≤ s.end
  cut_below = omega arith

  cut_above : s.from ≤ s.end → s.from ≤ cut_at n s
  cut_above h = by_test (λ k. s.from ≤ s.end - k) (ltb n (nodes_in s)) (λ t. omega (arith, ltb-true n (nodes_in s) t)) (λ _. omega arith)

  -- n nodes fewer are left
  fewer : nodes_in (slice_leaves n s) ≡ nodes_in s - n
  fewer = by_test (λ k. s.end - k - s.from ≡ nodes_in s - n) (ltb n (nodes_in s)) (λ t. omega (arith, ltb-true n (nodes_in s) t)) (λ t. omega (arith, ltb-false n (nodes_in s) t))

-- what is left of a walk of these nodes is these nodes, or none where they are none
left_again : {A : Type 0} (f : Span → A) (s : Span) → (s.end ≤ s.from → f (span 0 0) ≡ f s) → f (left_of (walk_left s)) ≡ f s
left_again f s none_left = by_test (λ w. f (left_of w) ≡ f s) (ltb s.from s.end) (λ _. refl) (λ t. none_left (ltb-false s.from s.end t))

nodes_again : (s : Span) → nodes_in (left_of (walk_left s)) ≡ nodes_in s
nodes_again s = left_again nodes_in s (λ h. sym (nothing_left s.from s.end h))

-- ---- a walk gone on to its end

module _ {N : Numbers} where
  -- the adjoints after a walk of these nodes, and the edges that it visits
  abbrev walked_over : Arrays N → List N.Number → Span → List N.Number
  walked_over A adjoints s = walk s.from (map (edges_at A) (indexes s.from (nodes_in s))) adjoints

  abbrev visits_over : Arrays N → Span → ℕ
  visits_over A s = visited A (indexes s.from (nodes_in s))

  walked_again : (A : Arrays N) (adjoints : List N.Number) (s : Span) → walked_over A adjoints (left_of (walk_left s)) ≡ walked_over A adjoints s
  walked_again A adjoints s = left_again (walked_over A adjoints) s (λ h. rw (nothing_left s.from s.end h))

  visits_again : (A : Arrays N) (s : Span) → visits_over A (left_of (walk_left s)) ≡ visits_over A s
  visits_again A s = left_again (visits_over A) s (λ h. rw (nothing_left s.from s.end h))

  -- no walk is open, whatever was
  abbrev shut : Machine N → Machine N
  shut M = machine (with_walk None M.state) M.lent

  pub shut_over : (M : Machine N) → Over M → shut M ≡ M
  shut_over M e = rw e

  abbrev pub settled : Machine N → Machine N
  settled M = with_adjoints (shut M) (walked_over M.lent M.lent.adjoint (left_of M.state.walk))

  pub settled_over : (M : Machine N) → Over M → settled M ≡ M
  settled_over M e = rw e

  abbrev visits_left : Machine N → ℕ
  visits_left M = visits_over M.lent (left_of M.state.walk)

  -- opening a pass makes it what the pass in one go leaves
  pub opening_settles : (p : Pass N) (M : Machine N) → Over M → settled (carried (open_pass p) M).1 ≡ (carried (pass p) M).1
  opening_settles p M e =
      let P = plan p M.state in
      let s = seeded P.root M.lent.adjoint in
      ap (with_adjoints (shut M)) (walked_again M.lent s (span_of P)) ∙ ap (λ L. with_adjoints L (walked_over M.lent s (span_of P))) (shut_over M e)

  opening_visits : (p : Pass N) (M : Machine N) → visits_left (carried (open_pass p) M).1 ≡ (carried (pass p) M).0.count
  opening_visits p M = visits_again M.lent (span_of (plan p M.state))

  -- a slice leaves it as it was, and visits what it takes of the edges
  module _ (n : ℕ) (M : Machine N) (p : Passed (slice n) M) where
    abbrev whole : Span
    whole = left_of M.state.walk

    in_order : whole.from ≤ whole.end
    in_order = let f : Fit M = fit M (shape p) in left_in_order M.state.walk M.state.length f.state.walk

    pub slice_settles : settled (carried (slice n) M).1 ≡ settled M
    slice_settles =
        let A = M.lent in
        let top = walked_over A A.adjoint (span (cut_at n whole) whole.end) in
        ap (with_adjoints (shut M)) (walked_again A top (slice_leaves n whole) ∙ sym (walk_cut A whole.from (cut_at n whole) whole.end (cut_above n whole in_order) (cut_below n whole) A.adjoint))

    slice_visits : (carried (slice n) M).0.count + visits_left (carried (slice n) M).1 ≡ visits_left M
    slice_visits =
        let low = visits_again M.lent (slice_leaves n whole) in
        let both = visited_cut M.lent whole.from (cut_at n whole) whole.end (cut_above n whole in_order) (cut_below n whole) in
        omega (arith, low, both)

  -- ---- any cutting

  slices_settle : (sizes : List ℕ) (M : Machine N) → Unrefused (run (map slice sizes) M).0 → settled (after (map slice sizes) M) ≡ settled M
  slices_settle [] M u = refl
  slices_settle (n ∷ sizes) M (first, rest) =
      let a = accepted (slice n) M first in
      slices_settle sizes (step (slice n) M).1 rest ∙ ap (λ x. settled x.1) a.carries ∙ slice_settles n M a.passed

  slices_visit : (sizes : List ℕ) (M : Machine N) → Unrefused (run (map slice sizes) M).0 → counts (run (map slice sizes) M).0 + visits_left (after (map slice sizes) M) ≡ visits_left M
  slices_visit [] M u = zero-add _
  slices_visit (n ∷ sizes) M (first, rest) =
      let a = accepted (slice n) M first in
      let here : (step (slice n) M).0.count + visits_left (step (slice n) M).1 ≡ visits_left M = rw a.carries (slice_visits n M a.passed) in
      let later = slices_visit sizes (step (slice n) M).1 rest in
      omega (arith, here, later)

  -- opening is refused as the pass in one go is
  pub as_opened : (p : Pass N) (M : Machine N) → Accepted (open_pass p) M (step (open_pass p) M) → Accepted (pass p) M (step (pass p) M)
  unfolding step
  as_opened p M a = record { passed = record { none_refuses = a.passed.none_refuses }; carries = rw a.passed.none_refuses }

  -- a pass that was opened, cut and gone to its end
  module _ (p : Pass N) (sizes : List ℕ) (M : Machine N) (u : Unrefused (run (in_slices p sizes) M).0) (over : Over (after (in_slices p sizes) M)) where
    opening : Accepted (open_pass p) M (step (open_pass p) M)
    opening = accepted (open_pass p) M u.0

    in_one_go : Accepted (pass p) M (step (pass p) M)
    in_one_go = as_opened p M opening

    same_machine : after (in_slices p sizes) M ≡ (step (pass p) M).1
    same_machine =
        sym (settled_over (after (in_slices p sizes) M) over)
        ∙ slices_settle sizes (step (open_pass p) M).1 u.1
        ∙ ap (λ x. settled x.1) opening.carries
        ∙ opening_settles p M (closed opening.passed refl)
        ∙ ap (λ x. x.1) (sym in_one_go.carries)

    same_visits : counts (run (in_slices p sizes) M).0 ≡ (step (pass p) M).0.count
    same_visits =
        let L = (step (open_pass p) M).1 in
        let none_left : visits_left (after (map slice sizes) L) ≡ 0 = rw over in
        let first : (step (open_pass p) M).0.count ≡ 0 = ap (λ x. x.0.count) opening.carries in
        let left : visits_left L ≡ (step (pass p) M).0.count = ap (λ x. visits_left x.1) opening.carries ∙ opening_visits p M ∙ ap (λ x. x.0.count) (sym in_one_go.carries) in
        omega (arith, first, none_left, left, slices_visit sizes L u.1)

pub any_cutting : AnyCutting
any_cutting = record { machine = λ p sizes M. same_machine p sizes M; visits = λ p sizes M. same_visits p sizes M }

-- ---- slices of one size

in_its_turn : (n : ℕ) (w : Walk) → 0 < nodes_in (left_of w) → in_turn w (caller.Slice n) ≡ true
in_its_turn n None h = absurd (omega arith)
in_its_turn n (Some s) h = refl

-- a walk of these nodes fits below the length
left_fits : (n : ℕ) (s : Span) → s.end ≤ n → walk_fits n (walk_left s) ≡ true
left_fits n s h = by_test (λ w. walk_fits n w ≡ true) (ltb s.from s.end) (λ t. walk_fit_so n s (ltb-true _ _ t) h) (λ _. refl)

-- the shape that a machine has with other adjoints, as many of them, and these nodes left
refit : {N : Numbers} (M : Machine N) (s : Span) (a : List N.Number) → Fit M → s.end ≤ M.state.length → length a ≡ length M.lent.adjoint → Fit (leaving s (with_adjoints M a))
refit M s a f end long =
    record {
      small = f.small;
      adjoint = long ∙ f.adjoint;
      serial = f.serial;
      count = f.count;
      child = f.child;
      partial = f.partial;
      state = record { length = f.state.length; mark = f.state.mark; next = f.state.next; walk = left_fits M.state.length s end };
    }

sliced_fit : {N : Numbers} (n : ℕ) (M : Machine N) → Fit M → Fit (carried (slice n) M).1
sliced_fit n M f =
    let s = left_of M.state.walk in
    refit M (slice_leaves n s) _ f (omega (arith, cut_below n s, left_ends M.state.walk M.state.length f.state.walk)) (length_walked (slice_plan n s) M)

module _ {N : Numbers} where
  -- a machine on which slices go on
  record Going (M : Machine N) : Type 0 where
    fits : Fit M
    sound : all (map (sound M.lent) (indexes (left_of M.state.walk).from (nodes_left M))) ≡ true

  -- sound nodes stay so where they are left
  sound_again : (A : Arrays N) (s : Span) → all (map (sound A) (indexes s.from (nodes_in s))) ≡ true → let t = left_of (walk_left s) in all (map (sound A) (indexes t.from (nodes_in t))) ≡ true
  sound_again A s e = left_again (λ t. all (map (sound A) (indexes t.from (nodes_in t)))) s (λ h. rw (nothing_left s.from s.end h)) ∙ e

  module _ (A : Arrays N) (s : Span) (m : ℕ) (l : s.from ≤ m) (h : m ≤ s.end) (e : all (map (sound A) (indexes s.from (nodes_in s))) ≡ true) where
    both_sound : (all (map (sound A) (indexes s.from (m - s.from))) ≡ true) × (all (map (sound A) (indexes m (s.end - m))) ≡ true)
    both_sound = (and-eq-true_iff _ _).0 (rw (indexes_cut s.from m s.end l h, map-append, all_append) at e)

  opened_going : (p : Pass N) (M : Machine N) → Passed (pass p) M → Going (carried (open_pass p) M).1
  opened_going p M passed =
      let f : Fit M = fit M (shape passed) in
      let P = plan p M.state in
      record {
        fits = refit M (span_of P) _ f (ends p M f (all_live passed)) (length_seeded P.root M.lent.adjoint);
        sound = sound_again M.lent (span_of P) (sound_range passed);
      }

  module _ (n : ℕ) (M : Machine N) (g : Going M) where
    abbrev left : Span
    left = left_of M.state.walk

    ordered : left.from ≤ left.end
    ordered = left_in_order M.state.walk M.state.length g.fits.state.walk

    sound_parts : (all (map (sound M.lent) (indexes left.from (cut_at n left - left.from))) ≡ true) × (all (map (sound M.lent) (indexes (cut_at n left) (left.end - cut_at n left))) ≡ true)
    sound_parts = both_sound M.lent left (cut_at n left) (cut_above n left ordered) (cut_below n left) g.sound

    -- with a node left, a slice is not refused
    takes : 0 < n → n ≤ most_nodes → 0 < nodes_left M → refusal_of (slice n) M ≡ none
    takes some few still =
        let shape = refits M M.state g.fits g.fits.state in
        rw (shape, in_its_turn n M.state.walk still, lt-ltb 0 n some, le-leb n most_nodes few, sound_parts.1)

    -- and slices go on after it
    sliced_going : Going (carried (slice n) M).1
    sliced_going = record { fits = sliced_fit n M g.fits; sound = sound_again M.lent (slice_leaves n left) sound_parts.0 }

  -- with none left the walk is over, and with one it is not
  none_left : (M : Machine N) → Fit M → nodes_left M ≡ 0 → Over M
  none_left M f e = by_walk M.state.walk f.state.walk e where
    by_walk : (w : Walk) → walk_fits M.state.length w ≡ true → nodes_in (left_of w) ≡ 0 → w ≡ None
    by_walk None h e = refl
    by_walk (Some s) h e = absurd (omega (arith, walk_fit M.state.length s h))

  over_none : (M : Machine N) → Over M → nodes_left M ≡ 0
  over_none M e = rw e

  left_after : (n : ℕ) (M : Machine N) → nodes_left (carried (slice n) M).1 ≡ nodes_left M - n
  left_after n M = let s = left_of M.state.walk in nodes_again (slice_leaves n s) ∙ fewer n s

  -- c slices of n, while there are nodes for the last of them
  record GoneOn (n c : ℕ) (M : Machine N) : Type 0 where
    unrefused : Unrefused (run (map slice (replicate c n)) M).0
    going : Going (after (map slice (replicate c n)) M)
    left : nodes_left (after (map slice (replicate c n)) M) ≡ nodes_left M - c * n

  goes_on : (n c : ℕ) → 0 < n → n ≤ most_nodes → (M : Machine N) → Going M → c * n < nodes_left M + n → GoneOn n c M
  goes_on n zero some few M g h = record { unrefused = tt; going = g; left = omega arith }
  goes_on n (suc c) some few M g h =
      let a = passes (slice n) M (takes n M g some few (omega arith)) in
      let L = (step (slice n) M).1 in
      let g' : Going L = rw a.carries (sliced_going n M g) in
      let fewer_left : nodes_left L ≡ nodes_left M - n = rw a.carries (left_after n M) in
      let rest = goes_on n c some few L g' (omega arith) in
      record { unrefused = (answers a, rest.unrefused); going = rest.going; left = omega (arith, rest.left, fewer_left) }

-- a pass that is not refused can be opened
opens : {N : Numbers} (p : Pass N) (M : Machine N) → (step (pass p) M).0.number ≡ 0 → Accepted (open_pass p) M (step (open_pass p) M)
opens p M u = let a = accepted (pass p) M u in passes (open_pass p) M a.passed.none_refuses

module _ {N : Numbers} (p : Pass N) (n : ℕ) (M : Machine N) (u : (step (pass p) M).0.number ≡ 0) (some : 0 < n) (few : n ≤ most_nodes) where
  abbrev k : ℕ
  k = length (range (plan p M.state))

  begins : Going (step (open_pass p) M).1
  begins = rw (opens p M u).carries (opened_going p M (accepted (pass p) M u).passed)

  all_left : nodes_left (step (open_pass p) M).1 ≡ k
  all_left = ap (λ x. nodes_left x.1) (opens p M u).carries ∙ nodes_again (span_of (plan p M.state)) ∙ sym (length_indexes _ _)

  gone_on : (c : ℕ) → c * n < k + n → GoneOn n c (step (open_pass p) M).1
  gone_on c h = goes_on n c some few (step (open_pass p) M).1 begins (omega (arith, all_left))

  -- rounded up: enough for all, and one slice fewer is not
  enough : (rounded_up k n * n < k + n) × (k ≤ rounded_up k n * n)
  enough =
      let q = (k + n - 1) / n in
      let whole : q * n + (k + n - 1) % n ≡ k + n - 1 = div-add-mod' (k + n - 1) n in
      let small : (k + n - 1) % n < n = mod-lt (k + n - 1) some in
      (omega arith, omega arith)

  over_so : let cs = in_slices p (replicate (rounded_up k n) n) in Unrefused (run cs M).0 × Over (after cs M)
  over_so =
      let g = gone_on (rounded_up k n) enough.0 in
      ((answers (opens p M u), g.unrefused), none_left _ g.going.fits (omega (arith, g.left, all_left, enough.1)))

  not_before : (c : ℕ) → c < rounded_up k n → Over (after (in_slices p (replicate c n)) M) → ⊥
  not_before c h over =
      let more : suc c * n ≤ rounded_up k n * n = mul-le-mul_right n h in
      let g = gone_on c (omega (arith, enough.0)) in
      omega (arith, over_none (after (in_slices p (replicate c n)) M) over, g.left, all_left, enough.0)

pub all_one_size : AllOneSize
all_one_size = record { over = λ p n M. over_so p n M; not_before = λ p n M. not_before p n M }

-- ---- slices of any size

module _ {N : Numbers} where
  going_after : (sizes : List ℕ) (M : Machine N) → Going M → Unrefused (run (map slice sizes) M).0 → Going (after (map slice sizes) M)
  going_after [] M g u = g
  going_after (n ∷ sizes) M g (first, rest) = going_after sizes (step (slice n) M).1 (rw (accepted (slice n) M first).carries (sliced_going n M g)) rest

  -- a walk that is not over has a node left
  some_left : (M : Machine N) → Fit M → (Over M → ⊥) → 0 < nodes_left M
  some_left M f still = by_walk M.state.walk f.state.walk still where
    by_walk : (w : Walk) → walk_fits M.state.length w ≡ true → (w ≡ None → ⊥) → 0 < nodes_in (left_of w)
    by_walk None h still = absurd (still refl)
    by_walk (Some s) h still = omega (arith, walk_fit M.state.length s h)

pub goes_on_so : GoesOn
goes_on_so = record {
  alike = λ p M. refl;
  continues = λ p sizes n M u still some few.
      let a = accepted (open_pass p) M u.0 in
      let L = (step (open_pass p) M).1 in
      let g = going_after sizes L (rw a.carries (opened_going p M (as_opened p M a).passed)) u.1 in
      let K = after (map slice sizes) L in
      answers (passes (slice n) K (takes n K g some few (some_left K g.fits still)));
}

-- ---- each slice

pub each_slice : EachSlice
each_slice = record {
  opening_tells = λ p M u. rw (accepted (open_pass p) M u).carries (sym (nodes_again (span_of (plan p M.state))));
  opening_over = λ p M u e.
      let a = accepted (open_pass p) M u in
      let f = (opened_going p M (as_opened p M a).passed).fits in
      rw a.carries (none_left (carried (open_pass p) M).1 f (nodes_again (span_of (plan p M.state)) ∙ (rw a.carries at e)));
  takes = λ n M u. rw (accepted (slice n) M u).carries (fewer n (left_of M.state.walk));
  tells = λ n M u. rw (accepted (slice n) M u).carries (sym (nodes_again (slice_leaves n (left_of M.state.walk))));
  over = λ n M u e.
      let a = accepted (slice n) M u in
      let f = sliced_fit n M (fit M (shape a.passed)) in
      rw a.carries (none_left (carried (slice n) M).1 f (nodes_again (slice_leaves n (left_of M.state.walk)) ∙ (rw a.carries at e)));
  opening_leaves = λ p M. by_refusal (λ x. x.1 ≡ with_adjoints (machine (with_walk x.1.state.walk M.state) M.lent) x.1.lent.adjoint) (open_pass p) M (λ _ _. refl) (λ _. refl);
  leaves = λ n M. by_refusal (λ x. x.1 ≡ with_adjoints (machine (with_walk x.1.state.walk M.state) M.lent) x.1.lent.adjoint) (slice n) M (λ _ _. refl) (λ _. refl);
}
