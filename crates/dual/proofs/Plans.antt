-- What planning comes to: by the root that was found and the test of the range, the first refusal of the table or the
-- plan. And what a plan comes to, carried out or opened: the step of its call.
use Prim.Native.Nat.{ℕ}
use native.Mathlib.Omega.{arith}
use mathlib.Core.Path.{◌≡◌, refl, sym, ap, subst, ◌∙◌}
use mathlib.Core.Bool.{Bool, true, false, not, cond}
use mathlib.Core.List.{List, [], ◌∷◌, map}
use mathlib.Core.Option.{Option as Maybe, none, some}
use lib.Ieee.{Float}
use Rattle.std.specs.Prelude.{Option, None, Some, Result, Ok, Err, IfOk}
use Rattle.std.specs.Result.{result_and}
use Rattle.tape.specs.Numbers.{floats}
use Rattle.tape.specs.Machine.{Machine, machine, lent, with_walk, walk_left}
use Rattle.tape.specs.Admission.{admitted, let_in, when, first}
use Rattle.tape.specs.Handles.{Operand, plain, node, operand, live, amiss, handles, any_plain}
use Rattle.tape.specs.Walk.{walk, edges_at, visited, sound}
use Rattle.tape.specs.Answers.{refused, counted, cut}
use Rattle.tape.specs.Calls.{Pass as Pass', backward, backward_to_mark, backward_mark_to_start, propagate_to_mark, propagate_mark_to_start, Call, pass, open_pass, slice, with_adjoints, Plan as Plan', past, plan, range, seeded, span_of, nodes_in, leaving, left_of, slice_plan, slice_leaves, carried}
use Rattle.tape.specs.Refusals.{first_amiss, refusal_of}
use Rattle.tape.specs.Steps.{unless, step}
use Rattle.tape.specs.declared.admission.Caller.TheVariants as caller
use Rattle.tape.specs.declared.errors.Refusal.{Refusal}
use Rattle.tape.specs.declared.errors.Refusal.TheVariants.{Detached, UnsoundEdge}
use Rattle.tape.specs.declared.node.Handle.{Handle}
use Rattle.tape.specs.declared.nodes.Nodes.{Nodes}
use Rattle.tape.specs.declared.tape.Span.{Span}
use Rattle.tape.specs.declared.tape.Tape.{Tape}
use Rattle.tape.proofs.Passes.{ends}
use Rattle.tape.proofs.Steps.{Passed, shape, all_live, sound_range, first_live}
use Rattle.tape.proofs.Tests.{Fit, fit}
use Rattle.dual.specs.Outcome.{pass_of}
use Rattle.dual.specs.Inner.{found_root, root_of, operands_of, planned, all_sound, carried_out, visits, Below, Ready}
use Rattle.dual.specs.declared.passes.Pass.{Pass}
use Rattle.dual.specs.declared.passes.Pass.TheVariants.{Backward, BackwardToMark, BackwardMarkToStart, PropagateToMark, PropagateMarkToStart}
use Rattle.dual.specs.declared.planning.Plan.{Plan}

-- by the root that was found
abbrev by_found : (Option Handle → Result Plan Refusal) → Result (Option Handle) Refusal → Result Plan Refusal
by_found walks (Ok root) = walks root
by_found walks (Err r) = Err r

-- and the test of the range
abbrev tested : Bool → Span → Option Handle → Result Plan Refusal
tested sound s root = cond sound (Ok (record { root = root; span = s })) (Err UnsoundEdge)

-- the table, as a pass meets it: by the admission, a root that is not live, one that is a number, and the range
abbrev table : Maybe Refusal → Maybe Refusal → Bool → Bool → List (Maybe Refusal)
table o amiss number sound = o ∷ none ∷ amiss ∷ when number Detached ∷ none ∷ none ∷ when (not sound) UnsoundEdge ∷ none ∷ []

only_range : (sound : Bool) (P : Plan' floats) → tested sound (span_of P) (root_of P.root) ≡ planned (first (table none none false sound)) P
only_range true P = refl
only_range false P = refl

by_life : (b sound : Bool) (r : Refusal) (h : Handle) (from end : ℕ) → let P : Plan' floats = record { root = node h ∷ []; from = from; end = end } in
    by_found (tested sound (span_of P)) (result_and (cond {A = Result (Unit {0}) Refusal} b (Ok tt) (Err r)) (Ok (Some h))) ≡ planned (first (table none (cond b none (some r)) false sound)) P
by_life true sound r h from end = only_range sound _
by_life false sound r h from end = refl

module _ (t : Tape) (n : Nodes) (a : List Float) where
  abbrev M : Machine floats
  M = machine t (lent n a)

  abbrev plan_of : Pass → Plan' floats
  plan_of which = plan (pass_of which) t

  -- what the code comes to, over whatever the admission says
  abbrev coded : Maybe Refusal → Bool → Plan' floats → Result Plan Refusal
  coded o sound P = by_found (tested sound (span_of P)) (result_and (admitted o) (found_root t n.serial.now P.root))

  rooted : (o : Maybe Refusal) (sound : Bool) (x : Operand floats) (from end : ℕ) → let P : Plan' floats = record { root = x ∷ []; from = from; end = end } in
      coded o sound P ≡ planned (first (table o (first_amiss M (handles (x ∷ []))) (any_plain (x ∷ [])) sound)) P
  rooted (some r) sound x from end = refl
  rooted none sound (plain v) from end = refl
  rooted none sound (node h) from end = by_life (live M h) sound (amiss t h) h from end

  unrooted : (o : Maybe Refusal) (sound : Bool) (from end : ℕ) → let P : Plan' floats = record { root = []; from = from; end = end } in
      coded o sound P ≡ planned (first (table o none false sound)) P
  unrooted (some r) sound from end = refl
  unrooted none sound from end = only_range sound _

  coded_so : (which : Pass) → coded (let_in caller.Passing M) (all_sound n (span_of (plan_of which))) (plan_of which) ≡ planned (refusal_of (pass (pass_of which)) M) (plan_of which)
  coded_so (Backward x) = rooted (let_in caller.Passing M) _ (operand x) 0 (past (operand x))
  coded_so (BackwardToMark x) = rooted (let_in caller.Passing M) _ (operand x) t.mark t.length
  coded_so (BackwardMarkToStart x) = rooted (let_in caller.Passing M) _ (operand x) 0 t.mark
  coded_so PropagateToMark = unrooted (let_in caller.Passing M) _ t.mark t.length
  coded_so PropagateMarkToStart = unrooted (let_in caller.Passing M) _ 0 t.mark

  -- place by place, as the code goes: r is what it found
  module _ (which : Pass) (r : Result (Option Handle) Refusal) (is_found : r ≡ result_and (admitted (let_in caller.Passing M)) (found_root t n.serial.now (plan_of which).root)) where
    pub refuses : (k : Refusal) → r ≡ Err k → Err k ≡ planned (refusal_of (pass (pass_of which)) M) (plan_of which)
    refuses k e = ap (by_found (tested (all_sound n (span_of (plan_of which))) (span_of (plan_of which)))) (sym e ∙ is_found) ∙ coded_so which

    pub plans : (root : Option Handle) → r ≡ Ok root → (s : Span) → s ≡ span_of (plan_of which) → (z : Result Plan Refusal) → z ≡ tested (all_sound n s) s root → z ≡ planned (refusal_of (pass (pass_of which)) M) (plan_of which)
    plans root e s same z made =
        made
        ∙ ap (λ s. tested (all_sound n s) s root) same
        ∙ ap (by_found (tested (all_sound n (span_of (plan_of which))) (span_of (plan_of which)))) (sym e ∙ is_found)
        ∙ coded_so which

  -- ---- a plan that is not refused can be carried out

  root_below : (rs : List (Operand floats)) → Fit M → first_amiss M (handles rs) ≡ none → Below (root_of rs) a
  root_below [] f e = tt
  root_below (plain x ∷ rs) f e = tt
  root_below (node h ∷ rs) f e = let l = (first_live M h (handles rs) e).0 in omega arith

  pub ready_so : (p : Pass' floats) (z : Result Plan Refusal) → z ≡ planned (refusal_of (pass p) M) (plan p t) → IfOk z (λ q. Ready q n a)
  ready_so p z made = subst (λ z. IfOk z (λ q. Ready q n a)) (sym made) (by_cases (refusal_of (pass p) M) refl) where
    by_cases : (o : Maybe Refusal) → refusal_of (pass p) M ≡ o → IfOk (planned o (plan p t)) (λ q. Ready q n a)
    by_cases (some r) e = tt
    by_cases none e =
        let passed : Passed (pass p) M = record { none_refuses = e } in
        let f : Fit M = fit M (shape passed) in
        let end = ends p M f (all_live passed) in
        record {
          root = root_below (plan p t).root f (all_live passed);
          span = record {
            within = record { small = omega arith; count = omega arith; child = omega arith };
            adjoint = omega arith;
            partial = omega arith;
            sound = sound_range passed;
          };
        }

  -- ---- a plan that is refused, and one that is carried out or opened

  pub refused_so : (c : Call floats) (P : Plan' floats) (r : Refusal) → planned (refusal_of c M) P ≡ Err r → (refused r, M) ≡ step c M
  unfolding step
  refused_so c P r = by_cases (refusal_of c M) where
    by_cases : (o : Maybe Refusal) → planned o P ≡ Err r → (refused r, M) ≡ unless o M (carried c M)
    by_cases (some k) e = let same : r ≡ k = cc in ap (λ r. (refused r, M)) same
    by_cases none e = let z : ◌≡◌ {A = ℕ} 0 1 = cc in absurd (omega arith)

  -- the code's root is seeded as the pass's
  seeds_same : (p : Pass' floats) → seeded (operands_of (root_of (plan p t).root)) a ≡ seeded (plan p t).root a
  seeds_same (backward (plain x)) = refl
  seeds_same (backward (node h)) = refl
  seeds_same (backward_to_mark (plain x)) = refl
  seeds_same (backward_to_mark (node h)) = refl
  seeds_same (backward_mark_to_start (plain x)) = refl
  seeds_same (backward_mark_to_start (node h)) = refl
  seeds_same propagate_to_mark = refl
  seeds_same propagate_mark_to_start = refl

  module _ (p : Pass' floats) (q : Plan) (is : planned (refusal_of (pass p) M) (plan p t) ≡ Ok q) where
    -- carried out, it is the pass
    pub carries : (counted (visits q.span n), machine t (lent n (carried_out q n a))) ≡ step (pass p) M
    unfolding step
    carries = by_cases (refusal_of (pass p) M) is where
      by_cases : (o : Maybe Refusal) → planned o (plan p t) ≡ Ok q → (counted (visits q.span n), machine t (lent n (carried_out q n a))) ≡ unless o M (carried (pass p) M)
      by_cases (some r) e = let z : ◌≡◌ {A = ℕ} 0 1 = cc in absurd (omega arith)
      by_cases none e =
          let P = plan p t in
          let same : q ≡ record { root = root_of P.root; span = span_of P } = cc in
          ap (λ q. (counted (visits q.span n), machine t (lent n (carried_out q n a)))) same
          ∙ ap (λ s. (counted (visited M.lent (range P)), with_adjoints M (walk P.from (map (edges_at M.lent) (range P)) s))) (seeds_same p)

    -- opened, it is the opening
    pub opens : (cut 0 (nodes_in q.span), machine (with_walk (walk_left q.span) t) (lent n (seeded (operands_of q.root) a))) ≡ step (open_pass p) M
    unfolding step
    opens = by_cases (refusal_of (pass p) M) is where
      by_cases : (o : Maybe Refusal) → planned o (plan p t) ≡ Ok q → (cut 0 (nodes_in q.span), machine (with_walk (walk_left q.span) t) (lent n (seeded (operands_of q.root) a))) ≡ unless o M (carried (open_pass p) M)
      by_cases (some r) e = let z : ◌≡◌ {A = ℕ} 0 1 = cc in absurd (omega arith)
      by_cases none e =
          let P = plan p t in
          let same : q ≡ record { root = root_of P.root; span = span_of P } = cc in
          ap (λ q. (cut 0 (nodes_in q.span), machine (with_walk (walk_left q.span) t) (lent n (seeded (operands_of q.root) a)))) same
          ∙ ap (λ s. (cut 0 (nodes_in (span_of P)), leaving (span_of P) (with_adjoints M s))) (seeds_same p)

  -- ---- slices

  module _ (k : ℕ) where
    abbrev taken : Plan' floats
    taken = slice_plan k (left_of t.walk)

    pub slice_refused : (r : Refusal) → let_in (caller.Slice k) M ≡ some r → Err r ≡ planned (refusal_of (slice k) M) taken
    slice_refused r e = rw e

    -- carried out, with the nodes that are left, it is the slice
    pub slices : (q : Plan) → planned (refusal_of (slice k) M) taken ≡ Ok q → let rest = slice_leaves k (left_of t.walk) in
        (cut (visits q.span n) (nodes_in rest), machine (with_walk (walk_left rest) t) (lent n (carried_out q n a))) ≡ step (slice k) M
    unfolding step
    slices q = by_cases (refusal_of (slice k) M) where
      by_cases : (o : Maybe Refusal) → planned o taken ≡ Ok q → let rest = slice_leaves k (left_of t.walk) in
          (cut (visits q.span n) (nodes_in rest), machine (with_walk (walk_left rest) t) (lent n (carried_out q n a))) ≡ unless o M (carried (slice k) M)
      by_cases (some r) e = let z : ◌≡◌ {A = ℕ} 0 1 = cc in absurd (omega arith)
      by_cases none e =
          let rest = slice_leaves k (left_of t.walk) in
          let same : q ≡ record { root = None; span = span_of taken } = cc in
          ap (λ q. (cut (visits q.span n) (nodes_in rest), machine (with_walk (walk_left rest) t) (lent n (carried_out q n a)))) same
