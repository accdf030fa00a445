-- Operations that are recorded one after the other make the nodes of the long tape that they resolve to. A live handle
-- stands for a node below the length; everything else is read off `Holds`.
use Prim.Native.Nat.{ℕ, ◌+◌, ◌-◌, ◌≤◌}
use native.Mathlib.Omega.{arith}
use mathlib.Core.Path.{◌≡◌, refl, sym, ap, subst, ◌∙◌}
use mathlib.Core.Bool.{Bool, true, false, cond, true≢false}
use mathlib.Core.List.{List, [], ◌∷◌, ◌++◌, map, append-nil, append_assoc}
use mathlib.Core.Option.{Option, none, some}
use borrow.Author.Tests.{ltb-true, ltb-false}
use lib.Dec.{ltb}
use lib.ListN.{length, get_or, replicate, get_or-append}
use lib.Seq.{get_or-take, get_or-append-add}
use Rattle.tape.specs.Numbers.{Numbers}
use Rattle.tape.specs.Machine.{Machine}
use Rattle.tape.specs.Handles.{Operand, plain, node, operand_value, handles}
use Rattle.tape.specs.Operations.{Given, Row, apply, one_sided, used}
use Rattle.tape.specs.Walk.{Edge}
use Rattle.tape.specs.Answers.{Answer}
use Rattle.tape.specs.Calls.{operate, edge, edges}
use Rattle.tape.specs.Refusals.{first_amiss}
use Rattle.tape.specs.Steps.{step, run}
use Rattle.tape.specs.Kept.{after}
use Rattle.tape.specs.Passes.{Unrefused}
use Rattle.tape.specs.declared.node.Handle.{Handle}
use Rattle.tape.proofs.Passes.{Accepted, accepted}
use Rattle.tape.proofs.Steps.{Ready, ready, shape, all_live, room, first_live, both_ok, by_one_sided, alone}
use Rattle.tape.proofs.Tests.{by_test}
use Rattle.revolutions.specs.Revolutions.{Operation, recordings, ResolvedOperand, number, resolve_operand, ResolvedOperation, resolve_operation, Node, nodes, operand_value as value_resolved, edge as edge_resolved}
use Rattle.revolutions.proofs.Held.{Holds, noted}

-- ---- what an operand resolves to

module _ (N : Numbers) (b : ℕ) where
  -- the edge to a handle's node is the edge to the node that it stands for
  same_edge : (o : Operand N) (p : Option N.Number) → edge o p ≡ edge_resolved b (resolve_operand b o) p
  same_edge (plain x) none = refl
  same_edge (plain x) (some p) = refl
  same_edge (node h) none = refl
  same_edge (node h) (some p) =
      by_test (λ m. edge (node h) (some p) ≡ edge_resolved b m (some p)) (ltb h.index b) (λ _. refl)
      (λ t. let past : b ≤ h.index = ltb-false _ _ t in let back : b + (h.index - b) ≡ h.index = omega arith in rw back)

  -- and the value at its index is that node's
  same_value : (models owns : List N.Number) (h : Handle) → length models ≡ b → get_or (models ++ owns) h.index N.blank ≡ value_resolved models owns (resolve_operand {N = N} b (node h))
  same_value models owns h e =
      let i = h.index in
      by_test (λ (m : ResolvedOperand N). get_or (models ++ owns) i N.blank ≡ value_resolved models owns m) (ltb i b) (λ t. get_or-append models owns N.blank i (omega (arith, ltb-true i b t)))
      (λ t. let past : b ≤ i = ltb-false _ _ t in let back : length models + (i - b) ≡ i = omega arith in rw back at (get_or-append-add models owns (i - b) N.blank))

-- operations 0, 7, 8 and 10 do not look at the right value
right_idle : {N : Numbers} (op : ℕ) (l r x : N.Number) (g : Given N) → one_sided op ≡ true → apply op l r g ≡ apply op l x g
right_idle op l r x g = by_one_sided (λ op. apply op l r g ≡ apply op l x g) op refl refl refl refl

-- equal rows make equal nodes
by_rows : {N : Numbers} (b : ℕ) (l r : Operand N) (m : ResolvedOperand N) (s t : Row N) → s ≡ t → edge r t.right ≡ edge_resolved b m t.right
    → ◌≡◌ {A = Node N} (record { value = s.value; edges = edges l r s }) (record { value = t.value; edges = edge_resolved b (resolve_operand b l) t.left ++ edge_resolved b m t.right })
by_rows {N} b l r m s t e right = rw (e, same_edge N b l t.left, right)

-- the row of an operation, given the values of its operands
abbrev row_of : {N : Numbers} → Operation N → N.Number → N.Number → Row N
row_of o x y = apply o.operation x y o.supplied

-- the node that a resolved operation makes
abbrev made : {N : Numbers} → ℕ → List N.Number → List N.Number → ResolvedOperation N → Node N
made b models owns d =
    let s = apply d.operation (value_resolved models owns d.left) (value_resolved models owns d.right) d.supplied in
    record { value = s.value; edges = edge_resolved b d.left s.left ++ edge_resolved b d.right s.right }

-- the node that a call writes
abbrev called : {N : Numbers} → Machine N → Operation N → Node N
called M o =
    let s = row_of o (operand_value M o.left) (operand_value M o.right) in
    record { value = s.value; edges = edges o.left o.right s }

module _ {N : Numbers} (M : Machine N) (b k : ℕ) (models owns adjoints : List N.Number) (ess : List (List (Edge N))) (long : length models ≡ b) (held : Holds M k (models ++ owns) adjoints ess) where
  -- a live operand has the value of what it resolves to
  same_operand_value : (o : Operand N) (os : List (Operand N)) → first_amiss M (handles (o ∷ os)) ≡ none → (operand_value M o ≡ value_resolved models owns (resolve_operand b o)) × (first_amiss M (handles os) ≡ none)
  same_operand_value (plain x) os all_live = (refl, all_live)
  same_operand_value (node h) os all_live =
      let (l, others) = first_live M h (handles os) all_live in
      (sym (get_or-take M.state.length M.lent.value h.index N.blank l.below) ∙ ap (λ s. get_or s h.index N.blank) held.value ∙ same_value N b models owns h long, others)

  -- the node that a call writes is the one that its resolved operation makes, by whether the right operand is used
  same_node : (o : Operation N) → first_amiss M (handles (used o.operation o.left o.right)) ≡ none → called M o ≡ made b models owns (resolve_operation b o)
  same_node o = sides (one_sided o.operation) refl where
    sides : (t : Bool) → one_sided o.operation ≡ t → first_amiss M (handles (cond t (o.left ∷ []) (o.left ∷ o.right ∷ []))) ≡ none
        → called M o ≡ made b models owns (record { operation = o.operation; left = resolve_operand b o.left; right = cond t (number N.nought) (resolve_operand b o.right); supplied = o.supplied })
    sides true t all_live =
        let l = (same_operand_value o.left [] all_live).0 in
        let x = value_resolved models owns (resolve_operand b o.left) in
        let idle : (row_of o x N.nought).right ≡ none = alone o.operation x N.nought o.supplied t in
        by_rows b o.left o.right (number N.nought) _ _ (ap (λ x. row_of o x (operand_value M o.right)) l ∙ right_idle o.operation x _ N.nought o.supplied t) (subst (λ p. edge o.right p ≡ edge_resolved b (number N.nought) p) (sym idle) (same_edge N b o.right none))
    sides false t all_live =
        let (l, rest) = same_operand_value o.left (o.right ∷ []) all_live in
        let r = (same_operand_value o.right [] rest).0 in
        by_rows b o.left o.right (resolve_operand b o.right) _ _ (ap (λ x. row_of o x (operand_value M o.right)) l ∙ ap (row_of o (value_resolved models owns (resolve_operand b o.left))) r) (same_edge N b o.right _)

  -- one operation more
  one_more : (o : Operation N) (x : Answer N × Machine N) → Accepted (operate o.operation o.left o.right o.supplied) M x
      → let n = made b models owns (resolve_operation b o) in Holds x.1 k (models ++ owns ++ (n.value ∷ [])) (adjoints ++ (N.nought ∷ [])) (ess ++ (n.edges ∷ []))
  one_more o x a =
      let s = row_of o (operand_value M o.left) (operand_value M o.right) in
      let r : Ready M = ready M (shape a.passed) (rw held.active at (room a.passed)) in
      let few = (both_ok M (one_sided o.operation) o.left o.right s.left s.right (alone o.operation (operand_value M o.left) (operand_value M o.right) o.supplied) (all_live a.passed)).few in
      let Grown : Node N → Answer N × Machine N → Type 0 = λ n y. Holds y.1 k (models ++ owns ++ (n.value ∷ [])) (adjoints ++ (N.nought ∷ [])) (ess ++ (n.edges ∷ [])) in
      subst (λ n. Grown n x) (same_node o (all_live a.passed))
      (subst (Grown (called M o)) (sym a.carries) (by_test (Grown (called M o)) M.state.active (λ _. noted M s.value (edges o.left o.right s) r few held) (λ f. absurd (true≢false (sym held.active ∙ f)))))

-- ---- all of them

module _ {N : Numbers} (b k : ℕ) (models : List N.Number) (long : length models ≡ b) where
  -- with the values of the model before b and those of the own nodes behind it
  pub recorded : (os : List (Operation N)) (M : Machine N) (owns adjoints : List N.Number) (ess : List (List (Edge N))) → Holds M k (models ++ owns) adjoints ess → Unrefused (run (recordings os) M).0
      → let ns = nodes b models owns (map (resolve_operation b) os) in
      Holds (after (recordings os) M) k (models ++ (owns ++ map (λ n. n.value) ns)) (adjoints ++ replicate (length os) N.nought) (ess ++ map (λ n. n.edges) ns)
  recorded [] M owns adjoints ess held u = simp append-nil held
  recorded (o ∷ os) M owns adjoints ess held (u, us) =
      let c = operate o.operation o.left o.right o.supplied in
      let n = made b models owns (resolve_operation b o) in
      let more = one_more M b k models owns adjoints ess long held o (step c M) (accepted c M u) in
      simp append_assoc at (recorded os (step c M).1 (owns ++ (n.value ∷ [])) (adjoints ++ (N.nought ∷ [])) (ess ++ (n.edges ∷ [])) (rw append_assoc at more) us)
