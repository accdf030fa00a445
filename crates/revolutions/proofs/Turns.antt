-- A session, call by call: each revolution folds its part into the model's adjoints, and the last pass walks the model.
-- Rests on `recorded`, and on the lists that each other call leaves.
use Prim.Native.Nat.{ℕ, suc, ◌+◌, ◌-◌, ◌≤◌}
use native.Mathlib.Nat.{sub-zero}
use native.Mathlib.Omega.{arith}
use mathlib.Core.Path.{◌≡◌, refl, sym, ap, subst, ◌∙◌}
use mathlib.Core.List.{List, [], ◌∷◌, ◌++◌, map, append-nil}
use lib.ListN.{length, set, take, drop, replicate, length-map, length-set, length-replicate}
use lib.Seq.{take_at, take-set-lt}
use Rattle.tape.specs.Numbers.{Numbers}
use Rattle.tape.specs.Machine.{Machine}
use Rattle.tape.specs.Handles.{node}
use Rattle.tape.specs.Walk.{Edge, walk, edges_at}
use Rattle.tape.specs.Calls.{move, start, set_mark, rewind_to_mark, Call, clear, Pass, pass, plan, range, seeded, backward_to_mark, propagate_mark_to_start}
use Rattle.tape.specs.Steps.{step, run}
use Rattle.tape.specs.Kept.{after}
use Rattle.tape.specs.Passes.{Unrefused}
use Rattle.tape.specs.declared.node.Handle.{Handle}
use Rattle.tape.proofs.Passes.{accepted, length_walk}
use Rattle.tape.proofs.Steps.{all_live, first_live}
use Rattle.revolutions.specs.Revolutions.{Revolution, Session, recordings, revolution_calls, calls, resolve_operation, ResolvedOperation, ResolvedRevolution, resolve_revolution, ResolvedSession, resolve, Node, nodes, AtOrPast, RunsAs, model_adjoints}
use Rattle.revolutions.specs.Folded.{Part, seed, folded, folded_all, one_by_one}
use Rattle.revolutions.proofs.Held.{Holds, started, mark_set, adjoints_set, rewound, whole, high_part}
use Rattle.revolutions.proofs.Recorded.{recorded}
use Rattle.revolutions.proofs.Runs.{after_append, unrefused_parts, session_from_start}
use Rattle.revolutions.proofs.Walks.{take_walk, alter_second}

-- a node for each operation
pub length_nodes : {N : Numbers} (b : ℕ) (models owns : List N.Number) (ds : List (ResolvedOperation N)) → length (nodes b models owns ds) ≡ length ds
length_nodes b models owns [] = refl
length_nodes b models owns (d ∷ ds) = ap suc (length_nodes b models _ ds)

-- a revolution's nodes, by their edges, right behind a model of m nodes with these values
abbrev pub part : {N : Numbers} → ℕ → List N.Number → ResolvedRevolution N → Part N
part m models t = record { nodes = map (λ n. n.edges) (nodes m models [] t.operations); root = t.root }

-- ---- passes

-- what a pass leaves, if these are the edges of its range and these the adjoints once its root is set
swept : {N : Numbers} (p : Pass N) (M : Machine N) (mark i : ℕ) (values adjoints s : List N.Number) (edges ns : List (List (Edge N))) → Holds M mark values adjoints edges
    → (plan p M.state).from ≡ i → map (edges_at M.lent) (range (plan p M.state)) ≡ ns → i + length ns ≤ M.state.length
    → take M.state.length (seeded (plan p M.state).root M.lent.adjoint) ≡ s → length s ≡ length adjoints
    → (step (pass p) M).0.number ≡ 0 → Holds (step (pass p) M).1 mark values (walk i ns s) edges
swept p M mark i values adjoints s edges ns held from all below first long u =
    let n = M.state.length in
    let r = seeded (plan p M.state).root M.lent.adjoint in
    subst (λ x. Holds x.1 mark values (walk i ns s) edges) (sym (accepted (pass p) M u).carries)
    (adjoints_set M held (walk (plan p M.state).from (map (edges_at M.lent) (range (plan p M.state))) r) (walk i ns s) (rw (all, from, take_walk n i ns r below, first)) (length_walk i ns s ∙ long))

module _ {N : Numbers} (M : Machine N) (m : ℕ) (values adjoints : List N.Number) where
  -- from a root to the mark: what stands past the mark is walked
  to_mark : (low high : List (List (Edge N))) (h : Handle) → length low ≡ m → Holds M m values adjoints (low ++ high) → (step (pass (backward_to_mark (node h))) M).0.number ≡ 0
      → Holds (step (pass (backward_to_mark (node h))) M).1 m values (walk m high (set adjoints h.index N.one)) (low ++ high)
  to_mark low high h l held u =
      let p : Pass N = backward_to_mark (node h) in
      let n = M.state.length in
      let alive = (first_live M h [] (all_live (accepted (pass p) M u).passed)).0 in
      let all : n ≡ length low + length high = whole (edges_at M.lent) n low high held.edge in
      let past : map (edges_at M.lent) (range (plan p M.state)) ≡ high = rw (held.marked, ← l) (high_part (edges_at M.lent) n low high held.edge) in
      let first = take-set-lt n M.lent.adjoint h.index N.one alive.below ∙ ap (λ s. set s h.index N.one) held.adjoint in
      swept p M m m values adjoints (set adjoints h.index N.one) (low ++ high) high held held.marked past (omega arith) first (length-set adjoints h.index N.one) u

  -- from the mark to the start, with nothing past the mark
  to_start : (edges : List (List (Edge N))) → length edges ≡ m → length values ≡ m → Holds M m values adjoints edges → (step (pass propagate_mark_to_start) M).0.number ≡ 0
      → Holds (step (pass propagate_mark_to_start) M).1 m values (walk 0 edges adjoints) edges
  to_start edges l k held u =
      let end : M.state.mark ≡ M.state.length = held.marked ∙ sym k ∙ held.long in
      swept propagate_mark_to_start M m 0 values adjoints adjoints edges edges held refl (rw (sub-zero, end) held.edge) (omega (arith, held.long)) held.adjoint refl u

-- ---- revolutions

-- the root's adjoint is set in the revolution's own part
root_set : {N : Numbers} (m : ℕ) (s : List N.Number) (p : Part N) (i k : ℕ) → length s ≡ m → k ≡ length p.nodes → m ≤ i → p.root ≡ i - m → set (s ++ replicate k N.nought) i N.one ≡ s ++ seed p
root_set {N} m s p i k e l h root =
    let at : length s + (i - m) ≡ i = omega arith in
    rw (root, ← l) (rw at at (alter_second N.blank (λ _. N.one) s (replicate k N.nought) (i - m)))

module _ {N : Numbers} (m : ℕ) (models : List N.Number) (edges : List (List (Edge N))) (v : length models ≡ m) (l : length edges ≡ m) where
  -- a revolution that is recorded, passed back and rewound
  turned_back : (M : Machine N) (p : Part N) (h : Handle) (k : ℕ) (owns s : List N.Number) → Holds M m (models ++ owns) (s ++ replicate k N.nought) (edges ++ p.nodes)
      → length s ≡ m → k ≡ length p.nodes → m ≤ h.index → p.root ≡ h.index - m
      → let L = step (pass (backward_to_mark (node h))) M in L.0.number ≡ 0 → (step (move rewind_to_mark) L.1).0.number ≡ 0 → Holds (step (move rewind_to_mark) L.1).1 m models (folded p s) edges
  turned_back M p h k owns s held e long past root u w =
      let L = (step (pass (backward_to_mark (node h))) M).1 in
      let back : Holds L m (models ++ owns) (walk m p.nodes (s ++ seed p)) (edges ++ p.nodes) = rw (root_set m s p h.index k e long past root) at (to_mark M m (models ++ owns) (s ++ replicate k N.nought) edges p.nodes h l held u) in
      rw ((accepted (move rewind_to_mark) L w).carries, e) (rewound L m models owns (walk m p.nodes (s ++ seed p)) edges p.nodes v l back)

  -- revolution by revolution
  all_turned : (rs : List (Revolution N)) (M : Machine N) (s : List N.Number) → Holds M m models s edges → AtOrPast m rs → Unrefused (run (revolution_calls rs) M).0
      → Holds (after (revolution_calls rs) M) m models (folded_all (map (part m models) (map (resolve_revolution m) rs)) s) edges
  all_turned [] M s held past u = held
  all_turned (r ∷ rs) M s held (past, later) u =
      let os = r.operations in
      let root = pass (backward_to_mark (node r.root)) in
      let p = part m models (resolve_revolution m r) in
      let L = after (recordings os) M in
      let (records, (passes, (rewinds, rest))) = unrefused_parts (recordings os) (root ∷ move rewind_to_mark ∷ revolution_calls rs) M u in
      let behind = recorded m m models v os M [] s edges (rw append-nil held) records in
      let e : length s ≡ m = held.as_long ∙ sym held.long ∙ v in
      let k : length os ≡ length p.nodes = rw (length-map, length_nodes, length-map) in
      let next = turned_back L p r.root (length os) _ s behind e k past refl passes rewinds in
      rw after_append (all_turned rs (step (move rewind_to_mark) (step root L).1).1 (folded p s) next later rest)

-- ---- a session

-- the model's adjoints, revolution by revolution
abbrev pub summed : {N : Numbers} → ResolvedSession N → List N.Number
summed resolved =
    let first = nodes 0 [] [] resolved.model in
    let values = map (λ n. n.value) first in
    one_by_one (map (λ n. n.edges) first) (map (part (length values) values) resolved.revolutions)

-- after clearing, every adjoint of the tape is zero
wiped : {N : Numbers} (M : Machine N) (mark : ℕ) (values adjoints : List N.Number) (edges : List (List (Edge N))) → Holds M mark values adjoints edges → (step clear M).0.number ≡ 0
    → Holds (step clear M).1 mark values (replicate (length values) N.nought) edges
wiped {N} M mark values adjoints edges held u =
    let n = M.state.length in
    let noughts = replicate (length values) N.nought in
    let long : length noughts ≡ n = length-replicate (length values) N.nought ∙ held.long in
    rw (accepted clear M u).carries
    (adjoints_set M held (replicate n N.nought ++ drop n M.lent.adjoint) noughts (rw (← held.long) (take_at noughts _ (length values) (length-replicate (length values) N.nought))) (long ∙ sym held.as_long))

-- the model as it stands before the first revolution
module _ {N : Numbers} (s : Session N) where
  abbrev pub first : List (Node N)
  first = nodes 0 [] [] (map (resolve_operation 0) s.model)

  abbrev pub models : List N.Number
  models = map (λ n. n.value) first

  abbrev pub edges : List (List (Edge N))
  edges = map (λ n. n.edges) first

  abbrev m : ℕ
  m = length s.model

  -- a node for each operation
  pub as_many : length first ≡ m
  as_many = length_nodes 0 [] [] (map (resolve_operation 0) s.model) ∙ length-map s.model (resolve_operation 0)

  -- start, model, mark, clearing, revolutions and the last pass, one after the other, leave the model as it was recorded,
  -- with its adjoints folded revolution by revolution and walked to the start
  pub played : (M : Machine N) → AtOrPast m s.revolutions → Unrefused (run (calls s) M).0
      → Holds (after (calls s) M) m models (walk 0 edges (folded_all (map (part m models) (map (resolve_revolution m) s.revolutions)) (replicate m N.nought))) edges
  played M past (starts, u) =
      let os = recordings s.model in
      let rs = revolution_calls s.revolutions in
      let last = pass propagate_mark_to_start ∷ [] in
      let M₀ = (step (move start) M).1 in
      let M₁ = after os M₀ in
      let M₂ = (step (move set_mark) M₁).1 in
      let M₃ = (step clear M₂).1 in
      let (records, (marks, (clears, more))) = unrefused_parts os (move set_mark ∷ clear ∷ rs ++ last) M₀ u in
      let (turns, (walks, _)) = unrefused_parts rs last M₃ more in
      let values : length models ≡ m = length-map first (λ n. n.value) ∙ as_many in
      let nodes : length edges ≡ m = length-map first (λ n. n.edges) ∙ as_many in
      let h₀ : Holds M₀ 0 [] [] [] = rw (accepted (move start) M starts).carries (started M.state M.lent) in
      let h₁ = recorded 0 0 [] refl s.model M₀ [] [] [] h₀ records in
      let h₂ : Holds M₂ (length models) models (replicate m N.nought) edges = rw (accepted (move set_mark) M₁ marks).carries (mark_set M₁ h₁) in
      let h₃ : Holds M₃ m models (replicate m N.nought) edges = rw values at (wiped M₂ (length models) models (replicate m N.nought) edges h₂ clears) in
      let h₄ = all_turned m models edges values nodes s.revolutions M₃ (replicate m N.nought) h₃ past turns in
      let end : after (calls s) M ≡ (step (pass propagate_mark_to_start) (after rs M₃)).1 = after_append os (move set_mark ∷ clear ∷ rs ++ last) M₀ ∙ after_append rs last M₃ in
      rw end (to_start (after rs M₃) m models _ edges nodes values h₄ walks)

  adjoints_so : (M : Machine N) → AtOrPast m s.revolutions → Unrefused (run (calls s) M).0 → take m (after (calls s) M).lent.adjoint ≡ summed (resolve s)
  adjoints_so M past u =
      let held = played M past u in
      let values : length models ≡ m = length-map first (λ n. n.value) ∙ as_many in
      let nodes : length edges ≡ m = length-map first (λ n. n.edges) ∙ as_many in
      let size : (after (calls s) M).state.length ≡ m = sym held.long ∙ values in
      rw (nodes, values) (rw size at held.adjoint)

-- with passes cut, and reads and listings between
pub by_turns : {N : Numbers} (s : Session N) (cs : List (Call N)) (M : Machine N) → RunsAs s cs M → model_adjoints s cs M ≡ summed (resolve s)
by_turns s cs M p =
    let f = session_from_start s cs M p in
    rw (← f.left.machine) (adjoints_so s f.found p.roots f.left.unrefused)
