-- A session for a resolved one: handles are chosen by the serials that a machine will give out. It resolves to that
-- one.
use Prim.Native.Nat.{ℕ, suc, ◌+◌, ◌-◌}
use native.Mathlib.Nat.{add-sub_cancel_left}
use native.Mathlib.Omega.{arith}
use mathlib.Core.Path.{◌≡◌, refl, ap, ◌∙◌}
use mathlib.Core.Bool.{cond}
use mathlib.Core.List.{List, [], ◌∷◌, ◌++◌, map, append_assoc}
use borrow.Author.Tests.{lt-ltb, le-ltb}
use lib.ListN.{length, length-map}
use Rattle.tape.specs.Numbers.{Numbers}
use Rattle.tape.specs.Machine.{Machine}
use Rattle.tape.specs.Handles.{Operand, plain, node}
use Rattle.tape.specs.Operations.{one_sided}
use Rattle.tape.specs.Calls.{Call, operate}
use Rattle.revolutions.specs.Revolutions.{Operation, Revolution, Session, ResolvedOperand, in_model, own, number, resolve_operand, ResolvedOperation, resolve_operation, ResolvedRevolution, resolve_revolution, ResolvedSession, resolve, recordings, revolution_calls, calls, all_in_one_go, AtOrPast}
use Rattle.revolutions.proofs.Fitting.{Placed, Proper, AllProper, AllTurns, Fitting}

-- ---- the session

-- behind a model of m nodes with serials from first on; the own nodes have serials from k on
abbrev pub operand : {N : Numbers} → ℕ → ℕ → ℕ → ResolvedOperand N → Operand N
operand m first k (in_model i) = node (record { index = i; serial = first + i })
operand m first k (own i) = node (record { index = m + i; serial = k + i })
operand m first k (number x) = plain x

abbrev pub operation : {N : Numbers} → ℕ → ℕ → ℕ → ResolvedOperation N → Operation N
operation m first k d = record { operation = d.operation; left = operand m first k d.left; right = operand m first k d.right; supplied = d.supplied }

abbrev pub revolution : {N : Numbers} → ℕ → ℕ → ℕ → ResolvedRevolution N → Revolution N
revolution m first k t = record { operations = map (operation m first k) t.operations; root = record { index = m + t.root; serial = k + t.root } }

-- each goes on with the serials where the one before it ends
abbrev pub revolutions : {N : Numbers} → ℕ → ℕ → ℕ → List (ResolvedRevolution N) → List (Revolution N)
revolutions m first k [] = []
revolutions m first k (t ∷ ts) = revolution m first k t ∷ revolutions m first (k + length t.operations) ts

abbrev pub session : {N : Numbers} → Machine N → ResolvedSession N → Session N
session M resolved =
    let m = length resolved.model in
    let k = M.state.next in
    record { model = map (operation 0 k k) resolved.model; revolutions = revolutions m k (k + m) resolved.revolutions }

-- ---- its calls are in one go

recordings_in_one_go : {N : Numbers} (os : List (Operation N)) (cs : List (Call N)) → all_in_one_go (recordings os ++ cs) ≡ recordings os ++ all_in_one_go cs
recordings_in_one_go [] cs = refl
recordings_in_one_go (o ∷ os) cs = λ i. operate o.operation o.left o.right o.supplied ∷ recordings_in_one_go os cs i

turns_in_one_go : {N : Numbers} (rs : List (Revolution N)) (cs : List (Call N)) → all_in_one_go (revolution_calls rs ++ cs) ≡ revolution_calls rs ++ all_in_one_go cs
turns_in_one_go [] cs = refl
turns_in_one_go (r ∷ rs) cs = simp (append_assoc, recordings_in_one_go r.operations, turns_in_one_go rs cs)

pub nothing_cut : {N : Numbers} (s : Session N) → all_in_one_go (calls s) ≡ calls s
nothing_cut s = rw (recordings_in_one_go s.model, turns_in_one_go s.revolutions)

-- ---- what it resolves to

-- what stands before an operation resolves to itself again, and so does everything that is made of it
module _ {N : Numbers} (m first : ℕ) where
  operand_resolves : (k j : ℕ) (x : ResolvedOperand N) → Placed m j x → resolve_operand m (operand m first k x) ≡ x
  operand_resolves k j (in_model i) h = rw (lt-ltb i m h)
  operand_resolves k j (own i) h = rw (le-ltb (m + i) m (omega arith), add-sub_cancel_left)
  operand_resolves k j (number x) h = refl

  operation_resolves : (k j : ℕ) (d : ResolvedOperation N) → Proper m j d → resolve_operation m (operation m first k d) ≡ d
  operation_resolves k j d p =
      let left = operand_resolves k j d.left p.left in
      let right = ap (cond (one_sided d.operation) (number N.nought)) (operand_resolves k j d.right p.right) ∙ p.unused in
      λ i. record { operation = d.operation; left = left i; right = right i; supplied = d.supplied }

  operations_resolve : (k j : ℕ) (ds : List (ResolvedOperation N)) → AllProper m j ds → map (resolve_operation m) (map (operation m first k) ds) ≡ ds
  operations_resolve k j [] p = refl
  operations_resolve k j (d ∷ ds) (p, ps) = λ i. operation_resolves k j d p i ∷ operations_resolve k (suc j) ds ps i

  revolutions_mean : (n k : ℕ) (ts : List (ResolvedRevolution N)) → AllTurns n m ts → map (resolve_revolution m) (revolutions m first k ts) ≡ ts
  revolutions_mean n k [] p = refl
  revolutions_mean n k (t ∷ ts) (p, ps) =
      let operations = operations_resolve k 0 t.operations p.operations in
      let root : m + t.root - m ≡ t.root = omega arith in
      λ i. record { operations = operations i; root = root i } ∷ revolutions_mean n (k + length t.operations) ts ps i

  -- each root stands at or past the mark
  roots_past : (k : ℕ) (ts : List (ResolvedRevolution N)) → AtOrPast m (revolutions m first k ts)
  roots_past k [] = tt
  roots_past k (t ∷ ts) = (omega arith, roots_past (k + length t.operations) ts)

module _ {N : Numbers} (M : Machine N) (resolved : ResolvedSession N) where
  pub roots : AtOrPast (length (session M resolved).model) (session M resolved).revolutions
  roots = rw length-map (roots_past (length resolved.model) M.state.next _ resolved.revolutions)

  pub resolves : Fitting M resolved → resolve (session M resolved) ≡ resolved
  resolves f =
      let model = operations_resolve 0 M.state.next M.state.next 0 resolved.model f.model in
      let turns : map (resolve_revolution (length (session M resolved).model)) (session M resolved).revolutions ≡ resolved.revolutions = rw length-map (revolutions_mean (length resolved.model) M.state.next _ _ resolved.revolutions f.revolutions) in
      λ i. record { model = model i; revolutions = turns i }
