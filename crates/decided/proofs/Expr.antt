-- A recording's answer and the six arrays that it leaves are what the machine's step gives, and they are those that
-- were lent.
use Prim.Native.Nat.{ℕ}
use mathlib.Core.Path.{◌≡◌, sym, ap, ◌∙◌}
use mathlib.Core.List.{List}
use lib.Ieee.{Float}
use denote.MutBor.{MutBor}
use Rattle.std.specs.Prelude.{Result}
use Rattle.tape.specs.Numbers.{floats}
use Rattle.tape.specs.Machine.{Arrays, Machine, Same, SameArrays, lent_mut}
use Rattle.tape.specs.Answers.{Answer}
use Rattle.tape.specs.declared.errors.Refusal.{Refusal}
use Rattle.tape.specs.declared.nodes.NodesMut.{NodesMut}
use Rattle.tape.specs.declared.tape.Tape as code
use Rattle.expr.specs.Outcome.{outcome}
use Rattle.expr.specs.declared.recording.Recorded.{Recorded}
use Rattle.expr.proofs.OneToOne.{one_to_one}
use Rattle.decided.specs.Expr.{Expr}

-- an array that was lent, with these contents
abbrev holding : {A : Type 0} → MutBor A → A → MutBor A
holding x now = record { ref_ptr = x.ref_ptr; ghost_name = x.ghost_name; now = now }

kept : {A : Type 0} (x y : MutBor A) → Same x y → y ≡ holding x y.now
kept x y (p, g) = ap (λ (q : _). record { ref_ptr = q; ghost_name = y.ghost_name; now = y.now }) p ∙ ap (λ (n : _). record { ref_ptr = x.ref_ptr; ghost_name = n; now = y.now }) g

-- the arrays that were lent, with these contents, and the adjoints
abbrev pub left : NodesMut → Arrays floats → NodesMut × List Float
left n A = (record { value = holding n.value A.value; serial = holding n.serial A.serial; count = holding n.count A.count; child = holding n.child A.child; partial = holding n.partial A.partial }, A.adjoint)

same_left : (n m : NodesMut) (a : List Float) → SameArrays n m → (m, a) ≡ left n (lent_mut m a)
same_left n m a (v, s, c, h, p) =
    ap (λ x. (record { value = x; serial = m.serial; count = m.count; child = m.child; partial = m.partial }, a)) (kept n.value m.value v)
    ∙ ap (λ x. (record { value = holding n.value m.value.now; serial = x; count = m.count; child = m.child; partial = m.partial }, a)) (kept n.serial m.serial s)
    ∙ ap (λ x. (record { value = holding n.value m.value.now; serial = holding n.serial m.serial.now; count = x; child = m.child; partial = m.partial }, a)) (kept n.count m.count c)
    ∙ ap (λ x. (record { value = holding n.value m.value.now; serial = holding n.serial m.serial.now; count = holding n.count m.count.now; child = x; partial = m.partial }, a)) (kept n.child m.child h)
    ∙ ap (λ x. (record { value = holding n.value m.value.now; serial = holding n.serial m.serial.now; count = holding n.count m.count.now; child = holding n.child m.child.now; partial = x }, a)) (kept n.partial m.partial p)

-- what is left of a recording's parameters: the arrays, between the state and the operands u, of which nothing is
abbrev pub lasting : {U : Type 0} → U → NodesMut × List Float → Unit {0} × (NodesMut × (List Float × U))
lasting u (m, a) = (tt, (m, (a, u)))

-- both answers tell the step's, so they are one, and so are the arrays' contents
both : {U : Type 0} {u : U} (t : code.Tape) (n : NodesMut) {m k : NodesMut} {a b : List Float} {x y : Result Recorded Refusal} {o : Answer floats × Machine floats} → (outcome x t (lent_mut m a) ≡ o) × SameArrays n m → (outcome y t (lent_mut k b) ≡ o) × SameArrays n k → (x ≡ y) × (lasting u (m, a) ≡ lasting u (k, b))
both {u = u} t n {m = m} {k = k} {a = a} {b = b} {x = x} {y = y} (p, s) (q, r) =
    let e = one_to_one x y t t (lent_mut m a) (lent_mut k b) (p ∙ sym q) in
    (e.0, ap (lasting u) (same_left n m a s ∙ ap (left n) e.1 ∙ sym (same_left n k b r)))

pub expr : Expr
expr = record {
  new_leaf = record { same = λ {κs} {a} {z} {z'} p q. both a.0 a.1.0.now p q };
  put_on_tape = record { same = λ {κs} {a} {z} {z'} p q. both a.0 a.1.0.now p q };
  «record» = record { same = λ {κs} {a} {z} {z'} p q. both a.0 a.1.0.now p q };
}
