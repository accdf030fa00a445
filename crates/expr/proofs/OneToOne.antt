-- What a recording's answer says can be read back from its number, value and handle and the state.
use mathlib.Core.Path.{◌≡◌, refl, sym, ap, ◌∙◌}
use mathlib.Core.Option as maths
use lib.Ieee.{Float}
use Rattle.std.specs.Prelude.{Option, None, Some, Result, Ok, Err, OnErr}
use Rattle.tape.specs.Numbers.{floats}
use Rattle.tape.specs.Machine.{Arrays, Machine, machine}
use Rattle.tape.specs.Answers.{Answer}
use Rattle.tape.specs.declared.errors.Refusal.{Refusal}
use Rattle.tape.specs.declared.node.Handle.{Handle}
use Rattle.tape.specs.declared.tape.Tape.{Tape}
use Rattle.tape.proofs.OneToOne.{by_number, at_refusal, never_nought}
use Rattle.expr.specs.Outcome.{told, outcome, OneToOne}
use Rattle.expr.specs.declared.recording.Recorded.{Recorded}

abbrev code_handle : maths.Option Handle → Option Handle
code_handle maths.none = None
code_handle (maths.some h) = Some h

abbrev meant : Answer floats × Machine floats → Result Recorded Refusal
meant o = by_number (Ok (record { value = o.0.value; handle = code_handle o.0.handle; tape = o.1.state })) Err o.0.number

by_handle : (v : Float) (h : Option Handle) (t : Tape) (A : Arrays floats) → meant (told v h, machine t A) ≡ Ok (record { value = v; handle = h; tape = t })
by_handle v None t A = refl
by_handle v (Some h) t A = refl

read_back : (x : Result Recorded Refusal) (t : Tape) (A : Arrays floats) → meant (outcome x t A) ≡ x
read_back (Ok x) t A = by_handle x.value x.handle x.tape A
read_back (Err r) t A = at_refusal _ Err r

arrays_back : (x : Result Recorded Refusal) (t : Tape) (A : Arrays floats) → (outcome x t A).1.lent ≡ A
arrays_back (Ok x) t A = refl
arrays_back (Err r) t A = refl

told_number : (v : Float) (h : Option Handle) → (told v h).number ≡ 0
told_number v None = refl
told_number v (Some h) = refl

-- a refusal leaves the state
left_alike : (x y : Result Recorded Refusal) (t u : Tape) (A B : Arrays floats) → outcome x t A ≡ outcome y u B → OnErr x (t ≡ u)
left_alike (Ok r) y t u A B e = tt
left_alike (Err r) (Ok x) t u A B e = absurd (never_nought r (ap (λ o. o.0.number) e ∙ told_number x.value x.handle))
left_alike (Err r) (Err s) t u A B e = ap (λ o. o.1.state) e

pub one_to_one : OneToOne
one_to_one x y t u A B e =
    (sym (read_back x t A) ∙ ap meant e ∙ read_back y u B, sym (arrays_back x t A) ∙ ap (λ o. o.1.lent) e ∙ arrays_back y u B, left_alike x y t u A B e)
