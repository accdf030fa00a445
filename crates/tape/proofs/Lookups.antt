-- Where a handle is usable, its index is below the length.
use Prim.Native.Nat.{ℕ, ◌<◌}
use mathlib.Core.Path.{◌≡◌, refl, sym, ◌∙◌}
use mathlib.Core.Bool.{Bool, true, false, cond}
use mathlib.Core.List.{List}
use native.Mathlib.Omega.{arith}
use Rattle.tape.specs.Handles.{lives, usable_as}
use Rattle.tape.specs.declared.errors.Refusal.{Refusal}
use Rattle.tape.specs.declared.node.Handle.{Handle}
use Rattle.std.specs.Prelude.{Result, Ok, Err}
use Rattle.tape.specs.declared.tape.Tape.{Tape}
use Rattle.tape.proofs.Steps.{lives_parts}

by_answer : (b : Bool) (r : Refusal) → ◌≡◌ {A = Result (Unit {0}) Refusal} (cond b (Ok tt) (Err r)) (Ok tt) → b ≡ true
by_answer true r e = refl
by_answer false r e = let z : ◌≡◌ {A = ℕ} 0 1 = cc in absurd (omega arith)

pub alive : (x : Result (Unit {0}) Refusal) (t : Tape) (serials : List ℕ) (h : Handle) → x ≡ usable_as t serials h → x ≡ Ok tt → lives t.length serials h ≡ true
alive x t serials h e l = by_answer (lives t.length serials h) _ (sym e ∙ l)

pub below : (x : Result (Unit {0}) Refusal) (t : Tape) (serials : List ℕ) (h : Handle) → x ≡ usable_as t serials h → x ≡ Ok tt → h.index < t.length
below x t serials h e l = (lives_parts t.length serials h (alive x t serials h e l)).below
