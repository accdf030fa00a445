-- The step of a start, stop, mark or rewind: the state after it, unless it is not let in.
use mathlib.Core.Path.{◌≡◌, refl, ap, ◌∙◌}
use mathlib.Core.List.{[], ◌∷◌}
use mathlib.Core.Option.{Option, none, some}
use Rattle.tape.specs.Numbers.{floats}
use Rattle.tape.specs.Machine.{Arrays, machine}
use Rattle.tape.specs.Answers.{outcome, done}
use Rattle.tape.specs.Calls.{Move, start, stop, set_mark, reset_mark, rewind_to_mark, rewind_to_init, move, moved}
use Rattle.tape.specs.Admission.{first, admitted, admission}
use Rattle.tape.specs.Refusals.{mover}
use Rattle.tape.specs.Steps.{unless, step}
use Rattle.tape.specs.Inner.{no_arrays, moved_by}
use Rattle.tape.specs.declared.errors.Refusal.{Refusal}
use Rattle.std.specs.Prelude.{Result}
use Rattle.tape.specs.declared.tape.Tape.{Tape}

-- the other rows of the table ask nothing of a move
by_row : (o : Option Refusal) (t u : Tape) (A : Arrays floats) → outcome (moved_by (admitted o) u) t A ≡ unless (first (o ∷ none ∷ none ∷ none ∷ none ∷ none ∷ none ∷ none ∷ [])) (machine t A) (done, machine u A)
by_row none t u A = refl
by_row (some r) t u A = refl

pub move_steps : (m : Move) (t : Tape) (x : Result Tape Refusal) → x ≡ moved_by (admitted (admission (mover m) no_arrays t)) (moved m t) → (A : Arrays floats) → outcome x t A ≡ step (move m) (machine t A)
unfolding step
move_steps start t x e A = ap (λ y. outcome y t A) e ∙ by_row (admission (mover start) no_arrays t) t (moved start t) A
move_steps stop t x e A = ap (λ y. outcome y t A) e ∙ by_row (admission (mover stop) no_arrays t) t (moved stop t) A
move_steps set_mark t x e A = ap (λ y. outcome y t A) e ∙ by_row (admission (mover set_mark) no_arrays t) t (moved set_mark t) A
move_steps reset_mark t x e A = ap (λ y. outcome y t A) e ∙ by_row (admission (mover reset_mark) no_arrays t) t (moved reset_mark t) A
move_steps rewind_to_mark t x e A = ap (λ y. outcome y t A) e ∙ by_row (admission (mover rewind_to_mark) no_arrays t) t (moved rewind_to_mark t) A
move_steps rewind_to_init t x e A = ap (λ y. outcome y t A) e ∙ by_row (admission (mover rewind_to_init) no_arrays t) t (moved rewind_to_init t) A
