-- By computation, on one machine of capacity 1.
use mathlib.Core.Path.{refl}
use mathlib.Core.Bool.{true}
use mathlib.Core.List.{[], ◌∷◌}
use Rattle.tape.specs.Numbers.{floats}
use Rattle.tape.specs.Machine.{machine, arrays, state}
use Rattle.tape.specs.Handles.{plain}
use Rattle.tape.specs.Calls.{move, operate, rewind_to_init}
use Rattle.tape.specs.Steps.{step}
use Rattle.tape.specs.Kept.{Revived}

pub revived : Revived
unfolding step
revived =
    let O = floats.nought in
    record {
      before = machine (state 1 0 true 7) (arrays (O ∷ []) (O ∷ []) (7 ∷ []) (0 ∷ []) (0 ∷ 0 ∷ []) (O ∷ O ∷ []));
      handle = record { index = 0; serial = 7 };
      between = move rewind_to_init ∷ [];
      later = operate 0 (plain O) (plain O) (record { value = O; left = O; right = O }) ∷ [];
      was_live = refl;
      stopped = refl;
      again = refl;
    }
