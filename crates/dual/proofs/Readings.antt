-- The step of a read and of clearing, once it is let in: a number at once, a handle by its lookup.
use mathlib.Core.Path.{◌≡◌, refl, ap, ◌∙◌}
use mathlib.Core.Bool.{Bool, true, false, cond}
use mathlib.Core.List.{List, [], ◌∷◌, ◌++◌}
use mathlib.Core.Option.{none, some}
use lib.Ieee.{Float, nan}
use lib.ListN.{get_or, drop, replicate}
use Rattle.std.specs.Prelude.{Result, Ok, Err}
use Rattle.std.specs.Result.{result_and}
use Rattle.tape.specs.Numbers.{floats}
use Rattle.tape.specs.Machine.{Machine}
use Rattle.tape.specs.Handles.{operand, live, amiss, looked_up, counted_as}
use Rattle.tape.specs.Answers.{done, read_value, counted, refused}
use Rattle.tape.specs.Calls.{clear, with_adjoints, value_of, adjoint_of, is_live}
use Rattle.tape.specs.Admission.{lengths, admission, admitted, let_in, first}
use Rattle.tape.specs.Steps.{unless, step}
use Rattle.tape.specs.declared.errors.Refusal.{Refusal}
use Rattle.tape.specs.declared.errors.Refusal.TheVariants.{Detached}
use Rattle.tape.specs.declared.node.Handle.{Handle}
use Rattle.tape.specs.declared.node.Lookup.{Lookup}
use Rattle.tape.specs.declared.node.Operand as code
use Rattle.tape.specs.declared.node.Operand.TheVariants.{Number, Node}
use Rattle.tape.specs.declared.admission.Caller.{Caller}
use Rattle.tape.specs.declared.admission.Caller.TheVariants as caller
use Rattle.tape.specs.declared.admission.Lengths.{Lengths}
use Rattle.dual.specs.Outcome.{read_outcome}
use Rattle.dual.specs.Inner.{behind_node}

-- a live handle's entry, or the lookup's refusal; the other rows of the table ask nothing of a read
by_life : (b : Bool) (r : Refusal) (v : Float) (M : Machine floats) → read_outcome (result_and (cond {A = Result (Unit {0}) Refusal} b (Ok tt) (Err r)) (Ok v)) M ≡ unless (first (cond b none (some r) ∷ none ∷ none ∷ none ∷ none ∷ none ∷ [])) M (read_value v, M)
by_life true r v M = refl
by_life false r v M = refl

module _ (M : Machine floats) where
  -- what the admission answers, told the lengths of the machine's arrays
  pub asked_of : (k : Caller) (n : Lengths) (x : Result (Unit {0}) Refusal) → x ≡ admitted (admission k n M.state) → n ≡ lengths M.lent → x ≡ admitted (let_in k M)
  asked_of k n x e f = e ∙ ap (λ n. admitted (admission k n M.state)) f

  module _ (x : code.Operand) (v : Float) (is : x ≡ Number v) where
    pub value_of_number : let_in caller.Value M ≡ none → (read_value v, M) ≡ step (value_of (operand x)) M
    unfolding step
    value_of_number e = rw (is, e)

    pub adjoint_of_number : let_in caller.Adjoint M ≡ none → (refused Detached, M) ≡ step (adjoint_of (operand x)) M
    unfolding step
    adjoint_of_number e = rw (is, e)

    pub liveness_of_number : let_in caller.Liveness M ≡ none → (counted 0, M) ≡ step (is_live (operand x)) M
    unfolding step
    liveness_of_number e = rw (is, e)

  module _ (x : code.Operand) (h : Handle) (is : x ≡ Node h) where
    pub value_of_node : let_in caller.Value M ≡ none → (y : Result Float Refusal) → y ≡ behind_node M.state M.lent.serial M.lent.value h → read_outcome y M ≡ step (value_of (operand x)) M
    unfolding step
    value_of_node e y f = rw (f, is, e) (by_life (live M h) (amiss M.state h) (get_or M.lent.value h.index nan) M)

    pub adjoint_of_node : let_in caller.Adjoint M ≡ none → (y : Result Float Refusal) → y ≡ behind_node M.state M.lent.serial M.lent.adjoint h → read_outcome y M ≡ step (adjoint_of (operand x)) M
    unfolding step
    adjoint_of_node e y f = rw (f, is, e) (by_life (live M h) (amiss M.state h) (get_or M.lent.adjoint h.index nan) M)

    pub liveness_of_node : let_in caller.Liveness M ≡ none → (l : Lookup) → l ≡ looked_up M.state M.lent.serial h → (counted (counted_as l), M) ≡ step (is_live (operand x)) M
    unfolding step
    liveness_of_node e l f = rw (f, is, e)

  -- clearing
  pub cleared_so : (b : List Float) → let_in caller.Clearing M ≡ none → b ≡ replicate M.state.length floats.nought ++ drop M.state.length M.lent.adjoint → (done, with_adjoints M b) ≡ step clear M
  unfolding step
  cleared_so b k e = rw (e, k)
