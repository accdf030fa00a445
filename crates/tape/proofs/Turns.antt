-- Which calls come in their turn: by what the admission asks of the call that asks.
use Prim.Native.Nat.{ℕ}
use native.Mathlib.Omega.{arith}
use mathlib.Core.Path.{◌≡◌, refl, sym, ap, ◌∙◌}
use mathlib.Core.Bool.{Bool, true, false, true≢false}
use Rattle.tape.specs.Numbers.{Numbers}
use Rattle.tape.specs.Machine.{Machine, most_nodes}
use Rattle.tape.specs.Answers.{refused, number}
use Rattle.tape.specs.Calls.{move, start, stop, set_mark, reset_mark, rewind_to_mark, rewind_to_init, Call, operate, clear, pass, open_pass, slice, value_of, adjoint_of, is_live, list}
use Rattle.tape.specs.Admission.{is_lent, walk_fits, fits, while_open, while_closed, in_turn}
use Rattle.tape.specs.Refusals.{asked}
use Rattle.tape.specs.Steps.{step}
use Rattle.tape.specs.Slices.{goes_along, Turns}
use Rattle.tape.specs.declared.admission.Caller.{Caller}
use Rattle.tape.specs.declared.errors.Refusal.TheVariants.{Misshapen, OutOfTurn}
use Rattle.tape.specs.declared.tape.Span.{Span}
use Rattle.std.specs.Prelude.{Some}
use Rattle.tape.proofs.Passes.{carried_number}
use Rattle.tape.proofs.Steps.{by_refusal, by_table}
use Rattle.tape.proofs.Tests.{is_false, walk_fit, fit, state_fit}

abbrev caller_of : {N : Numbers} → Call N → Machine N → Caller
caller_of c M = (asked c M.state).caller

-- ---- refused at the head

module _ {N : Numbers} (c : Call N) (M : Machine N) where
  abbrev shaped : Bool
  shaped = fits (is_lent (caller_of c M)) M

  misshapen : shaped ≡ false → step c M ≡ (refused Misshapen, M)
  unfolding step
  misshapen e = rw e

  by_shape : (b : Bool) → shaped ≡ b → in_turn M.state.walk (caller_of c M) ≡ false → ((step c M).0.number ≡ 1 → ⊥) → step c M ≡ (refused OutOfTurn, M)
  unfolding step
  by_shape true shape e fit = rw (shape, e)
  by_shape false shape e fit = absurd (fit (ap (λ x. x.0.number) (misshapen shape)))

  out_of_turn : in_turn M.state.walk (caller_of c M) ≡ false → ((step c M).0.number ≡ 1 → ⊥) → step c M ≡ (refused OutOfTurn, M)
  out_of_turn = by_shape shaped refl

unfit : {N : Numbers} (lent : Bool) (M : Machine N) → walk_fits M.state.length M.state.walk ≡ false → fits lent M ≡ false
unfit true M w = is_false _ (λ e. true≢false (sym (fit M e).state.walk ∙ w))
unfit false M w = is_false _ (λ e. true≢false (sym (state_fit most_nodes M.state e).walk ∙ w))

-- ---- by the calls

along : {N : Numbers} (c : Call N) (M : Machine N) → while_open (caller_of c M) ≡ goes_along c
along (slice n) M = refl
along (adjoint_of x) M = refl
along (list bytes) M = refl
along (move start) M = refl
along (move stop) M = refl
along (move set_mark) M = refl
along (move reset_mark) M = refl
along (move rewind_to_mark) M = refl
along (move rewind_to_init) M = refl
along (operate op left right g) M = refl
along clear M = refl
along (pass p) M = refl
along (open_pass p) M = refl
along (value_of x) M = refl
along (is_live x) M = refl

any_but_slice : {N : Numbers} (c : Call N) (M : Machine N) → ((n : ℕ) → c ≡ slice n → ⊥) → while_closed (caller_of c M) ≡ true
any_but_slice (slice n) M other = absurd (other n refl)
any_but_slice (adjoint_of x) M other = refl
any_but_slice (list bytes) M other = refl
any_but_slice (move start) M other = refl
any_but_slice (move stop) M other = refl
any_but_slice (move set_mark) M other = refl
any_but_slice (move reset_mark) M other = refl
any_but_slice (move rewind_to_mark) M other = refl
any_but_slice (move rewind_to_init) M other = refl
any_but_slice (operate op left right g) M other = refl
any_but_slice clear M other = refl
any_but_slice (pass p) M other = refl
any_but_slice (open_pass p) M other = refl
any_but_slice (value_of x) M other = refl
any_but_slice (is_live x) M other = refl

-- a call in its turn is not refused 12
not_twelve : {N : Numbers} (c : Call N) (M : Machine N) → in_turn M.state.walk (caller_of c M) ≡ true → (step c M).0.number ≡ 12 → ⊥
not_twelve c M turn =
    by_refusal (λ x. x.0.number ≡ 12 → ⊥) c M
    (by_table (λ r. number r ≡ 12 → ⊥) c M (record {
      misshapen = λ e. omega arith;
      out_of_turn = λ e _. true≢false (sym turn ∙ e);
      unfit = λ e. omega arith;
      unknown = λ e. omega arith;
      stale = λ _ _ _ _ e. omega arith;
      never_issued = λ _ _ _ _ e. omega arith;
      detached = λ e. omega arith;
      full = λ e. omega arith;
      spent = λ e. omega arith;
      unsound = λ _ _ _ e. omega arith;
      too_long = λ e. omega arith;
    }))
    (λ _ e. omega (arith, carried_number c M))

module _ {N : Numbers} (c : Call N) (M : Machine N) (s : Span) (e : M.state.walk ≡ Some s) where
  walk_unfit : walk_fits M.state.length (Some s) ≡ false → step c M ≡ (refused Misshapen, M)
  walk_unfit w = misshapen c M (unfit (is_lent (caller_of c M)) M (rw e w))

pub turns : Turns
turns = record {
  others = λ c M s e other. out_of_turn c M (ap (λ w. in_turn w (caller_of c M)) e ∙ along c M ∙ other);
  none_open = λ n M e. out_of_turn (slice n) M (ap (λ w. in_turn w (caller_of (slice n) M)) e);
  in_turn = λ c M s e goes. not_twelve c M (ap (λ w. in_turn w (caller_of c M)) e ∙ along c M ∙ goes);
  over = λ c M e other. not_twelve c M (ap (λ w. in_turn w (caller_of c M)) e ∙ any_but_slice c M other);
  no_node_left = λ c M s e h. walk_unfit c M s e (is_false _ (λ f. omega (arith, walk_fit M.state.length s f)));
  past_the_length = λ c M s e h. walk_unfit c M s e (is_false _ (λ f. omega (arith, walk_fit M.state.length s f)));
}
