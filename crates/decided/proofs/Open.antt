-- A state that does not fit is refused whatever is lent, so a promise of the answer alone is kept whatever is left.
use Prim.Native.Nat.{ℕ, zero, suc}
use mathlib.Core.Path.{◌≡◌, refl, ap}
use mathlib.Core.Bool.{false}
use mathlib.Core.List.{List, [], ◌∷◌}
use lib.Ieee.{Float, nan, inf, fin}
use lib.ListN.{get_or}
use native.Mathlib.Omega.{arith}
use contract.Lifetimes.{Lfts}
use denote.Bor.{Bor}
use denote.MutBor.{MutBor}
use denote.Triple.Entry.{Args, Res}
use denote.Triple.Clauses.{Ended, Lasts, at_exit}
use Rattle.tape.specs.Numbers.{floats}
use Rattle.tape.specs.Machine.{Arrays, arrays, machine, new_tape, with_next}
use Rattle.tape.specs.Steps.{step}
use Rattle.tape.specs.declared.errors.Refusal.TheVariants.{Misshapen}
use Rattle.tape.specs.declared.node.Operand.TheVariants.{Number}
use Rattle.tape.specs.declared.tape.Tape.{Tape}
use Rattle.std.specs.Prelude.{Err}
use Rattle.tape.specs.declared.nodes.Nodes.{Nodes}
use Rattle.tape.specs.declared.nodes.NodesMut.{NodesMut}
use Rattle.decided.specs.Decided.{Promise, Decided}
use Rattle.decided.specs.Open.{answer_alone, Open}
use Rattle.decided.proofs.Expr.{lasting}
use Rattle.decided.proofs.Dual.{adjoints}
use Rattle.decided.proofs.Listing.{bytes}

-- an answer that keeps a promise and leaves ws keeps the promise of the answer alone whatever it leaves
left_open : (T : Ended) (P : Promise T) (κs : Lfts T.signature.lifetimes) (a : Args T.signature κs) (z : Res T.signature κs) (ws ws' : Lasts T κs a) → P κs a z (at_exit T κs a ws) → ¬ (ws ≡ ws') → ¬ Decided T (answer_alone T P)
left_open T P κs a z ws ws' kept differ d = differ (d.same {κs = κs} {a = a} {z = z} {z' = z} {ws = ws} {ws' = ws'} (at_exit T κs a ws, kept) (at_exit T κs a ws, kept)).1

-- serial 0 is never next
abbrev unfit : Tape
unfit = with_next 0 new_tape

abbrev lifetimes : (n : ℕ) → Lfts n
lifetimes zero = tt
lifetimes (suc n) = ([], lifetimes n)

-- what is lent to be read, and what is lent to be written
abbrev to_read : {X : Type 0} → X → Bor X
to_read x = record { ref_ptr = (0, 0); now = x }

abbrev to_write : {X : Type 0} → X → MutBor X
to_write x = record { ref_ptr = (0, 0); ghost_name = 0; now = x }

-- one value and no more, to be read and to be written
abbrev one_to_read : Float → Nodes
one_to_read x = record { value = to_read (x ∷ []); serial = to_read []; count = to_read []; child = to_read []; partial = to_read [] }

abbrev one_to_write : Float → NodesMut
one_to_write x = record { value = to_write (x ∷ []); serial = to_write []; count = to_write []; child = to_write []; partial = to_write [] }

-- one adjoint
abbrev filled : Float → Arrays floats
filled x = arrays [] (x ∷ []) [] [] [] []

-- tells a NaN from any other
abbrev rank : Float → ℕ
rank nan = 0
rank (inf s) = 1
rank (fin s m e) = 1

zero_not_one : ¬ (◌≡◌ {A = ℕ} 0 1)
zero_not_one e = omega arith

pub all_open : Open
unfolding step
all_open = record {
  six_arrays = left_open _ _ (lifetimes 3) (unfit, (to_write (one_to_write nan), (to_write (nan ∷ []), (0, (Number nan, (Number nan, (record { value = nan; left = nan; right = nan }, tt))))))) (Err Misshapen) (lasting _ (one_to_write nan, nan ∷ [])) (lasting _ (one_to_write (inf false), nan ∷ [])) (refl, ((refl, refl), (refl, refl), (refl, refl), (refl, refl), (refl, refl))) (λ e. zero_not_one (ap (λ w. rank (get_or w.1.0.value.now 0 nan)) e));
  adjoints = left_open _ _ (lifetimes 2) (unfit, (one_to_read nan, (to_write (nan ∷ []), (Number nan, tt)))) (Err Misshapen) (adjoints _ (machine unfit (filled nan))) (adjoints _ (machine unfit (filled (inf false)))) refl (λ e. zero_not_one (ap (λ w. rank (get_or w.1.1.0 0 nan)) e));
  bytes = left_open _ _ (lifetimes 3) (unfit, (one_to_read nan, (to_read (nan ∷ []), (to_write (0 ∷ []), tt)))) (Err Misshapen) (bytes (0 ∷ [])) (bytes (1 ∷ [])) refl (λ e. zero_not_one (ap (λ w. get_or w.1.1.1.0 0 0) e));
  answer = λ d. zero_not_one (ap (λ t. t.next) (d.same {κs = tt} {a = tt} {z = unfit} {z' = new_tape} {ws = tt} {ws' = tt} (new_tape, refl) (new_tape, refl)).0);
}
