-- The laws of the code's own operators: whatever the calls on either side answer, if each keeps its promise, as every
-- call is proved to, is the same struct. They are laws at each type of numbers; that Fwd1 to Fwd4 are Fwd<T> at four of
-- them is told in crates/decided/specs/Aliases.antt.
-- Of a function `f` the checker makes `f.ended`, its signature, among the contracts, and `f.Reads.Learnt`, what its
-- `ensures` tell a caller, among the proofs.
use Rattle.std.specs.Prelude.{◌≡◌, Float}
use Rattle.std.specs.Float.Ieee as ieee
use base.Fml.{Lft}
use contract.Lifetimes.{Lfts}
use denote.Triple.Entry.{Args, Res}
use denote.Triple.Clauses.{Lasts, at_exit}
use Rattle.forward.specs.Types.{NumberType, Signatures, Promises, signature_at, promise_at}
use Rattle.forward.specs.declared.parts.Fwd.{Fwd}
use Rattle.forward.specs.contracts.operators.FwdAdd as adding
use Rattle.forward.specs.contracts.operators.FwdSub as subtracting
use Rattle.forward.specs.contracts.operators.FwdMul as multiplying
use Rattle.forward.specs.contracts.operators.FwdNeg as negating
use Rattle.forward.specs.contracts.plain.FwdAddF64 as adding_plain
use Rattle.forward.specs.contracts.plain.FwdSubF64 as subtracting_plain
use Rattle.forward.proofs.operators.FwdAdd as told_adding
use Rattle.forward.proofs.operators.FwdSub as told_subtracting
use Rattle.forward.proofs.operators.FwdMul as told_multiplying
use Rattle.forward.proofs.operators.FwdNeg as told_negating
use Rattle.forward.proofs.plain.FwdAddF64 as told_adding_plain
use Rattle.forward.proofs.plain.FwdSubF64 as told_subtracting_plain

-- what the operators of one struct may answer, by their promises: `add x y z` says that z is an answer of x + y, and so
-- on; `add_f64` and `sub_f64` are x + k and x - k, with a plain number k
pub record Methods : Type 1 where
  pub Number : Type 0
  pub add : Number → Number → Number → Type 0
  pub sub : Number → Number → Number → Type 0
  pub mul : Number → Number → Number → Type 0
  pub neg : Number → Number → Type 0
  pub add_f64 : Number → Float → Number → Type 0
  pub sub_f64 : Number → Float → Number → Type 0

pub record Lawful (M : Methods) : Type 0 where
  -- x + y and y + x
  pub add_exchanged : (x y z w : M.Number) → M.add x y z → M.add y x w → z ≡ w
  -- x * y and y * x
  pub mul_exchanged : (x y z w : M.Number) → M.mul x y z → M.mul y x w → z ≡ w
  -- x - y, and x + v where v is -y
  pub sub_is_add_neg : (x y v z w : M.Number) → M.sub x y z → M.neg y v → M.add x v w → z ≡ w
  -- x - k and x + (-k)
  pub sub_f64_is_add_f64 : (x : M.Number) (k : Float) (z w : M.Number) → M.sub_f64 x k z
      → M.add_f64 x (ieee.neg k) w → z ≡ w
  -- -v, where v is -x, and x
  pub neg_neg : (x v z : M.Number) → M.neg x v → M.neg v z → z ≡ x

-- z is an answer to the arguments a that keeps the promise P, at a type t of numbers
abbrev pub answer : (t : NumberType) (S : Signatures) (P : Promises S) (κs : Lfts (signature_at S t).signature.lifetimes) (a : Args (signature_at S t).signature κs) → Res (signature_at S t).signature κs → Type 0
answer t S P κs a z = let T = signature_at S t in (ws : Lasts T κs a) × promise_at S P t κs a z (at_exit T κs a ws)

-- those of Fwd<T>, where T is the type t and lives as long as `life` says
abbrev pub methods : NumberType → Lft → Methods
methods t life = record {
  Number = Fwd t.type.Denot;
  add = λ x y. answer t adding.add.ended told_adding.add.Reads.Learnt (life, tt) (x, (y, tt));
  sub = λ x y. answer t subtracting.sub.ended told_subtracting.sub.Reads.Learnt (life, tt) (x, (y, tt));
  mul = λ x y. answer t multiplying.mul.ended told_multiplying.mul.Reads.Learnt (life, tt) (x, (y, tt));
  neg = λ x. answer t negating.neg.ended told_negating.neg.Reads.Learnt (life, tt) (x, tt);
  add_f64 = λ x k. answer t adding_plain.add.ended told_adding_plain.add.Reads.Learnt (life, tt) (x, (k, tt));
  sub_f64 = λ x k. answer t subtracting_plain.sub.ended told_subtracting_plain.sub.Reads.Learnt (life, tt) (x, (k, tt));
}

-- proved in proofs/Methods.antt
abbrev pub OfTheCode : Type 2
OfTheCode = (t : NumberType) (life : Lft) → Lawful (methods t life)
