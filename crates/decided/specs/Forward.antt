-- Every public function of crate forward: the trait Number's at a float, and all of Fwd<T>, at each type T of numbers;
-- and std's comparisons of Fwd<T>, which go by its `eq` and `partial_cmp`.
use denote.Param.Laws.{Laws}
use denote.RattleType.{RattleType}
use denote.Triple.Clauses.{Ended}
use mir.Syntax.{Dict}
use Rattle.decided.specs.Decided.{Promise, Decided}
use Rattle.forward.specs.Types.{NumberType, Signatures, Promises, signature_at, promise_at}
use Rattle.std.specs.declared.cmp.PartialEq
use Rattle.std.specs.declared.cmp.PartialOrd
use Rattle.forward.specs.contracts.numbers.F64Number as float
use Rattle.forward.specs.contracts.parts.FwdNumber as number
use Rattle.forward.specs.contracts.parts.Fwd as fwd
use Rattle.forward.specs.contracts.parts.«Fwd+Fwd+T» as fwd_twice
use Rattle.forward.specs.contracts.parts.«Fwd+Fwd+Fwd+T» as fwd_thrice
use Rattle.forward.specs.contracts.parts.«Fwd+Fwd+Fwd+Fwd+T» as fwd_four_times
use Rattle.forward.specs.contracts.operators.FwdAdd as adding
use Rattle.forward.specs.contracts.operators.FwdSub as subtracting
use Rattle.forward.specs.contracts.operators.FwdMul as multiplying
use Rattle.forward.specs.contracts.operators.FwdDiv as dividing
use Rattle.forward.specs.contracts.operators.FwdRem as leaving
use Rattle.forward.specs.contracts.operators.FwdNeg as negating
use Rattle.forward.specs.contracts.plain.FwdAddF64 as adding_plain
use Rattle.forward.specs.contracts.plain.FwdSubF64 as subtracting_plain
use Rattle.forward.specs.contracts.plain.FwdMulF64 as multiplying_plain
use Rattle.forward.specs.contracts.plain.FwdDivF64 as dividing_plain
use Rattle.forward.specs.contracts.plain.FwdRemF64 as leaving_plain
use Rattle.forward.specs.contracts.plain.F64SubFwd as plain_subtracting
use Rattle.forward.specs.contracts.plain.F64DivFwd as plain_dividing
use Rattle.forward.specs.contracts.comparing.FwdPartialEq as equality
use Rattle.forward.specs.contracts.comparing.FwdPartialOrd as order
use Rattle.forward.specs.contracts.comparing.FwdPartialEq.TheImpl as equality_impl
use Rattle.forward.specs.contracts.comparing.FwdPartialOrd.TheImpl as order_impl
use Rattle.std.specs.contracts.cmp.PartialEq as std_equality
use Rattle.std.specs.contracts.cmp.PartialOrd as std_order
use Rattle.forward.proofs.numbers.F64Number as told_float
use Rattle.forward.proofs.parts.FwdNumber as told_number
use Rattle.forward.proofs.parts.Fwd as told_fwd
use Rattle.forward.proofs.parts.«Fwd+Fwd+T» as told_fwd_twice
use Rattle.forward.proofs.parts.«Fwd+Fwd+Fwd+T» as told_fwd_thrice
use Rattle.forward.proofs.parts.«Fwd+Fwd+Fwd+Fwd+T» as told_fwd_four_times
use Rattle.forward.proofs.operators.FwdAdd as told_adding
use Rattle.forward.proofs.operators.FwdSub as told_subtracting
use Rattle.forward.proofs.operators.FwdMul as told_multiplying
use Rattle.forward.proofs.operators.FwdDiv as told_dividing
use Rattle.forward.proofs.operators.FwdRem as told_leaving
use Rattle.forward.proofs.operators.FwdNeg as told_negating
use Rattle.forward.proofs.plain.FwdAddF64 as told_adding_plain
use Rattle.forward.proofs.plain.FwdSubF64 as told_subtracting_plain
use Rattle.forward.proofs.plain.FwdMulF64 as told_multiplying_plain
use Rattle.forward.proofs.plain.FwdDivF64 as told_dividing_plain
use Rattle.forward.proofs.plain.FwdRemF64 as told_leaving_plain
use Rattle.forward.proofs.plain.F64SubFwd as told_plain_subtracting
use Rattle.forward.proofs.plain.F64DivFwd as told_plain_dividing
use Rattle.forward.proofs.comparing.FwdPartialEq as told_equality
use Rattle.forward.proofs.comparing.FwdPartialOrd as told_order
use Rattle.std.proofs.cmp.PartialEq as told_std_equality
use Rattle.std.proofs.cmp.PartialOrd as told_std_order

pub record DecidedAtEach (S : Signatures) (P : Promises S) : Type 2 where
  pub at : (t : NumberType) → Decided (signature_at S t) (promise_at S P t)

-- `impl Number for f64`
pub record Floats : Type 0 where
  pub constant : Decided float.constant.ended told_float.constant.Reads.Learnt
  pub var : Decided float.var.ended told_float.var.Reads.Learnt
  pub value : Decided float.value.ended told_float.value.Reads.Learnt
  pub add : Decided float.add.ended told_float.add.Reads.Learnt
  pub sub : Decided float.sub.ended told_float.sub.Reads.Learnt
  pub mul : Decided float.mul.ended told_float.mul.Reads.Learnt
  pub div : Decided float.div.ended told_float.div.Reads.Learnt
  pub neg : Decided float.neg.ended told_float.neg.Reads.Learnt
  pub add_f64 : Decided float.add_f64.ended told_float.add_f64.Reads.Learnt
  pub sub_f64 : Decided float.sub_f64.ended told_float.sub_f64.Reads.Learnt
  pub mul_f64 : Decided float.mul_f64.ended told_float.mul_f64.Reads.Learnt
  pub sqrt : Decided float.sqrt.ended told_float.sqrt.Reads.Learnt

-- `impl Number for Fwd<T>`
pub record Numbers : Type 2 where
  pub constant : DecidedAtEach number.constant.ended told_number.constant.Reads.Learnt
  pub var : DecidedAtEach number.var.ended told_number.var.Reads.Learnt
  pub value : DecidedAtEach number.value.ended told_number.value.Reads.Learnt
  pub add : DecidedAtEach number.add.ended told_number.add.Reads.Learnt
  pub sub : DecidedAtEach number.sub.ended told_number.sub.Reads.Learnt
  pub mul : DecidedAtEach number.mul.ended told_number.mul.Reads.Learnt
  pub div : DecidedAtEach number.div.ended told_number.div.Reads.Learnt
  pub neg : DecidedAtEach number.neg.ended told_number.neg.Reads.Learnt
  pub add_f64 : DecidedAtEach number.add_f64.ended told_number.add_f64.Reads.Learnt
  pub sub_f64 : DecidedAtEach number.sub_f64.ended told_number.sub_f64.Reads.Learnt
  pub mul_f64 : DecidedAtEach number.mul_f64.ended told_number.mul_f64.Reads.Learnt
  pub sqrt : DecidedAtEach number.sqrt.ended told_number.sqrt.Reads.Learnt

-- the operators of Fwd<T>, and those of it and a plain number
pub record Operators : Type 2 where
  pub add : DecidedAtEach adding.add.ended told_adding.add.Reads.Learnt
  pub sub : DecidedAtEach subtracting.sub.ended told_subtracting.sub.Reads.Learnt
  pub mul : DecidedAtEach multiplying.mul.ended told_multiplying.mul.Reads.Learnt
  pub div : DecidedAtEach dividing.div.ended told_dividing.div.Reads.Learnt
  pub rem : DecidedAtEach leaving.rem.ended told_leaving.rem.Reads.Learnt
  pub neg : DecidedAtEach negating.neg.ended told_negating.neg.Reads.Learnt
  pub add_f64 : DecidedAtEach adding_plain.add.ended told_adding_plain.add.Reads.Learnt
  pub sub_f64 : DecidedAtEach subtracting_plain.sub.ended told_subtracting_plain.sub.Reads.Learnt
  pub mul_f64 : DecidedAtEach multiplying_plain.mul.ended told_multiplying_plain.mul.Reads.Learnt
  pub div_f64 : DecidedAtEach dividing_plain.div.ended told_dividing_plain.div.Reads.Learnt
  pub rem_f64 : DecidedAtEach leaving_plain.rem.ended told_leaving_plain.rem.Reads.Learnt
  pub sub_from : DecidedAtEach plain_subtracting.sub.ended told_plain_subtracting.sub.Reads.Learnt
  pub div_into : DecidedAtEach plain_dividing.div.ended told_plain_dividing.div.Reads.Learnt

-- what else Fwd<T> has
pub record Others : Type 2 where
  pub zero : DecidedAtEach fwd.zero.ended told_fwd.zero.Reads.Learnt
  pub one : DecidedAtEach fwd.one.ended told_fwd.one.Reads.Learnt
  pub first_derivative : DecidedAtEach fwd.first_derivative.ended told_fwd.first_derivative.Reads.Learnt
  pub second_derivative : DecidedAtEach fwd_twice.second_derivative.ended told_fwd_twice.second_derivative.Reads.Learnt
  pub third_derivative : DecidedAtEach fwd_thrice.third_derivative.ended told_fwd_thrice.third_derivative.Reads.Learnt
  pub fourth_derivative : DecidedAtEach fwd_four_times.fourth_derivative.ended told_fwd_four_times.fourth_derivative.Reads.Learnt
  pub abs : DecidedAtEach fwd.abs.ended told_fwd.abs.Reads.Learnt
  pub max_val : DecidedAtEach fwd.max_val.ended told_fwd.max_val.Reads.Learnt
  pub min_val : DecidedAtEach fwd.min_val.ended told_fwd.min_val.Reads.Learnt
  pub eq : DecidedAtEach equality.eq.ended told_equality.eq.Reads.Learnt
  pub partial_cmp : DecidedAtEach order.partial_cmp.ended told_order.partial_cmp.Reads.Learnt
  pub eq_f64 : DecidedAtEach fwd.eq_f64.ended told_fwd.eq_f64.Reads.Learnt
  pub ne_f64 : DecidedAtEach fwd.ne_f64.ended told_fwd.ne_f64.Reads.Learnt
  pub lt_f64 : DecidedAtEach fwd.lt_f64.ended told_fwd.lt_f64.Reads.Learnt
  pub le_f64 : DecidedAtEach fwd.le_f64.ended told_fwd.le_f64.Reads.Learnt
  pub gt_f64 : DecidedAtEach fwd.gt_f64.ended told_fwd.gt_f64.Reads.Learnt
  pub ge_f64 : DecidedAtEach fwd.ge_f64.ended told_fwd.ge_f64.Reads.Learnt
  pub partial_cmp_f64 : DecidedAtEach fwd.partial_cmp_f64.ended told_fwd.partial_cmp_f64.Reads.Learnt

-- Fwd<T>, its `eq` and its `partial_cmp`, each with the code that runs
module _ (t : NumberType) where
  abbrev pub fwd_type : RattleType
  fwd_type = fwd.the_row (equality_impl.T-row t.type)

  abbrev pub eq : PartialEq.Ghosts fwd_type.Denot
  eq = equality_impl.ghosts t.type t.number t.number_code t.clone t.clone_code

  abbrev pub eq_code : Dict
  eq_code = equality_impl.dict t.type t.number t.number_code t.clone t.clone_code

  abbrev pub partial_cmp : PartialOrd.Ghosts fwd_type.Denot
  partial_cmp = order_impl.ghosts t.type t.number t.number_code t.clone t.clone_code

  abbrev pub partial_cmp_code : Dict
  partial_cmp_code = order_impl.dict t.type t.number t.number_code t.clone t.clone_code

-- a function that std gives each type with an `eq`: at Fwd<T>, by any proof of the type's laws
pub record DecidedByEq
    (S : (type : RattleType) → PartialEq.Ghosts type.Denot → Dict → Ended)
    (P : (type : RattleType) → Laws type → (e : PartialEq.Ghosts type.Denot) (e_code : Dict) → Promise (S type e e_code)) : Type 2 where
  pub at : (t : NumberType) (laws : Laws (fwd_type t)) → Decided (S (fwd_type t) (eq t) (eq_code t)) (P (fwd_type t) laws (eq t) (eq_code t))

-- a function that std gives each type with a `partial_cmp`: the same
pub record DecidedByOrder
    (S : (type : RattleType) → PartialOrd.Ghosts type.Denot → Dict → PartialEq.Ghosts type.Denot → Dict → Ended)
    (P : (type : RattleType) → Laws type → (c : PartialOrd.Ghosts type.Denot) (c_code : Dict) (e : PartialEq.Ghosts type.Denot) (e_code : Dict) → Promise (S type c c_code e e_code)) : Type 2 where
  pub at : (t : NumberType) (laws : Laws (fwd_type t))
      → Decided (S (fwd_type t) (partial_cmp t) (partial_cmp_code t) (eq t) (eq_code t)) (P (fwd_type t) laws (partial_cmp t) (partial_cmp_code t) (eq t) (eq_code t))

-- `!=`, `<`, `<=`, `>` and `>=` of Fwd<T>
pub record Compared : Type 2 where
  pub ne : DecidedByEq std_equality.ne.ended told_std_equality.ne.Reads.Learnt
  pub lt : DecidedByOrder std_order.lt.ended told_std_order.lt.Reads.Learnt
  pub le : DecidedByOrder std_order.le.ended told_std_order.le.Reads.Learnt
  pub gt : DecidedByOrder std_order.gt.ended told_std_order.gt.Reads.Learnt
  pub ge : DecidedByOrder std_order.ge.ended told_std_order.ge.Reads.Learnt
