-- Fwd1 to Fwd4 are Fwd<T> at four types of numbers: a float, and Fwd1, Fwd2 and Fwd3. The number that a value of each holds
-- by the trait Number is that of specs/Number.antt.
use denote.Builtin.{f64}
use denote.Param.{copied}
use denote.Param.Laws.{Laws, of_field, of_copyable, copied_laws, copied_copy}
use denote.Param.Shared.{copy_shared}
use denote.Struct.Field.{f64-field}
use denote.Struct.Laws.{f64-laws, f64-copy}
use mir.Syntax.{Dict, impl, tnil, dnil}
use Rattle.std.specs.Prelude.{◌≡◌, refl, []}
use Rattle.std.specs.contracts.prelude.F64Clone.TheImpl as float_clone
use Rattle.forward.specs.Number.{Fwd1, Fwd2, Fwd3, Fwd4, number1, number2, number3, number4}
use Rattle.forward.specs.OneToOne.{of_parts_one_to_one}
use Rattle.forward.specs.Types.{NumberType}
use Rattle.forward.specs.contracts.numbers.F64Number.TheImpl as float
use Rattle.forward.specs.contracts.parts.Fwd.{the_row}
use Rattle.forward.specs.contracts.parts.FwdClone.TheImpl as forward_clone
use Rattle.forward.specs.contracts.parts.FwdNumber.TheImpl as forward
use Rattle.forward.proofs.parts.Fwd.TheLaws.{the_row_laws, the_row_copy}
use Rattle.decided.specs.Forward.{fwd_type}

abbrev pub floats : NumberType
floats = record {
  type = f64;
  laws = of_field f64-field f64-laws refl (copy_shared f64-field f64-copy);
  copy = of_copyable f64-field f64-copy;
  number = float.ghosts;
  number_code = float.dict;
  clone = float_clone.ghosts;
  clone_code = float_clone.dict;
  one_to_one = λ x y e. e;
}

-- Fwd<T>, where T is t
abbrev pub forwards : NumberType → NumberType
forwards t =
    let part = copied 0 t.type in
    let no_code : Dict = impl [] tnil dnil in
    record {
      type = the_row part;
      laws = the_row_laws part (copied_laws 0 t.type t.laws);
      copy = the_row_copy part (copied_laws 0 t.type t.laws) (copied_copy 0 t.type t.copy);
      number = forward.ghosts t.type t.number t.number_code t.clone t.clone_code;
      number_code = forward.dict t.type t.number t.number_code t.clone t.clone_code;
      clone = forward_clone.ghosts t.type t.clone t.clone_code no_code;
      clone_code = forward_clone.dict t.type t.clone t.clone_code no_code;
      one_to_one = of_parts_one_to_one t.one_to_one;
    }

pub record Aliases : Type 0 where
  pub first : (x : Fwd1) → (forwards floats).number.number x ≡ number1 x
  pub second : (x : Fwd2) → (forwards (forwards floats)).number.number x ≡ number2 x
  pub third : (x : Fwd3) → (forwards (forwards (forwards floats))).number.number x ≡ number3 x
  pub fourth : (x : Fwd4) → (forwards (forwards (forwards (forwards floats)))).number.number x ≡ number4 x

-- the laws that std's comparisons of Fwd<T> are asked with (specs/Forward.antt) hold at each type of numbers
abbrev pub FwdLaws : Type 2
FwdLaws = (t : NumberType) → Laws (fwd_type t)
