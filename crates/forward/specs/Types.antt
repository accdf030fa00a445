-- A type of numbers, as the bound `T: Number` brings it to a call: the type, what each ghost member is there, and which
-- code runs. Each function of Fwd<T> has a signature and a promise at each of them.
use contract.Lifetimes.{Lfts}
use denote.Param.Laws.{Laws, IsCopy}
use denote.RattleType.{RattleType}
use denote.Triple.Clauses.{Ended, AtExit}
use denote.Triple.Entry.{Args, Res}
use mir.Syntax.{Dict}
use Rattle.std.specs.declared.clone.Clone
use Rattle.forward.specs.Number.{OneToOne}
use Rattle.forward.specs.declared.numbers.Number

pub record NumberType : Type 2 where
  pub type : RattleType
  pub laws : Laws type
  pub copy : IsCopy type
  pub number : Number.Ghosts type.Denot
  pub number_code : Dict
  pub clone : Clone.Ghosts type.Denot
  pub clone_code : Dict
  pub one_to_one : OneToOne number.number

-- a function's signature at each type
abbrev pub Signatures : Type 2
Signatures =
    (type : RattleType) (number : Number.Ghosts type.Denot) (number_code : Dict) (clone : Clone.Ghosts type.Denot) (clone_code : Dict) → Ended

-- a claim of the lifetimes, the arguments, the answer, and the parameters at exit, at each type
abbrev pub Promises : Signatures → Type 2
Promises S =
    (type : RattleType) (laws : Laws type) (copy : IsCopy type) (number : Number.Ghosts type.Denot) (number_code : Dict) (clone : Clone.Ghosts type.Denot) (clone_code : Dict)
    → let E = S type number number_code clone clone_code in
    (κs : Lfts E.signature.lifetimes) → Args E.signature κs → Res E.signature κs → AtExit E κs → Type 0

abbrev pub signature_at : Signatures → NumberType → Ended
signature_at S t = S t.type t.number t.number_code t.clone t.clone_code

abbrev pub promise_at : (S : Signatures) → Promises S → (t : NumberType) → (κs : Lfts (signature_at S t).signature.lifetimes) → Args (signature_at S t).signature κs → Res (signature_at S t).signature κs → AtExit (signature_at S t) κs → Type 0
promise_at S P t = P t.type t.laws t.copy t.number t.number_code t.clone t.clone_code
