-- Handles, and what a caller carries: a plain number or a handle.
use Rattle.std.specs.Prelude.{ℕ, Bool, true, false, not, ◌||◌, cond, List, [], ◌∷◌, ltb, eqb, get_or, Result, Ok, Err}
use Rattle.tape.specs.Numbers.{Numbers, floats}
use Rattle.tape.specs.Machine.{Machine, all}
use Rattle.tape.specs.declared.errors.Refusal.{Refusal}
use Rattle.tape.specs.declared.errors.Refusal.TheVariants.{Stale, NeverIssued}
use Rattle.tape.specs.declared.node.Handle.{Handle}
use Rattle.tape.specs.declared.node.Lookup.{Lookup}
use Rattle.tape.specs.declared.node.Lookup.TheVariants as lookup
use Rattle.tape.specs.declared.node.Operand as code
use Rattle.tape.specs.declared.tape.Tape.{Tape}

-- its index is below the length, its serial is not 0, and the serial stored at that index is the same
abbrev pub lives : ℕ → List ℕ → Handle → Bool
lives length serials h =
    all (ltb h.index length ∷ not (eqb h.serial 0) ∷ eqb (get_or serials h.index 0) h.serial ∷ [])

-- its serial was not given out so far: it is 0, or not below the next one
abbrev pub never_issued : Tape → Handle → Bool
never_issued t h = eqb h.serial 0 || not (ltb h.serial t.next)

-- why a handle that is not live is refused: its serial alone sorts it
abbrev pub amiss : Tape → Handle → Refusal
amiss t h = cond (never_issued t h) NeverIssued Stale

-- what a lookup answers
abbrev pub looked_up : Tape → List ℕ → Handle → Lookup
looked_up t serials h = cond (lives t.length serials h) lookup.Live (cond (never_issued t h) lookup.NeverIssued lookup.Stale)

-- and a call that needs a live handle
abbrev pub usable_as : Tape → List ℕ → Handle → Result (Unit {0}) Refusal
usable_as t serials h = cond (lives t.length serials h) (Ok tt) (Err (amiss t h))

abbrev pub live : {N : Numbers} → Machine N → Handle → Bool
live M h = lives M.state.length M.lent.serial h

pub data Operand (N : Numbers) : Type 0 where
  plain : N.Number → Operand N
  node : Handle → Operand N

-- the code's operand
abbrev pub operand : code.Operand → Operand floats
operand (code.TheVariants.Number x) = plain x
operand (code.TheVariants.Node h) = node h

-- a plain number is its value; a handle's value is read from the tape
abbrev pub operand_value : {N : Numbers} → Machine N → Operand N → N.Number
operand_value M (plain x) = x
operand_value {N} M (node h) = get_or M.lent.value h.index N.blank

-- the adjoint behind a handle; that of a plain number is refused
abbrev pub gradient : {N : Numbers} → Machine N → Operand N → N.Number
gradient {N} M (plain x) = N.nought
gradient {N} M (node h) = get_or M.lent.adjoint h.index N.blank

-- a lookup's answer as a count
abbrev pub counted_as : Lookup → ℕ
counted_as lookup.Live = 1
counted_as lookup.Stale = 2
counted_as lookup.NeverIssued = 3

-- what is_live counts: what the lookup answers, and 0 for a plain number
abbrev pub liveness : {N : Numbers} → Machine N → Operand N → ℕ
liveness M (plain x) = 0
liveness M (node h) = counted_as (looked_up M.state M.lent.serial h)

-- the handles among some operands
abbrev pub handles : {N : Numbers} → List (Operand N) → List Handle
handles [] = []
handles (plain x ∷ os) = handles os
handles (node h ∷ os) = h ∷ handles os

-- is one of them a plain number
abbrev pub any_plain : {N : Numbers} → List (Operand N) → Bool
any_plain [] = false
any_plain (plain x ∷ os) = true
any_plain (node h ∷ os) = any_plain os
