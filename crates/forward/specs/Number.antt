-- The number that each struct of the code holds. Each map is one to one, so a promise about `number2 r` decides r.
use Rattle.std.specs.Prelude.{◌≡◌, Float}
use Rattle.forward.specs.Forward.{Fwd}
use Rattle.forward.specs.declared.parts.Fwd as code

-- the number of a struct whose parts hold the numbers of the order below, as `number` says
abbrev pub of_parts : {T A : Type 0} → (T → A) → code.Fwd T → A × A
of_parts number x = (number x.val, number x.dot)

-- the structs that the code calls Fwd1, Fwd2, Fwd3 and Fwd4
abbrev pub Fwd1 : Type 0
Fwd1 = code.Fwd Float

abbrev pub Fwd2 : Type 0
Fwd2 = code.Fwd Fwd1

abbrev pub Fwd3 : Type 0
Fwd3 = code.Fwd Fwd2

abbrev pub Fwd4 : Type 0
Fwd4 = code.Fwd Fwd3

abbrev pub number1 : Fwd1 → Fwd 1
number1 x = (x.val, x.dot)

abbrev pub number2 : Fwd2 → Fwd 2
number2 x = (number1 x.val, number1 x.dot)

abbrev pub number3 : Fwd3 → Fwd 3
number3 x = (number2 x.val, number2 x.dot)

abbrev pub number4 : Fwd4 → Fwd 4
number4 x = (number3 x.val, number3 x.dot)

abbrev pub OneToOne : {A B : Type 0} → (A → B) → Type 0
OneToOne {A} f = (x y : A) → f x ≡ f y → x ≡ y

-- proved in proofs/OneToOne.antt
abbrev pub NumbersOneToOne : Type 0
NumbersOneToOne = OneToOne number1 × OneToOne number2 × OneToOne number3 × OneToOne number4
