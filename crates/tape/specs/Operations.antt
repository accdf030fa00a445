-- The operations table, with no tape in it: an operation number, the values of its operands and what the host supplied
-- give a value and partials.
use Rattle.std.specs.Prelude.{ℕ, Bool, ◌||◌, cond, List, [], ◌∷◌, ltb, eqb, get_or}
use Rattle.std.proofs.Math.Option.{Option, none, some}
use Rattle.tape.specs.Numbers.{Numbers}

-- the operations' numbers, under the names that they have in the code
abbrev pub LEAF : ℕ
LEAF = 0

abbrev pub ADD : ℕ
ADD = 1

abbrev pub SUBTRACT : ℕ
SUBTRACT = 2

abbrev pub MULTIPLY : ℕ
MULTIPLY = 3

abbrev pub DIVIDE : ℕ
DIVIDE = 4

abbrev pub MAX : ℕ
MAX = 5

abbrev pub MIN : ℕ
MIN = 6

abbrev pub NEGATE : ℕ
NEGATE = 7

abbrev pub SUPPLIED_ONE : ℕ
SUPPLIED_ONE = 8

abbrev pub SUPPLIED_TWO : ℕ
SUPPLIED_TWO = 9

abbrev pub SQRT : ℕ
SQRT = 10

-- numbers from here to 255 are refused
abbrev pub UNKNOWN : ℕ
UNKNOWN = 11

-- what the host supplies for operations 8 and 9
pub record Given (N : Numbers) : Type 0 where
  pub value : N.Number
  pub left : N.Number
  pub right : N.Number

-- a row of the table; where it has no partial, the operand makes no edge
pub record Row (N : Numbers) : Type 0 where
  pub value : N.Number
  pub left : Option N.Number
  pub right : Option N.Number

abbrev pub row : {N : Numbers} → N.Number → Option N.Number → Option N.Number → Row N
row v p q = record { value = v; left = p; right = q }

-- rows 0 to 10
abbrev pub rows : {N : Numbers} → N.Number → N.Number → Given N → List (Row N)
rows {N} l r g =
    let O = N.nought in
    let I = N.one in
    let s = N.root l in
    row l none none
    ∷ row (N.plus l r) (some I) (some I)
    ∷ row (N.minus l r) (some I) (some (N.minus O I))
    ∷ row (N.times l r) (some r) (some l)
    ∷ row (N.over l r) (some (N.over I r)) (some (N.minus O (N.over l (N.times r r))))
    ∷ row (cond (N.at_most r l) l r) (some (cond (N.at_most r l) I O)) (some (cond (N.less l r) I O))
    ∷ row (cond (N.at_most l r) l r) (some (cond (N.at_most l r) I O)) (some (cond (N.less r l) I O))
    ∷ row (N.minus O l) (some (N.minus O I)) none
    ∷ row g.value (some g.left) none
    ∷ row g.value (some g.left) (some g.right)
    ∷ row s (some (N.over N.half s)) none
    ∷ []

abbrev pub as_stored : (N : Numbers) → Option N.Number → Option N.Number
as_stored N none = none
as_stored N (some p) = some (N.stored p)

-- the row of operation op, each partial as it is stored. Past the table there is no row, and a blank one stands there
abbrev pub apply : {N : Numbers} → ℕ → N.Number → N.Number → Given N → Row N
apply {N} op l r g =
    let s = get_or (rows l r g) op (row N.blank none none) in
    row s.value (as_stored N s.left) (as_stored N s.right)

abbrev pub known : ℕ → Bool
known op = ltb op UNKNOWN

-- operations 0, 7, 8 and 10 use the left operand alone
abbrev pub one_sided : ℕ → Bool
one_sided op = eqb op LEAF || eqb op NEGATE || eqb op SUPPLIED_ONE || eqb op SQRT

abbrev pub used : {A : Type 0} → ℕ → A → A → List A
used op left right = cond (one_sided op) (left ∷ []) (left ∷ right ∷ [])
