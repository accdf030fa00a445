-- A writer's answer and the bytes that it leaves are the rule's, and so is what a reader answers.
use Prim.Native.Nat.{ℕ}
use mathlib.Core.Path.{◌≡◌, refl, ap}
use mathlib.Core.List.{List}
use Rattle.decided.specs.Text.{Text}
use Rattle.decided.specs.WrongText.{TextTried}
use Rattle.decided.proofs.Rules.{equal, through_with}

-- what a writer's promise says of the place and the bytes
abbrev says : ℕ → List ℕ → ℕ × List ℕ
says end out = (end, out)

both_one_to_one : (x y : ℕ) (b c : List ℕ) → says x b ≡ says y c → (x ≡ y) × (b ≡ c)
both_one_to_one x y b c e = (ap (λ p. p.0) e, ap (λ p. p.1) e)

-- what is left of a writer's parameters: the bytes, in front of the others, of which nothing is
abbrev before_two : List ℕ → List ℕ × (Unit {0} × (Unit {0} × Unit {0}))
before_two out = (out, (tt, (tt, tt)))

abbrev before_three : List ℕ → List ℕ × (Unit {0} × (Unit {0} × (Unit {0} × Unit {0})))
before_three out = (out, (tt, (tt, (tt, tt))))

pub text : Text
text = record {
  write_text = record { same = through_with both_one_to_one before_two _ _ };
  write_hex = record { same = through_with both_one_to_one before_two _ _ };
  write_decimal = record { same = through_with both_one_to_one before_two _ _ };
  write_digits = record { same = through_with both_one_to_one before_three _ _ };
  decimal_length = record { same = equal };
  read_hex = record { same = equal };
  read_hex_start = record { same = equal };
  read_digits = record { same = equal };
  read_decimal = record { same = equal };
}

-- no wrong answer is the rule's: both are computed
pub text_tried : TextTried
text_tried = refl
