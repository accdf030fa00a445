-- The rule gives the number and the bytes whichever reader is asked, so with the one that there is.
use Prim.Native.Nat.{ℕ}
use mathlib.Core.Path.{◌≡◌, refl, ap}
use mathlib.Core.List.{List}
use lib.Ieee.{of_bits}
use Rattle.tape.specs.Steps.{step}
use Rattle.session.proofs.Reader.{reader}
use Rattle.decided.specs.Session.{Session}
use Rattle.decided.specs.WrongSession.{SessionTried}
use Rattle.decided.proofs.Rules.{through_with}

-- a number and the lent bytes
abbrev both : ℕ → List ℕ → ℕ × List ℕ
both x out = (x, out)

one_to_one : (x y : ℕ) (b c : List ℕ) → both x b ≡ both y c → (x ≡ y) × (b ≡ c)
one_to_one x y b c e = (ap (λ p. p.0) e, ap (λ p. p.1) e)

-- what is left of the parameters: the lent bytes, behind the session, of which nothing is
abbrev bytes : List ℕ → Unit {0} × (List ℕ × Unit {0})
bytes out = (tt, (out, tt))

pub session : Session
session = record { ingthabor_session = record { same = λ p q. through_with one_to_one bytes _ _ (p reader) (q reader) } }

pub session_tried : SessionTried
unfolding step of_bits
session_tried = refl
