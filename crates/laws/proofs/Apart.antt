-- Numbers with other bits are other numbers.
use Prim.Native.Nat.{ℕ}
use mathlib.Core.Path.{◌≡◌, ap, subst}
use mathlib.Core.Bool.{Bool, true, false, not, ◌&&◌}
use mathlib.Core.List.{List, [], ◌∷◌}
use lib.Dec.{T, eqb, eqb_refl, T_not}
use Rattle.forward.specs.Forward.{Fwd}
use Rattle.laws.specs.Shown.{bits, Changed}

abbrev pub same : List ℕ → List ℕ → Bool
same [] [] = true
same [] (l ∷ ls) = false
same (k ∷ ks) [] = false
same (k ∷ ks) (l ∷ ls) = eqb k l && same ks ls

both : (a b : Bool) → T a → T b → T (a && b)
both true b s t = t
both false b s t = s

same_as_itself : (ks : List ℕ) → T (same ks ks)
same_as_itself [] = tt
same_as_itself (k ∷ ks) = both (eqb k k) (same ks ks) (eqb_refl k) (same_as_itself ks)

unlike : (ks ls : List ℕ) → T (not (same ks ls)) → ks ≡ ls → ⊥
unlike ks ls t e = T_not (same ks ls) t (subst (λ l. T (same ks l)) e (same_as_itself ks))

pub changed : (n : ℕ) (x y : Fwd n) (ks ls : List ℕ) → bits n x ≡ ks → bits n y ≡ ls → T (not (same (bits n x) (bits n y))) → Changed n x y ks ls
changed n x y ks ls p q t = (p, q, λ e. unlike (bits n x) (bits n y) t (ap (bits n) e))
