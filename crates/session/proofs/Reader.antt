-- There is one reader of lines: `back` and `only` make it the inverse of their texts, and so they do of any other.
use mathlib.Core.Path.{◌≡◌, refl, sym, ◌∙◌}
use mathlib.Core.List.{List}
use mathlib.Core.Option.{Option, none, some}
use Prim.Native.Nat.{ℕ}
use Rattle.session.specs.Lines.{Line, Reader, OneReader}
use Rattle.session.specs.Inner.{reading}
use Rattle.session.proofs.Back.{back}
use Rattle.session.proofs.Only.{only}

abbrev pub reader : Reader
reader = record { read = reading; back = back; only = only }

-- what one reads, another does
also : (R S : Reader) (bytes : List ℕ) (l : Line) → R.read bytes ≡ some l → S.read bytes ≡ some l
also R S bytes l e = let (h, same) = R.only bytes l e in rw same (S.back l h)

alone : (R S : Reader) (bytes : List ℕ) → R.read bytes ≡ S.read bytes
alone R S bytes = by_cases (R.read bytes) (S.read bytes) refl refl
  where
    by_cases : (o p : Option Line) → R.read bytes ≡ o → S.read bytes ≡ p → R.read bytes ≡ S.read bytes
    by_cases (some l) p e f = e ∙ sym (also R S bytes l e)
    by_cases none (some l) e f = also S R bytes l f ∙ sym f
    by_cases none none e f = e ∙ sym f

pub one_reader : OneReader
one_reader = record { reader = reader; alone = alone }
