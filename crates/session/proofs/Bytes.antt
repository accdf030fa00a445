-- A text is what `begins` and `is` say it is, and it comes apart at the first of a byte that the part before has not.
use Prim.Native.Nat.{ℕ, suc, ◌-◌}
use native.Mathlib.Omega.{arith}
use mathlib.Core.Path.{◌≡◌, refl, sym, ap, subst, ◌∙◌}
use mathlib.Core.Bool.{Bool, true, ◌&&◌, cond, and-eq-true_iff}
use mathlib.Core.List.{List, [], ◌∷◌, ◌++◌, append_assoc}
use borrow.Author.Tests.{eqb-true, ne_eqb}
use lib.Dec.{eqb}
use lib.ListN.{length, take, drop, length-append, take-append-drop}
use lib.Seq.{take_at, drop_at}
use Rattle.std.specs.Str.{bytes_eq}
use Rattle.std.proofs.lemmas.Slice.Eq.{bytes_eq-Decides}
use Rattle.tape.proofs.Tests.{by_test}
use Rattle.text.proofs.Without.{Without}
use Rattle.session.specs.Inner.{find, begins, is}

-- what `==` says of two texts
bytes_same : (xs ys : List ℕ) → bytes_eq xs ys ≡ true → xs ≡ ys
bytes_same xs ys = (bytes_eq-Decides xs ys).0

-- ---- tests: what holds of the other text holds of one that passed as it

begun : (start text : List ℕ) → begins start text ≡ true → start ++ drop (length start) text ≡ text
begun start text e = ap (λ l. l ++ drop (length start) text) (sym (bytes_same (take (length start) text) start e)) ∙ take-append-drop (length start) text

none_left : (text : List ℕ) → eqb (length text) 0 ≡ true → [] ≡ text
none_left [] e = refl
none_left (x ∷ text) e = let z = eqb-true (length (x ∷ text)) 0 e in absurd (omega arith)

module _ {A : Type 0} {x y : A} (P : List ℕ → A → Type 0) where
  by_same : (t : Bool) (other text : List ℕ) → (t ≡ true → other ≡ text) → P other x → P text y → P text (cond t x y)
  by_same t other text same f g = by_test (P text) t (λ e. subst (λ l. P l x) (same e) f) (λ e. g)

  pub by_start : (start text : List ℕ) → P (start ++ drop (length start) text) x → P text y → P text (cond (begins start text) x y)
  by_start start text = by_same (begins start text) (start ++ drop (length start) text) text (begun start text)

  pub by_word : (other text : List ℕ) → P other x → P text y → P text (cond (is other text) x y)
  by_word other text = by_same (is other text) other text (λ e. sym (bytes_same text other e))

  pub by_end : (text : List ℕ) → P [] x → P text y → P text (cond (eqb (length text) 0) x y)
  by_end text = by_same (eqb (length text) 0) [] text (none_left text)

-- a word with nothing after it
pub by_last_word : {A : Type 0} {x y : A} (P : List ℕ → List ℕ → A → Type 0) (other text rest : List ℕ) → P other [] x → P text rest y
    → P text rest (cond (is other text && eqb (length rest) 0) x y)
by_last_word {x = x} P other text rest f g = by_test (P text rest) (is other text && eqb (length rest) 0) passed (λ e. g)
  where
    passed : is other text && eqb (length rest) 0 ≡ true → P text rest x
    passed e =
        let (word, end) = (and-eq-true_iff (is other text) (eqb (length rest) 0)).0 e in
        subst (λ l. P text l x) (none_left rest end) (subst (λ l. P l [] x) (sym (bytes_same text other word)) f)

-- ---- where a text comes apart

find_after : (x : ℕ) (front rest : List ℕ) → Without x front → find x rest ≡ 0 → find x (front ++ rest) ≡ length front
find_after x [] rest w e = e
find_after x (y ∷ front) rest w e = rw (ne_eqb y x w.0) (ap suc (find_after x front rest w.1 e))

-- the part before the byte, and the part that is empty or begins with it
pub apart : {A : Type 0} (f : List ℕ → List ℕ → A) (x : ℕ) (front rest : List ℕ) → Without x front → find x rest ≡ 0
    → (let text = front ++ rest in f (take (find x text) text) (drop (find x text) text)) ≡ f front rest
apart f x front rest w e =
    let at = sym (find_after x front rest w e) in
    rw (take_at front rest (find x (front ++ rest)) at, drop_at front rest (find x (front ++ rest)) at)

-- ---- the last byte

pub last_of : (body : List ℕ) (x : ℕ) → length (body ++ (x ∷ [])) - 1 ≡ length body
last_of body x = omega (arith, length-append body (x ∷ []))

pub with_last : (text : List ℕ) (x : ℕ) → bytes_eq (drop (length text - 1) text) (x ∷ []) ≡ true → take (length text - 1) text ++ (x ∷ []) ≡ text
with_last text x e =
    let last = length text - 1 in
    ap (λ l. take last text ++ l) (sym (bytes_same (drop last text) (x ∷ []) e)) ∙ take-append-drop last text

-- ---- from the left, as texts are written, and part by part, as they are read

pub regroup : (a b c d e f : List ℕ) → a ++ b ++ c ++ d ++ e ++ f ≡ a ++ (b ++ (c ++ (d ++ (e ++ f))))
regroup a b c d e f = simp append_assoc
