-- A text is a word if it is as long and no byte is another: what is left of both, compared, is the whole comparison.
use Rattle.std.proofs.Common.{◌≡◌, ℕ, ◌+◌, ◌<◌, ◌≤◌, Bool, true, false, ◌&&◌, List, [], ◌∷◌, length, get_or, drop, nat_eq, add-one, arith, drop_of_length-le, drop-cons, sym, ap, ◌∙◌}
use Rattle.std.specs.Str.{bytes_eq}
use Rattle.std.proofs.lemmas.Slice.Eq.{bytes_eq-Decides}

pub record Matched (text word : List ℕ) (i : ℕ) : Type 0 where
  pub within : i ≤ length text
  pub long : length text ≡ length word
  pub whole : bytes_eq (drop i text) (drop i word) ≡ bytes_eq text word

from_here : (xs ys : List ℕ) (i : ℕ) → i < length xs → i < length ys → bytes_eq (drop i xs) (drop i ys) ≡ (nat_eq (get_or xs i 0) (get_or ys i 0) && bytes_eq (drop (i + 1) xs) (drop (i + 1) ys))
from_here xs ys i h k = rw (add-one i, drop-cons xs i 0 h, drop-cons ys i 0 k)

pub one_matched : {text word : List ℕ} {i : ℕ} → Matched text word i → i < length text → nat_eq (get_or text i 0) (get_or word i 0) ≡ true → Matched text word (i + 1)
one_matched {text} {word} {i} m h e = record {
  within = omega arith;
  long = m.long;
  whole = let f = from_here text word i h (omega (arith, m.long)) in sym (rw e at f) ∙ m.whole;
}

pub not_matched : {text word : List ℕ} {i : ℕ} → Matched text word i → i < length text → nat_eq (get_or text i 0) (get_or word i 0) ≡ false → false ≡ bytes_eq text word
not_matched {text} {word} {i} m h e = let f = from_here text word i h (omega (arith, m.long)) in sym (rw e at f) ∙ m.whole

pub all_matched : {text word : List ℕ} {i : ℕ} → Matched text word i → length text ≤ i → true ≡ bytes_eq text word
all_matched {text} {word} {i} m h =
    let none : drop i text ≡ [] = drop_of_length-le text h in
    let end : drop i word ≡ [] = drop_of_length-le word (omega (arith, m.long, h)) in
    rw (none, end) at m.whole
