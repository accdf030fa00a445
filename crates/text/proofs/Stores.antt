-- Runs of stores: two that follow each other are one, and the last of a run may be made first. Where there is room, a
-- run is what a writer leaves.
use Prim.Native.Nat.{ℕ, suc, ◌+◌, ◌≤◌}
use native.Mathlib.Nat.{add-zero}
use native.Mathlib.Omega.{arith}
use mathlib.Core.Path.{◌≡◌, sym, ap, ◌∙◌}
use mathlib.Core.Bool.{true, false}
use mathlib.Core.List.{List, [], ◌∷◌, ◌++◌, append_assoc}
use borrow.Author.Tests.{le-leb, leb-true}
use lib.Dec.{leb}
use lib.ListN.{length, set, length-append}
use lib.Seq.{sets, set_comm, length-sets, sets-eq}
use Rattle.text.specs.Written.{written}
use Rattle.text.specs.Inner.{Wrote}

sets_append : (l : List ℕ) (i : ℕ) (vs ws : List ℕ) → sets (sets l i vs) (i + length vs) ws ≡ sets l i (vs ++ ws)
sets_append l i [] ws = rw add-zero
sets_append l i (v ∷ vs) ws = let e : i + suc (length vs) ≡ suc i + length vs = omega arith in rw e (sets_append (set l i v) (suc i) vs ws)

pub last_first : (l : List ℕ) (i : ℕ) (vs : List ℕ) (v : ℕ) → sets (set l (i + length vs) v) i vs ≡ sets l i (vs ++ (v ∷ []))
last_first l i [] v = rw add-zero
last_first l i (w ∷ vs) v =
    let e : i + suc (length vs) ≡ suc i + length vs = omega arith in
    rw (e, set_comm l (suc i + length vs) i v w (λ q. omega arith)) (last_first (set l i w) (suc i) vs v)

pub then : {l m n : List ℕ} {i j k : ℕ} {vs ws : List ℕ} → Wrote l i vs m j → Wrote m j ws n k → Wrote l i (vs ++ ws) n k
then {l} {m} {n} {i} {j} {k} {vs} {ws} a b = record { bytes = cc (sets_append l i vs ws); behind = omega (arith, length-append vs ws) }

pub then-two : {l m n : List ℕ} {i j k : ℕ} {us : List ℕ} → Wrote l i us m j → (vs ws : List ℕ) → Wrote m j (vs ++ ws) n k → Wrote l i (us ++ vs ++ ws) n k
then-two {us = us} a vs ws b = rw (append_assoc us vs ws) (then a b)

-- where the rest, written from here on, makes the whole
pub record Left (before : List ℕ) (at : ℕ) (whole after : List ℕ) (here : ℕ) (rest : List ℕ) : Type 0 where
  pub bytes : sets after here rest ≡ sets before at whole
  pub behind : here + length rest ≡ at + length whole

pub less_left : {l m n : List ℕ} {i j k : ℕ} {whole vs ws : List ℕ} → Left l i whole m j (vs ++ ws) → Wrote m j vs n k → Left l i whole n k ws
less_left {m = m} {j = j} {vs = vs} {ws = ws} a b = record { bytes = cc (sets_append m j vs ws); behind = omega (arith, length-append vs ws) }

pub none_left : {l m : List ℕ} {i j : ℕ} {whole : List ℕ} → Left l i whole m j [] → Wrote l i whole m j
none_left a = record { bytes = a.bytes; behind = omega arith }

-- ---- what a writer leaves

pub has_room : {before after : List ℕ} {at end : ℕ} (text : List ℕ) → leb (at + length text) (length before) ≡ true → Wrote before at text after end → (end, after) ≡ written before at text
has_room {before} {after} {at} text e w = rw (e, w.behind) (ap (λ l. (at + length text, l)) (w.bytes ∙ sets-eq text before at (leb-true _ _ e)))

pub no_room : {before : List ℕ} {at : ℕ} (text : List ℕ) → leb (at + length text) (length before) ≡ false → (at, before) ≡ written before at text
no_room text e = rw e

-- a caller that left room for the text reads the promise of a writer so
pub wrote : {before after : List ℕ} {at end : ℕ} (text : List ℕ) → at + length text ≤ length before → (end, after) ≡ written before at text → Wrote before at text after end
wrote {before} {after} {at} {end} text h e =
    let there = rw (le-leb _ _ h) at e in
    record { bytes = ap (λ p. p.1) there ∙ sym (sets-eq text before at h); behind = ap (λ p. p.0) there }

-- one writer more, with room for the whole
pub then-written : {l m n : List ℕ} {i j k : ℕ} {vs : List ℕ} → Wrote l i vs m j → (ws : List ℕ) → i + length (vs ++ ws) ≤ length l → (k, n) ≡ written m j ws → Wrote l i (vs ++ ws) n k
then-written {l} {i = i} {vs = vs} a ws h e = then a (wrote ws (omega (arith, ap length a.bytes, length-sets l i vs, length-append vs ws)) e)

pub wrote_both : {l m n : List ℕ} {i j k : ℕ} (vs ws : List ℕ) → i + length vs + length ws ≤ length l → (j, m) ≡ written l i vs → (k, n) ≡ written m j ws → Wrote l i (vs ++ ws) n k
wrote_both vs ws h d e = then-written (wrote vs (omega arith) d) ws (omega (arith, length-append vs ws)) e
