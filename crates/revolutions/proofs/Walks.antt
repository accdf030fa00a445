-- Walks over lists: what they keep, and walks beside one another. Each is shown of one edge first, and then by induction
-- on the edges and on the nodes.
use Prim.Native.Nat.{ℕ, zero, suc, ◌+◌, ◌-◌, ◌≤◌, ◌<◌}
use native.Mathlib.Nat.{zero-add, suc-add, le_refl}
use native.Mathlib.Decide.{dec_lt}
use native.Mathlib.Omega.{arith}
use mathlib.Core.Path.{◌≡◌, refl, sym, ap, ◌∙◌}
use mathlib.Core.Bool.{false, cond}
use mathlib.Core.List.{List, [], ◌∷◌, ◌++◌, map}
use borrow.Author.Tests.{lt-ltb, le-ltb, eqb-false}
use lib.Dec.{ltb, eqb}
use lib.ListN.{length, get_or, set, take, drop, length-take, length-set, get_or-append}
use lib.Seq.{length-take-le, set_out, get_or-set_other, take-set-le, take-set-lt, drop-set-lt, drop-set-add, set-append_left, get_or-take, get_or-drop, get_or-append-add}
use Rattle.tape.specs.Numbers.{Numbers}
use Rattle.tape.specs.Walk.{Edge, push, walk}
use Rattle.tape.proofs.Passes.{length_walk}
use Rattle.tape.proofs.Tests.{or_false}
use Rattle.revolutions.specs.Trading.{to, goes}
use Rattle.revolutions.specs.Folded.{up}

-- ---- one place of a list

-- what one edge does: the number at c, changed by f
abbrev alter : {A : Type 0} → A → (A → A) → List A → ℕ → List A
alter d f s c = set s c (f (get_or s c d))

module _ {A : Type 0} (d : A) (f : A → A) where
  -- in the first m alone
  alter_take : (m : ℕ) (s : List A) (c : ℕ) → take m (alter d f s c) ≡ alter d f (take m s) c
  alter_take m s c = either (dec_lt c m) where
    either : Dec (c < m) → take m (alter d f s c) ≡ alter d f (take m s) c
    either (yes h) = rw (take-set-lt m s c _ h, get_or-take m s c d h)
    either (no h) =
        let past : m ≤ c = omega arith in
        take-set-le m s c _ past ∙ sym (set_out (take m s) c _ (omega (arith, length-take m s)))

  -- past the first m
  alter_drop : (m : ℕ) (s : List A) (i : ℕ) → drop m (alter d f s (m + i)) ≡ alter d f (drop m s) i
  alter_drop m s i = rw (drop-set-add, get_or-drop)

  -- in the first of two lists, and in the second
  alter_first : (s t : List A) (c : ℕ) → c < length s → alter d f (s ++ t) c ≡ alter d f s c ++ t
  alter_first s t c h = rw (get_or-append s t d c h, set-append_left s t c _ h)

  pub alter_second : (s t : List A) (i : ℕ) → alter d f (s ++ t) (length s + i) ≡ s ++ alter d f t i
  alter_second [] t i = rw zero-add
  alter_second (y ∷ s) t i = rw (suc-add, alter_second s t i)

  -- in two lists that are as long as each other and the same at j
  alter_alike : (s t : List A) (c j : ℕ) → length s ≡ length t → get_or s j d ≡ get_or t j d → get_or (alter d f s c) j d ≡ get_or (alter d f t c) j d
  alter_alike [] [] c j l e = refl
  alter_alike [] (z ∷ t) c j l e = absurd (omega arith)
  alter_alike (y ∷ s) [] c j l e = absurd (omega arith)
  alter_alike (y ∷ s) (z ∷ t) zero zero l e = ap f e
  alter_alike (y ∷ s) (z ∷ t) zero (suc j) l e = e
  alter_alike (y ∷ s) (z ∷ t) (suc c) zero l e = e
  alter_alike (y ∷ s) (z ∷ t) (suc c) (suc j) l e = alter_alike s t c j (omega arith) e

-- something put in at m
abbrev pub insert : {A : Type 0} → ℕ → List A → List A → List A
insert m put s = take m s ++ (put ++ drop m s)

-- where a place then is
abbrev raised : ℕ → ℕ → ℕ → ℕ
raised m k c = cond (ltb c m) c (c + k)

module _ {A : Type 0} (d : A) (m : ℕ) (put : List A) (s : List A) (l : m ≤ length s) where
  getD_insert : (i : ℕ) → m ≤ i → get_or (insert m put s) (i + length put) d ≡ get_or s i d
  getD_insert i h =
      let first : length (take m s) ≡ m = length-take-le m s l in
      let there : i + length put ≡ length (take m s) + (length put + (i - m)) = omega arith in
      let back : m + (i - m) ≡ i = omega arith in
      rw (there, get_or-append-add, get_or-append-add, get_or-drop, back)

  alter_insert : (f : A → A) (c : ℕ) → alter d f (insert m put s) (raised m (length put) c) ≡ insert m put (alter d f s c)
  alter_insert f c = either (dec_lt c m) where
    first : length (take m s) ≡ m
    first = length-take-le m s l

    either : Dec (c < m) → alter d f (insert m put s) (raised m (length put) c) ≡ insert m put (alter d f s c)
    either (yes h) = rw (lt-ltb c m h, alter_first d f (take m s) (put ++ drop m s) c (omega (arith, first)), alter_take d f m s c, drop-set-lt m s c (f (get_or s c d)) h)
    either (no h) =
        let past : m ≤ c = omega arith in
        let there : c + length put ≡ length (take m s) + (length put + (c - m)) = omega (arith, first) in
        let back : m + (c - m) ≡ c = omega arith in
        rw (le-ltb c m past, there, alter_second d f (take m s) (put ++ drop m s) (length put + (c - m)), alter_second d f put (drop m s) (c - m), ← alter_drop d f m s (c - m), back, take-set-le m s c (f (get_or s c d)) past)

-- ---- the first m, walked alone

module _ {N : Numbers} (m : ℕ) where
  take_push : (a : N.Number) (es : List (Edge N)) (s : List N.Number) → take m (push a es s) ≡ push a es (take m s)
  take_push a [] s = refl
  take_push a (e ∷ es) s = take_push a es _ ∙ ap (push a es) (alter_take N.blank (λ y. N.plus y (N.times e.weight a)) m s e.child)

  -- a walk of nodes below m; a child at or past m changes nothing there
  pub take_walk : (i : ℕ) (ns : List (List (Edge N))) (s : List N.Number) → i + length ns ≤ m → take m (walk i ns s) ≡ walk i ns (take m s)
  take_walk i [] s h = refl
  take_walk i (es ∷ above) s h =
      let later = walk (suc i) above s in
      let here : i < m = omega arith in
      rw (← take_walk (suc i) above s (omega arith), get_or-take m later i N.blank here) (take_push _ es later)

-- ---- a walk past something put in

-- a node's edges, k places up
abbrev pub raise : {N : Numbers} → ℕ → ℕ → List (Edge N) → List (Edge N)
raise m k es = map (λ e. record { child = raised m k e.child; weight = e.weight }) es

module _ {N : Numbers} (m : ℕ) (put : List N.Number) where
  push_insert : (a : N.Number) (es : List (Edge N)) (s : List N.Number) → m ≤ length s → push a (raise m (length put) es) (insert m put s) ≡ insert m put (push a es s)
  push_insert a [] s l = refl
  push_insert a (e ∷ es) s l =
      let f : N.Number → N.Number = λ y. N.plus y (N.times e.weight a) in
      ap (push a (raise m (length put) es)) (alter_insert N.blank m put s l f e.child) ∙ push_insert a es (alter N.blank f s e.child) (omega (arith, length-set s e.child (f (get_or s e.child N.blank))))

  pub walk_insert : (i : ℕ) (ns : List (List (Edge N))) (s : List N.Number) → m ≤ i → m ≤ length s → walk (i + length put) (up m (length put) ns) (insert m put s) ≡ insert m put (walk i ns s)
  walk_insert i [] s h l = refl
  walk_insert i (es ∷ above) s h l =
      let later = walk (suc i) above s in
      let long : m ≤ length later = omega (arith, length_walk (suc i) above s) in
      rw (← suc-add, walk_insert (suc i) above s (omega arith) l, getD_insert N.blank m put later long i h) (push_insert _ es later long)

-- ---- walks that see the same

module _ {N : Numbers} where
  push_alike : (a : N.Number) (es : List (Edge N)) (s t : List N.Number) (j : ℕ) → length s ≡ length t → get_or s j N.blank ≡ get_or t j N.blank → get_or (push a es s) j N.blank ≡ get_or (push a es t) j N.blank
  push_alike a [] s t j l e = e
  push_alike a (x ∷ es) s t j l e = push_alike a es _ _ j (length-set s _ _ ∙ l ∙ sym (length-set t _ _)) (alter_alike N.blank (λ y. N.plus y (N.times x.weight a)) s t x.child j l e)

  -- at each place that is walked and at j
  pub walk_alike : (i : ℕ) (ns : List (List (Edge N))) (s t : List N.Number) (j : ℕ) → length s ≡ length t → ((k : ℕ) → i ≤ k → get_or s k N.blank ≡ get_or t k N.blank) → get_or s j N.blank ≡ get_or t j N.blank
      → get_or (walk i ns s) j N.blank ≡ get_or (walk i ns t) j N.blank
  walk_alike i [] s t j l above e = e
  walk_alike i (es ∷ ns) s t j l above e =
      let u = walk (suc i) ns s in
      let v = walk (suc i) ns t in
      let here : get_or u i N.blank ≡ get_or v i N.blank = walk_alike (suc i) ns s t i l (λ k h. above k (omega arith)) (above i (le_refl i)) in
      let there : get_or u j N.blank ≡ get_or v j N.blank = walk_alike (suc i) ns s t j l (λ k h. above k (omega arith)) e in
      rw here (push_alike _ es u v j (length_walk _ ns s ∙ l ∙ sym (length_walk _ ns t)) there)

  -- ---- places to which no edge goes

  push_aside : (a : N.Number) (es : List (Edge N)) (s : List N.Number) (j : ℕ) → to j es ≡ false → get_or (push a es s) j N.blank ≡ get_or s j N.blank
  push_aside a [] s j h = refl
  push_aside a (x ∷ es) s j h =
      let both = or_false (eqb x.child j) (to j es) h in
      push_aside a es _ j both.1 ∙ get_or-set_other s x.child j _ N.blank (λ e. eqb-false x.child j both.0 (sym e))

  pub walk_aside : (i : ℕ) (ns : List (List (Edge N))) (s : List N.Number) (j : ℕ) → goes j ns ≡ false → get_or (walk i ns s) j N.blank ≡ get_or s j N.blank
  walk_aside i [] s j h = refl
  walk_aside i (es ∷ above) s j h =
      let both = or_false (to j es) (goes j above) h in
      push_aside _ es (walk (suc i) above s) j both.0 ∙ walk_aside (suc i) above s j both.1
