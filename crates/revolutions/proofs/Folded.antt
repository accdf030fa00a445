-- Demand 3 on lists. Rests on the walks of `Walks`: a revolution put in behind another leaves the model the same, and
-- one that has no edge to a node of the model leaves that node alone.
use Prim.Native.Nat.{ℕ, ◌+◌, ◌-◌, ◌≤◌, ◌<◌}
use native.Mathlib.Nat.{zero-add, le_refl}
use native.Mathlib.Omega.{arith}
use mathlib.Core.Path.{◌≡◌, refl, sym, ap, ◌∙◌}
use mathlib.Core.Bool.{Bool, true, false, ◌&&◌}
use mathlib.Core.List.{List, [], ◌∷◌, ◌++◌, append-nil, append_assoc}
use lib.ListN.{length, get_or, take, drop, replicate, length-append, length-map, length-set, length-replicate, get_or-append}
use lib.Seq.{length-take-le, take_all, take-take, take-append_seam, take_at, drop_at, get_or-take, get_or-append-add, ext_get_or}
use Rattle.tape.specs.Numbers.{Numbers}
use Rattle.tape.specs.Walk.{Edge, walk}
use Rattle.tape.proofs.Passes.{walk_append}
use Rattle.tape.proofs.Passes.{length_walk}
use Rattle.revolutions.specs.Folded.{Part, seed, folded, folded_all, one_by_one, up, placed, all_seeds, at_once, OnLists}
use Rattle.revolutions.specs.Trading.{goes}
use Rattle.revolutions.proofs.Walks.{insert, take_walk, walk_insert, walk_alike, walk_aside}

-- ---- lengths

module _ {N : Numbers} where
  length_seed : (p : Part N) → length (seed p) ≡ length p.nodes
  length_seed p = simp (length-set, length-replicate)

  length_seeds : (m : ℕ) (ps : List (Part N)) → length (all_seeds ps) ≡ length (placed m ps)
  length_seeds m [] = refl
  length_seeds m (p ∷ ps) = simp (length-append, length-map, length_seeds m ps, length_seed p)

  length_folded : (p : Part N) (s : List N.Number) → length (folded p s) ≡ length s
  length_folded p s = length-take-le (length s) _ (omega (arith, length_walk (length s) p.nodes (s ++ seed p), length-append s (seed p)))

  length_all : (ps : List (Part N)) (s : List N.Number) → length (folded_all ps s) ≡ length s
  length_all [] s = refl
  length_all (p ∷ ps) s = length_all ps (folded p s) ∙ length_folded p s

  -- ---- the sum

  -- what stands past the nodes that are walked
  beyond : (i m : ℕ) (ns : List (List (Edge N))) (s t : List N.Number) → i + length ns ≤ length s → m ≤ length s → take m (walk i ns (s ++ t)) ≡ take m (walk i ns s)
  beyond i m ns s t h l = sym (take-take m (length s) _ l) ∙ ap (take m) (take_walk (length s) i ns (s ++ t) h ∙ ap (walk i ns) (take-append_seam s t))

  -- a revolution moved behind others changes the model as it does right behind the model
  moved_behind : (m : ℕ) (others nodes : List (List (Edge N))) (s put t : List N.Number) → length s ≡ m → length put ≡ length others
      → take m (walk m (others ++ up m (length others) nodes) (s ++ (put ++ t))) ≡ take m (walk m others (take m (walk m nodes (s ++ t)) ++ put))
  moved_behind m others nodes s put t e k =
      let one = walk m nodes (s ++ t) in
      let long = length-append s t in
      let first : length (take m one) ≡ m = length-take-le m one (omega (arith, length_walk m nodes (s ++ t))) in
      let all : m + length others ≡ length (take m one ++ put) = omega (arith, length-append (take m one) put) in
      let split : s ++ (put ++ t) ≡ insert m put (s ++ t) = rw (take_at s t m e, drop_at s t m e) in
      let past : walk (m + length others) (up m (length others) nodes) (insert m put (s ++ t)) ≡ take m one ++ put ++ drop m one = rw (← k, append_assoc) (walk_insert m put m nodes (s ++ t) (le_refl m) (omega arith)) in
      rw (walk_append m others, split, past) (beyond m m others (take m one ++ put) (drop m one) (omega arith) (omega arith))

  -- the revolutions behind a model of m nodes, walked to it at once
  behind_model : (m : ℕ) (ps : List (Part N)) (s : List N.Number) → length s ≡ m → take m (walk m (placed m ps) (s ++ all_seeds ps)) ≡ folded_all ps s
  behind_model m [] s e = rw append-nil (take_all m s (omega arith))
  behind_model m (p ∷ ps) s e =
      moved_behind m (placed m ps) p.nodes s (all_seeds ps) (seed p) e (length_seeds m ps)
      ∙ rw e (rw e at (behind_model m ps (folded p s) (length_folded p s ∙ e)))

  sum : (model : List (List (Edge N))) (ps : List (Part N)) → one_by_one model ps ≡ at_once model ps
  sum model ps =
      let m = length model in
      let noughts = replicate m N.nought in
      rw (walk_append 0 model, zero-add, take_walk m 0 model _ (omega arith)) (ap (walk 0 model) (sym (behind_model m ps noughts (length-replicate m _))))

-- ---- trading places

-- one of two tests fails
by_false : {P : Type 0} (a b : Bool) → (a ≡ false → P) → (b ≡ false → P) → a && b ≡ false → P
by_false true b f g e = g e
by_false false b f g e = f refl

-- what follows two lists that are as long as each other stands at the same places
past_both : {A : Type 0} (d : A) (s t u : List A) (k : ℕ) → length s ≡ length t → length s ≤ k → get_or (s ++ u) k d ≡ get_or (t ++ u) k d
past_both d s t u k e h =
    let i = k - length s in
    let at_s : length s + i ≡ k = omega arith in
    let at_t : length t + i ≡ k = omega arith in
    rw at_s at (get_or-append-add s u i d) ∙ sym (rw at_t at (get_or-append-add t u i d))

module _ {N : Numbers} where
  -- at j, a revolution adds nothing if no edge goes there
  folded_aside : (p : Part N) (s : List N.Number) (j : ℕ) → j < length s → goes j p.nodes ≡ false → get_or (folded p s) j N.blank ≡ get_or s j N.blank
  folded_aside p s j h none = rw (get_or-take (length s) (walk (length s) p.nodes (s ++ seed p)) j N.blank h, walk_aside (length s) p.nodes (s ++ seed p) j none) (get_or-append s (seed p) N.blank j h)

  -- and what it adds there does not depend on the model's other adjoints
  folded_alike : (p : Part N) (s t : List N.Number) (j : ℕ) → length s ≡ length t → j < length s → get_or s j N.blank ≡ get_or t j N.blank → get_or (folded p s) j N.blank ≡ get_or (folded p t) j N.blank
  folded_alike p s t j e h same =
      let m = length s in
      let alike : get_or (s ++ seed p) j N.blank ≡ get_or (t ++ seed p) j N.blank = get_or-append s (seed p) N.blank j h ∙ same ∙ sym (get_or-append t (seed p) N.blank j (omega arith)) in
      let long : length (s ++ seed p) ≡ length (t ++ seed p) = simp (length-append, e) in
      rw (← e, get_or-take m (walk m p.nodes (s ++ seed p)) j N.blank h, get_or-take m (walk m p.nodes (t ++ seed p)) j N.blank h) (walk_alike m p.nodes (s ++ seed p) (t ++ seed p) j long (λ k l. past_both N.blank s t (seed p) k e l) alike)

  -- one that adds nothing at j may come first or last
  passed_by : (p q : Part N) (s : List N.Number) (j : ℕ) → j < length s → goes j p.nodes ≡ false → get_or (folded q (folded p s)) j N.blank ≡ get_or (folded p (folded q s)) j N.blank
  passed_by p q s j h none =
      let after_p = length_folded p s in
      let after_q = length_folded q s in
      folded_alike q (folded p s) s j after_p (omega arith) (folded_aside p s j h none) ∙ sym (folded_aside p (folded q s) j (omega arith) none)

  -- two that go to no common node of the model
  swapped : (p q : Part N) (s : List N.Number) → ((j : ℕ) → j < length s → (goes j p.nodes && goes j q.nodes) ≡ false) → folded q (folded p s) ≡ folded p (folded q s)
  swapped p q s apart =
      let p_q : length (folded q (folded p s)) ≡ length s = length_folded q (folded p s) ∙ length_folded p s in
      let q_p : length (folded p (folded q s)) ≡ length s = length_folded p (folded q s) ∙ length_folded q s in
      ext_get_or N.blank _ _ (p_q ∙ sym q_p) (λ j l. let h : j < length s = omega arith in by_false (goes j p.nodes) (goes j q.nodes) (passed_by p q s j h) (λ none. sym (passed_by q p s j h none)) (apart j h))

  folded_append : (ps qs : List (Part N)) (s : List N.Number) → folded_all (ps ++ qs) s ≡ folded_all qs (folded_all ps s)
  folded_append [] qs s = refl
  folded_append (p ∷ ps) qs s = folded_append ps qs (folded p s)

  trade : (model : List (List (Edge N))) (before later : List (Part N)) (p q : Part N) → ((i : ℕ) → i < length model → (goes i p.nodes && goes i q.nodes) ≡ false)
      → one_by_one model (before ++ (p ∷ q ∷ later)) ≡ one_by_one model (before ++ (q ∷ p ∷ later))
  trade model before later p q apart =
      let noughts = replicate (length model) N.nought in
      let s = folded_all before noughts in
      let m : length s ≡ length model = length_all before noughts ∙ length-replicate (length model) N.nought in
      rw (folded_append before, folded_append before) (ap (λ s. walk 0 model (folded_all later s)) (swapped p q s (λ j h. apart j (omega arith))))

pub on_lists : OnLists
on_lists = record { sum = sum; trade = trade }
