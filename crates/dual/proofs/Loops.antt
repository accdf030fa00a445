-- What a loop has still to do, carried out, gives at every turn what the whole was to give.
use Prim.Native.Nat.{ℕ, zero, suc, ◌+◌, ◌-◌, ◌*◌, ◌≤◌, ◌<◌}
use native.Mathlib.Omega.{arith}
use native.Mathlib.Decide.{dec_lt}
use native.Mathlib.Numerals.{add-one}
use mathlib.Core.Path.{◌≡◌, sym, ap, subst, ◌∙◌}
use mathlib.Core.Bool.{Bool, true, ◌&&◌, and_assoc, and-eq-true_iff}
use mathlib.Core.List.{List, [], ◌∷◌, map}
use borrow.Author.Tests.{leb-true}
use lib.Dec.{ltb, leb}
use lib.Ieee.{Float, nan, binary64, add, mul}
use lib.ListN.{length, get_or, set, length-set}
use Rattle.tape.specs.Numbers.{floats}
use Rattle.tape.specs.Machine.{Arrays, slot, all, most_nodes, most_edges, lent}
use Rattle.tape.specs.Walk.{Edge, push, walk, edges_from, edges_at, indexes, visited, sound}
use Rattle.tape.proofs.Passes.{walk_cut, visited_cut}
use Rattle.tape.proofs.Ranges.{less_one, indexes_first}
use Rattle.dual.specs.Inner.{EdgeRoom, NodeRoom, Within, Walkable}
use Rattle.tape.specs.declared.nodes.Nodes.{Nodes}
use Rattle.tape.specs.declared.tape.Span.{Span}

-- a test that holds of every index of a range
here_or_later : (P : ℕ → Type 0) (i j : ℕ) → i ≤ j → P i → (suc i ≤ j → P j) → P j
here_or_later P i j l here later = either (dec_lt i j) where
  either : Dec (i < j) → P j
  either (yes m) = later m
  either (no m) = let same : i ≡ j = omega arith in subst P same here

all_at : (f : ℕ → Bool) (i k j : ℕ) → all (map f (indexes i k)) ≡ true → i ≤ j → j < i + k → f j ≡ true
all_at f i zero j e l h = absurd (omega arith)
all_at f i (suc k) j e l h =
    let both = (and-eq-true_iff (f i) (all (map f (indexes (suc i) k)))).0 e in
    here_or_later (λ j. f j ≡ true) i j l both.0 (λ m. all_at f (suc i) k j both.1 m (omega arith))

module _ (n : Nodes) where
  abbrev A : Arrays floats
  A = lent n []

  abbrev counts : List ℕ
  counts = n.count.now

  abbrev children : List ℕ
  children = n.child.now

  abbrev partials : List Float
  partials = n.partial.now

  -- the edges from slot s to end, or those that are left of them
  abbrev pub edges_between : ℕ → ℕ → List (Edge floats)
  edges_between s end = edges_from children partials s (end - s)

  pub edges_first : (s end : ℕ) → s < end → edges_between s end ≡ record { child = get_or children s 0; weight = get_or partials s nan } ∷ edges_between (s + 1) end
  edges_first s end h = rw (less_one s end h, add-one s)

  -- ---- soundness

  -- each of them goes to a node below i
  abbrev pub below_between : ℕ → ℕ → ℕ → Bool
  below_between i s end = all (map (λ e. ltb e.child i) (edges_between s end))

  below_first : (i s end : ℕ) → s < end → below_between i s end ≡ (ltb (get_or children s 0) i && below_between i (s + 1) end)
  below_first i s end h = ap (λ es. all (map (λ e. ltb e.child i) es)) (edges_first s end h)

  few_edges : (i : ℕ) → sound A i ≡ true → get_or counts i 0 ≤ most_edges
  few_edges i e = leb-true _ _ ((and-eq-true_iff (leb (get_or counts i 0) 2) _).0 e).0

  -- ---- a range of nodes

  abbrev pub sound_from : ℕ → ℕ → Bool
  sound_from i end = all (map (sound A) (indexes i (end - i)))

  sound_first : (i end : ℕ) → i < end → sound_from i end ≡ (sound A i && sound_from (i + 1) end)
  sound_first i end h = ap (λ is. all (map (sound A) is)) (indexes_first i end h)

  -- b says of the nodes before i whether they are sound, and x says it of node i
  pub sound_next : (i end : ℕ) (b x : Bool) → x ≡ sound A i → i < end → ((b && x) && sound_from (i + 1) end) ≡ (b && sound_from i end)
  sound_next i end b x e h = and_assoc b x _ ∙ ap (b &&◌) (ap (λ x. x && sound_from (i + 1) end) e ∙ sym (sound_first i end h))

  room_at : (span : Span) (i : ℕ) → Within span n → i < span.end → EdgeRoom i n
  room_at span i w h = record { small = omega (arith, w.small); count = omega (arith, w.count); child = omega (arith, w.child) }

  -- ---- a node's edges, pushed one after another

  pub record Pushing (i : ℕ) (a : Float) (first end : ℕ) (before : List Float) (s : ℕ) (now : List Float) : Type 0 where
    pub below : s ≤ end
    pub size : length now ≡ length before
    pub rest : push a (edges_between s end) now ≡ push a (edges_between first end) before
    pub sound : below_between i s end ≡ true
    pub children_held : end ≤ length children
    pub partials_held : end ≤ length partials
    pub node : i < length now
    pub small : end ≤ slot most_nodes

  module _ (i : ℕ) (a : Float) (first end : ℕ) (before : List Float) (s : ℕ) (now : List Float) (w : Pushing i a first end before s now) where
    pub pushed_one : s < end → let c = get_or children s 0 in Pushing i a first end before (s + 1) (set now c (add binary64 (get_or now c nan) (mul binary64 (get_or partials s nan) a)))
    pushed_one h =
        let c = get_or children s 0 in
        let both = (and-eq-true_iff (ltb c i) (below_between i (s + 1) end)).0 (sym (below_first i s end h) ∙ w.sound) in
        record {
          below = omega arith;
          size = length-set now c _ ∙ w.size;
          rest = sym (ap (λ es. push a es now) (edges_first s end h)) ∙ w.rest;
          sound = both.1;
          children_held = w.children_held;
          partials_held = w.partials_held;
          node = omega (arith, w.node, length-set now c (add binary64 (get_or now c nan) (mul binary64 (get_or partials s nan) a)));
          small = w.small;
        }

  -- ---- a range of nodes, walked one after another

  module _ (span : Span) (before : List Float) where
    abbrev down_from : ℕ → List Float → List Float
    down_from i s = walk span.from (map (edges_at A) (indexes span.from (i - span.from))) s

    abbrev counted_below : ℕ → ℕ
    counted_below i = visited A (indexes span.from (i - span.from))

    pub record Walking (i visits : ℕ) (now : List Float) : Type 0 where
      pub top : i ≤ span.end
      pub size : length now ≡ length before
      pub few : visits ≤ most_edges * (span.end - i)
      pub count : visits + counted_below i ≡ counted_below span.end
      pub rest : down_from i now ≡ down_from span.end before

    -- the next node can be walked
    pub next_room : (i visits : ℕ) (now : List Float) → Walkable span n before → Walking i visits now → span.from < i → NodeRoom (i - 1) n now
    next_room i visits now r w h = record {
      adjoint = omega (arith, r.adjoint, w.size, w.top);
      edges = room_at span (i - 1) r.within (omega (arith, w.top));
      partial = omega (arith, r.partial, w.top);
      sound = all_at (sound A) span.from (span.end - span.from) (i - 1) r.sound (omega arith) (omega (arith, w.top));
    }

    module _ (i visits : ℕ) (now : List Float) (w : Walking i visits now) (h : span.from < i) where
      pub walked_one : Walkable span n before → (after : List Float) → after ≡ push (get_or now (i - 1) nan) (edges_at A (i - 1)) now → length after ≡ length now → Walking (i - 1) (visits + get_or counts (i - 1) 0) after
      walked_one r after e size =
          let k = few_edges (i - 1) (next_room i visits now r w h).sound in
          let l : span.from ≤ i - 1 = omega arith in
          let m : i - 1 ≤ i = omega arith in
          let one : i - (i - 1) ≡ 1 = omega arith in
          record {
            top = omega (arith, w.top);
            size = size ∙ w.size;
            few = omega (arith, w.few, w.top);
            count = let c = visited_cut A span.from (i - 1) i l m in omega (arith, w.count, rw one at c);
            rest = ap (down_from (i - 1)) e ∙ sym (rw one at (walk_cut A span.from (i - 1) i l m now)) ∙ w.rest;
          }
