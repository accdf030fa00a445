-- What an active tape holds, as lists: the values, adjoints and edges of its nodes, and how each call that is not
-- refused changes them. By the stores of `written`, which leave what is below the length.
use Prim.Native.Nat.{ℕ, zero, suc, ◌+◌, ◌-◌, ◌≤◌, ◌<◌}
use native.Mathlib.Nat.{zero-add}
use native.Mathlib.Numerals.{add-one}
use native.Mathlib.Omega.{arith}
use mathlib.Core.Path.{◌≡◌, refl, sym, ap, ◌∙◌}
use mathlib.Core.Bool.{true}
use mathlib.Core.List.{List, [], ◌∷◌, ◌++◌, map, map-append}
use lib.ListN.{length, get_or, take, drop, length-append, length-map}
use lib.Seq.{length-take-le, take-take, take_at, drop_at, take-suc-set, get_or-set_same, get_or-set_other}
use Rattle.tape.specs.Numbers.{Numbers}
use Rattle.tape.specs.Machine.{Arrays, Machine, machine, slot, most_edges}
use Rattle.tape.specs.Walk.{Edge, edges_at, indexes}
use Rattle.tape.specs.Calls.{start, set_mark, rewind_to_mark, moved, written, with_adjoints}
use Rattle.tape.specs.declared.tape.Tape.{Tape}
use Rattle.tape.proofs.Ranges.{length_indexes, indexes_append}
use Rattle.tape.proofs.Recording.{edges_stored, edges_before}
use Rattle.tape.proofs.Steps.{Ready, last_or_below}

-- ---- lists over a range

-- two functions that agree below the end of a range
map_alike : {A : Type 0} (f g : ℕ → A) (i k : ℕ) → ((j : ℕ) → j < i + k → f j ≡ g j) → map f (indexes i k) ≡ map g (indexes i k)
map_alike f g i zero each = refl
map_alike f g i (suc k) each = rw (each i (omega arith), map_alike f g (suc i) k (λ j h. each j (omega arith)))

-- a list over a range from 0, cut in two
module _ {A : Type 0} (f : ℕ → A) (n : ℕ) (low high : List A) (e : map f (indexes 0 n) ≡ low ++ high) where
  pub whole : n ≡ length low + length high
  whole = rw (length-map, length_indexes, length-append) at (ap length e)

  both : map f (indexes 0 (length low)) ++ map f (indexes (length low) (length high)) ≡ low ++ high
  both = rw (whole, indexes_append, map-append, zero-add) at e

  first : length (map f (indexes 0 (length low))) ≡ length low
  first = rw (length-map, length_indexes)

  low_part : map f (indexes 0 (length low)) ≡ low
  low_part = sym (take_at _ _ (length low) first) ∙ ap (take (length low)) both ∙ take_at low high _ refl

  pub high_part : map f (indexes (length low) (n - length low)) ≡ high
  high_part =
      let rest : n - length low ≡ length high = omega (arith, whole) in
      rw rest (sym (drop_at (map f (indexes 0 (length low))) _ (length low) first) ∙ ap (drop (length low)) both ∙ drop_at low high _ refl)

-- ---- what is held

-- The lists stand at the nodes below the length, and the mark and the flag are as said
pub record Holds {N : Numbers} (M : Machine N) (mark : ℕ) (values adjoints : List N.Number) (edges : List (List (Edge N))) : Type 0 where
  pub active : M.state.active ≡ true
  pub marked : M.state.mark ≡ mark
  pub long : length values ≡ M.state.length
  pub as_long : length adjoints ≡ M.state.length
  pub value : take M.state.length M.lent.value ≡ values
  pub adjoint : take M.state.length M.lent.adjoint ≡ adjoints
  pub edge : map (edges_at M.lent) (indexes 0 M.state.length) ≡ edges
  -- no node counts more than its own two slots, so that what the next one writes does not change its edges
  pub few : (i : ℕ) → i < M.state.length → get_or M.lent.count i 0 ≤ most_edges

-- right after a start there is nothing
pub started : {N : Numbers} (t : Tape) (A : Arrays N) → Holds (machine (moved start t) A) 0 [] [] []
started t A = record { active = refl; marked = refl; long = refl; as_long = refl; value = refl; adjoint = refl; edge = refl; few = λ i h. absurd (omega arith) }

-- ---- one node more

module _ {N : Numbers} (M : Machine N) (v : N.Number) (es : List (Edge N)) (r : Ready M) (few : length es ≤ most_edges) where
  -- the edges of a node that was there, and of the new one
  edges_kept : (i : ℕ) → i < M.state.length → get_or M.lent.count i 0 ≤ most_edges → edges_at (written M v es).lent i ≡ edges_at M.lent i
  edges_kept i h own =
      let n = M.state.length in
      let A = M.lent in
      rw (get_or-set_other A.count n i (length es) 0 (λ e. omega arith)) (edges_before A.child A.partial (slot n) (map (λ e. e.child) es) (map (λ e. e.weight) es) (slot i) (get_or A.count i 0) (omega arith))

  edges_new : edges_at (written M v es).lent M.state.length ≡ es
  edges_new =
      let n = M.state.length in
      let A = M.lent in
      rw (get_or-set_same A.count n (length es) 0 (omega arith)) (edges_stored A.child A.partial (slot n) es (omega arith) (omega arith))

  -- and how many they are
  count_kept : (i : ℕ) → i < M.state.length → get_or M.lent.count i 0 ≤ most_edges → get_or (written M v es).lent.count i 0 ≤ most_edges
  count_kept i h own = rw (get_or-set_other M.lent.count M.state.length i (length es) 0 (λ e. omega arith)) own

  count_new : get_or (written M v es).lent.count M.state.length 0 ≤ most_edges
  count_new = rw (get_or-set_same M.lent.count M.state.length (length es) 0 (omega arith)) few

  module _ {mark : ℕ} {values adjoints : List N.Number} {edges : List (List (Edge N))} (h : Holds M mark values adjoints edges) where
    all_edges : map (edges_at (written M v es).lent) (indexes 0 (M.state.length + 1)) ≡ edges ++ (es ∷ [])
    all_edges =
        let kept = map_alike (edges_at (written M v es).lent) (edges_at M.lent) 0 M.state.length (λ i l. edges_kept i (omega arith) (h.few i (omega arith))) in
        rw (indexes_append 0 M.state.length 1, zero-add, map-append, kept, h.edge, edges_new)

    pub noted : Holds (written M v es) mark (values ++ (v ∷ [])) (adjoints ++ (N.nought ∷ [])) (edges ++ (es ∷ []))
    noted = record {
      active = h.active;
      marked = h.marked;
      long = rw length-append (omega (arith, h.long));
      as_long = rw length-append (omega (arith, h.as_long));
      value = rw (add-one, take-suc-set M.lent.value M.state.length v r.room, h.value);
      adjoint = rw (add-one, take-suc-set M.lent.adjoint M.state.length N.nought (omega arith), h.adjoint);
      edge = all_edges;
      few = last_or_below (λ i. get_or (written M v es).lent.count i 0 ≤ most_edges) M.state.length count_new (λ i l. count_kept i l (h.few i l));
    }

-- ---- the other calls

module _ {N : Numbers} (M : Machine N) {mark : ℕ} {values adjoints : List N.Number} {edges : List (List (Edge N))} (h : Holds M mark values adjoints edges) where
  -- the mark is the length
  pub mark_set : Holds (machine (moved set_mark M.state) M.lent) (length values) values adjoints edges
  mark_set = record { active = h.active; marked = sym h.long; long = h.long; as_long = h.as_long; value = h.value; adjoint = h.adjoint; edge = h.edge; few = h.few }

  -- a pass or clearing, after which the adjoints are these
  pub adjoints_set : (s : List N.Number) (news : List N.Number) → take M.state.length s ≡ news → length news ≡ length adjoints → Holds (with_adjoints M s) mark values news edges
  adjoints_set s news e l = record { active = h.active; marked = h.marked; long = h.long; as_long = l ∙ h.as_long; value = h.value; adjoint = e; edge = h.edge; few = h.few }

-- what was recorded past the mark is gone
pub rewound : {N : Numbers} (M : Machine N) (m : ℕ) (models owns adjoints : List N.Number) (low high : List (List (Edge N))) → length models ≡ m → length low ≡ m → Holds M m (models ++ owns) adjoints (low ++ high)
    → Holds (machine (moved rewind_to_mark M.state) M.lent) m models (take m adjoints) low
rewound M m models owns adjoints low high e f h =
    let n = M.state.length in
    let l : m ≤ n = omega (arith, h.long, length-append models owns) in
    record {
      active = h.active;
      marked = h.marked;
      long = e ∙ sym h.marked;
      as_long = length-take-le m adjoints (omega (arith, h.as_long)) ∙ sym h.marked;
      value = rw h.marked (sym (take-take m n _ l) ∙ ap (take m) h.value ∙ take_at models owns m e);
      adjoint = rw h.marked (sym (take-take m n _ l) ∙ ap (take m) h.adjoint);
      edge = rw (h.marked, ← f) (low_part (edges_at M.lent) n low high h.edge);
      few = λ i b. h.few i (omega (arith, h.marked));
    }
