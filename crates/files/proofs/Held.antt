-- What holds of a session's machine, line after line: what each call carries out, and what every step keeps.
use Prim.Native.Nat.{ℕ, ◌+◌, ◌≤◌, ◌<◌}
use native.Mathlib.Omega.{arith}
use mathlib.Core.Path.{◌≡◌, refl, sym, ◌∙◌}
use mathlib.Core.Bool.{true, true≢false}
use mathlib.Core.List.{List}
use borrow.Author.Tests.{eqb-false, lt-ltb, le-ltb}
use native.Mathlib.Decide.{dec_lt}
use lib.Dec.{ltb}
use lib.ListN.{length, get_or}
use lib.Seq.{get_or-set_same, get_or-set_other}
use Rattle.tape.specs.Numbers.{floats}
use Rattle.tape.specs.Machine.{Machine, machine, capacity}
use Rattle.tape.specs.Handles.{Operand, live, operand_value}
use Rattle.tape.specs.Operations.{apply}
use Rattle.tape.specs.Walk.{Edge}
use Rattle.tape.specs.Answers.{Answer}
use Rattle.tape.specs.Calls.{Pass, set_mark, reset_mark, rewind_to_mark, rewind_to_init, moved, operate, pass, edges, written, with_adjoints, plan}
use Rattle.tape.specs.Steps.{step}
use Rattle.tape.specs.Kept.{fresh, after}
use Rattle.tape.specs.Slices.{Over}
use Rattle.tape.specs.declared.tape.Tape.{Tape}
use Rattle.tape.proofs.Passes.{Accepted, accepted, length_walked}
use Rattle.tape.proofs.Recording.{SoundNodes, sound_kept}
use Rattle.tape.proofs.Steps.{Effect, keeps, records, effect, kept, last_or_below, lives_parts, lives_so, room as has_room}
use Rattle.tape.proofs.Tests.{by_test, is_false, Fit}
use Rattle.expr.specs.Operators.{nothing}
use Rattle.revolutions.proofs.Standing.{written_alike, length_cleared}
use Rattle.session.specs.Lines.{n, Line, leaf, op, op_7, op_10, mark_set, mark_reset, rewind_mark, rewind_init, clear_adj, pass_back, pass_tomark, pass_tostart, pass_rest}
use Rattle.session.specs.Session.{standing, call, session_nodes, started}
use Rattle.files.specs.Files.{LiveBelow}

-- ---- serials

-- no node has serial 0
abbrev pub Numbered : Machine floats → Type 0
Numbered M = (i : ℕ) → i < M.state.length → get_or M.lent.serial i 0 ≡ 0 → ⊥

numbered_kept : (M : Machine floats) (x : Answer floats × Machine floats) → Effect M x → Numbered M → Numbered x.1
numbered_kept M _ (keeps l e) is = λ i h. is i (omega arith)
numbered_kept M _ (records v es r s) is =
    let n = M.state.length in
    let ss = M.lent.serial in
    last_or_below (λ i. get_or (written M v es).lent.serial i 0 ≡ 0 → ⊥) n (rw (get_or-set_same ss n M.state.next 0 (omega arith)) r.fit.state.next) (λ i b. rw (get_or-set_other ss n i M.state.next 0 (λ e. omega arith)) (is i b))

module _ (M : Machine floats) (is : Numbered M) where
  -- a handle that stands below the length is live
  pub alive : (i : ℕ) → i < M.state.length → live M (standing M i) ≡ true
  alive i h = lives_so _ M.lent.serial (standing M i) (record { below = h; serial = is i h; same = refl })

  lives_below : (i : ℕ) → live M (standing M i) ≡ ltb i M.state.length
  lives_below i = either (dec_lt i M.state.length) where
    either : Dec (i < M.state.length) → live M (standing M i) ≡ ltb i M.state.length
    either (yes l) = alive i l ∙ sym (lt-ltb i M.state.length l)
    either (no g) = is_false (live M (standing M i)) (λ t. g (lives_parts M.state.length M.lent.serial (standing M i) t).below) ∙ sym (le-ltb i M.state.length (omega arith))

pub live_below : LiveBelow
live_below A cs i = lives_below (after cs (fresh A)) (kept Numbered numbered_kept cs (fresh A) (λ i h. absurd (omega arith))) i

-- ---- a session's machine

-- its shape, after j lines
pub record Shaped (j : ℕ) (M : Machine floats) : Type 0 where
  pub fit : Fit M
  pub large : capacity M.lent ≡ session_nodes
  pub over : Over M
  pub active : M.state.active ≡ true
  pub next : M.state.next ≤ 1 + j

pub record Held (j : ℕ) (M : Machine floats) : Type 0 where
  pub shaped : Shaped j M
  pub sound : SoundNodes M
  pub numbered : Numbered M

module _ {j : ℕ} {M : Machine floats} (s : Shaped j M) where
  -- with another length and mark
  moves_so : (t : Tape) → t.length ≤ capacity M.lent → t.mark ≤ t.length → t.walk ≡ M.state.walk → t.active ≡ M.state.active → t.next ≡ M.state.next → Shaped (j + 1) (machine t M.lent)
  moves_so t l m w a e =
      let f = s.fit in
      record {
        fit = record { small = f.small; adjoint = f.adjoint; serial = f.serial; count = f.count; child = f.child; partial = f.partial; state = record { length = l; mark = m; next = rw e f.state.next; walk = rw (w, s.over) } };
        large = s.large;
        over = w ∙ s.over;
        active = a ∙ s.active;
        next = omega (arith, s.next);
      }

  -- with other adjoints, as many of them
  re_adjoined : (news : List floats.Number) → length news ≡ length M.lent.adjoint → Shaped (j + 1) (with_adjoints M news)
  re_adjoined news e =
      let f = s.fit in
      record {
        fit = record { small = f.small; adjoint = e ∙ f.adjoint; serial = f.serial; count = f.count; child = f.child; partial = f.partial; state = f.state };
        large = s.large;
        over = s.over;
        active = s.active;
        next = omega (arith, s.next);
      }

  -- with one node more
  grown : (v : floats.Number) (es : List (Edge floats)) → M.state.length < capacity M.lent → Shaped (j + 1) (written M v es)
  grown v es h =
      let f = s.fit in
      let w = written_alike M v es in
      record {
        fit = record { small = omega arith; adjoint = omega arith; serial = omega arith; count = omega arith; child = omega arith; partial = omega arith; state = record { length = omega arith; mark = omega arith; next = λ e. omega arith; walk = rw s.over } };
        large = omega (arith, s.large);
        over = s.over;
        active = s.active;
        next = omega (arith, s.next);
      }

  -- what each call carries out
  recorded : (k : ℕ) (left right : Operand floats) → let c = operate k left right nothing in Accepted c M (step c M) → Shaped (j + 1) (step c M).1
  recorded k left right a =
      let f = s.fit in
      let not_full : M.state.length ≡ capacity M.lent → ⊥ = eqb-false _ _ (rw s.active at (has_room a.passed)) in
      let row = apply k (operand_value M left) (operand_value M right) nothing in
      let At : Answer floats × Machine floats → Type 0 = λ x. Shaped (j + 1) x.1 in
      rw a.carries (by_test At M.state.active (λ _. grown row.value (edges left right row) (omega arith)) (λ e. absurd (true≢false (sym s.active ∙ e))))

  walked : (p : Pass floats) → Accepted (pass p) M (step (pass p) M) → Shaped (j + 1) (step (pass p) M).1
  walked p a = rw a.carries (re_adjoined _ (length_walked (plan p M.state) M))

  by_line : (l : Line) → Accepted (call M l) M (step (call M l) M) → Shaped (j + 1) (step (call M l) M).1
  by_line (leaf pattern) a = recorded _ _ _ a
  by_line (op k left right) a = recorded _ _ _ a
  by_line (op_7 left) a = recorded _ _ _ a
  by_line (op_10 left) a = recorded _ _ _ a
  by_line mark_set a = let f = s.fit in rw a.carries (moves_so (moved set_mark M.state) (omega arith) (omega arith) refl refl refl)
  by_line mark_reset a = let f = s.fit in rw a.carries (moves_so (moved reset_mark M.state) (omega arith) (omega arith) refl refl refl)
  by_line rewind_mark a = let f = s.fit in rw a.carries (moves_so (moved rewind_to_mark M.state) (omega arith) (omega arith) refl refl refl)
  by_line rewind_init a = let f = s.fit in rw a.carries (moves_so (moved rewind_to_init M.state) (omega arith) (omega arith) refl refl refl)
  by_line clear_adj a = let f = s.fit in rw a.carries (re_adjoined _ (length_cleared M.state.length floats.nought M.lent.adjoint (omega arith)))
  by_line (pass_back root) a = walked _ a
  by_line (pass_tomark root) a = walked _ a
  by_line (pass_tostart root) a = walked _ a
  by_line pass_rest a = walked _ a

pub held_on : (j : ℕ) (M : Machine floats) (l : Line) → (step (call M l) M).0.number ≡ 0 → Held j M → Held (j + 1) (step (call M l) M).1
held_on j M l u h =
    let e = effect (call M l) M in
    record { shaped = by_line h.shaped l (accepted (call M l) M u); sound = sound_kept M _ e h.sound; numbered = numbered_kept M _ e h.numbered }

-- right after the start
pub held_first : Held 0 started
unfolding step
held_first = record {
  shaped = record {
    fit = record { small = omega arith; adjoint = refl; serial = refl; count = refl; child = refl; partial = refl; state = record { length = omega arith; mark = omega arith; next = λ e. omega arith; walk = refl } };
    large = refl;
    over = refl;
    active = refl;
    next = omega arith;
  };
  sound = λ i h. absurd (omega arith);
  numbered = λ i h. absurd (omega arith);
}
