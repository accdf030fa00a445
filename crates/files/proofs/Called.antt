-- A file whose run ends is the run of a session of calls, whose handles carry the serials that stood there; and it
-- resolves as the file does, since a handle resolves by its index alone.
use Prim.Native.Nat.{ℕ, suc, ◌+◌, ◌-◌}
use native.Mathlib.Omega.{arith}
use mathlib.Core.Path.{◌≡◌, refl, sym, ap, subst, ◌∙◌}
use mathlib.Core.Bool.{Bool, true, false, cond}
use mathlib.Core.List.{List, [], ◌∷◌, ◌++◌, map}
use borrow.Author.Tests.{eqb-true, ne_eqb}
use lib.Dec.{eqb}
use lib.ListN.{length, get_or}
use Rattle.tape.specs.Numbers.{floats}
use Rattle.tape.specs.Machine.{Machine}
use Rattle.tape.specs.Handles.{Operand, plain}
use Rattle.tape.specs.Operations.{LEAF, NEGATE, SQRT, one_sided}
use Rattle.tape.specs.Answers.{Answer}
use Rattle.tape.specs.Calls.{Call, move, start, set_mark, rewind_to_mark, operate, clear, pass, propagate_mark_to_start}
use Rattle.tape.specs.Steps.{step, run}
use Rattle.tape.specs.Kept.{after}
use Rattle.tape.specs.Passes.{Unrefused}
use Rattle.expr.specs.Operators.{unused, nothing}
use Rattle.revolutions.specs.Revolutions.{Operation, Revolution, Session, recordings, revolution_calls, calls, resolve}
use Rattle.revolutions.specs.Revolutions as resolved_by
use Rattle.session.specs.Lines.{n, c, Line, mark_set, rewind_mark, clear_adj, pass_tomark, pass_rest, Within}
use Rattle.session.specs.Lines as line
use Rattle.session.specs.Session.{number_of, operand, call, run_line, ended, stopped, started}
use Rattle.files.specs.Summed.{Recording, leaf, op, op_7, op_10, as_line, FileRevolution, FileSession, revolution_lines, file_lines, AllWithin, AtOrPast, resolve_operand, resolve_line, resolve_revolution, resolve_file}
use Rattle.files.proofs.Runs.{stepped}
use Rattle.files.proofs.Texts.{run_all}

-- ---- lines that are read and run, one after the other

-- the call of each, made on the machine as the one before left it
abbrev pub calls_in : List Line → Machine floats → List (Call floats)
calls_in [] M = []
calls_in (l ∷ ls) M = call M l ∷ calls_in ls (step (call M l) M).1

calls_append : (ls ks : List Line) (M : Machine floats) → calls_in (ls ++ ks) M ≡ calls_in ls M ++ calls_in ks (after (calls_in ls M) M)
calls_append [] ks M = refl
calls_append (l ∷ ls) ks M = ap (λ cs. call M l ∷ cs) (calls_append ls ks (step (call M l) M).1)

within_parts : (ls ks : List Line) → AllWithin (ls ++ ks) → AllWithin ls × AllWithin ks
within_parts [] ks w = (tt, w)
within_parts (l ∷ ls) ks (w, ws) = let both = within_parts ls ks ws in ((w, both.0), both.1)

-- a run of lines that ends is the run of these calls
pub all_run : (ls : List Line) (k : ℕ) (M L : Machine floats) → run_all k ls M ≡ ended L → Unrefused (run (calls_in ls M) M).0 × (L ≡ after (calls_in ls M) M)
all_run [] k M L e = let same : M ≡ L = cc in (tt, sym same)
all_run (l ∷ ls) k M L e = by_number (λ K. all_run ls (k + 1) K L) (run_line l M) refl (eqb (run_line l M).0.number 0) refl e where
  by_number : ((K : Machine floats) → run_all (k + 1) ls K ≡ ended L → Unrefused (run (calls_in ls K) K).0 × (L ≡ after (calls_in ls K) K)) → (x : Answer floats × Machine floats) → run_line l M ≡ x → (b : Bool) → eqb x.0.number 0 ≡ b
      → cond b (run_all (k + 1) ls x.1) (stopped x.0.number k) ≡ ended L → Unrefused (run (calls_in (l ∷ ls) M) M).0 × (L ≡ after (calls_in (l ∷ ls) M) M)
  by_number rest x same true b f =
      let u : x.0.number ≡ 0 = eqb-true _ _ b in
      let so : x ≡ step (call M l) M = sym same ∙ (stepped l M (rw same u)).1 in
      let more = rest (step (call M l) M).1 (subst (λ y. run_all (k + 1) ls y.1 ≡ ended L) so f) in
      ((subst (λ y. y.0.number ≡ 0) so u, more.0), more.1)
  by_number rest x same false b f = let z : ◌≡◌ {A = ℕ} 0 1 = cc in absurd (omega arith)

-- ---- lines that record

abbrev operation : ℕ → Operand floats → Operand floats → Operation floats
operation k left right = record { operation = k; left = left; right = right; supplied = nothing }

abbrev operation_in : Machine floats → Recording → Operation floats
operation_in M (leaf pattern) = operation LEAF (plain (number_of pattern)) unused
operation_in M (op k left right) = operation k (operand M left) (operand M right)
operation_in M (op_7 left) = operation NEGATE (operand M left) unused
operation_in M (op_10 left) = operation SQRT (operand M left) unused

abbrev operations_in : List Recording → Machine floats → List (Operation floats)
operations_in [] M = []
operations_in (l ∷ ls) M = operation_in M l ∷ operations_in ls (step (call M (as_line l)) M).1

its_call : (l : Recording) (M : Machine floats) → let o = operation_in M l in call M (as_line l) ≡ operate o.operation o.left o.right o.supplied
its_call (leaf pattern) M = refl
its_call (op k left right) M = refl
its_call (op_7 left) M = refl
its_call (op_10 left) M = refl

recorded_calls : (ls : List Recording) (M : Machine floats) → calls_in (map as_line ls) M ≡ recordings (operations_in ls M)
recorded_calls [] M = refl
recorded_calls (l ∷ ls) M = λ i. its_call l M i ∷ recorded_calls ls (step (call M (as_line l)) M).1 i

as_many : (ls : List Recording) (M : Machine floats) → length (operations_in ls M) ≡ length ls
as_many [] M = refl
as_many (l ∷ ls) M = ap suc (as_many ls (step (call M (as_line l)) M).1)

module _ (m : ℕ) where
  operand_resolves : (x : line.Operand) (M : Machine floats) → resolved_by.resolve_operand m (operand M x) ≡ resolve_operand m x
  operand_resolves (n index) M = refl
  operand_resolves (c pattern) M = refl

  line_resolves : (l : Recording) (M : Machine floats) → Within (as_line l) → resolved_by.resolve_operation m (operation_in M l) ≡ resolve_line m l
  line_resolves (leaf pattern) M w = refl
  line_resolves (op k left right) M (least, most, _, _) =
      let both : one_sided k ≡ false = rw (ne_eqb k 0 (λ e. omega arith), ne_eqb k 7 (λ e. omega arith), ne_eqb k 8 (λ e. omega arith), ne_eqb k 10 (λ e. omega arith)) in
      rw (both, operand_resolves left M, operand_resolves right M)
  line_resolves (op_7 left) M w = rw (operand_resolves left M)
  line_resolves (op_10 left) M w = rw (operand_resolves left M)

  lines_resolve : (ls : List Recording) (M : Machine floats) → AllWithin (map as_line ls) → map (resolved_by.resolve_operation m) (operations_in ls M) ≡ map (resolve_line m) ls
  lines_resolve [] M w = refl
  lines_resolve (l ∷ ls) M (w, ws) = λ i. line_resolves l M w i ∷ lines_resolve ls (step (call M (as_line l)) M).1 ws i

-- ---- revolutions

-- the machine behind the recording, and behind the rewind
abbrev turned : FileRevolution → Machine floats → Machine floats
turned r M = after (calls_in (map as_line r.operations) M) M

abbrev rewound : FileRevolution → Machine floats → Machine floats
rewound r M = let L = turned r M in (step (move rewind_to_mark) (step (call L (pass_tomark r.root)) L).1).1

abbrev revolution_in : FileRevolution → Machine floats → Revolution floats
revolution_in r M = record { operations = operations_in r.operations M; root = record { index = r.root; serial = get_or (turned r M).lent.serial r.root 0 } }

abbrev revolutions_in : List FileRevolution → Machine floats → List (Revolution floats)
revolutions_in [] M = []
revolutions_in (r ∷ rs) M = revolution_in r M ∷ revolutions_in rs (rewound r M)

turned_calls : (rs : List FileRevolution) (M : Machine floats) → calls_in (revolution_lines rs) M ≡ revolution_calls (revolutions_in rs M)
turned_calls [] M = refl
turned_calls (r ∷ rs) M =
    calls_append (map as_line r.operations) (pass_tomark r.root ∷ rewind_mark ∷ revolution_lines rs) M
    ∙ (λ i. recorded_calls r.operations M i ++ (call (turned r M) (pass_tomark r.root) ∷ move rewind_to_mark ∷ turned_calls rs (rewound r M) i))

turns_resolve : (m : ℕ) (rs : List FileRevolution) (M : Machine floats) → AllWithin (revolution_lines rs) → map (resolved_by.resolve_revolution m) (revolutions_in rs M) ≡ map (resolve_revolution m) rs
turns_resolve m [] M w = refl
turns_resolve m (r ∷ rs) M w =
    let (first, (_, (_, rest))) = within_parts (map as_line r.operations) (pass_tomark r.root ∷ rewind_mark ∷ revolution_lines rs) w in
    λ i. record { operations = lines_resolve m r.operations M first i; root = r.root - m } ∷ turns_resolve m rs (rewound r M) rest i

at_or_past : (m : ℕ) (rs : List FileRevolution) (M : Machine floats) → AtOrPast m rs → resolved_by.AtOrPast m (revolutions_in rs M)
at_or_past m [] M p = tt
at_or_past m (r ∷ rs) M (p, ps) = (p, at_or_past m rs (rewound r M) ps)

-- ---- the session

module _ (s : FileSession) where
  -- the machine behind the model, with the mark set and the adjoints cleared
  abbrev modelled : Machine floats
  modelled = (step clear (step (move set_mark) (after (calls_in (map as_line s.model) started) started)).1).1

  abbrev pub session_in : Session floats
  session_in = record { model = operations_in s.model started; revolutions = revolutions_in s.revolutions modelled }

  pub its_calls : move start ∷ calls_in (file_lines s) started ≡ calls session_in
  its_calls =
      let rest = revolution_lines s.revolutions ++ (pass_rest ∷ []) in
      let tail : calls_in rest modelled ≡ revolution_calls (revolutions_in s.revolutions modelled) ++ (pass propagate_mark_to_start ∷ []) =
      calls_append (revolution_lines s.revolutions) (pass_rest ∷ []) modelled ∙ ap (λ cs. cs ++ (pass propagate_mark_to_start ∷ [])) (turned_calls s.revolutions modelled) in
      ap (λ cs. move start ∷ cs) (calls_append (map as_line s.model) (mark_set ∷ clear_adj ∷ rest) started ∙ (λ i. recorded_calls s.model started i ++ (move set_mark ∷ clear ∷ tail i)))

  pub as_long : length session_in.model ≡ length s.model
  as_long = as_many s.model started

  pub resolves : AllWithin (file_lines s) → resolve session_in ≡ resolve_file s
  resolves w =
      let (model, (_, (_, rest))) = within_parts (map as_line s.model) (mark_set ∷ clear_adj ∷ revolution_lines s.revolutions ++ (pass_rest ∷ [])) w in
      let turns = (within_parts (revolution_lines s.revolutions) (pass_rest ∷ []) rest).0 in
      rw as_long (λ i. record { model = lines_resolve 0 s.model started model i; revolutions = turns_resolve (length s.model) s.revolutions modelled turns i })

  pub roots : AtOrPast (length s.model) s.revolutions → resolved_by.AtOrPast (length session_in.model) session_in.revolutions
  roots p = rw as_long (at_or_past (length s.model) s.revolutions modelled p)
