-- Demand 3 of files: the calls of the file are a session's, its adjoints are the long tape's by demand 3, and its model
-- is still what it was when it was recorded (`Holds`). A listing shows nothing else.
use Prim.Native.Nat.{ℕ, zero, suc, ◌+◌, ◌<◌}
use native.Mathlib.Omega.{arith}
use mathlib.Core.Path.{◌≡◌, refl, sym, ap, subst, ◌∙◌}
use mathlib.Core.Bool.{cond}
use mathlib.Core.List.{◌++◌}
use lib.ListN.{length, get_or, drop, length-map}
use lib.Seq.{get_or-take}
use Rattle.text.specs.Numerals.{bytes, hex, decimal}
use Rattle.tape.specs.Numbers.{floats}
use Rattle.tape.specs.Machine.{Arrays, Machine}
use Rattle.tape.specs.Walk.{indexes}
use Rattle.tape.specs.Listing.{header, line, lines, listing}
use Rattle.tape.specs.Steps.{run}
use Rattle.tape.specs.Kept.{fresh, after}
use Rattle.tape.specs.Passes.{Unrefused}
use Rattle.revolutions.specs.Revolutions.{Session, nodes, calls, resolve, long_tape, RunsAs}
use Rattle.revolutions.proofs.Chosen.{nothing_cut}
use Rattle.revolutions.proofs.Runs.{session_over}
use Rattle.revolutions.proofs.Sum.{demand_3}
use Rattle.revolutions.proofs.Turns.{first, models, as_many, played}
use Rattle.session.specs.Session.{zeros}
use Rattle.session.specs.Session as session
use Rattle.files.specs.Files.{left_by}
use Rattle.files.specs.Summed.{file_lines, file, model_tape, long_listing, Demand3}
use Rattle.files.proofs.Called.{all_run, session_in, its_calls, resolves, roots}
use Rattle.files.proofs.Refused.{listed_so}
use Rattle.files.proofs.Runs.{start_answers}
use Rattle.files.proofs.Texts.{file_runs}

-- ---- listings that show the same

line_alike : (A B : Arrays floats) (i : ℕ) → get_or A.value i floats.blank ≡ get_or B.value i floats.blank → get_or A.adjoint i floats.blank ≡ get_or B.adjoint i floats.blank → line A i ≡ line B i
line_alike A B i v a = λ j. bytes "node=" ++ decimal i ++ bytes " val=" ++ hex (floats.bits (v j)) ++ bytes " adj=" ++ hex (floats.bits (a j)) ++ bytes "\n"

lines_alike : (A B : Arrays floats) (i k : ℕ) → ((j : ℕ) → j < i + k → line A j ≡ line B j) → lines A (indexes i k) ≡ lines B (indexes i k)
lines_alike A B i zero each = refl
lines_alike A B i (suc k) each = λ j. each i (omega arith) j ++ lines_alike A B (suc i) k (λ j h. each j (omega arith)) j

listing_alike : (L M : Machine floats) → L.state.length ≡ M.state.length → L.state.mark ≡ M.state.mark → L.state.active ≡ M.state.active
    → ((i : ℕ) → i < L.state.length → line L.lent i ≡ line M.lent i) → listing L ≡ listing M
listing_alike L M l k a each =
    (λ j. bytes "nodes=" ++ decimal (l j) ++ bytes " mark=" ++ decimal (k j) ++ bytes " active=" ++ decimal (cond (a j) 1 0) ++ bytes "\n" ++ lines L.lent (indexes 0 (l j)))
    ∙ ap (λ ls. header M.state ++ ls) (lines_alike L.lent M.lent 0 M.state.length (λ i h. each i (omega arith)))

-- what a session of calls leaves is listed as the model, with the long tape's adjoints
lists_model : (s : Session floats) (M : Machine floats) → RunsAs s (calls s) M → listing (after (calls s) M) ≡ listing (model_tape (resolve s))
lists_model s M r =
    let L = after (calls s) M in
    let B = floats.blank in
    let held = played s M r.roots r.unrefused in
    let values : length (models s) ≡ length s.model = length-map (first s) (λ n. n.value) ∙ as_many s in
    let long : L.state.length ≡ length (models s) = sym held.long in
    let at : (i : ℕ) → i < L.state.length → get_or L.lent.value i B ≡ get_or (models s) i B = λ i h. sym (get_or-take L.state.length L.lent.value i B h) ∙ ap (λ xs. get_or xs i B) held.value in
    let summed : (i : ℕ) → i < L.state.length → get_or L.lent.adjoint i B ≡ get_or (long_tape (resolve s)) i B =
    λ i h. sym (get_or-take (length s.model) L.lent.adjoint i B (omega (arith, long, values))) ∙ ap (λ xs. get_or xs i B) (demand_3.sum_over_revolutions s (calls s) M r) in
    listing_alike L (model_tape (resolve s)) long (held.marked ∙ sym values) held.active (λ i h. line_alike L.lent (model_tape (resolve s)).lent i (at i h) (summed i h))

-- ---- a file

pub demand_3_of_files : Demand3
demand_3_of_files R s lent within past below =
    let S = session_in s in
    let (e, answers) = listed_so R (file (file_lines s)) lent below in
    let ran = all_run (file_lines s) 1 session.started (left_by R (file (file_lines s))) (sym (file_runs R (file_lines s) within) ∙ e) in
    let unrefused : Unrefused (run (calls S) (fresh zeros)).0 = subst (λ cs. Unrefused (run cs (fresh zeros)).0) (its_calls s) (start_answers, ran.0) in
    let left : left_by R (file (file_lines s)) ≡ after (calls S) (fresh zeros) = ran.1 ∙ ap (λ cs. after cs (fresh zeros)) (its_calls s) in
    let runs : RunsAs S (calls S) (fresh zeros) = record { session = nothing_cut S; unrefused = unrefused; over = session_over S (fresh zeros) start_answers; roots = roots s past } in
    let lists : listing (left_by R (file (file_lines s))) ≡ long_listing s = ap listing left ∙ lists_model S (fresh zeros) runs ∙ ap (λ d. listing (model_tape d)) (resolves s within) in
    answers ∙ ap (λ t. (length t, t ++ drop (length t) lent)) lists
