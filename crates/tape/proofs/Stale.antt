-- A handle that stopped being live has a serial that was given out, and what is recorded later gets another: by cases
-- on what a step leaves.
use Prim.Native.Nat.{ℕ, ◌+◌, ◌<◌}
use native.Mathlib.Omega.{arith}
use mathlib.Core.Path.{◌≡◌, sym, ◌∙◌}
use mathlib.Core.Bool.{true, false, true≢false}
use mathlib.Core.List.{List}
use lib.ListN.{length, get_or, set}
use lib.Seq.{get_or-set_same, get_or-set_other}
use Rattle.tape.specs.Numbers.{Numbers}
use Rattle.tape.specs.Machine.{Arrays, Machine}
use Rattle.tape.specs.Handles.{live}
use Rattle.tape.specs.Answers.{Answer}
use Rattle.tape.specs.Calls.{Call}
use Rattle.tape.specs.Kept.{StaleHandles, SerialsIssued, fresh, after}
use Rattle.tape.specs.declared.node.Handle.{Handle}
use Rattle.tape.proofs.Serials.{never_fall}
use Rattle.tape.proofs.Tests.{is_false}
use Rattle.tape.proofs.Steps.{Effect, keeps, records, Lives, lives_parts, lives_so, kept, last_or_below}

-- a list below n + 1 once v is stored at n
after_set : (P : ℕ → ℕ → Type 0) (l : List ℕ) (n v : ℕ) → n < length l → P n v → ((i : ℕ) → i < n → P i (get_or l i 0)) → (i : ℕ) → i < n + 1 → P i (get_or (set l n v) i 0)
after_set P l n v h new old =
    last_or_below (λ i. P i (get_or (set l n v) i 0)) n (rw (get_or-set_same l n v 0 h) new) (λ i b. rw (get_or-set_other l n i v 0 (λ e. omega arith)) (old i b))

issued_kept : {N : Numbers} (M : Machine N) (x : Answer N × Machine N) → Effect M x → SerialsIssued M → SerialsIssued x.1
issued_kept M _ (keeps l e) is = λ i h. omega (arith, is i (omega arith))
issued_kept M _ (records v es r s) is = after_set (λ i k. k < M.state.next + 1) M.lent.serial _ _ (omega arith) (omega arith) (λ i h. omega (arith, is i h))

-- not live, its serial given out
pub record Past {N : Numbers} (h : Handle) (M : Machine N) : Type 0 where
  pub dead : Lives M.state.length M.lent.serial h → ⊥
  pub serial : h.serial < M.state.next

past_kept : {N : Numbers} (h : Handle) (M : Machine N) (x : Answer N × Machine N) → Effect M x → Past h M → Past h x.1
past_kept h M _ (keeps l e) p = record { dead = λ a. p.dead (record { below = omega arith; serial = a.serial; same = a.same }); serial = omega arith }
past_kept h M _ (records v es r s) p =
    let n = M.state.length in
    let ss = M.lent.serial in
    record {
      dead = λ a.
          let older = after_set (λ i k. k ≡ h.serial → (i < n) × (get_or ss i 0 ≡ h.serial)) ss n M.state.next (omega arith) (λ e. absurd (omega arith)) (λ i b e. (b, e)) h.index a.below a.same in
          p.dead (record { below = older.0; serial = a.serial; same = older.1 });
      serial = omega arith;
    }

pub past_dead : {N : Numbers} (h : Handle) (later : List (Call N)) (M : Machine N) → Past h M → live (after later M) h ≡ false
past_dead h later M p = is_false _ (λ t. (kept (Past h) (past_kept h) later M p).dead (lives_parts _ _ h t))

module _ {N : Numbers} (M : Machine N) (h : Handle) (is : SerialsIssued M) (was : live M h ≡ true) where
  -- its serial was given out, and still is
  given_out : (cs : List (Call N)) → h.serial < (after cs M).state.next
  given_out cs =
      let a = lives_parts _ M.lent.serial h was in
      kept (λ M'. h.serial < M'.state.next) (λ M' x e l. omega (arith, never_fall e)) cs M (omega (arith, is h.index a.below))

  never_again : (between later : List (Call N)) → live (after between M) h ≡ false → live (after later (after between M)) h ≡ false
  never_again between later stopped =
      past_dead h later (after between M) (record { dead = λ a. true≢false (sym (lives_so _ _ h a) ∙ stopped); serial = given_out between })

from_new : {N : Numbers} (A : Arrays N) (cs : List (Call N)) → SerialsIssued (after cs (fresh A))
from_new A cs = kept SerialsIssued issued_kept cs (fresh A) (λ i h. absurd (omega arith))

pub stale_handles : StaleHandles
stale_handles = record {
  never_again_from_new = λ A h before between later was. never_again (after before (fresh A)) h (from_new A before) was between later;
  from_new = from_new;
  never_again = λ M h between later is was. never_again M h is was between later;
}
