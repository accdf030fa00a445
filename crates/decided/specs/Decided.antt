-- A promise decides its function's answer: nothing that a caller can see is left open.
-- Of a function `f` the checker makes `f.ended`, its signature, among the contracts, and `f.Reads.Learnt`, what its
-- `ensures` tell a caller, among the proofs. In the lists a crate, file or type alone, as `passes`, names the contracts
-- there, and `told_passes` the proofs.
use Rattle.std.specs.Prelude.{◌≡◌}
use contract.Lifetimes.{Lfts}
use denote.Triple.Entry.{Args, Res}
use denote.Triple.Clauses.{Ended, Lasts, AtExit, at_exit}

-- a claim of the lifetimes, the arguments, the answer, and the parameters at exit
abbrev pub Promise : Ended → Type 1
Promise T =
    (κs : Lfts T.signature.lifetimes) → Args T.signature κs → Res T.signature κs → AtExit T κs → Type 0

-- two answers to the same arguments that both keep the promise are the same, and so are the contents in which they
-- leave every array lent to be written.
-- `Lasts` reads those off the signature: the last contents of each `&mut`, and nothing of any other parameter
pub record Decided (T : Ended) (P : Promise T) : Type 0 where
  pub same : {κs : Lfts T.signature.lifetimes} {a : Args T.signature κs} {z z' : Res T.signature κs} {ws ws' : Lasts T κs a}
      → P κs a z (at_exit T κs a ws) → P κs a z' (at_exit T κs a ws') → (z ≡ z') × (ws ≡ ws')
