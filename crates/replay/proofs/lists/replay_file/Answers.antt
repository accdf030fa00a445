-- `replay_file` lends its whole array: so long a list is counted by a lemma, not by computing it.
use Rattle.std.proofs.Common.{ℕ, sym}
use Rattle.std.proofs.lemmas.List.{length-replicate}
use Rattle.replay.proofs.lists.replay_file.Goals as goal

pub slice_bounds-replay_all-end : goal.slice_bounds-replay_all-end
slice_bounds-replay_all-end g c = sym (length-replicate {0} {A = ℕ} 2097152 0)
