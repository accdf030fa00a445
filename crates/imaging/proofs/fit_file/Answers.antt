-- `fit_file` lends its whole array: so long a list is counted by a lemma, not by computing it.
use Rattle.std.proofs.Common.{ℕ, sym}
use Rattle.std.proofs.lemmas.List.{length-replicate}
use Rattle.imaging.proofs.fit_file.Goals as goal

pub slice_bounds-fit_in-end : goal.slice_bounds-fit_in-end
slice_bounds-fit_in-end g c = sym (length-replicate {0} {A = ℕ} 524288 0)
