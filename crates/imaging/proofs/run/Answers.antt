-- No more files were fitted than there are arguments before the word `--slice`.
use Rattle.std.proofs.Common.{◌≡◌, ℕ, ◌+◌, ◌-◌, ◌≤◌, Option, Some, unwrap_or, ap, ◌∙◌, arith}
use Rattle.imaging.proofs.run.Goals as goal

few : {found : Option ℕ} {slice end none now : ℕ} (first count : ℕ) → found ≡ Some slice → end ≡ unwrap_or found count → none ≡ 0 → now ≡ none + (end - first) → now ≤ slice
few {found} {slice} {end} {none} {now} first count e f z h =
    let g : end ≡ slice = f ∙ ap (λ o. unwrap_or o count) e in
    omega arith

pub fit_in_slices-requires : goal.fit_in_slices-requires
fit_in_slices-requires g c =
    (few _ _ c.in-Some.is c.unwrap_or.ensures c.new.ensures c.fit_all.ensures, c.in-Some.ensures)
