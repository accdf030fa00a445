-- Two pairs of equal parts are equal.
use mathlib.Core.Path.{◌≡◌}

pub pair : {A B : Type 0} {x u : A} {y v : B} → x ≡ u → y ≡ v → ◌≡◌ {A = A × B} (x, y) (u, v)
pair p q = cc
