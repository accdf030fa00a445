-- Two answers that one rule gives are the same.
use mathlib.Core.Path.{◌≡◌, refl, sym, ap, ◌∙◌}

-- the rule gives the answer itself, and nothing was lent to be written
pub equal : {X U : Type 0} {x y b : X} {u : U} → x ≡ b → y ≡ b → (x ≡ y) × (u ≡ u)
equal p q = (p ∙ sym q, refl)

-- the rule gives what a one-to-one map tells of the answer
pub through : {X B U : Type 0} {f : X → B} {x y : X} {b : B} {u : U} → ((x y : X) → f x ≡ f y → x ≡ y) → f x ≡ b → f y ≡ b → (x ≡ y) × (u ≡ u)
through one_to_one p q = (one_to_one _ _ (p ∙ sym q), refl)

-- the rule gives what such a map tells of the answer and of what holds the arrays; `left` takes the lent ones out of it
pub through_with : {X Y B L : Type 0} {f : X → Y → B} {x y : X} {b : B} → ((x y : X) (u v : Y) → f x u ≡ f y v → (x ≡ y) × (u ≡ v)) → (left : Y → L) (u v : Y) → f x u ≡ b → f y v ≡ b → (x ≡ y) × (left u ≡ left v)
through_with one_to_one left u v p q = let e = one_to_one _ _ u v (p ∙ sym q) in (e.0, ap left e.1)
