-- A struct is decided by its number if its parts are by theirs. src/parts.rt cites it for the law `one_to_one`, and a
-- law's term may name only what stands in specs/.
use Rattle.std.specs.Prelude.{◌≡◌}
use Rattle.std.proofs.Common.{ap}
use Rattle.forward.specs.Number.{OneToOne, of_parts}
use Rattle.forward.specs.declared.parts.Fwd as code

both : {T : Type 0} {a b c d : T} → a ≡ c → b ≡ d → ◌≡◌ {A = code.Fwd T} (record { val = a; dot = b }) (record { val = c; dot = d })
both p q = rw (p, q)

pub of_parts_one_to_one : {T A : Type 0} {number : T → A} → OneToOne number → OneToOne (of_parts number)
of_parts_one_to_one h x y e = both (h x.val y.val (ap (λ q. q.0) e)) (h x.dot y.dot (ap (λ q. q.1) e))
