-- That the answer is the nearest double decides it: the equation beside it is not needed.
use mathlib.Core.Path.{refl}
use Rattle.root.proofs.Only.{only}
use Rattle.decided.specs.Root.{Root}

pub root : Root
root = record { sqrt = record { same = λ {κs} {a} {z} {z'} p q. (only a.0 z z' p.0 q.0, refl) } }
