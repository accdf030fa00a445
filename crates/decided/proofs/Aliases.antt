-- Each is the same map, computed.
use mathlib.Core.Path.{refl}
use Rattle.decided.specs.Aliases.{Aliases, FwdLaws, forwards}

pub aliases : Aliases
aliases = record { first = λ x. refl; second = λ x. refl; third = λ x. refl; fourth = λ x. refl }

pub fwd_laws : FwdLaws
fwd_laws t = (forwards t).laws
