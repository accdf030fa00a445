-- The refusals in order, then the header and the lines, which make the listing.
use Prim.Native.Nat.{◌≤◌}
use native.Mathlib.Omega.{arith}
use lib.ListN.{length}
use Rattle.std.proofs.lemmas.Result.{err_from_is_err_and}
use Rattle.tape.specs.Numbers.{floats}
use Rattle.tape.specs.Machine.{Machine, machine, lent}
use Rattle.tape.specs.Listing.{listing}
use Rattle.tape.specs.declared.admission.Caller.TheVariants as caller
use Rattle.tape.proofs.Tests.{Fit, fit}
use Rattle.tape.proofs.Steps.{granted_shape}
use Rattle.listing.proofs.Written.{granted, turned, too_long, both_fit, written}
use Rattle.listing.proofs.listing.list.Goals as goal

pub returns-in_err-admit : goal.returns-in_err-admit
returns-in_err-admit c =
    let p = err_from_is_err_and c.from_residual.result c.from_residual.ensures.1 in
    let M : Machine floats = machine c.args.tape (lent c.args.nodes c.args.adjoint.now) in
    rw (p.1, p.2) (turned M c.of.result c.admit.result c.admit.ensures c.of.ensures c.args.out.now _ c.in_err-admit.was)

pub returns-then-out-listing_length : goal.returns-then-out-listing_length
returns-then-out-listing_length c =
    let M : Machine floats = machine c.args.tape (lent c.args.nodes c.args.adjoint.now) in
    let k = granted M c.of.result c.admit.result c.admit.ensures c.of.ensures c.in_ok-admit.was in
    too_long M _ k (omega (arith, c.listing_length.ensures M.lent))

pub write_header-at-requires : goal.write_header-at-requires
write_header-at-requires c =
    let M : Machine floats = machine c.args.tape (lent c.args.nodes c.args.adjoint.now) in
    let room : length (listing M) ≤ length c.args.out.now = omega (arith, c.listing_length.ensures M.lent) in
    omega (arith, both_fit M c.args.out.now room)

pub write_lines-requires : goal.write_lines-requires
write_lines-requires c =
    let M : Machine floats = machine c.args.tape (lent c.args.nodes c.args.adjoint.now) in
    let k = granted M c.of.result c.admit.result c.admit.ensures c.of.ensures c.in_ok-admit.was in
    let room : length (listing M) ≤ length c.args.out.now = omega (arith, c.listing_length.ensures M.lent) in
    let f : Fit M = fit M (granted_shape caller.Listing M k) in
    record { room = omega (arith, both_fit M c.args.out.now room); within = (omega arith, omega arith) }

pub returns : goal.returns
returns c =
    let M : Machine floats = machine c.args.tape (lent c.args.nodes c.args.adjoint.now) in
    let k = granted M c.of.result c.admit.result c.admit.ensures c.of.ensures c.in_ok-admit.was in
    let room : length (listing M) ≤ length c.args.out.now = omega (arith, c.listing_length.ensures M.lent) in
    written M c.args.out.now k room c.write_header-at.ensures c.write_lines.ensures
