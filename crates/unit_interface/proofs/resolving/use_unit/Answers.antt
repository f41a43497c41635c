use Rattle.std.proofs.Common.{◌≡◌, ◌∙◌, false, sym, refl}
use Rattle.std.specs.Prelude.{Some}
use Rattle.unit_interface.specs.Resolve.{is_overlay, interface_named}
use Rattle.unit_interface.specs.Fitting.{use_fits, types_fit}
use Rattle.unit_interface.proofs.FitLaws.{told-fit}
use Rattle.unit_interface.proofs.resolving.use_unit.Goals as goal

pub returns-in-Some-clause-fits : goal.returns-in-Some-clause-fits
returns-in-Some-clause-fits c =
    let other : is_overlay c.args.name.now ≡ false = sym c.is_overlay.ensures ∙ c.if-is_overlay.false in
    let found : interface_named c.args.have.now c.args.name.now ≡ Some c.in-Some.interface.now = sym c.interface_named.ensures ∙ rw c.in-Some.is refl in
    let is : use_fits c.args.have.now c.args.scope.now c.args.name.now ≡ types_fit c.args.scope.now.types c.in-Some.interface.now.types = rw (other, found) refl in
    told-fit c.args.scope.now.types c.in-Some.interface.now.types _ c.add_interface.result is c.add_interface.ensures.fits c.add_interface.ensures.cause
