-- A used unit that comes into the scope behind an interface part keeps what is known.
use Rattle.std.proofs.Common.{◌≡◌, Bool, true, cond, [], Option, sym, subst, ap, ◌∙◌}
use Rattle.std.specs.Prelude.{◌||◌}
use Rattle.units_well_formed.specs.scopes.Environment.{Environment}
use Rattle.units_well_formed.specs.unit_interface.declared.interfaces.Interface.{Interface}
use Rattle.units_well_formed.specs.unit_interface.Merge.{with_interface}
use Rattle.units_well_formed.specs.unit_interface.Fitting.{types_fit, found_fits}
use Rattle.units_well_formed.specs.unit_interface.Resolve.{interface_named, with_found, with_overlay, with_use}
use Rattle.units_well_formed.specs.imported_types_agree.well_scoped.Scopes.{AreWellScoped, IsCompleteScope}
use Rattle.units_well_formed.specs.declarations_well_formed.constants.Laws.{StayConstants}
use Rattle.units_well_formed.specs.declarations_well_formed.tables.Laws.{IsFit}
use Rattle.units_well_formed.specs.tp_check_decl.routines.Drafts.{knowing}
use Rattle.units_well_formed.specs.units.Below.{scope_of}
use Rattle.units_well_formed.proofs.units.Below.{known_closed}
use Rattle.units_well_formed.specs.units.Begun.{IsJoined}
use Rattle.units_well_formed.proofs.units.Bringing.{brought_draft}
use Rattle.programs_well_formed.specs.imported_interfaces.Laws.{FurtherLaw}
use Rattle.programs_well_formed.proofs.imported_interfaces.Brought.{interface_brings}

pub further_keeps : AreWellScoped → StayConstants → FurtherLaw
further_keeps closing stay name have one i other found shown d h r named faithful k room =
    let g : Environment = d.scope in
    let used : with_use have g one.name ≡ with_interface g i =
    ap (λ (b : Bool). cond b (with_overlay g) (with_found g (interface_named have one.name))) other ∙ ap (λ (o : Option Interface). with_found g o) found in
    let is : h ≡ with_interface g i = k.made ∙ used in
    let fits : types_fit g.types i.types ≡ true =
    ap (λ (o : Option Interface). found_fits g o) (sym found) ∙ ap (λ (b : Bool). b || found_fits g (interface_named have one.name)) (sym other) ∙ k.asked in
    let complete : IsCompleteScope g = record { ordered = r.table.ordered; closed = known_closed g (scope_of d []) r.known r.table } in
    let fit : IsFit (with_interface g i).types.types = subst (λ (e : Environment). IsFit e.types.types) is room.types in
    let brings = interface_brings closing name g i (scope_of d []) r.known r.table complete named shown fits faithful fit in
    subst (λ (e : Environment). IsJoined d (knowing d e)) (sym is) (brought_draft stay name d (with_interface g i) r named brings)
