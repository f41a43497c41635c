-- Methods of the types of a program are as they were declared.
use Rattle.std.proofs.Common.{◌≡◌, ℕ, List, [], ◌∷◌, Some}
use Rattle.std.specs.Prelude.{slice_get}
use Rattle.std.specs.List.{All, AllZip}
use Rattle.std.proofs.lemmas.List.Elements.{All-nil, All-cons}
use Rattle.unit_references.specs.typed_tree.declared.units.Unit as typed
use Rattle.interfaces_consistent.specs.source_graph.declared.sources.Source.{Source}
use Rattle.units_well_formed.specs.scopes.Predeclared.{first}
use Rattle.units_well_formed.specs.unit_interface.declared.interfaces.Interface.{Interface}
use Rattle.units_well_formed.specs.unit_interface.Resolve.{interface_named}
use Rattle.interfaces_consistent.specs.source_graph.source_order.Orders.{names_of}
use Rattle.shared_types_agree.specs.programs.Below.{outer_units, outer_scope, view_unit, with_nothing_else, IsUnitOf, in_order, AreInOrder}
use Rattle.shared_types_agree.proofs.programs.Below.{IsOf, IsUse, AreUses, inherited, all_inherited, new_of}
use Rattle.shared_types_agree.specs.programs.Methods.{HasDeclaredMethods}
use Rattle.shared_types_agree.proofs.programs.First.{at_each}
use Rattle.shared_types_agree.specs.method_numbers.Laws.{HaveDeclaredMethods, MethodsLaw}
use Rattle.shared_types_agree.proofs.method_numbers.Tables.{AreSo, first_so, interface_so}
use Rattle.shared_types_agree.proofs.method_numbers.Scopes.{IsSoInterface, uses_so}
use Rattle.shared_types_agree.proofs.method_numbers.Units.{outline_so, unit_so}

module _ (sources : List Source) (have : List Interface) (o : AreInOrder sources have) where
  outer_so : (s : Source) → AreUses IsSoInterface have (names_of (outer_units s)) → AreSo (outer_scope have s).types.types
  outer_so s uses = uses_so have (first s.name) (names_of (outer_units s)) uses first_so

  so_over : (place : ℕ) (s : Source) (i : Interface) → slice_get sources place ≡ Some s → interface_named have s.name ≡ Some i → AreUses IsSoInterface have (names_of (outer_units s)) → IsOf have s i → IsSoInterface i
  so_over place s i at found uses of =
      let w = of.shows.unit in
      interface_so (with_nothing_else w) i of.shows.shows (outline_so s.name s.says (outer_scope have s) s.tree w of.shows.holds (outer_so s uses))

  each_so : (name : List ℕ) → IsUse IsSoInterface have name
  each_so name other i is = inherited sources (new_of sources have o) have o.shown IsSoInterface so_over o.acyclic name other i is

  source_so : (s : Source) (unit : typed.Unit) → IsUnitOf have s unit → HaveDeclaredMethods unit.types.types
  source_so s unit is =
      let uses = all_inherited sources (new_of sources have o) have o.shown IsSoInterface so_over o.acyclic (names_of (outer_units s)) in
      let so = unit_so s.name s.says (outer_scope have s) have s.tree (view_unit unit) each_so is.typed (outer_so s uses) in
      λ number one at. at_each HasDeclaredMethods unit.types.types number one so at

units_so : (have : List Interface) → ((s : Source) (unit : typed.Unit) → IsUnitOf have s unit → HaveDeclaredMethods unit.types.types) → (ss : List Source) (us : List typed.Unit) → AllZip (IsUnitOf have) ss us
    → All (λ (unit : typed.Unit). HaveDeclaredMethods unit.types.types) us
units_so have each [] [] all = All-nil (λ (unit : typed.Unit). HaveDeclaredMethods unit.types.types)
units_so have each [] (u ∷ us) all = absurd all
units_so have each (s ∷ ss) [] all = absurd all
units_so have each (s ∷ ss) (u ∷ us) all = All-cons (λ (unit : typed.Unit). HaveDeclaredMethods unit.types.types) u us (each s u all.0) (units_so have each ss us all.1)

pub methods_declared : MethodsLaw
methods_declared held name texts sources gathers program is =
    let u = is.units in
    let o : AreInOrder sources u.have = record { held = held; name = name; texts = texts; gathers = gathers; acyclic = u.acyclic; shown = u.interfaces.shown } in
    units_so u.have (λ s unit h. source_so sources u.have o s unit h) (in_order sources) program.units u.typed
