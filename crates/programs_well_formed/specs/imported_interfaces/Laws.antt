-- Used units bring what is there.
use Rattle.std.specs.Prelude.{◌≡◌, ℕ, true, false, List, [], Some, slice_get}
use Rattle.units_well_formed.specs.well_formed.Scopes.{Scope}
use Rattle.units_well_formed.specs.syntax_tree.declared.identifier.Identifier.{Identifier}
use Rattle.units_well_formed.specs.scopes.Environment.{Environment}
use Rattle.units_well_formed.specs.unit_interface.declared.interfaces.Interface.{Interface}
use Rattle.units_well_formed.specs.unit_interface.Merge.{with_interface}
use Rattle.units_well_formed.specs.unit_interface.Fitting.{types_fit}
use Rattle.units_well_formed.specs.unit_interface.Resolve.{is_overlay, interface_named}
use Rattle.units_well_formed.specs.imported_types_agree.well_scoped.Scopes.{IsCompleteScope, IsWellScopedInterface}
use Rattle.units_well_formed.specs.declarations_well_formed.tables.Laws.{IsFit}
use Rattle.units_well_formed.specs.tp_check_decl.routines.Drafts.{Drafted, knowing}
use Rattle.units_well_formed.specs.units.Below.{AreKnown, further_used, IsTabled, IsRead, HasRoom}
use Rattle.units_well_formed.specs.units.Begun.{IsJoined}
use Rattle.units_well_formed.specs.units.Bringing.{Brings}
use Rattle.programs_well_formed.specs.imported_interfaces.Faithful.{IsFaithful, IsOwn}

-- into a scope that has all that it names
abbrev pub InterfaceLaw : Type 0
InterfaceLaw = (name : List ℕ) (g : Environment) (i : Interface) (s : Scope) → AreKnown g s → IsTabled g.types → IsCompleteScope g → slice_get g.units 0 ≡ Some name
    → IsWellScopedInterface i → types_fit g.types i.types ≡ true → IsFaithful name g i → IsFit (with_interface g i).types.types → Brings name g (with_interface g i) s

-- Behind an interface part it keeps what is known, where it is faithful to that.
abbrev pub FurtherLaw : Type 0
FurtherLaw = (name : List ℕ) (have : List Interface) (one : Identifier) (i : Interface) → is_overlay one.name ≡ false → interface_named have one.name ≡ Some i → IsWellScopedInterface i
    → (d : Drafted) (h : Environment) → IsRead d [] → slice_get d.scope.units 0 ≡ Some name → IsFaithful name d.scope i → (further_used have d.scope one).holds h → HasRoom (knowing d h) → IsJoined d (knowing d h)

-- So does the unit's own interface, where the unit uses itself behind its interface part.
abbrev pub OwnLaw : Type 0
OwnLaw = (name : List ℕ) (have : List Interface) (one : Identifier) (i : Interface) → is_overlay one.name ≡ false → interface_named have one.name ≡ Some i
    → (d : Drafted) (h : Environment) → IsRead d [] → slice_get d.scope.units 0 ≡ Some name → IsOwn name d i → (further_used have d.scope one).holds h → IsJoined d (knowing d h)
