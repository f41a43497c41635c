-- The constants that a unit shows are constants where its interface comes to.
use Rattle.bodies_well_formed.specs.type_layout.Table.{Table}
use Rattle.bodies_well_formed.specs.typed_tree.declared.units.Unit.{Unit as TypedUnit}
use Rattle.imported_types_agree.specs.unit_interface.declared.interfaces.Interface.{Interface}
use Rattle.imported_types_agree.specs.unit_interface.Merge.{ids_in, with_types}
use Rattle.imported_types_agree.specs.unit_interface.Exports.{IsInterfaceOf}
use Rattle.declarations_well_formed.specs.exported_constants.Agreed.{IsPaired, IsWhole, IsKnownOf, AreConstantsIn, AreOwnConstants}

-- The constants of a unit are values of their types there, if they are in the unit's own table, and if the table knows the
-- interface's types as they are.
abbrev pub ShownConstants : Type 0
ShownConstants = (unit : TypedUnit) (i : Interface) (table : Table) (shows : IsInterfaceOf unit i) → IsPaired unit.types → IsPaired i.types → IsPaired table → IsWhole unit.types.types
    → IsKnownOf unit i shows.reached table → AreOwnConstants unit.types.types unit.items → AreConstantsIn (with_types table i.types).types (ids_in table i.types) i.items
