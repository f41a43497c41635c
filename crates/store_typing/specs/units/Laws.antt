-- A program of one unit agrees with itself.
use Rattle.std.specs.Prelude.{◌≡◌, [], ◌∷◌, Some}
use Rattle.tp_meaning.specs.type_layout.declared.definitions.TypeId.{TypeId}
use Rattle.tp_meaning.specs.typed_tree.declared.units.Unit.{Unit as TypedUnit}
use Rattle.tp_meaning.specs.typed_tree.declared.units.Program.{Program}
use Rattle.tp_meaning.specs.Trees.{Key}
use Rattle.store_typing.specs.types.Declared.{declared}
use Rattle.store_typing.specs.types.Agreement.{IsLawful, AreConsistent}

-- the only unit of a program, in whose table no two types were declared at one place
pub record IsSingle (program : Program) (unit : TypedUnit) : Type 0 where
  pub units : program.units ≡ unit ∷ []
  pub lawful : IsLawful unit.types
  pub apart : (a b : TypeId) (key : Key) → declared unit.types a ≡ Some key → declared unit.types b ≡ Some key → a ≡ b

abbrev pub SingleUnitsAgree : Type 0
SingleUnitsAgree = (program : Program) (unit : TypedUnit) → IsSingle program unit → AreConsistent program
