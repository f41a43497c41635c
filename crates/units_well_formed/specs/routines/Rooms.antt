-- What a unit keeps within bounds, and with it each part that was read before.
use Rattle.std.specs.Prelude.{◌≡◌, ◌<◌, ◌≤◌, ◌^◌, List, ◌++◌, length}
use Rattle.declarations_well_formed.specs.type_layout.declared.definitions.TypeDef.{TypeDef}
use Rattle.declarations_well_formed.specs.typed_tree.declared.units.Global.{Global}
use Rattle.declarations_well_formed.specs.tables.Laws.{IsFit}
use Rattle.declarations_well_formed.specs.tp_check_decl.routines.Drafts.{Drafted}

-- 32 bits hold the numbers of what is declared, and the types keep their bounds
pub record HasRoom (d : Drafted) : Type 0 where
  pub routines : length d.routines < 2 ^ 32
  pub globals : length d.globals < 2 ^ 32
  pub types : IsFit d.scope.types.types

-- what declarations leave of a unit: used units as they were, each thing under its number, and further ones behind
pub record Grows (d e : Drafted) : Type 0 where
  pub units : e.scope.units ≡ d.scope.units
  pub used : e.scope.used ≡ d.scope.used
  pub types : (back : List TypeDef) × (e.scope.types.types ≡ d.scope.types.types ++ back)
  pub globals : (back : List Global) × (e.globals ≡ d.globals ++ back)
  pub routines : length d.routines ≤ length e.routines
