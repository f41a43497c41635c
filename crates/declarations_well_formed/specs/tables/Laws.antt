-- A closed scope has a table that rules may rely on.
use Rattle.std.specs.Prelude.{◌≡◌, ◌<◌, ◌≤◌, ◌^◌, All, List, [], ◌++◌, length, Some}
use Rattle.bodies_well_formed.specs.type_layout.declared.definitions.TypeId.{TypeId}
use Rattle.bodies_well_formed.specs.type_layout.declared.definitions.TypeDef.{TypeDef}
use Rattle.bodies_well_formed.specs.type_layout.declared.layout.Layout.{Layout}
use Rattle.bodies_well_formed.specs.type_layout.Layouts.{layouts_of}
use Rattle.bodies_well_formed.specs.type_layout.Table.{AllDefined}
use Rattle.bodies_well_formed.specs.scopes.Predeclared.{type_list}
use Rattle.bodies_well_formed.specs.scopes.Lines.{fields_of}
use Rattle.bodies_well_formed.specs.scopes.Environment.{Environment}
use Rattle.bodies_well_formed.specs.rules_well_formed.virtual_slots.Laws.{IsNumbered}
use Rattle.bodies_well_formed.specs.rules_well_formed.nodes.Tables.{IsSound}
use Rattle.imported_types_agree.specs.tables_closed.constants.Bounds.{IsWellScopedEnvironment}

-- types that are defined one over another, with sizes within the limit; not too many, no line with too many fields, and methods that are
-- numbered
pub record IsFit (types : List TypeDef) : Type 0 where
  pub defined : AllDefined [] types
  pub fits : All (λ (layout : Layout). layout.size ≤ 65520) (layouts_of types)
  pub room : length types < 2 ^ 32
  pub few : (ty : TypeId) → fields_of types (Some ty) ≤ 2 ^ 32
  pub numbered : IsNumbered types

-- a table that begins with the predeclared types
abbrev pub HasPredeclared : List TypeDef → Type 0
HasPredeclared types = (rest : List TypeDef) × (types ≡ type_list ++ rest)

-- Each table keeps its types within these bounds, and no line of a source has so many fields.
abbrev pub SoundLaw : Type 0
SoundLaw = (g : Environment) → IsFit g.types.types → IsWellScopedEnvironment g → HasPredeclared g.types.types → IsSound g.types.types

-- the types that a table had before were within them too
abbrev pub FrontLaw : Type 0
FrontLaw = (front back : List TypeDef) → IsFit (front ++ back) → IsFit front
