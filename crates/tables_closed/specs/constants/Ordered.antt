-- Tables in which each type stands behind its parts.
use Rattle.std.specs.Prelude.{◌≡◌, ℕ, ◌<◌, ◌≤◌, All, List, [], ◌++◌, length}
use Rattle.tp_check_decl.specs.type_layout.declared.definitions.TypeDef.{TypeDef}
use Rattle.tp_check_decl.specs.type_layout.declared.definitions.Origin.{Origin}
use Rattle.tp_check_decl.specs.type_layout.declared.layout.Layout.{Layout}
use Rattle.tp_check_decl.specs.type_layout.Layouts.{layouts_of}
use Rattle.tp_check_decl.specs.type_layout.Table.{Table, AllDefined}
use Rattle.tp_check_decl.specs.scopes.Predeclared.{type_list}

-- The predeclared types come first. The parts by value of each type stand before it, and no size passes the limit; beside it stands
-- its origin, in a unit of the table.
pub record IsOrdered (table : Table) : Type 0 where
  pub begins : (rest : List TypeDef) × (table.types ≡ type_list ++ rest)
  pub defined : AllDefined [] table.types
  pub fits : All (λ (layout : Layout). layout.size ≤ 65520) (layouts_of table.types)
  pub paired : length table.origins ≡ length table.types
  pub known : All (λ (origin : Origin). origin.unit < length table.units) table.origins
