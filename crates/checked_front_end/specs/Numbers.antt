-- What 32 bits must hold the numbers of.
use Rattle.std.specs.Prelude.{ℕ, ◌+◌, ◌<◌, ◌≤◌, ◌^◌, All, List, Some, length, sum_by}
use Rattle.type_layout.specs.declared.definitions.TypeDef.{TypeDef}
use Rattle.typed_tree.specs.declared.units.Unit.{Unit}
use Rattle.scopes.specs.Members.{own_fields}
use Rattle.tp_check_decl.specs.call_rules.method_rules.Slots.{methods_of}
use Rattle.source_graph.specs.declared.sources.Source.{Source}
use Rattle.front_end.specs.declared.program.TypedSources.{TypedSources}
use Rattle.token_provenance.specs.sources.Variables.{HasFewVariables}
use Rattle.programs_well_typed.specs.programs.Below as sound
use Rattle.programs_well_typed.specs.programs.Below.{IsRoomy, HaveDeclaredMethods}

-- how many fields and methods a type declares itself
abbrev pub own_members : TypeDef → ℕ
own_members one = own_fields (Some one) + length (methods_of (Some one))

-- how many the types of a table declare, each its own
abbrev pub members_declared : List TypeDef → ℕ
members_declared types = sum_by own_members types

-- 32 bits hold the numbers of its routines, of its variables, of the units that it names, and of the fields and methods of all its types;
-- and no routine has more variables than are numbered
pub record HasRoom (unit : Unit) : Type 0 where
  pub routines : length unit.routines < 2 ^ 32
  pub globals : length unit.globals < 2 ^ 32
  pub names : length unit.names < 2 ^ 32
  pub members : members_declared unit.types.types ≤ 2 ^ 32
  pub variables : All sound.HasFewVariables unit.routines

-- so the unit is roomy, where its types have methods as they were declared
abbrev pub IsRoomyThen : Unit → Type 0
IsRoomyThen unit = HaveDeclaredMethods unit.types.types → IsRoomy unit

-- No block of the sources declares more variables than are numbered, and no unit more than 32 bits hold the numbers of.
pub record IsNumbered (found : TypedSources) : Type 0 where
  pub sources : All (λ (source : Source). HasFewVariables source.tree) found.sources.items
  pub units : All HasRoom found.program.units
