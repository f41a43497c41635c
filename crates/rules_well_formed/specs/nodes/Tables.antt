-- What the rules rely on in a table of types.
use Rattle.std.specs.Prelude.{◌≡◌, ◌^◌, ◌<◌, ◌≤◌, All, List, [], ◌++◌, length, Option, Some, None}
use Rattle.well_formed.specs.type_layout.declared.definitions.TypeId.{TypeId}
use Rattle.well_formed.specs.type_layout.declared.definitions.Param.{Param}
use Rattle.well_formed.specs.type_layout.declared.definitions.Header.{Header}
use Rattle.well_formed.specs.type_layout.declared.definitions.Method.{Method}
use Rattle.well_formed.specs.type_layout.declared.definitions.TypeDef.{TypeDef}
use Rattle.well_formed.specs.type_layout.declared.definitions.TypeDef.TheVariants as type
use Rattle.well_formed.specs.type_layout.declared.layout.Layout.{Layout}
use Rattle.well_formed.specs.type_layout.Layouts.{layouts_of}
use Rattle.well_formed.specs.type_layout.Table.{AllDefined}
use Rattle.well_formed.specs.typed_tree.type_fits.Fits.{definition, IsSome}
use Rattle.call_rules.specs.scopes.Predeclared.{type_list}
use Rattle.call_rules.specs.scopes.Lines.{fields_of}
use Rattle.rules_well_formed.specs.virtual_slots.Laws.{IsNumbered}

abbrev pub IsInTable : List TypeDef → TypeId → Type 0
IsInTable types ty = IsSome (definition types ty)

-- a result, which a procedure does not have
abbrev pub IsResultIn : List TypeDef → Option TypeId → Type 0
IsResultIn types None = Unit {0}
IsResultIn types (Some ty) = IsInTable types ty

-- the types that a header names
pub record IsHeaderIn (types : List TypeDef) (header : Header) : Type 0 where
  pub params : All (λ (param : Param). IsInTable types param.ty) header.params
  pub result : IsResultIn types header.result

-- What a type names but for its parts by value: where a pointer leads to, and the types of headers.
abbrev pub NamesWithin : List TypeDef → TypeDef → Type 0
NamesWithin types (type.PointerTo target) = IsInTable types target
NamesWithin types (type.Procedural header) = IsHeaderIn types header
NamesWithin types (type.ObjectOf parent dynamic fields methods) = All (λ (method : Method). IsHeaderIn types method.header) methods
NamesWithin types _ = Unit {0}

-- A table of types whose declarations are complete: the predeclared types come first; the parts by value of each type stand before
-- it, and no size passes the limit; what else a type names is in the table too; there are fewer than 2^32 types, no line has
-- more fields, and methods and slots are numbered.
pub record IsSound (types : List TypeDef) : Type 0 where
  pub begins : (rest : List TypeDef) × (types ≡ type_list ++ rest)
  pub defined : AllDefined [] types
  pub fits : All (λ (layout : Layout). layout.size ≤ 65520) (layouts_of types)
  pub names : (ty : TypeId) (one : TypeDef) → definition types ty ≡ Some one → NamesWithin types one
  pub room : length types < 2 ^ 32
  pub few : (ty : TypeId) → fields_of types (Some ty) ≤ 2 ^ 32
  pub numbered : IsNumbered types
