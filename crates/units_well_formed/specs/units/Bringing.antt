-- What a used unit brings into a scope.
use Rattle.std.specs.Prelude.{◌≡◌, ℕ, ◌≤◌, List, [], ◌++◌, length, Some, slice_get}
use Rattle.declarations_well_formed.specs.type_layout.declared.definitions.TypeId.{TypeId}
use Rattle.declarations_well_formed.specs.type_layout.declared.definitions.Method.{Method}
use Rattle.declarations_well_formed.specs.type_layout.declared.definitions.TypeDef.{TypeDef}
use Rattle.declarations_well_formed.specs.type_layout.Table.{Table}
use Rattle.declarations_well_formed.specs.typed_tree.type_fits.Fits.{definition}
use Rattle.declarations_well_formed.specs.well_formed.Scopes.{Scope}
use Rattle.declarations_well_formed.specs.scopes.Symbols.{SymbolList}
use Rattle.declarations_well_formed.specs.scopes.Environment.{Environment, with_used}
use Rattle.declarations_well_formed.specs.call_rules.method_rules.Slots.{methods_of}
use Rattle.declarations_well_formed.specs.rules_well_formed.nodes.Tables.{IsSound}
use Rattle.units_well_formed.specs.parts.Below.{IsConstantIn, IsEntry, EachOf, others_of, IsTabled}

-- the trees of a scope with other types, and what a scope tells of other units
abbrev pub with_table : Scope → Environment → Scope
with_table s h = record s { types = h.types.types; others = others_of h }

-- a method of a unit of the table that isn't the one that is read
pub record IsForeign (name : List ℕ) (table : Table) (method : Method) : Type 0 where
  pub unit : List ℕ
  pub there : slice_get table.units method.routine.unit ≡ Some unit
  pub other : unit ≡ name → ⊥

-- Further types, of units that are named, and further names, each of which is there. Nothing of it is of the unit that is read.
pub record Brings (name : List ℕ) (g h : Environment) (s : Scope) : Type 0 where
  pub names : SymbolList
  pub whole : h ≡ with_used (record g { types = h.types; units = h.units }) names
  pub types : (back : List TypeDef) × (h.types.types ≡ g.types.types ++ back)
  pub units : (back : List (List ℕ)) × (h.units ≡ g.units ++ back)
  pub table_units : (back : List (List ℕ)) × (h.types.units ≡ g.types.units ++ back)
  pub methods : (class : TypeId) (place : ℕ) (method : Method) → length g.types.types ≤ class.0 → slice_get (methods_of (definition h.types.types class)) place ≡ Some method → IsForeign name h.types method
  pub sound : IsSound h.types.types
  pub table : IsTabled h.types
  pub entries : EachOf (IsEntry (with_table s h) []) names
  pub values : EachOf (IsConstantIn h.types.types) names
