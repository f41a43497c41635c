-- What the names of a scope mean is there, and what a part of declarations adds is there too.
use Rattle.std.specs.Prelude.{◌≡◌, ◌⊎◌, All, List, [], ◌++◌, ℕ}
use Rattle.bodies_well_formed.specs.type_layout.declared.definitions.TypeId.{TypeId}
use Rattle.bodies_well_formed.specs.type_layout.declared.definitions.TypeDef.{TypeDef}
use Rattle.bodies_well_formed.specs.typed_tree.declared.units.Global.{Global}
use Rattle.bodies_well_formed.specs.scopes.declared.entries.Entry.{Entry}
use Rattle.bodies_well_formed.specs.scopes.declared.entries.Entry.TheVariants as entry
use Rattle.bodies_well_formed.specs.scopes.Symbols.{SymbolList}
use Rattle.bodies_well_formed.specs.scopes.Environment.{Environment}
use Rattle.imported_types_agree.specs.declaration_checker.declared.declarations.homes.Home.{Home}
use Rattle.imported_types_agree.specs.declaration_checker.declarations.Progress.{Progress}
use Rattle.bodies_well_formed.specs.rules_well_formed.nodes.Tables.{IsInTable, IsSound}
use Rattle.imported_types_agree.specs.tables_closed.constants.Bounds.{IsWellScopedEnvironment}
use Rattle.bodies_well_formed.specs.other_units.Known.{EachOf, EachIn}
use Rattle.declarations_well_formed.specs.constants.Whole.{IsConstantOf}
use Rattle.declarations_well_formed.specs.names.Declaring.{typing, with_names}
use Rattle.declarations_well_formed.specs.parts.Declaring.{IsGlobalOf, IsOwnOf}

-- ---- constants

-- a name that means a constant means a value of its type
abbrev pub IsConstantIn : List TypeDef → Entry → Type 0
IsConstantIn types (entry.Const ty v) = IsConstantOf types ty v
IsConstantIn types _ = Unit {0}

-- those that are predeclared, those of used units, and those of each open block
pub record HasValues (g : Environment) : Type 0 where
  pub predeclared : EachOf (IsConstantIn g.types.types) g.predeclared
  pub used : All (EachOf (IsConstantIn g.types.types)) g.used
  pub blocks : EachIn (λ (around : List ℕ) (one : Entry). IsConstantIn g.types.types one) [] g.blocks

-- ---- what is added

-- a type of the table; a constant; or a variable with such a type, of the unit or of the routine
abbrev pub IsGivenIn : Home → Progress → Entry → Type 0
IsGivenIn home q (entry.Ty ty) = IsInTable q.scope.types.types ty
IsGivenIn home q (entry.Const ty v) = IsConstantOf q.scope.types.types ty v
IsGivenIn home q (entry.Var unit level number ty) =
    IsInTable q.scope.types.types ty × (unit ≡ 0) × (((level ≡ 0) × IsGlobalOf q.globals number ty) ⊎ IsOwnOf home q.locals level number ty)
IsGivenIn home q _ = ⊥

-- Types, variables of the unit and variables of the routine, each behind those that there were, and such names in the innermost block;
-- the table stays one that rules may rely on, which has all that the scope names.
pub record Gives (home : Home) (p q : Progress) : Type 0 where
  pub names : SymbolList
  pub whole : q.scope ≡ with_names (typing p.scope q.scope.types) names
  pub types : (back : List TypeDef) × (q.scope.types.types ≡ p.scope.types.types ++ back)
  pub globals : (back : List Global) × (q.globals ≡ p.globals ++ back)
  pub locals : (back : List TypeId) × (q.locals ≡ p.locals ++ back)
  pub known : EachOf (IsGivenIn home q) names
  pub sound : IsSound q.scope.types.types
  pub closed : IsWellScopedEnvironment q.scope
  pub values : HasValues q.scope
