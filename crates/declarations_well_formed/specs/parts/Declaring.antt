-- What a part of declarations adds to a unit while it is read.
use Rattle.std.specs.Prelude.{◌≡◌, ◌⊎◌, ℕ, ◌+◌, List, [], ◌∷◌, ◌++◌, Some, slice_get}
use Rattle.bodies_well_formed.specs.type_layout.declared.definitions.TypeId.{TypeId}
use Rattle.bodies_well_formed.specs.type_layout.declared.definitions.TypeDef.{TypeDef}
use Rattle.bodies_well_formed.specs.typed_tree.declared.expressions.Value.{Value}
use Rattle.bodies_well_formed.specs.typed_tree.declared.units.Global.{Global}
use Rattle.bodies_well_formed.specs.syntax_tree.expression_tree.Trees.{Tree}
use Rattle.bodies_well_formed.specs.scopes.declared.entries.Entry.{Entry}
use Rattle.bodies_well_formed.specs.scopes.declared.entries.Entry.TheVariants as entry
use Rattle.bodies_well_formed.specs.scopes.Symbols.{SymbolList}
use Rattle.bodies_well_formed.specs.scopes.Members.{narrow}
use Rattle.bodies_well_formed.specs.scopes.Environment.{Environment}
use Rattle.bodies_well_formed.specs.constant_checker.declared.constant_expressions.constants.Constant.{Constant}
use Rattle.bodies_well_formed.specs.constant_checker.constant_expressions.Constants.{judged}
use Rattle.imported_types_agree.specs.declaration_checker.declared.declarations.homes.Home.{Home}
use Rattle.imported_types_agree.specs.declaration_checker.declared.declarations.homes.Home.TheVariants as home
use Rattle.imported_types_agree.specs.declaration_checker.declarations.Progress.{Progress}
use Rattle.declarations_well_formed.specs.names.Declaring.{typing, with_names, IsOfType}

-- ---- what a new name means

-- what a constant expression gave
abbrev pub IsGiven : TypeId → Value → Type 0
IsGiven ty v = (g : Environment) × (tree : Tree) × (c : Constant) × (judged g tree).holds c × (c.ty ≡ ty) × (c.value ≡ v)

-- the variable of the unit that has a number
abbrev pub IsGlobalOf : List Global → ℕ → TypeId → Type 0
IsGlobalOf globals number ty = (place : ℕ) × (one : Global) × (number ≡ narrow place) × (slice_get globals place ≡ Some one) × (one.ty ≡ ty)

-- the variable that a routine declares, behind so many others that it has
abbrev pub IsLocalOf : List TypeId → ℕ → ℕ → TypeId → Type 0
IsLocalOf locals first number ty = (place : ℕ) × (number ≡ narrow (first + place)) × (slice_get locals place ≡ Some ty)

-- a variable of the routine whose block this is
abbrev pub IsOwnOf : Home → List TypeId → ℕ → ℕ → TypeId → Type 0
IsOwnOf home.Unit locals level number ty = ⊥
IsOwnOf (home.Routine depth first) locals level number ty = (level ≡ depth) × IsLocalOf locals first number ty

-- a type; a value of an enumeration, or of a constant expression; or a variable, which is the unit's also where it begins with a value
abbrev pub IsDeclaredIn : Home → Progress → Entry → Type 0
IsDeclaredIn home p (entry.Ty ty) = Unit {0}
IsDeclaredIn home p (entry.Const ty v) = IsOfType p.scope.types.types (entry.Const ty v) ⊎ IsGiven ty v
IsDeclaredIn home p (entry.Var unit level number ty) = (unit ≡ 0) × (((level ≡ 0) × IsGlobalOf p.globals number ty) ⊎ IsOwnOf home p.locals level number ty)
IsDeclaredIn home p _ = ⊥

abbrev pub AreDeclaredIn : Home → Progress → SymbolList → Type 0
AreDeclaredIn home p [] = Unit {0}
AreDeclaredIn home p (one ∷ rest) = IsDeclaredIn home p one.1 × AreDeclaredIn home p rest

-- ---- what is added

-- Types, variables of the unit and variables of the routine, each behind those that there were, and such names in the innermost block.
pub record Adds (home : Home) (p q : Progress) : Type 0 where
  pub names : SymbolList
  pub whole : q.scope ≡ with_names (typing p.scope q.scope.types) names
  pub types : (back : List TypeDef) × (q.scope.types.types ≡ p.scope.types.types ++ back)
  pub globals : (back : List Global) × (q.globals ≡ p.globals ++ back)
  pub locals : (back : List TypeId) × (q.locals ≡ p.locals ++ back)
  pub known : AreDeclaredIn home q names
