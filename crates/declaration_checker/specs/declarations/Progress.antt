-- How far the declarations of a unit are read, and where variables go.
use Rattle.std.specs.Prelude.{ℕ, ◌+◌, List, [], ◌∷◌, ◌++◌, Some, None, length}
use Rattle.type_layout.specs.declared.definitions.TypeId.{TypeId}
use Rattle.typed_tree.specs.declared.units.Global.{Global}
use Rattle.scopes.specs.Members.{narrow}
use Rattle.scopes.specs.Environment.{Environment}
use Rattle.declaration_checker.specs.declared.declarations.homes.Home.{Home}
use Rattle.declaration_checker.specs.declared.declarations.homes.Home.TheVariants as home

-- What is known, the unit's variables, and those that the routine has declared whose block is read.
pub record Progress : Type 0 where
  pub scope : Environment
  pub globals : List Global
  pub locals : List TypeId

abbrev pub progress : Environment → List Global → List TypeId → Progress
progress g globals locals = record { scope = g; globals = globals; locals = locals }

-- the same with more names or types
abbrev pub knowing : Progress → Environment → Progress
knowing p g = progress g p.globals p.locals

-- variables of the unit have level 0, those of a routine the level of its block
abbrev pub level_of : Home → ℕ
level_of home.Unit = 0
level_of (home.Routine level first) = level

-- A global is numbered by how many there are before it. A routine's own variables follow its parameters, Self and its result.
abbrev pub number_behind : Home → List Global → List TypeId → ℕ
number_behind home.Unit globals locals = narrow (length globals)
number_behind (home.Routine level first) globals locals = narrow (first + length locals)

-- a variable of this type that begins with no value
abbrev pub unset : TypeId → Global
unset ty = record { ty = ty; first = None }

-- one that begins with these bytes
abbrev pub beginning : TypeId → List ℕ → Global
beginning ty bytes = record { ty = ty; first = Some bytes }

abbrev pub with_variable : Home → TypeId → Progress → Progress
with_variable home.Unit ty p = progress p.scope (p.globals ++ unset ty ∷ []) p.locals
with_variable (home.Routine level first) ty p = progress p.scope p.globals (p.locals ++ ty ∷ [])
