-- When each entry of a scope is known among trees: what is declared under each name is there, in which block it stands.
use Rattle.std.specs.Prelude.{◌≡◌, ℕ, zero, suc, ◌+◌, ◌<◌, ◌==◌, ◌^◌, cond, All, List, [], ◌∷◌, length, Option, Some, None, slice_get}
use Rattle.tp_check_stmt.specs.type_layout.declared.definitions.TypeId.{TypeId}
use Rattle.tp_check_stmt.specs.type_layout.declared.definitions.Header.{Header}
use Rattle.tp_check_stmt.specs.typed_tree.declared.units.Routine.{Routine}
use Rattle.tp_check_stmt.specs.typed_tree.type_fits.Fits.{definition, IsSome, IsValue}
use Rattle.tp_check_stmt.specs.typed_tree.type_fits.Routines.{variables_of}
use Rattle.rules_well_formed.specs.well_formed.Scopes.{Prototype, Scope, HasType, IsGlobal, HasRoutine}
use Rattle.tp_check_stmt.specs.scopes.declared.entries.Entry.{Entry}
use Rattle.tp_check_stmt.specs.scopes.declared.entries.Entry.TheVariants as entry
use Rattle.tp_check_stmt.specs.scopes.declared.entries.BlockKind.{BlockKind}
use Rattle.tp_check_stmt.specs.scopes.declared.entries.BlockKind.TheVariants as block
use Rattle.tp_check_stmt.specs.scopes.declared.searches.OpenBlock.{OpenBlock}
use Rattle.tp_check_stmt.specs.scopes.Symbols.{SymbolList}
use Rattle.tp_check_stmt.specs.scopes.Environment.{Environment}
use Rattle.rules_well_formed.specs.nodes.Tables.{IsInTable, IsHeaderIn, IsSound}
use Rattle.rules_well_formed.specs.calls.Laws.{IsFree}
use Rattle.rules_well_formed.specs.methods.Declared.{HasMethods}
use Rattle.rules_well_formed.specs.allocations.Laws.{MayBeValue}

-- ---- routines whose blocks are open

-- their numbers, the innermost first, with one block more
abbrev pub opening : BlockKind → List ℕ → List ℕ
opening (block.Routine number owner) around = number ∷ around
opening _ around = around

abbrev pub open_from : List ℕ → List OpenBlock → List ℕ
open_from around [] = around
open_from around (one ∷ blocks) = open_from (opening one.kind around) blocks

abbrev pub open_in : Environment → List ℕ
open_in g = open_from [] g.blocks

-- the routine of a level, 1 for the outermost
abbrev pub at_level : List ℕ → ℕ → Option ℕ
at_level [] level = None
at_level (number ∷ around) level = cond (level == length around + 1) (Some number) (at_level around level)

abbrev pub first_in : List ℕ → Option ℕ
first_in [] = None
first_in (number ∷ around) = Some number

-- each is declared inside the one round it
abbrev pub AreNested : List Routine → List ℕ → Type 0
AreNested routines [] = Unit {0}
AreNested routines (number ∷ around) =
    ((one : Routine) × (slice_get routines number ≡ Some one) × (one.outer ≡ first_in around)) × AreNested routines around

-- a routine that has this one round it, if any, has so many round it
abbrev pub IsDeep : List Routine → ℕ → Option ℕ → Type 0
IsDeep routines zero None = Unit {0}
IsDeep routines (suc level) (Some number) = (one : Routine) × (slice_get routines number ≡ Some one) × IsDeep routines level one.outer
IsDeep routines level outer = ⊥

-- ---- entries

-- a variable of the routine of a level whose block is open
pub record IsLocal (s : Scope) (around : List ℕ) (level number : ℕ) (ty : TypeId) : Type 0 where
  pub routine : ℕ
  pub opened : at_level around level ≡ Some routine
  pub one : Routine
  pub is : slice_get s.routines routine ≡ Some one
  pub variable : slice_get (variables_of one) number ≡ Some ty

-- a global, or a variable of a routine
abbrev pub IsVariableIn : Scope → List ℕ → ℕ → ℕ → ℕ → TypeId → Type 0
IsVariableIn s around zero unit number ty = IsGlobal s unit number ty
IsVariableIn s around (suc level) unit number ty = IsLocal s around (suc level) number ty

-- a routine of the unit itself has as many round it as its level says
abbrev pub IsAtDepth : Scope → ℕ → ℕ → ℕ → Type 0
IsAtDepth s zero number level = (one : Routine) × (slice_get s.routines number ≡ Some one) × IsDeep s.routines level one.outer
IsAtDepth s (suc unit) number level = Unit {0}

-- a routine that is no method, with this header, which is declared in the innermost of these
pub record IsDeclaredIn (around : List ℕ) (header : Header) (one : Prototype) : Type 0 where
  pub free : IsFree header one
  pub outer : one.outer ≡ first_in around

-- what an entry means is there, where the blocks of these routines are open
abbrev pub IsEntry : Scope → List ℕ → Entry → Type 0
IsEntry s around (entry.Const ty v) = IsValue s.types v (definition s.types ty)
IsEntry s around (entry.Ty ty) = IsInTable s.types ty
IsEntry s around (entry.Var unit level number ty) = HasType s ty × IsVariableIn s around level unit number ty
IsEntry s around (entry.Code routine level header far) =
    HasRoutine (IsDeclaredIn around header) s routine × IsHeaderIn s.types header × MayBeValue s routine level header far × IsAtDepth s routine.unit routine.number level
IsEntry s around (entry.Std number) = Unit {0}

-- each entry of a list of names
abbrev pub EachOf : (Entry → Type 0) → SymbolList → Type 0
EachOf P [] = Unit {0}
EachOf P (one ∷ rest) = P one.1 × EachOf P rest

-- each entry of each block, by the routines whose blocks are open there
abbrev pub EachIn : (List ℕ → Entry → Type 0) → List ℕ → List OpenBlock → Type 0
EachIn P around [] = Unit {0}
EachIn P around (one ∷ blocks) = EachOf (P (opening one.kind around)) one.symbols × EachIn P (opening one.kind around) blocks

-- blocks of a unit and of routines
abbrev pub IsLasting : BlockKind → Type 0
IsLasting (block.With ty) = ⊥
IsLasting _ = Unit {0}

abbrev pub AreLasting : List OpenBlock → Type 0
AreLasting [] = Unit {0}
AreLasting (one ∷ blocks) = IsLasting one.kind × AreLasting blocks

-- ---- scopes

-- methods are declared outside routines, and no header has more parameters than 32 bits count
pub record IsPlaced (one : Routine) : Type 0 where
  pub outermost : IsSome one.owner → one.outer ≡ None
  pub few : length one.header.params < 2 ^ 31

-- All that is known is there: types, methods, predeclared names and those of used units, and the names of each open block, which are
-- those of the unit and of routines inside one another.
pub record AreKnown (g : Environment) (s : Scope) : Type 0 where
  pub has : HasMethods g s
  pub sound : IsSound s.types
  pub nested : AreNested s.routines (open_in g)
  pub few : length (open_in g) < 2 ^ 31
  pub placed : (number : ℕ) (one : Routine) → slice_get s.routines number ≡ Some one → IsPlaced one
  pub predeclared : EachOf (IsEntry s []) g.predeclared
  pub used : All (EachOf (IsEntry s [])) g.used
  pub lasting : AreLasting g.blocks
  pub blocks : EachIn (IsEntry s) [] g.blocks

-- ---- the scope of trees

abbrev pub variables_at : Option Routine → List TypeId
variables_at None = []
variables_at (Some one) = variables_of one

-- the variables of the routines whose blocks are open
abbrev pub levels_in : List Routine → List ℕ → List (List TypeId)
levels_in routines [] = []
levels_in routines (number ∷ around) = variables_at (slice_get routines number) ∷ levels_in routines around

-- what the nodes of the innermost routine may name
abbrev pub scope_over : Scope → List ℕ → Scope
scope_over s around = record s { around = around; levels = levels_in s.routines around; withs = [] }
