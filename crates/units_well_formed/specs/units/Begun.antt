-- Where the check of a source begins, and what the source and the unit keep within bounds.
use Rattle.std.specs.Prelude.{◌≡◌, ℕ, ◌+◌, ◌<◌, ◌^◌, List, [], ◌∷◌, Option, Some, None, length, drop, slice_get}
use Rattle.declarations_well_formed.specs.syntax_tree.declared.identifier.Identifier.{Identifier}
use Rattle.declarations_well_formed.specs.syntax_tree.declared.statement.CompoundStatement.{CompoundStatement}
use Rattle.declarations_well_formed.specs.syntax_tree.declared.source_tree.source.InterfaceDeclaration.{InterfaceDeclaration}
use Rattle.declarations_well_formed.specs.syntax_tree.declared.source_tree.source.InterfaceDeclaration.TheVariants as i
use Rattle.declarations_well_formed.specs.syntax_tree.declared.source_tree.source.Tree.{Tree}
use Rattle.declarations_well_formed.specs.syntax_tree.declared.source_tree.source.Tree.TheVariants as t
use Rattle.declarations_well_formed.specs.typed_tree.declared.units.Unit as typed
use Rattle.declarations_well_formed.specs.scopes.Environment.{Environment}
use Rattle.declarations_well_formed.specs.unit_interface.declared.interfaces.Interface.{Interface}
use Rattle.declarations_well_formed.specs.tp_check_decl.routines.Trees.{Works, view_declarations}
use Rattle.declarations_well_formed.specs.tp_check_decl.routines.Drafts.{Drafted, knowing}
use Rattle.declarations_well_formed.specs.tp_check_decl.Interfaces.{interface_judged, further_used}
use Rattle.declarations_well_formed.specs.tp_check_decl.Programs.{empty_draft}
use Rattle.declarations_well_formed.specs.tables.Laws.{IsFit}
use Rattle.units_well_formed.specs.parts.Below.{HasLiterals, HasValues, AreKnown, Extends, scope_of, IsTabled, IsRead, HasRoom, IsKept, HaveBodies, variables_of, variables_in}

-- The scope of a source before its first block: the predeclared names and those of used units are there, and no block is open; the
-- first unit that is named is the source itself.
pub record IsBegun (name : List ℕ) (g : Environment) : Type 0 where
  pub known : AreKnown g (scope_of (empty_draft g) [])
  pub none : g.blocks ≡ []
  pub named : slice_get g.units 0 ≡ Some name
  pub values : HasValues g
  pub table : IsTabled g.types

-- A further used unit comes into a scope in which what was read is well formed.
pub record IsJoined (d e : Drafted) : Type 0 where
  pub read : IsRead e []
  pub since : Extends (scope_of d []) (scope_of e [])
  pub named : slice_get e.scope.units 0 ≡ slice_get d.scope.units 0

-- Units that come into the scope of a draft, one behind the other: each keeps what is known.
abbrev pub UsesKeep : List Interface → Drafted → List Identifier → Type 0
UsesKeep have d [] = Unit {0}
UsesKeep have d (one ∷ rest) = (h : Environment) → (further_used have d.scope one).holds h → HasRoom (knowing d h) → IsJoined d (knowing d h) × UsesKeep have (knowing d h) rest

abbrev pub EachUse : (Identifier → Type 0) → List Identifier → Type 0
EachUse P [] = Unit {0}
EachUse P (one ∷ rest) = P one × EachUse P rest

-- the units that come into the scope behind the interface part
abbrev pub further_uses : Tree → List Identifier
further_uses (t.Program heading uses all body) = []
further_uses (t.Unit here own uses outer interface all body) = drop outer uses.items

-- they keep what is known behind the interface part of a source
abbrev pub FurtherKeep : List ℕ → Environment → List Interface → Tree → Type 0
FurtherKeep name g have (t.Program heading uses all body) = Unit {0}
FurtherKeep name g have (t.Unit here own uses outer interface all body) =
    (d : Drafted) → (interface_judged name g interface.items).holds d → IsRead d [] → slice_get d.scope.units 0 ≡ Some name → UsesKeep have d (drop outer uses.items)

-- ---- sources

-- the statements of a main or initialisation part, if there is one
abbrev pub IsKeptPart : Option CompoundStatement → Type 0
IsKeptPart None = Unit {0}
IsKeptPart (Some body) = IsKept body

-- the literals of the constants of an interface part, and how many variables it declares
abbrev pub HaveLiterals : List InterfaceDeclaration → Type 0
HaveLiterals [] = Unit {0}
HaveLiterals (i.Part one ∷ rest) = HasLiterals one × HaveLiterals rest
HaveLiterals (i.Header one ∷ rest) = HaveLiterals rest

abbrev pub interface_variables : List InterfaceDeclaration → ℕ
interface_variables [] = 0
interface_variables (i.Part one ∷ rest) = variables_of one + interface_variables rest
interface_variables (i.Header one ∷ rest) = interface_variables rest

pub record IsBlock (all : Works) : Type 0 where
  pub bodies : HaveBodies all
  pub few : variables_in all < 2 ^ 31

pub record IsInterface (all : List InterfaceDeclaration) : Type 0 where
  pub literals : HaveLiterals all
  pub few : interface_variables all < 2 ^ 31

-- what the lexer gives, and no more `with`s inside one another, nor variables in one block, than are numbered
abbrev pub IsSource : Tree → Type 0
IsSource (t.Program heading uses all body) = IsBlock (view_declarations all.items) × IsKept body
IsSource (t.Unit here own uses outer interface all body) = IsInterface interface.items × IsBlock (view_declarations all.items) × IsKeptPart body

-- ---- units

-- 32 bits hold the numbers of its routines and variables, and of the units that it names, and its types are fit
pub record IsRoomy (unit : typed.Unit) : Type 0 where
  pub names : length unit.names < 2 ^ 32
  pub routines : length unit.routines < 2 ^ 32
  pub globals : length unit.globals < 2 ^ 32
  pub types : IsFit unit.types.types
