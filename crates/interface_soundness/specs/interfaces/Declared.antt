-- What the declarations of a unit do to the table of types.
use Rattle.std.specs.Prelude.{◌≡◌, ℕ, ◌+◌, ◌<◌, true, List, [], ◌∷◌, Some, length, slice_get}
use Rattle.front_end.specs.type_layout.declared.definitions.TypeDef.{TypeDef}
use Rattle.front_end.specs.type_layout.Table.{Table, HasMethodsOf, with_type}
use Rattle.front_end.specs.syntax_tree.declared.source_tree.source.Tree.{Tree}
use Rattle.front_end.specs.tp_lexer.declared.source_directives.collected.Directives.{Directives}
use Rattle.front_end.specs.scopes.Environment.{Environment}
use Rattle.front_end.specs.unit_interface.Misfits.{is_enumeration}
use Rattle.front_end.specs.declaration_checker.type_denoters.Additions.{count_of}
use Rattle.front_end.specs.tp_check_decl.Units.{Whole}
use Rattle.front_end.specs.tp_check_decl.Shown.{outlined}

-- a table with further types of a unit, each numbered by how many of the unit's there are before it
abbrev pub with_declared : List ℕ → Table → List TypeDef → Table
with_declared unit table [] = table
with_declared unit table (one ∷ rest) = with_declared unit (with_type table unit (count_of table unit) one) rest

-- behind each ordinal type of an enumeration stands another type
abbrev pub AreFollowed : List TypeDef → Type 0
AreFollowed types = (place : ℕ) → is_enumeration (slice_get types place) ≡ true → place + 1 < length types

-- the routines of an object's methods are of one unit
pub record IsOfOneUnit (one : TypeDef) : Type 0 where
  pub unit : ℕ
  pub methods : HasMethodsOf unit one

abbrev pub AreOfOneUnit : List TypeDef → Type 0
AreOfOneUnit types = (place : ℕ) (one : TypeDef) → slice_get types place ≡ Some one → IsOfOneUnit one

-- a table with what a unit declares
pub record Declares (unit : List ℕ) (before after : Table) : Type 0 where
  pub types : List TypeDef
  pub is : after ≡ with_declared unit before types
  pub followed : AreFollowed types
  pub methods : AreOfOneUnit types

-- An interface part adds types of its unit to the table that it is read over, and does nothing else to it.
abbrev pub Declare : Type 0
Declare = (name : List ℕ) (says : Directives) (g : Environment) (tree : Tree) (unit : Whole) → (outlined name says g tree).holds unit → Declares name g.types unit.types
