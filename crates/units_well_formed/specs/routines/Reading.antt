-- A unit while it is read, as trees have it.
use Rattle.std.specs.Prelude.{◌≡◌, ℕ, zero, suc, ◌+◌, ◌<◌, ℤ, true, List, [], ◌∷◌, length, map, Option, Some, None, is_some, slice_get}
use Rattle.declarations_well_formed.specs.type_layout.declared.definitions.TypeId.{TypeId}
use Rattle.declarations_well_formed.specs.type_layout.declared.definitions.Kind.TheVariants as kind
use Rattle.declarations_well_formed.specs.type_layout.declared.definitions.Header.{Header}
use Rattle.declarations_well_formed.specs.type_layout.declared.definitions.Method.{Method}
use Rattle.declarations_well_formed.specs.type_layout.declared.definitions.Host.TheVariants as host
use Rattle.declarations_well_formed.specs.type_layout.declared.definitions.TypeDef.{TypeDef}
use Rattle.declarations_well_formed.specs.type_layout.declared.definitions.TypeDef.TheVariants as type
use Rattle.declarations_well_formed.specs.type_layout.Layouts.{size_of}
use Rattle.declarations_well_formed.specs.type_layout.Table.{Table}
use Rattle.declarations_well_formed.specs.typed_tree.declared.statements.Stmt.TheVariants as stmt
use Rattle.declarations_well_formed.specs.typed_tree.declared.units.Global.{Global}
use Rattle.declarations_well_formed.specs.typed_tree.declared.units.Routine.{Routine}
use Rattle.declarations_well_formed.specs.typed_tree.type_fits.Fits.{definition}
use Rattle.declarations_well_formed.specs.typed_tree.type_fits.Routines.{listed}
use Rattle.declarations_well_formed.specs.well_formed.Scopes.{Scope, HasType}
use Rattle.declarations_well_formed.specs.well_formed.WellFormed.{IsStatement, IsInside, IsOwner, IsFirst}
use Rattle.declarations_well_formed.specs.scopes.declared.entries.Entry.{Entry}
use Rattle.declarations_well_formed.specs.scopes.declared.entries.Entry.TheVariants as entry
use Rattle.declarations_well_formed.specs.scopes.declared.entries.BlockKind.TheVariants as block
use Rattle.declarations_well_formed.specs.scopes.declared.searches.OpenBlock.{OpenBlock}
use Rattle.declarations_well_formed.specs.call_rules.method_rules.Slots.{methods_of}
use Rattle.declarations_well_formed.specs.declaration_checker.declared.declarations.homes.Home.{Home}
use Rattle.declarations_well_formed.specs.declaration_checker.declared.declarations.homes.Home.TheVariants as home
use Rattle.declarations_well_formed.specs.declaration_checker.declarations.Progress.{level_of}
use Rattle.declarations_well_formed.specs.tp_check_decl.declared.routines.drafts.Announced.{Announced}
use Rattle.declarations_well_formed.specs.tp_check_decl.declared.routines.drafts.Site.{Site}
use Rattle.declarations_well_formed.specs.tp_check_decl.routines.Drafts.{Done, Numbered, Drafted, Stage}
use Rattle.declarations_well_formed.specs.rules_well_formed.nodes.Tables.{IsInTable, IsHeaderIn, IsSound}
use Rattle.declarations_well_formed.specs.bodies_well_formed.other_units.Known.{EachIn, open_in, first_in, AreNested, AreKnown, scope_over}
use Rattle.declarations_well_formed.specs.bodies_well_formed.other_units.Growing.{Extends}
use Rattle.declarations_well_formed.specs.bodies_well_formed.other_units.Others.{others_of}
use Rattle.declarations_well_formed.specs.tables_closed.constants.Ordered.{IsOrdered}
use Rattle.declarations_well_formed.specs.values.Values.{HasValues}

-- ---- routines

abbrev pub locals_of : Option Done → List TypeId
locals_of None = []
locals_of (Some done) = done.locals

-- what trees may know of a routine: all but its statements
abbrev pub tree_of : Numbered → Routine
tree_of one = record {
  name = one.first.name;
  header = one.first.header;
  owner = one.first.owner;
  outer = one.first.outer;
  far = one.first.far;
  locals = locals_of one.done;
  body = stmt.Exit;
}

-- a routine whose block is open, and what it has declared there so far
pub record Frame : Type 0 where
  pub number : ℕ
  pub locals : List TypeId

abbrev pub frame : ℕ → List TypeId → Frame
frame number locals = record { number = number; locals = locals }

abbrev pub with_locals : ℕ → List TypeId → List Routine → List Routine
with_locals number locals [] = []
with_locals zero locals (one ∷ rest) = (record one { locals = locals }) ∷ rest
with_locals (suc number) locals (one ∷ rest) = one ∷ with_locals number locals rest

-- all routines; those whose blocks are open have what is declared there so far
abbrev pub trees_of : List Numbered → List Frame → List Routine
trees_of routines [] = map tree_of routines
trees_of routines (one ∷ frames) = with_locals one.number one.locals (trees_of routines frames)

abbrev pub scope_of : Drafted → List Frame → Scope
scope_of d frames = record {
  types = d.scope.types.types;
  others = others_of d.scope;
  globals = map (λ (global : Global). global.ty) d.globals;
  routines = trees_of d.routines frames;
  around = [];
  levels = [];
  withs = [];
}

abbrev pub numbers_of : List Frame → List ℕ
numbers_of frames = map (λ (one : Frame). one.number) frames

-- ---- what is known of routines by their names

-- a routine of the unit that is declared where these are open, with its first header
pub record IsOwnRoutine (routines : List Numbered) (around : List ℕ) (number : ℕ) (header : Header) : Type 0 where
  pub one : Numbered
  pub is : slice_get routines number ≡ Some one
  pub first : one.first.header ≡ header
  pub outer : one.first.outer ≡ first_in around
  pub free : one.first.owner ≡ None

-- A name of a block is of the unit itself; that of a routine stands in the block that the routine is declared in.
abbrev pub IsOwn : List Numbered → List ℕ → Entry → Type 0
IsOwn routines around (entry.Code routine level header far) = (routine.unit ≡ 0) × IsOwnRoutine routines around routine.number header
IsOwn routines around (entry.Var unit level number ty) = unit ≡ 0
IsOwn routines around one = Unit {0}

-- ---- routines that were read

-- what a first header tells is well formed
pub record IsAnnounced (s : Scope) (number : ℕ) (first : Announced) : Type 0 where
  pub header : IsHeaderIn s.types first.header
  pub function : is_some first.header.result ≡ true → first.header.kind ≡ kind.Function
  pub owner : IsOwner s first.owner
  pub outer : IsInside number first.outer

-- statements that were well formed where some of the unit was read, in the block of a routine and of those round it
pub record IsBody (s : Scope) (number : ℕ) (done : Done) : Type 0 where
  pub then : Scope
  pub around : List ℕ
  pub well : IsStatement (scope_over then around) done.body
  pub sound : IsSound then.types
  pub nested : AreNested then.routines around
  pub innermost : first_in around ≡ Some number
  pub since : Extends then s

-- a block
pub record IsBlock (s : Scope) (number : ℕ) (done : Done) : Type 0 where
  pub types : (place : ℕ) (ty : TypeId) → slice_get done.locals place ≡ Some ty → HasType s ty
  pub body : IsBody s number done

-- what open blocks have declared is of types of the table
abbrev pub AreThere : Scope → List Frame → Type 0
AreThere s [] = Unit {0}
AreThere s (one ∷ frames) = ((place : ℕ) (ty : TypeId) → slice_get one.locals place ≡ Some ty → HasType s ty) × AreThere s frames

-- the block of the unit, and so many of routines inside it
pub record IsBottom (blocks : List OpenBlock) (count : ℕ) : Type 0 where
  pub first : OpenBlock
  pub rest : List OpenBlock
  pub is : blocks ≡ first ∷ rest
  pub part : first.kind ≡ block.Part
  pub several : length rest ≡ count

-- ---- tables

-- Each type stands behind its parts and has its origin, behind the ordinal type of an enumeration stands a further type, and the unit of
-- each method is one of the table's.
pub record IsTabled (table : Table) : Type 0 where
  pub ordered : IsOrdered table
  pub followed : (number : ℕ) (low high : ℤ) → slice_get table.types number ≡ Some (type.Ordinal host.Enumeration low high) → number + 1 < length table.types
  pub owned : (class : TypeId) (place : ℕ) (method : Method) → slice_get (methods_of (definition table.types class)) place ≡ Some method → method.routine.unit < length table.units

-- a variable of the unit has a type of the table, and as many bytes to begin with, if any
pub record IsGlobalIn (types : List TypeDef) (one : Global) : Type 0 where
  pub has : IsInTable types one.ty
  pub first : IsFirst (size_of types one.ty) one.first

-- ---- the whole

-- All that is known is there among trees; names of routines stand where these are declared; names of constants mean values of
-- their types; a method's routine has the header that its type has under the routine's number; and the unit's variables and routines are
-- well formed, as far as they were read.
pub record IsRead (d : Drafted) (frames : List Frame) : Type 0 where
  pub known : AreKnown d.scope (scope_of d frames)
  pub around : open_in d.scope ≡ numbers_of frames
  pub bottom : IsBottom d.scope.blocks (length frames)
  pub locals : AreThere (scope_of d frames) frames
  pub own : EachIn (IsOwn d.routines) [] d.scope.blocks
  pub values : HasValues d.scope
  pub table : IsTabled d.scope.types
  pub globals : (number : ℕ) (one : Global) → slice_get d.globals number ≡ Some one → IsGlobalIn d.scope.types.types one
  pub methods : (number place : ℕ) (one : Numbered) (ty : TypeId) (method : Method) → slice_get d.routines number ≡ Some one → one.first.owner ≡ Some ty
      → slice_get (methods_of (definition d.scope.types.types ty)) place ≡ Some method → method.routine.number ≡ number → one.first.header ≡ method.header
  pub announced : (number : ℕ) (one : Numbered) → slice_get d.routines number ≡ Some one → IsAnnounced (scope_of d frames) number one.first
  pub blocks : (number : ℕ) (one : Numbered) (done : Done) → slice_get d.routines number ≡ Some one → one.done ≡ Some done → IsBlock (scope_of d frames) number done

-- where a block stands
pub record IsSite (site : Site) (frames : List Frame) : Type 0 where
  pub level : level_of site.home ≡ length frames
  pub outer : site.outer ≡ first_in (numbers_of frames)

-- how many variables the routine of the innermost block has before those that the block declares
abbrev pub variables_before : Routine → ℕ
variables_before one = length one.header.params + (length (listed one.owner) + length (listed one.header.result))

abbrev pub IsBehind : Home → List Routine → List ℕ → Type 0
IsBehind home.Unit routines around = Unit {0}
IsBehind (home.Routine level first) routines [] = ⊥
IsBehind (home.Routine level first) routines (number ∷ around) = (one : Routine) × (slice_get routines number ≡ Some one) × (first ≡ variables_before one)

-- the frames with what the innermost block has declared
abbrev pub with_inner : List TypeId → List Frame → List Frame
with_inner locals [] = []
with_inner locals (one ∷ frames) = frame one.number locals ∷ frames

-- A block whose declarations are read: the unit has its name, and what was read is well formed.
pub record IsStage (unit : List ℕ) (site : Site) (s : Stage) (frames : List Frame) : Type 0 where
  pub stands : IsSite site frames
  pub named : slice_get s.draft.scope.units 0 ≡ Some unit
  pub behind : IsBehind site.home (scope_of s.draft (with_inner s.locals frames)).routines (numbers_of frames)
  pub read : IsRead s.draft (with_inner s.locals frames)
