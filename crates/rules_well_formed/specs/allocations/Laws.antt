-- Routines as values, New and Dispose give well-formed nodes.
use Rattle.std.specs.Prelude.{◌≡◌, ℕ, Bool, true, List, Some}
use Rattle.well_formed.specs.type_layout.declared.definitions.TypeId.{TypeId}
use Rattle.well_formed.specs.type_layout.declared.definitions.RoutineId.{RoutineId}
use Rattle.well_formed.specs.type_layout.declared.definitions.Kind.TheVariants as kind
use Rattle.well_formed.specs.type_layout.declared.definitions.Header.{Header}
use Rattle.well_formed.specs.type_layout.declared.definitions.TypeDef.TheVariants as type
use Rattle.well_formed.specs.type_layout.declared.texts.Place.{Place}
use Rattle.well_formed.specs.typed_tree.Expressions.{Expression}
use Rattle.well_formed.specs.typed_tree.Statements.{Statement}
use Rattle.well_formed.specs.typed_tree.type_fits.Fits.{definition, IsObject, Descends}
use Rattle.well_formed.specs.Scopes.{Scope, IsNamed, HasRoutine}
use Rattle.well_formed.specs.Typed.{IsTyped, IsRoutineValue, sort_of}
use Rattle.well_formed.specs.WellFormed.{IsStatement}
use Rattle.call_rules.specs.scopes.Environment.{Environment}
use Rattle.call_rules.specs.typing_rules.declared.faults.Fault.{Fault}
use Rattle.call_rules.specs.procedural_rules.Values.{routine_value}
use Rattle.call_rules.specs.allocation_rules.Allocations.{blank, Maker, constructor, made, newly_made, Unmaker, destructor_of, unmade}
use Rattle.rules_well_formed.specs.nodes.Tables.{IsHeaderIn, IsSound}
use Rattle.rules_well_formed.specs.nodes.Laws.{IsOperand}
use Rattle.rules_well_formed.specs.calls.Laws.{AreOperands}
use Rattle.rules_well_formed.specs.methods.Declared.{IsMethod, HasMethods, IsCallee}

-- where a routine is far and nested in no other, it may stand as a value, unless it is one of the unit Overlay
abbrev pub MayBeValue : Scope → RoutineId → ℕ → Header → Bool → Type 0
MayBeValue s routine level header far = far ≡ true → level ≡ 0 → HasRoutine (IsRoutineValue header) s routine × IsNamed s routine.unit

-- a constructor for what a pointer type points to
pub record IsMaker (s : Scope) (ty : TypeId) (one : Maker) : Type 0 where
  pub class : TypeId
  pub points : definition s.types ty ≡ Some (type.PointerTo class)
  pub object : IsObject (definition s.types class)
  pub header : IsHeaderIn s.types one.header
  pub kind : one.header.kind ≡ kind.Constructor
  pub owner : TypeId
  pub declared : HasRoutine (IsMethod owner one.header) s one.routine
  pub inherited : Descends s.types class owner

-- a destructor for what an expression points to
pub record IsUnmaker (s : Scope) (e : Expression) (one : Unmaker) : Type 0 where
  pub class : TypeId
  pub typed : IsTyped s e
  pub points : sort_of s.types e ≡ Some (type.PointerTo class)
  pub object : IsObject (definition s.types class)
  pub header : IsHeaderIn s.types one.header
  pub kind : one.header.kind ≡ kind.Destructor
  pub callee : IsCallee s class one.header one.callee

pub record Find (g : Environment) (s : Scope) : Type 0 where
  pub value : (place : Place) (fault : Fault) (ty : TypeId) (routine : RoutineId) (level : ℕ) (header : Header) (far : Bool) (e : Expression) → MayBeValue s routine level header far
      → (routine_value g place fault ty routine level header far).holds e → IsTyped s e
  pub constructor : (place : Place) (ty : TypeId) (name : List ℕ) (one : Maker) → (constructor g place ty name).holds one → IsMaker s ty one
  pub destructor : (place : Place) (a : Expression) (name : List ℕ) (one : Unmaker) → IsOperand s a → (destructor_of g place a name).holds one → IsUnmaker s a one

pub record Give (s : Scope) : Type 0 where
  pub blank : (place : Place) (ty : TypeId) (e : Expression) → (blank s.types place ty).holds e → IsTyped s e
  pub made : (place : Place) (checked : Bool) (ty : TypeId) (one : Maker) (es : List Expression) (e : Expression) → IsMaker s ty one → AreOperands s es
      → (made s.types place checked ty one es).holds e → IsTyped s e
  pub newly_made : (place : Place) (a e : Expression) → IsTyped s a → (newly_made place a).holds e → IsTyped s e
  pub unmade : (place : Place) (checked : Bool) (a : Expression) (one : Unmaker) (es : List Expression) (statement : Statement) → IsUnmaker s a one → AreOperands s es
      → (unmade s.types place checked a one es).holds statement → IsStatement s statement

abbrev pub FindLaws : Type 0
FindLaws = (g : Environment) (s : Scope) → HasMethods g s → IsSound s.types → Find g s

abbrev pub GiveLaws : Type 0
GiveLaws = (s : Scope) → IsSound s.types → Give s
