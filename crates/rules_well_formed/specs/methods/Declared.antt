-- What is called on an object, or through a variable, is declared as trees have it.
use Rattle.std.specs.Prelude.{◌≡◌, ℕ, Some, slice_get}
use Rattle.well_formed.specs.type_layout.declared.definitions.TypeId.{TypeId}
use Rattle.well_formed.specs.type_layout.declared.definitions.RoutineId.{RoutineId}
use Rattle.well_formed.specs.type_layout.declared.definitions.Header.{Header}
use Rattle.well_formed.specs.type_layout.declared.definitions.Method.{Method}
use Rattle.well_formed.specs.type_layout.declared.definitions.TypeDef.TheVariants as type
use Rattle.well_formed.specs.typed_tree.type_fits.Fits.{definition, IsObject, Descends, AreSameHeaders}
use Rattle.well_formed.specs.Scopes.{IsOneOf, OtherUnit, Prototype, Scope, HasRoutine}
use Rattle.well_formed.specs.Typed.{HasPlace, SlotFits}
use Rattle.call_rules.specs.scopes.Environment.{Environment}
use Rattle.call_rules.specs.declared.method_rules.methods.Callee.{Callee}
use Rattle.call_rules.specs.declared.method_rules.methods.Callee.TheVariants as callee
use Rattle.call_rules.specs.method_rules.Slots.{methods_of}
use Rattle.call_rules.specs.method_rules.Methods.{routine_in, Bound}
use Rattle.call_rules.specs.procedural_rules.Through.{Held}
use Rattle.rules_well_formed.specs.nodes.Tables.{IsHeaderIn}

-- the routine of a method that a class declares
pub record IsMethod (class : TypeId) (header : Header) (one : Prototype) : Type 0 where
  pub owned : one.owner ≡ Some class
  pub same : AreSameHeaders header one.header

-- Scope and trees have the same types and names of units, and each method of a class is a routine of the unit, or of another.
pub record HasMethods (g : Environment) (s : Scope) : Type 0 where
  pub types : s.types ≡ g.types.types
  pub units : (one : OtherUnit) → IsOneOf one s.others.units → slice_get g.units one.number ≡ Some one.name
  pub methods : (class : TypeId) (number : ℕ) (method : Method) (routine : RoutineId) → slice_get (methods_of (definition s.types class)) number ≡ Some method
      → routine_in g method.routine ≡ Some routine → HasRoutine (IsMethod class method.header) s routine

-- a method with this header that an object's line has, or the one of the object's type in a slot
abbrev pub IsCallee : Scope → TypeId → Header → Callee → Type 0
IsCallee s class header (callee.Routine routine) = (owner : TypeId) × HasRoutine (IsMethod owner header) s routine × Descends s.types class owner
IsCallee s class header (callee.Slot slot) = SlotFits s.types class slot (λ one. one ≡ header)

-- a method with the object that it is called on
pub record IsBound (s : Scope) (one : Bound) : Type 0 where
  pub class : TypeId
  pub object : IsObject (definition s.types class)
  pub place : HasPlace s one.own class
  pub header : IsHeaderIn s.types one.header
  pub callee : IsCallee s class one.header one.callee

-- a variable that holds a routine
pub record Holds (s : Scope) (one : Held) : Type 0 where
  pub of : TypeId
  pub is : definition s.types of ≡ Some (type.Procedural one.header)
  pub place : HasPlace s one.at of
