-- Conversions and calls give typed nodes, where their operands are typed and what is called is declared so.
use Rattle.std.specs.Prelude.{◌≡◌, Bool, All, List, [], ◌∷◌, None}
use Rattle.well_formed.specs.type_layout.declared.definitions.TypeId.{TypeId}
use Rattle.well_formed.specs.type_layout.declared.definitions.RoutineId.{RoutineId}
use Rattle.well_formed.specs.type_layout.declared.definitions.Param.{Param}
use Rattle.well_formed.specs.type_layout.declared.definitions.Header.{Header}
use Rattle.well_formed.specs.type_layout.declared.texts.Place.{Place}
use Rattle.well_formed.specs.typed_tree.Expressions.{Expression}
use Rattle.well_formed.specs.typed_tree.type_fits.Fits.{AreSameHeaders}
use Rattle.well_formed.specs.Scopes.{Prototype, Scope, HasRoutine, IsWithin}
use Rattle.well_formed.specs.Typed.{IsTyped, TakeEach}
use Rattle.call_rules.specs.Casts.{cast}
use Rattle.call_rules.specs.Given.{Handed, arguments_of, given, called, performed}
use Rattle.rules_well_formed.specs.nodes.Tables.{IsInTable, IsHeaderIn, IsSound}
use Rattle.rules_well_formed.specs.nodes.Laws.{IsOperand}

abbrev pub AreOperands : Scope → List Expression → Type 0
AreOperands s [] = Unit {0}
AreOperands s (e ∷ es) = IsOperand s e × AreOperands s es

-- a routine that is no method, with this header
pub record IsFree (header : Header) (one : Prototype) : Type 0 where
  pub free : one.owner ≡ None
  pub same : AreSameHeaders header one.header

-- what is called by this number is declared with this header, where it may be called from
abbrev pub IsDeclared : Scope → RoutineId → Header → Type 0
IsDeclared s routine header = HasRoutine (λ one. IsFree header one × IsWithin s.around one.outer) s routine

pub record GiveTyped (s : Scope) : Type 0 where
  pub cast : (place : Place) (ty : TypeId) (es : List Expression) (e : Expression) → AreOperands s es → (cast s.types place ty es).holds e → IsTyped s e
  -- each argument is as its parameter takes it
  pub given : (place : Place) (checked : Bool) (params : List Param) (es : List Expression) (all : List Handed) → All (λ (param : Param). IsInTable s.types param.ty) params
      → AreOperands s es → (given s.types place checked params es).holds all → TakeEach s params (arguments_of all)
  pub called : (place : Place) (checked : Bool) (routine : RoutineId) (header : Header) (es : List Expression) (e : Expression) → IsDeclared s routine header
      → IsHeaderIn s.types header → AreOperands s es → (called s.types place checked routine header es).holds e → IsTyped s e
  pub performed : (place : Place) (checked : Bool) (routine : RoutineId) (header : Header) (es : List Expression) (e : Expression) → IsDeclared s routine header
      → IsHeaderIn s.types header → AreOperands s es → (performed s.types place checked routine header es).holds e → IsTyped s e

abbrev pub CallLaws : Type 0
CallLaws = (s : Scope) → IsSound s.types → GiveTyped s
