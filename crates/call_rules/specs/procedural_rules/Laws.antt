-- What the judgements of procedural values and of calls through them promise.
use Rattle.std.specs.Prelude.{ℕ, Bool, List}
use Rattle.type_layout.specs.declared.definitions.TypeId.{TypeId}
use Rattle.type_layout.specs.declared.definitions.RoutineId.{RoutineId}
use Rattle.type_layout.specs.declared.definitions.Header.{Header}
use Rattle.type_layout.specs.declared.definitions.TypeDef.{TypeDef}
use Rattle.type_layout.specs.declared.texts.Place.{Place}
use Rattle.typed_tree.specs.Expressions.{Expression}
use Rattle.scopes.specs.Environment.{Environment}
use Rattle.typing_rules.specs.declared.faults.Fault.{Fault}
use Rattle.typing_rules.specs.Laws.{Lawful}
use Rattle.call_rules.specs.procedural_rules.Through.{Held, held_routine, called_through, performed_through, settled}
use Rattle.call_rules.specs.procedural_rules.Values.{routine_value}

pub record AreLawful : Type 0 where
  pub held_routine : (types : List TypeDef) (place : Place) (e : Expression) → Lawful (held_routine types place e)
  pub called_through : (types : List TypeDef) (place : Place) (checked : Bool) (one : Held) (es : List Expression) → Lawful (called_through types place checked one es)
  pub performed_through : (types : List TypeDef) (place : Place) (checked : Bool) (one : Held) (es : List Expression) → Lawful (performed_through types place checked one es)
  pub settled : (types : List TypeDef) (place : Place) (e : Expression) → Lawful (settled types place e)
  pub routine_value : (g : Environment) (place : Place) (fault : Fault) (ty : TypeId) (routine : RoutineId) (level : ℕ) (header : Header) (far : Bool)
      → Lawful (routine_value g place fault ty routine level header far)
