-- Routines as values of procedural types.
use Rattle.std.specs.Prelude.{◌≡◌, ℕ, ◌==◌, Bool, true, false, not, ◌&&◌, List, codes, Option, Some, None, slice_get}
use Rattle.type_layout.specs.declared.definitions.TypeId.{TypeId}
use Rattle.type_layout.specs.declared.definitions.RoutineId.{RoutineId}
use Rattle.type_layout.specs.declared.definitions.Header.{Header}
use Rattle.type_layout.specs.declared.definitions.TypeDef.{TypeDef}
use Rattle.type_layout.specs.declared.definitions.TypeDef.TheVariants as type
use Rattle.type_layout.specs.declared.texts.Place.{Place}
use Rattle.type_layout.specs.Words.{same_bytes}
use Rattle.typed_tree.specs.Expressions.{Expression, RoutineValue}
use Rattle.typed_tree.specs.type_fits.Fits.{definition, AreSameHeaders}
use Rattle.object_vmt.specs.Rules.{same_header}
use Rattle.scopes.specs.Environment.{Environment}
use Rattle.typing_rules.specs.declared.faults.Fault.{Fault}
use Rattle.typing_rules.specs.declared.faults.Rule.TheVariants as rules
use Rattle.typing_rules.specs.Faults.{broken}
use Rattle.typing_rules.specs.Judgements.{Judgement, refuses, rule}
use Rattle.typing_rules.specs.Selectors.{asking}

abbrev pub overlay : List ℕ
overlay = codes "OVERLAY"

abbrev pub is_overlay : Option (List ℕ) → Bool
is_overlay None = false
is_overlay (Some name) = same_bytes overlay name

-- the routines of OVERLAY come without a source
abbrev pub is_predeclared : Environment → RoutineId → Bool
is_predeclared g routine = is_overlay (slice_get g.units routine.unit)

-- A routine that can be held: it is far, nested in no other, and of the sources.
pub record IsHeld (g : Environment) (routine : RoutineId) (level : ℕ) (far : Bool) : Type 0 where
  pub is_far : far ≡ true
  pub is_outermost : level ≡ 0
  pub is_declared : is_predeclared g routine ≡ false

abbrev pub is_held : Environment → RoutineId → ℕ → Bool → Bool
is_held g routine level far = (far && (level == 0)) && not (is_predeclared g routine)

-- its header is that of the type, but for the names of the parameters; of another type this fault is told
abbrev pub value_by : Fault → TypeId → Option TypeDef → RoutineId → Header → Judgement Expression
value_by fault ty (Some (type.Procedural wanted)) routine header = rule fault (same_header wanted header) (AreSameHeaders wanted header) (RoutineValue ty routine)
value_by fault ty _ routine header = refuses fault

-- A routine whose name stands at a place where a value of a procedural type is wanted.
unfoldable pub routine_value : Environment → Place → Fault → TypeId → RoutineId → ℕ → Header → Bool → Judgement Expression
routine_value g place fault ty routine level header far =
    asking (rule (broken place rules.RoutineValue) (is_held g routine level far) (IsHeld g routine level far) tt)
    (value_by fault ty (definition g.types.types ty) routine header)
