-- Methods of objects by their names, and what is called where one is selected.
use Rattle.std.specs.Prelude.{ℕ, cond, List, Option, Some, None, slice_get, position, option_map}
use Rattle.type_layout.specs.declared.definitions.TypeId.{TypeId}
use Rattle.type_layout.specs.declared.definitions.RoutineId.{RoutineId}
use Rattle.type_layout.specs.declared.definitions.Header.{Header}
use Rattle.type_layout.specs.declared.definitions.Method.{Method}
use Rattle.type_layout.specs.declared.definitions.TypeDef.{TypeDef}
use Rattle.type_layout.specs.declared.texts.Place.{Place}
use Rattle.type_layout.specs.Words.{same_bytes}
use Rattle.typed_tree.specs.Expressions as tree
use Rattle.typed_tree.specs.Expressions.{Expression, Load, view_place}
use Rattle.typed_tree.specs.type_fits.Fits.{definition}
use Rattle.scopes.specs.declared.members.Member.{Member}
use Rattle.scopes.specs.Members.{narrow, member_of}
use Rattle.scopes.specs.Environment.{Environment}
use Rattle.typing_rules.specs.declared.faults.Rule.TheVariants as rules
use Rattle.typing_rules.specs.Faults.{broken}
use Rattle.typing_rules.specs.Judgements.{Judgement, makes, refuses, rule, either, part}
use Rattle.typing_rules.specs.Joins.{IsLine, is_line}
use Rattle.typing_rules.specs.Selectors.{asking}
use Rattle.call_rules.specs.declared.method_rules.methods.Callee.{Callee}
use Rattle.call_rules.specs.declared.method_rules.methods.Callee.TheVariants as callee
use Rattle.call_rules.specs.declared.method_rules.methods.BoundMethod.{BoundMethod}
use Rattle.call_rules.specs.method_rules.Slots.{methods_of, slot_of}

-- a method with the object that it is called on
pub record Bound : Type 0 where
  pub header : Header
  pub callee : Callee
  pub own : tree.Place

abbrev pub view_bound : BoundMethod → Bound
view_bound one = record { header = one.header.now; callee = one.callee; own = view_place one.own }

-- for `Gives`, what lies nowhere in memory
abbrev pub callee_itself : Callee → Callee
callee_itself one = one

abbrev pub routine_itself : RoutineId → RoutineId
routine_itself one = one

-- ---- methods by their names

abbrev pub method_by : List TypeDef → Option Member → Option Method
method_by types None = None
method_by types (Some one) = cond one.method (slice_get (methods_of (definition types one.class)) one.number) None

-- the method that has a name in the line of a class: the nearest type's
unfoldable pub method_in : List TypeDef → TypeId → List ℕ → Option Method
method_in types class name = method_by types (member_of types (Some class) name)

-- ---- what is called

abbrev pub unit_at : List (List ℕ) → Option (List ℕ) → Option ℕ
unit_at units None = None
unit_at units (Some name) = option_map narrow (position (same_bytes name) units)

abbrev pub routine_of : ℕ → ℕ → RoutineId
routine_of number unit = record { unit = unit; number = number }

-- The routine of a method as a node names it. In a type its unit is a place among the origins of the table, in a node it is one
-- among the units of the scope.
abbrev pub routine_in : Environment → RoutineId → Option RoutineId
routine_in g routine = option_map (routine_of routine.number) (unit_at g.units (slice_get g.types.units routine.unit))

-- a scope names the units that declare its types, so that this is never told
abbrev pub routine_at : Place → Option RoutineId → Judgement RoutineId
routine_at place None = refuses (broken place rules.Selected)
routine_at place (Some routine) = makes routine

abbrev pub routine_named : Environment → Place → Method → Judgement RoutineId
routine_named g place method = routine_at place (routine_in g method.routine)

-- a virtual method has a slot, so that this is never told
abbrev pub callee_at : Place → Option ℕ → Judgement Callee
callee_at place None = refuses (broken place rules.Selected)
callee_at place (Some slot) = makes (callee.Slot slot)

-- A virtual method is the one that stands in its slot in the object's class as the call is made; any other is itself.
abbrev pub callee_of : Environment → Place → TypeId → List ℕ → Method → Judgement Callee
callee_of g place class name method =
    either method.is_virtual (callee_at place (slot_of g.types.types class name)) (part (routine_named g place method) (λ routine. makes (callee.Routine routine)))

abbrev pub bound_by : Environment → Place → TypeId → tree.Place → List ℕ → Option Method → Judgement Bound
bound_by g place class at name None = refuses (broken place rules.Selected)
bound_by g place class at name (Some method) =
    part (callee_of g place class name method) (λ one. makes (record { header = method.header; callee = one; own = at }))

abbrev pub bound_of : Environment → Place → Expression → List ℕ → Judgement Bound
bound_of g place (Load ty at) name = bound_by g place ty at name (method_in g.types.types ty name)
bound_of g place e name = refuses (broken place rules.Selected)

-- a method that is selected of a variable, or of a part of one
unfoldable pub bound : Environment → Place → Expression → List ℕ → Judgement Bound
bound g place e name = bound_of g place e name

-- ---- methods of ancestors

abbrev pub inherited_by : Environment → Place → tree.Place → Option Method → Judgement Bound
inherited_by g place at None = refuses (broken place rules.Selected)
inherited_by g place at (Some method) =
    part (routine_named g place method) (λ routine. makes (record { header = method.header; callee = callee.Routine routine; own = at }))

-- A method that is selected of the name of a type, inside a method of a class: its own type or an ancestor declares it, it is
-- called on Self, and also a virtual one is itself.
unfoldable pub inherited : Environment → Place → Place → TypeId → tree.Place → TypeId → List ℕ → Judgement Bound
inherited g here place class at ancestor name =
    asking (rule (broken here rules.Stands) (is_line g.types.types class ancestor) (IsLine g.types.types class ancestor) tt)
    (inherited_by g place at (method_in g.types.types ancestor name))
