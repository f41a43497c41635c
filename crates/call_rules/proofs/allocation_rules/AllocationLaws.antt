-- The judgements of New and Dispose are lawful.
use Rattle.std.proofs.Common.{ℕ, Bool, List, Option, Some, None}
use Rattle.type_layout.specs.declared.definitions.TypeId.{TypeId}
use Rattle.type_layout.specs.declared.definitions.Method.{Method}
use Rattle.type_layout.specs.declared.definitions.TypeDef.{TypeDef}
use Rattle.type_layout.specs.declared.definitions.TypeDef.TheVariants as type
use Rattle.type_layout.specs.declared.texts.Place.{Place}
use Rattle.typed_tree.specs.Expressions.{Expression, Const, RoutineValue, Load, Unary, Binary, Convert, Range, SetOf, Call, CallVirtual, CallThrough, Std, Make}
use Rattle.typed_tree.specs.type_fits.Fits.{definition}
use Rattle.scopes.specs.Environment.{Environment}
use Rattle.typing_rules.specs.Selectors.{target_in, target_of}
use Rattle.typing_rules.specs.Laws.{Lawful}
use Rattle.typing_rules.proofs.JudgementLaws.{lawful_makes, lawful_refuses, lawful_part}
use Rattle.call_rules.specs.Given.{given}
use Rattle.call_rules.proofs.CallLaws.{lawful_given}
use Rattle.call_rules.specs.method_rules.Methods.{routine_named, callee_of}
use Rattle.call_rules.proofs.method_rules.MethodLaws.{lawful_routine, lawful_callee}
use Rattle.call_rules.specs.allocation_rules.Allocations.{is_constructor, is_destructor, blank_by, blank, member_at, Maker, constructor_by, constructor, made, newly_made, Unmaker, destructor_in, destructor_by, destructor_of, unmade}

pub lawful_newly : (place : Place) (e : Expression) → Lawful (newly_made place e)
lawful_newly place (Make ty routine args) = lawful_makes _
lawful_newly place (Const ty value) = lawful_refuses _
lawful_newly place (RoutineValue ty routine) = lawful_refuses _
lawful_newly place (Load ty at) = lawful_refuses _
lawful_newly place (Unary ty op operand) = lawful_refuses _
lawful_newly place (Binary ty op left right early) = lawful_refuses _
lawful_newly place (Convert ty operand) = lawful_refuses _
lawful_newly place (Range ty operand low high) = lawful_refuses _
lawful_newly place (SetOf ty listed) = lawful_refuses _
lawful_newly place (Call ty routine own args) = lawful_refuses _
lawful_newly place (CallVirtual ty own number checked args) = lawful_refuses _
lawful_newly place (CallThrough ty at args) = lawful_refuses _
lawful_newly place (Std ty number args) = lawful_refuses _

module _ (g : Environment) (place : Place) where
  constructor_at : (method : Option Method) → Lawful (constructor_by g place method)
  constructor_at None = lawful_refuses _
  constructor_at (Some method) = lawful_part (routine_named g place method) _ (lawful_routine g place method) (λ routine. lawful_makes _)

  pub lawful_constructor : (ty : TypeId) (name : List ℕ) → Lawful (constructor g place ty name)
  unfolding constructor
  lawful_constructor ty name = constructor_at (member_at is_constructor g.types.types (target_in g.types.types (Some ty)) name)

  destructor_at : (class : TypeId) (name : List ℕ) (method : Option Method) → Lawful (destructor_in g place class name method)
  destructor_at class name None = lawful_refuses _
  destructor_at class name (Some method) = lawful_part (callee_of g place class name method) _ (lawful_callee g place class name method) (λ one. lawful_makes _)

  destructor_for : (name : List ℕ) (class : Option TypeId) → Lawful (destructor_by g place name class)
  destructor_for name None = lawful_refuses _
  destructor_for name (Some class) = destructor_at class name (member_at is_destructor g.types.types (Some class) name)

  pub lawful_destructor : (e : Expression) (name : List ℕ) → Lawful (destructor_of g place e name)
  unfolding destructor_of
  lawful_destructor e name = destructor_for name (target_of g.types.types e)

module _ (place : Place) (ty : TypeId) where
  blank_at : (one : Option TypeDef) → Lawful (blank_by place ty one)
  blank_at None = lawful_refuses _
  blank_at (Some (type.Ordinal host low high)) = lawful_refuses _
  blank_at (Some (type.Str max)) = lawful_refuses _
  blank_at (Some (type.SetOf base)) = lawful_refuses _
  blank_at (Some (type.ArrayOf index element)) = lawful_refuses _
  blank_at (Some (type.RecordOf fields)) = lawful_refuses _
  blank_at (Some (type.PointerTo target)) = lawful_makes _
  blank_at (Some (type.ObjectOf parent dynamic fields methods)) = lawful_refuses _
  blank_at (Some (type.Procedural header)) = lawful_refuses _

pub lawful_blank : (types : List TypeDef) (place : Place) (ty : TypeId) → Lawful (blank types place ty)
unfolding blank
lawful_blank types place ty = blank_at place ty (definition types ty)

module _ (types : List TypeDef) (place : Place) (checked : Bool) where
  pub lawful_made : (ty : TypeId) (one : Maker) (es : List Expression) → Lawful (made types place checked ty one es)
  unfolding made
  lawful_made ty one es = lawful_part (given types place checked one.header.params es) _ (lawful_given types place checked one.header.params es) (λ all. lawful_makes _)

  pub lawful_unmade : (e : Expression) (one : Unmaker) (es : List Expression) → Lawful (unmade types place checked e one es)
  unfolding unmade
  lawful_unmade e one es = lawful_part (given types place checked one.header.params es) _ (lawful_given types place checked one.header.params es) (λ all. lawful_makes _)
