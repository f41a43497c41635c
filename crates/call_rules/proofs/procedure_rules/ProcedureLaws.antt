-- The judgement of standard procedures is lawful.
use Rattle.std.proofs.Common.{ℕ, List, [], ◌∷◌, length, Option, Some, None, Decides}
use Rattle.type_layout.specs.declared.definitions.TypeDef.{TypeDef}
use Rattle.type_layout.specs.declared.texts.Place.{Place}
use Rattle.call_rules.specs.declared.standard_rules.signatures.Want.TheVariants.{Integer}
use Rattle.typed_tree.specs.Statements.{Written}
use Rattle.typed_tree.specs.Expressions.{Expression, Const, RoutineValue, Load, Unary, Binary, Convert, Range, SetOf, Call, CallVirtual, CallThrough, Std, Make}
use Rattle.typing_rules.specs.declared.faults.Rule.TheVariants as rules
use Rattle.typing_rules.specs.declared.sorts.Sort.{Sort}
use Rattle.typing_rules.specs.declared.sorts.Sort.TheVariants as sort
use Rattle.typing_rules.specs.Faults.{broken}
use Rattle.typing_rules.specs.Sorts.{sort_of_type, sort_of}
use Rattle.typing_rules.specs.Laws.{Lawful}
use Rattle.typing_rules.proofs.JudgementLaws.{lawful_makes, lawful_refuses, lawful_rule, lawful_part, lawful_parts}
use Rattle.typing_rules.proofs.PlanLaws.{yes, no, tells_integer}
use Rattle.typing_rules.proofs.AssignmentLaws.{tells_string}
use Rattle.call_rules.specs.Given.{value, place_of}
use Rattle.call_rules.proofs.CallLaws.{tells_ordinal}
use Rattle.call_rules.specs.standard_rules.Standard.{Fits, fits, is_for_text, handed}
use Rattle.call_rules.proofs.standard_rules.StandardLaws.{tells_fits}
use Rattle.call_rules.specs.declared.procedure_rules.rows.Slot.{Slot}
use Rattle.call_rules.specs.declared.procedure_rules.rows.Slot.TheVariants.{Value, Pointer, Ordinal, Whole, Line, Link}
use Rattle.call_rules.specs.declared.procedure_rules.rows.Slots.{Slots}
use Rattle.call_rules.specs.procedure_rules.Rows.{listed, slots_of}
use Rattle.call_rules.specs.procedure_rules.Procedures.{IsPointer, is_pointer, Holds, holds, variable, taken, by_slots, performed_by, standard_performed, whole, told_number, told_by, told}

tells_pointer : (s : Sort) → Decides (is_pointer s) (IsPointer s)
tells_pointer (sort.Integer r) = no
tells_pointer sort.Boolean = no
tells_pointer sort.Char = no
tells_pointer (sort.Enumeration ty) = no
tells_pointer sort.Text = no
tells_pointer (sort.Set base) = no
tells_pointer sort.Pointer = yes
tells_pointer sort.Nil = no
tells_pointer sort.Other = no

tells_held : (slot : Slot) (s : Sort) → Decides (holds slot s) (Holds slot s)
tells_held Ordinal s = tells_ordinal s
tells_held Whole s = tells_integer s
tells_held Line s = tells_string s
tells_held Link s = tells_pointer s
tells_held (Value want) s = no
tells_held Pointer s = no

module _ (types : List TypeDef) (place : Place) where
  lawful_variable : (slot : Slot) (e : Expression) → Lawful (variable types place slot e)
  lawful_variable slot (Load ty at) = lawful_rule (broken place rules.Called) (holds slot (sort_of_type types ty)) (Holds slot (sort_of_type types ty)) (place_of at) (tells_held slot (sort_of_type types ty))
  lawful_variable slot (Const ty v) = lawful_refuses _
  lawful_variable slot (RoutineValue ty routine) = lawful_refuses _
  lawful_variable slot (Unary ty op operand) = lawful_refuses _
  lawful_variable slot (Binary ty op left right early) = lawful_refuses _
  lawful_variable slot (Convert ty operand) = lawful_refuses _
  lawful_variable slot (Range ty operand low high) = lawful_refuses _
  lawful_variable slot (SetOf ty listed) = lawful_refuses _
  lawful_variable slot (Call ty routine own args) = lawful_refuses _
  lawful_variable slot (CallVirtual ty own number checked args) = lawful_refuses _
  lawful_variable slot (CallThrough ty through args) = lawful_refuses _
  lawful_variable slot (Std ty number args) = lawful_refuses _
  lawful_variable slot (Make ty routine args) = lawful_refuses _

  lawful_taken : (slot : Slot) (e : Expression) → Lawful (taken types place slot e)
  unfolding taken
  lawful_taken (Value want) e = lawful_rule (broken place rules.Called) (fits want (sort_of types e)) (Fits want (sort_of types e)) (handed types (is_for_text want) e) (tells_fits want (sort_of types e))
  lawful_taken Pointer e = lawful_rule (broken place rules.Called) (is_pointer (sort_of types e)) (IsPointer (sort_of types e)) (value e) (tells_pointer (sort_of types e))
  lawful_taken Ordinal e = lawful_variable Ordinal e
  lawful_taken Whole e = lawful_variable Whole e
  lawful_taken Line e = lawful_variable Line e
  lawful_taken Link e = lawful_variable Link e

  lawful_slots : (slots : List Slot) (es : List Expression) → Lawful (by_slots types place slots es)
  lawful_slots [] [] = lawful_makes _
  lawful_slots [] (e ∷ es) = lawful_refuses _
  lawful_slots (slot ∷ slots) [] = lawful_refuses _
  lawful_slots (slot ∷ slots) (e ∷ es) = lawful_parts (taken types place slot e) (by_slots types place slots es) _ (lawful_taken slot e) (lawful_slots slots es) (λ one rest. lawful_makes _)

  performed_at : (number : ℕ) (slots : Option Slots) (es : List Expression) → Lawful (performed_by types place number slots es)
  performed_at number None es = lawful_refuses _
  performed_at number (Some slots) es = lawful_part (by_slots types place (listed slots) es) _ (lawful_slots (listed slots) es) (λ all. lawful_makes _)

  pub lawful_performed : (number : ℕ) (es : List Expression) → Lawful (standard_performed types place number es)
  unfolding standard_performed
  lawful_performed number es = performed_at number (slots_of number (length es)) es

  lawful_number : (e : Expression) (width : Option Expression) → Lawful (told_number types place e width)
  lawful_number e None = lawful_part (whole types place e) _ (lawful_taken (Value Integer) e) (λ x. lawful_makes _)
  lawful_number e (Some w) = lawful_parts (whole types place e) (whole types place w) _ (lawful_taken (Value Integer) e) (lawful_taken (Value Integer) w) (λ x y. lawful_makes _)

  told_at : (one : Written) (to : Expression) (width : Option Expression) → Lawful (told_by types place one to width)
  told_at one to None = lawful_parts (told_number types place one.value one.width) (variable types place Line to) _ (lawful_number one.value one.width) (lawful_variable Line to) (λ xs s. lawful_makes _)
  told_at one to (Some w) = lawful_refuses _

  pub lawful_told : (one to : Written) → Lawful (told types place one to)
  unfolding told
  lawful_told one to = told_at one to.value to.width
