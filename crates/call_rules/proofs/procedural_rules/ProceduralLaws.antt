-- The judgements of procedural values are lawful.
use Rattle.std.proofs.Common.{◌≡◌, ℕ, ◌==◌, Bool, true, false, not, ◌&&◌, List, [], Option, Some, None, Decides, refl}
use Rattle.std.proofs.lemmas.Bool.Decides.{Decides-like, Decides-and, Decides-eqb}
use Rattle.type_layout.specs.declared.definitions.TypeId.{TypeId}
use Rattle.type_layout.specs.declared.definitions.RoutineId.{RoutineId}
use Rattle.type_layout.specs.declared.definitions.Header.{Header}
use Rattle.type_layout.specs.declared.definitions.TypeDef.{TypeDef}
use Rattle.type_layout.specs.declared.definitions.TypeDef.TheVariants as type
use Rattle.type_layout.specs.declared.texts.Place.{Place}
use Rattle.typed_tree.specs.Expressions as tree
use Rattle.typed_tree.specs.Expressions.{Expression, Const, RoutineValue, Load, Unary, Binary, Convert, Range, SetOf, Call, CallVirtual, CallThrough, Std, Make}
use Rattle.typed_tree.specs.type_fits.Fits.{definition, AreSameHeaders}
use Rattle.object_vmt.specs.Rules.{same_header}
use Rattle.scopes.specs.Environment.{Environment}
use Rattle.typing_rules.specs.declared.faults.Fault.{Fault}
use Rattle.typing_rules.specs.declared.faults.Rule.TheVariants as rules
use Rattle.typing_rules.specs.Faults.{broken}
use Rattle.typing_rules.specs.Judgements.{rule}
use Rattle.typing_rules.specs.Laws.{Lawful}
use Rattle.typing_rules.proofs.JudgementLaws.{lawful_makes, lawful_refuses, lawful_rule, lawful_part}
use Rattle.call_rules.specs.Given.{given}
use Rattle.call_rules.proofs.CallLaws.{lawful_given}
use Rattle.call_rules.specs.procedural_rules.Through.{Held, held_to, held_by, held_routine, through, result_through, called_through, result_performed, performed_through, settled_by, settled}
use Rattle.call_rules.specs.procedural_rules.Values.{is_predeclared, IsHeld, is_held, value_by, routine_value}
use Rattle.call_rules.proofs.procedural_rules.HeaderTests.{tells_header}

module _ (types : List TypeDef) (place : Place) where
  held_at : (at : tree.Place) (one : Option TypeDef) → Lawful (held_by place at one)
  held_at at None = lawful_refuses _
  held_at at (Some (type.Ordinal host low high)) = lawful_refuses _
  held_at at (Some (type.Str max)) = lawful_refuses _
  held_at at (Some (type.SetOf base)) = lawful_refuses _
  held_at at (Some (type.ArrayOf index element)) = lawful_refuses _
  held_at at (Some (type.RecordOf fields)) = lawful_refuses _
  held_at at (Some (type.PointerTo target)) = lawful_refuses _
  held_at at (Some (type.ObjectOf parent dynamic fields methods)) = lawful_refuses _
  held_at at (Some (type.Procedural header)) = lawful_makes _

  pub lawful_held_routine : (e : Expression) → Lawful (held_routine types place e)
  unfolding held_routine
  lawful_held_routine (Load ty at) = held_at at (definition types ty)
  lawful_held_routine (Const ty value) = lawful_refuses _
  lawful_held_routine (RoutineValue ty routine) = lawful_refuses _
  lawful_held_routine (Unary ty op operand) = lawful_refuses _
  lawful_held_routine (Binary ty op left right early) = lawful_refuses _
  lawful_held_routine (Convert ty operand) = lawful_refuses _
  lawful_held_routine (Range ty operand low high) = lawful_refuses _
  lawful_held_routine (SetOf ty listed) = lawful_refuses _
  lawful_held_routine (Call ty routine own args) = lawful_refuses _
  lawful_held_routine (CallVirtual ty own number checked args) = lawful_refuses _
  lawful_held_routine (CallThrough ty at args) = lawful_refuses _
  lawful_held_routine (Std ty number args) = lawful_refuses _
  lawful_held_routine (Make ty routine args) = lawful_refuses _

  module _ (checked : Bool) where
    lawful_through : (one : Held) (ty : Option TypeId) (es : List Expression) → Lawful (through types place checked one ty es)
    lawful_through one ty es = lawful_part (given types place checked one.header.params es) _ (lawful_given types place checked one.header.params es) (λ all. lawful_makes _)

    called_at : (one : Held) (result : Option TypeId) (es : List Expression) → Lawful (result_through types place checked one result es)
    called_at one None es = lawful_refuses _
    called_at one (Some ty) es = lawful_through one (Some ty) es

    pub lawful_called_through : (one : Held) (es : List Expression) → Lawful (called_through types place checked one es)
    unfolding called_through
    lawful_called_through one es = called_at one one.header.result es

    performed_at : (one : Held) (result : Option TypeId) (es : List Expression) → Lawful (result_performed types place checked one result es)
    performed_at one None es = lawful_through one None es
    performed_at one (Some ty) es = lawful_refuses _

    pub lawful_performed_through : (one : Held) (es : List Expression) → Lawful (performed_through types place checked one es)
    unfolding performed_through
    lawful_performed_through one es = performed_at one one.header.result es

  settled_at : (ty : TypeId) (at : tree.Place) (one : Option TypeDef) → Lawful (settled_by types place ty at one)
  settled_at ty at None = lawful_makes _
  settled_at ty at (Some (type.Ordinal host low high)) = lawful_makes _
  settled_at ty at (Some (type.Str max)) = lawful_makes _
  settled_at ty at (Some (type.SetOf base)) = lawful_makes _
  settled_at ty at (Some (type.ArrayOf index element)) = lawful_makes _
  settled_at ty at (Some (type.RecordOf fields)) = lawful_makes _
  settled_at ty at (Some (type.PointerTo target)) = lawful_makes _
  settled_at ty at (Some (type.ObjectOf parent dynamic fields methods)) = lawful_makes _
  settled_at ty at (Some (type.Procedural header)) = lawful_called_through false (held_to header at) []

  pub lawful_settled : (e : Expression) → Lawful (settled types place e)
  unfolding settled
  lawful_settled (Load ty at) = settled_at ty at (definition types ty)
  lawful_settled (Const ty value) = lawful_makes _
  lawful_settled (RoutineValue ty routine) = lawful_makes _
  lawful_settled (Unary ty op operand) = lawful_makes _
  lawful_settled (Binary ty op left right early) = lawful_makes _
  lawful_settled (Convert ty operand) = lawful_makes _
  lawful_settled (Range ty operand low high) = lawful_makes _
  lawful_settled (SetOf ty listed) = lawful_makes _
  lawful_settled (Call ty routine own args) = lawful_makes _
  lawful_settled (CallVirtual ty own number other args) = lawful_makes _
  lawful_settled (CallThrough ty at args) = lawful_makes _
  lawful_settled (Std ty number args) = lawful_makes _
  lawful_settled (Make ty routine args) = lawful_makes _

-- ---- routines as values

tells_true : (b : Bool) → Decides b (b ≡ true)
tells_true b = (λ e. e, λ e. e)

tells_false : (b : Bool) → Decides (not b) (b ≡ false)
tells_false true = (λ e. cc, λ e. cc)
tells_false false = (λ e. refl, λ e. refl)

tells_held : (g : Environment) (routine : RoutineId) (level : ℕ) (far : Bool) → Decides (is_held g routine level far) (IsHeld g routine level far)
tells_held g routine level far =
    Decides-like _ (λ h. record { is_far = h.0.0; is_outermost = h.0.1; is_declared = h.1 }) (λ h. ((h.is_far, h.is_outermost), h.is_declared))
    (Decides-and _ _ (Decides-and _ _ (tells_true far) (Decides-eqb level 0)) (tells_false (is_predeclared g routine)))

module _ (g : Environment) (place : Place) (fault : Fault) (ty : TypeId) (routine : RoutineId) where
  value_at : (one : Option TypeDef) (header : Header) → Lawful (value_by fault ty one routine header)
  value_at None header = lawful_refuses _
  value_at (Some (type.Ordinal host low high)) header = lawful_refuses _
  value_at (Some (type.Str max)) header = lawful_refuses _
  value_at (Some (type.SetOf base)) header = lawful_refuses _
  value_at (Some (type.ArrayOf index element)) header = lawful_refuses _
  value_at (Some (type.RecordOf fields)) header = lawful_refuses _
  value_at (Some (type.PointerTo target)) header = lawful_refuses _
  value_at (Some (type.ObjectOf parent dynamic fields methods)) header = lawful_refuses _
  value_at (Some (type.Procedural wanted)) header =
      lawful_rule fault (same_header wanted header) (AreSameHeaders wanted header) (RoutineValue ty routine) (tells_header wanted header)

  pub lawful_routine_value : (level : ℕ) (header : Header) (far : Bool) → Lawful (routine_value g place fault ty routine level header far)
  unfolding routine_value
  lawful_routine_value level header far =
      lawful_part (rule (broken place rules.RoutineValue) (is_held g routine level far) (IsHeld g routine level far) tt) (λ u. value_by fault ty (definition g.types.types ty) routine header)
      (lawful_rule (broken place rules.RoutineValue) (is_held g routine level far) (IsHeld g routine level far) tt (tells_held g routine level far))
      (λ u. value_at (definition g.types.types ty) header)
