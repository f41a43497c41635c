-- The judgements of conversions and calls are lawful.
use Rattle.std.proofs.Common.{Bool, true, false, List, [], ◌∷◌, Option, Some, None, Decides}
use Rattle.std.proofs.lemmas.Bool.Decides.{Decides-or, Decides-eqb}
use Rattle.type_layout.specs.declared.definitions.TypeId.{TypeId}
use Rattle.type_layout.specs.declared.definitions.RoutineId.{RoutineId}
use Rattle.type_layout.specs.declared.definitions.Param.{Param}
use Rattle.type_layout.specs.declared.definitions.Header.{Header}
use Rattle.type_layout.specs.declared.definitions.TypeDef.{TypeDef}
use Rattle.type_layout.specs.declared.definitions.TypeDef.TheVariants as type
use Rattle.type_layout.specs.declared.texts.Place.{Place}
use Rattle.type_layout.specs.Storage.{storage_of}
use Rattle.tp_lexer.specs.declared.token.Feature.TheVariants as feature
use Rattle.typed_tree.specs.Expressions as tree
use Rattle.typed_tree.specs.Expressions.{Expression, Const, RoutineValue, Load, Unary, Binary, Convert, Range, SetOf, Call, CallVirtual, CallThrough, Std, Make, type_of}
use Rattle.typed_tree.specs.type_fits.Fits.{definition}
use Rattle.typing_rules.specs.declared.faults.Rule.TheVariants as rules
use Rattle.typing_rules.specs.declared.sorts.Sort.{Sort}
use Rattle.typing_rules.specs.declared.sorts.Sort.TheVariants as sort
use Rattle.typing_rules.specs.Faults.{broken, left_out}
use Rattle.typing_rules.specs.Judgements.{refuses, rule}
use Rattle.typing_rules.specs.Sorts.{sort_of_type, sort_of}
use Rattle.typing_rules.specs.Wanted.{stored_of, predefined}
use Rattle.typing_rules.specs.Assignments.{IsAssignable, is_assignable, assigned_by}
use Rattle.typing_rules.specs.Laws.{Lawful}
use Rattle.typing_rules.proofs.JudgementLaws.{lawful_makes, lawful_refuses, lawful_rule, lawful_either, lawful_part, lawful_parts}
use Rattle.typing_rules.proofs.PlanLaws.{yes, no}
use Rattle.typing_rules.proofs.JoinLaws.{tells_line}
use Rattle.typing_rules.proofs.AssignmentLaws.{tells_assignable}
use Rattle.call_rules.specs.Casts.{IsOrdinal, is_ordinal, is_pointer, cast_one, cast}
use Rattle.call_rules.specs.Given.{value, place_of, IsVariableFor, is_variable_for, by_value, by_place, by_kind, handed, given, result_called, called, result_performed, performed}

pub tells_ordinal : (s : Sort) → Decides (is_ordinal s) (IsOrdinal s)
tells_ordinal (sort.Integer r) = yes
tells_ordinal sort.Boolean = yes
tells_ordinal sort.Char = yes
tells_ordinal (sort.Enumeration ty) = yes
tells_ordinal sort.Text = no
tells_ordinal (sort.Set base) = no
tells_ordinal sort.Pointer = no
tells_ordinal sort.Nil = no
tells_ordinal sort.Other = no

module _ (types : List TypeDef) (place : Place) where
  -- ---- conversions

  cast_at : (ty : TypeId) (one : Option TypeDef) (s : Sort) (e : Expression) → Lawful (cast_one place ty one s e)
  cast_at ty None s e = lawful_refuses _
  cast_at ty (Some (type.Ordinal host low high)) s e =
      let made = Convert (predefined (storage_of host low high) ty) e in
      lawful_either (is_pointer s) (refuses (left_out place feature.Casts)) (rule (broken place rules.Stands) (is_ordinal s) (IsOrdinal s) made)
      (lawful_refuses _) (lawful_rule (broken place rules.Stands) (is_ordinal s) (IsOrdinal s) made (tells_ordinal s))
  cast_at ty (Some (type.Str max)) s e = lawful_refuses _
  cast_at ty (Some (type.SetOf base)) s e = lawful_refuses _
  cast_at ty (Some (type.ArrayOf index element)) s e = lawful_refuses _
  cast_at ty (Some (type.RecordOf fields)) s e = lawful_refuses _
  cast_at ty (Some (type.PointerTo target)) s e = lawful_refuses _
  cast_at ty (Some (type.ObjectOf parent dynamic fields methods)) s e = lawful_refuses _
  cast_at ty (Some (type.Procedural header)) s e = lawful_refuses _

  pub lawful_cast : (ty : TypeId) (es : List Expression) → Lawful (cast types place ty es)
  unfolding cast
  lawful_cast ty [] = lawful_refuses _
  lawful_cast ty (e ∷ []) = cast_at ty (definition types ty) (sort_of types e) e
  lawful_cast ty (e ∷ (f ∷ es)) = lawful_refuses _

  -- ---- arguments

  module _ (checked : Bool) where
    lawful_value : (ty : TypeId) (e : Expression) → Lawful (by_value types place checked ty e)
    lawful_value ty e =
        let made = value (assigned_by ty (definition types ty) (stored_of types e) checked e) in
        let test = is_assignable types (sort_of_type types ty) (sort_of types e) ty (type_of e) in
        let Asked = IsAssignable types (sort_of_type types ty) (sort_of types e) ty (type_of e) in
        lawful_rule (broken place rules.Called) test Asked made (tells_assignable types (sort_of_type types ty) (sort_of types e) ty (type_of e))

    lawful_variable : (ty own : TypeId) (at : tree.Place) → Lawful (by_place types place ty (Load own at))
    lawful_variable ty own at =
        lawful_rule (broken place rules.Called) (is_variable_for types ty own) (IsVariableFor types ty own) (place_of at) (Decides-or _ _ (Decides-eqb own.0 ty.0) (tells_line types own ty))

    lawful_place : (ty : TypeId) (e : Expression) → Lawful (by_place types place ty e)
    lawful_place ty (Load own at) = lawful_variable ty own at
    lawful_place ty (Const own v) = lawful_refuses _
    lawful_place ty (RoutineValue own routine) = lawful_refuses _
    lawful_place ty (Unary own op operand) = lawful_refuses _
    lawful_place ty (Binary own op left right early) = lawful_refuses _
    lawful_place ty (Convert own operand) = lawful_refuses _
    lawful_place ty (Range own operand low high) = lawful_refuses _
    lawful_place ty (SetOf own listed) = lawful_refuses _
    lawful_place ty (Call own routine self args) = lawful_refuses _
    lawful_place ty (CallVirtual own self slot other args) = lawful_refuses _
    lawful_place ty (CallThrough own through args) = lawful_refuses _
    lawful_place ty (Std own number args) = lawful_refuses _
    lawful_place ty (Make own routine args) = lawful_refuses _

    lawful_kind : (ty : TypeId) (by_ref : Bool) (e : Expression) → Lawful (by_kind types place checked ty by_ref e)
    lawful_kind ty true e = lawful_place ty e
    lawful_kind ty false e = lawful_value ty e

    lawful_handed : (param : Param) (e : Expression) → Lawful (handed types place checked param e)
    unfolding handed
    lawful_handed param e = lawful_kind param.ty param.by_ref e

    pub lawful_given : (params : List Param) (es : List Expression) → Lawful (given types place checked params es)
    lawful_given [] [] = lawful_makes _
    lawful_given [] (e ∷ es) = lawful_refuses _
    lawful_given (param ∷ params) [] = lawful_refuses _
    lawful_given (param ∷ params) (e ∷ es) = lawful_parts (handed types place checked param e) (given types place checked params es) _ (lawful_handed param e) (lawful_given params es) (λ one rest. lawful_makes _)

    -- ---- calls

    result_at : (routine : RoutineId) (header : Header) (result : Option TypeId) (es : List Expression) → Lawful (result_called types place checked routine header result es)
    result_at routine header None es = lawful_refuses _
    result_at routine header (Some ty) es = lawful_part (given types place checked header.params es) _ (lawful_given header.params es) (λ all. lawful_makes _)

    pub lawful_called : (routine : RoutineId) (header : Header) (es : List Expression) → Lawful (called types place checked routine header es)
    unfolding called
    lawful_called routine header es = result_at routine header header.result es

    performed_at : (routine : RoutineId) (header : Header) (result : Option TypeId) (es : List Expression) → Lawful (result_performed types place checked routine header result es)
    performed_at routine header None es = lawful_part (given types place checked header.params es) _ (lawful_given header.params es) (λ all. lawful_makes _)
    performed_at routine header (Some ty) es = lawful_refuses _

    pub lawful_performed : (routine : RoutineId) (header : Header) (es : List Expression) → Lawful (performed types place checked routine header es)
    unfolding performed
    lawful_performed routine header es = performed_at routine header header.result es
