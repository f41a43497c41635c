-- The judgements of selectors are lawful.
use Rattle.std.proofs.Common.{ℕ, Bool, List, Option, Some, None, slice_get}
use Rattle.type_layout.specs.declared.definitions.TypeId.{TypeId}
use Rattle.type_layout.specs.declared.definitions.Field.{Field}
use Rattle.type_layout.specs.declared.definitions.TypeDef.{TypeDef}
use Rattle.type_layout.specs.declared.definitions.TypeDef.TheVariants as type
use Rattle.type_layout.specs.declared.texts.Place.{Place}
use Rattle.typed_tree.specs.Expressions as tree
use Rattle.typed_tree.specs.Expressions.{Expression, Const, RoutineValue, Load, Unary, Binary, Convert, Range, SetOf, Call, CallVirtual, CallThrough, Std, Make, FieldOf, Index, Deref}
use Rattle.typed_tree.specs.type_fits.Fits.{definition}
use Rattle.scopes.specs.declared.members.Member.{Member}
use Rattle.scopes.specs.Members.{member_of}
use Rattle.typing_rules.specs.declared.faults.Rule.TheVariants as rules
use Rattle.typing_rules.specs.Faults.{broken}
use Rattle.typing_rules.specs.Judgements.{refuses, rule}
use Rattle.typing_rules.specs.Sorts.{char, sort_of_type, sort_of}
use Rattle.typing_rules.specs.Plans.{AreOfOneHost, are_of_one_host, IsInteger, is_integer}
use Rattle.typing_rules.specs.Selectors.{loaded, field_at, field_named, own_field, member_named, selected_by, selected, indexed_by, indexed, target_of, followed_to, followed}
use Rattle.typing_rules.specs.Laws.{Lawful}
use Rattle.typing_rules.proofs.JudgementLaws.{lawful_makes, lawful_refuses, lawful_rule, lawful_either, lawful_part}
use Rattle.typing_rules.proofs.PlanLaws.{tells_integer, tells_one_host}

module _ (types : List TypeDef) (place : Place) where
  -- ---- fields

  lawful_field : (at : tree.Place) (number : ℕ) (one : Option Field) → Lawful (field_at place at number one)
  lawful_field at number None = lawful_refuses _
  lawful_field at number (Some one) = lawful_makes _

  lawful_named : (at : tree.Place) (fields : List Field) (one : Option Member) → Lawful (field_named place at fields one)
  lawful_named at fields None = lawful_refuses _
  lawful_named at fields (Some one) = lawful_field at one.number (slice_get fields one.number)

  lawful_member : (at : tree.Place) (name : List ℕ) (one : Option Member) → Lawful (member_named types place at name one)
  lawful_member at name None = lawful_refuses _
  lawful_member at name (Some one) =
      let field = own_field (definition types one.class) name in
      lawful_either one.method (refuses (broken place rules.Selected)) (field_at place at one.number field) (lawful_refuses _) (lawful_field at one.number field)

  selected_at : (ty : TypeId) (at : tree.Place) (one : Option TypeDef) (name : List ℕ) → Lawful (selected_by types place ty at one name)
  selected_at ty at None name = lawful_refuses _
  selected_at ty at (Some (type.Ordinal host low high)) name = lawful_refuses _
  selected_at ty at (Some (type.Str max)) name = lawful_refuses _
  selected_at ty at (Some (type.SetOf base)) name = lawful_refuses _
  selected_at ty at (Some (type.ArrayOf index element)) name = lawful_refuses _
  selected_at ty at (Some (type.RecordOf fields)) name = lawful_named at fields (member_of types (Some ty) name)
  selected_at ty at (Some (type.PointerTo target)) name = lawful_refuses _
  selected_at ty at (Some (type.ObjectOf parent dynamic fields methods)) name = lawful_member at name (member_of types (Some ty) name)
  selected_at ty at (Some (type.Procedural header)) name = lawful_refuses _

  pub lawful_selected : (e : Expression) (name : List ℕ) → Lawful (selected types place e name)
  unfolding selected
  lawful_selected (Load ty at) name = selected_at ty at (definition types ty) name
  lawful_selected (Const ty value) name = lawful_refuses _
  lawful_selected (RoutineValue ty routine) name = lawful_refuses _
  lawful_selected (Unary ty op operand) name = lawful_refuses _
  lawful_selected (Binary ty op left right early) name = lawful_refuses _
  lawful_selected (Convert ty operand) name = lawful_refuses _
  lawful_selected (Range ty operand low high) name = lawful_refuses _
  lawful_selected (SetOf ty listed) name = lawful_refuses _
  lawful_selected (Call ty routine own args) name = lawful_refuses _
  lawful_selected (CallVirtual ty own slot checked args) name = lawful_refuses _
  lawful_selected (CallThrough ty through args) name = lawful_refuses _
  lawful_selected (Std ty number args) name = lawful_refuses _
  lawful_selected (Make ty routine args) name = lawful_refuses _

  -- ---- elements

  module _ (checked : Bool) (i : Expression) where
    lawful_element : (at : tree.Place) (over element : TypeId) → Lawful (indexed_by types place checked at (Some (type.ArrayOf over element)) i)
    lawful_element at over element =
        lawful_part (rule (broken place rules.Indexed) (are_of_one_host (sort_of_type types over) (sort_of types i)) (AreOfOneHost (sort_of_type types over) (sort_of types i)) tt) (λ u. loaded element (Index at i checked))
        (lawful_rule (broken place rules.Indexed) (are_of_one_host (sort_of_type types over) (sort_of types i)) (AreOfOneHost (sort_of_type types over) (sort_of types i)) tt (tells_one_host (sort_of_type types over) (sort_of types i)))
        (λ u. lawful_makes (Load element (Index at i checked)))

    indexed_at : (at : tree.Place) (one : Option TypeDef) → Lawful (indexed_by types place checked at one i)
    indexed_at at None = lawful_refuses _
    indexed_at at (Some (type.Ordinal host low high)) = lawful_refuses _
    indexed_at at (Some (type.Str max)) = lawful_rule (broken place rules.Indexed) (is_integer (sort_of types i)) (IsInteger (sort_of types i)) (Load char (Index at i checked)) (tells_integer (sort_of types i))
    indexed_at at (Some (type.SetOf base)) = lawful_refuses _
    indexed_at at (Some (type.ArrayOf over element)) = lawful_element at over element
    indexed_at at (Some (type.RecordOf fields)) = lawful_refuses _
    indexed_at at (Some (type.PointerTo target)) = lawful_refuses _
    indexed_at at (Some (type.ObjectOf parent dynamic fields methods)) = lawful_refuses _
    indexed_at at (Some (type.Procedural header)) = lawful_refuses _

  pub lawful_indexed : (checked : Bool) (e i : Expression) → Lawful (indexed types place checked e i)
  unfolding indexed
  lawful_indexed checked (Load ty at) i = indexed_at checked i at (definition types ty)
  lawful_indexed checked (Const ty value) i = lawful_refuses _
  lawful_indexed checked (RoutineValue ty routine) i = lawful_refuses _
  lawful_indexed checked (Unary ty op operand) i = lawful_refuses _
  lawful_indexed checked (Binary ty op left right early) i = lawful_refuses _
  lawful_indexed checked (Convert ty operand) i = lawful_refuses _
  lawful_indexed checked (Range ty operand low high) i = lawful_refuses _
  lawful_indexed checked (SetOf ty listed) i = lawful_refuses _
  lawful_indexed checked (Call ty routine own args) i = lawful_refuses _
  lawful_indexed checked (CallVirtual ty own slot other args) i = lawful_refuses _
  lawful_indexed checked (CallThrough ty through args) i = lawful_refuses _
  lawful_indexed checked (Std ty number args) i = lawful_refuses _
  lawful_indexed checked (Make ty routine args) i = lawful_refuses _

  -- ---- pointers

  lawful_to : (target : Option TypeId) (e : Expression) → Lawful (followed_to types place target e)
  lawful_to None e = lawful_refuses _
  lawful_to (Some target) e = lawful_makes _

  pub lawful_followed : (e : Expression) → Lawful (followed types place e)
  unfolding followed
  lawful_followed e = lawful_to (target_of types e) e
