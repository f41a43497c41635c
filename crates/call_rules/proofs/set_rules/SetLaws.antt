-- The judgement of set constructors is lawful.
use Rattle.std.proofs.Common.{◌≡◌, ℕ, Bool, true, List, [], ◌∷◌, Option, Some, None, map, Decides}
use Rattle.std.proofs.lemmas.Bool.Decides.{Decides-and}
use Rattle.type_layout.specs.declared.definitions.TypeId.{TypeId}
use Rattle.type_layout.specs.declared.definitions.TypeDef.{TypeDef}
use Rattle.type_layout.specs.declared.texts.Place.{Place}
use Rattle.typed_tree.specs.declared.expressions.Value.{Value}
use Rattle.typed_tree.specs.declared.expressions.Value.TheVariants as value
use Rattle.typed_tree.specs.Expressions.{Expression, Const, RoutineValue, Load, Unary, Binary, Convert, Range, SetOf, Call, CallVirtual, CallThrough, Std, Make}
use Rattle.typing_rules.specs.declared.faults.Rule.TheVariants as rules
use Rattle.typing_rules.specs.declared.sorts.Sort.{Sort}
use Rattle.typing_rules.specs.Faults.{broken}
use Rattle.typing_rules.specs.Judgements.{rule}
use Rattle.typing_rules.specs.Sorts.{sort_of}
use Rattle.typing_rules.specs.Laws.{Lawful}
use Rattle.typing_rules.proofs.JudgementLaws.{lawful_makes, lawful_refuses, lawful_rule, lawful_part}
use Rattle.typing_rules.proofs.PlanLaws.{yes, no, tells_one_host}
use Rattle.call_rules.specs.set_rules.Bases.{set_over}
use Rattle.call_rules.specs.set_rules.Sets.{Item, single, span, IsSmall, is_small, IsElement, is_element, IsItem, is_item, AreItems, are_items, ranged_item, first_sort, typed_set, constructed_by, constructed}

tells_constant : (ty : TypeId) (v : Value) → Decides (is_small (Const ty v)) (IsSmall (Const ty v))
tells_constant ty (value.Number n) = (λ e. e, λ h. h)
tells_constant ty (value.Chars bytes) = yes
tells_constant ty value.Nil = yes
tells_constant ty (value.Elements bytes) = yes

tells_small : (e : Expression) → Decides (is_small e) (IsSmall e)
tells_small (Const ty v) = tells_constant ty v
tells_small (RoutineValue ty routine) = yes
tells_small (Load ty at) = yes
tells_small (Unary ty op operand) = yes
tells_small (Binary ty op left right early) = yes
tells_small (Convert ty operand) = yes
tells_small (Range ty operand low high) = yes
tells_small (SetOf ty listed) = yes
tells_small (Call ty routine own args) = yes
tells_small (CallVirtual ty own slot checked args) = yes
tells_small (CallThrough ty through args) = yes
tells_small (Std ty number args) = yes
tells_small (Make ty routine args) = yes

module _ (types : List TypeDef) (s : Sort) where
  tells_element : (e : Expression) → Decides (is_element types s e) (IsElement types s e)
  tells_element e = Decides-and _ _ (tells_one_host s (sort_of types e)) (tells_small e)

  tells_item : (item : Item) → Decides (is_item types s item) (IsItem types s item)
  tells_item (single e) = tells_element e
  tells_item (span low high) = Decides-and _ _ (tells_element low) (tells_element high)

  tells_items : (items : List Item) → Decides (are_items types s items) (AreItems types s items)
  tells_items [] = yes
  tells_items (item ∷ items) = Decides-and _ _ (tells_item item) (tells_items items)

module _ (types : List TypeDef) (place : Place) (checked : Bool) where
  lawful_typed : (ty : Option TypeId) (items : List Item) → Lawful (typed_set place ty items)
  lawful_typed None items = lawful_refuses _
  lawful_typed (Some ty) items = lawful_makes _

  lawful_by : (first : Option Sort) (items : List Item) → Lawful (constructed_by types place checked first items)
  lawful_by None items = lawful_makes _
  lawful_by (Some s) items =
      lawful_part (rule (broken place rules.Listed) (are_items types s items) (AreItems types s items) tt) (λ u. typed_set place (set_over types s) (map (ranged_item checked) items))
      (lawful_rule (broken place rules.Listed) (are_items types s items) (AreItems types s items) tt (tells_items types s items))
      (λ u. lawful_typed (set_over types s) (map (ranged_item checked) items))

  pub lawful_constructed : (items : List Item) → Lawful (constructed types place checked items)
  unfolding constructed
  lawful_constructed items = lawful_by (first_sort types items) items
