-- Set constructors as nodes have them.
use Rattle.std.proofs.Common.{◌≡◌, Bool, true, List, [], ◌∷◌, ◌++◌, Option, Some, None, Ok, map, refl, ap, ◌∙◌, Vec, Global}
use Rattle.std.proofs.lemmas.List.{map-append}
use Rattle.type_layout.specs.declared.definitions.TypeId.{TypeId}
use Rattle.type_layout.specs.declared.definitions.TypeDef.{TypeDef}
use Rattle.type_layout.specs.declared.texts.Place.{Place}
use Rattle.typed_tree.specs.declared.expressions.SetElement.{SetElement}
use Rattle.typed_tree.specs.declared.expressions.SetElement.TheVariants as element
use Rattle.typed_tree.specs.declared.expressions.Expr.TheVariants as expr
use Rattle.typed_tree.specs.Expressions.{Expression, Elements, SetOf, One, Span, view_expr, view_elements}
use Rattle.typed_tree.proofs.Views.{view_set}
use Rattle.typing_rules.specs.declared.sorts.Sort.{Sort}
use Rattle.call_rules.specs.set_rules.Bases.{set_of_byte, set_over}
use Rattle.call_rules.specs.set_rules.Sets.{Item, view_item, elements_of, are_items, ranged_item, first_sort, constructed_by, constructed}

-- one more element is tested
pub made_more : (f : Item → Item) (made : List SetElement) (tested : SetElement) (items : List SetElement) (one : SetElement) → map view_item made ≡ map f (map view_item items) → f (view_item one) ≡ view_item tested
    → map view_item (made ++ (tested ∷ [])) ≡ map f (map view_item (items ++ (one ∷ [])))
made_more f made tested items one e h =
    rw (map-append view_item made (tested ∷ []), map-append view_item items (one ∷ []), map-append f (map view_item items) (view_item one ∷ []), e, h) refl

viewed : (items : List SetElement) → view_elements items ≡ elements_of (map view_item items)
viewed [] = refl
viewed (element.One one ∷ rest) = ap (λ (z : Elements). One (view_expr one) z) (viewed rest)
viewed (element.Span low high ∷ rest) = ap (λ (z : Elements). Span (view_expr low) (view_expr high) z) (viewed rest)

pub set_node : (ty : TypeId) (items : Vec SetElement Global) → view_expr (expr.SetOf ty items) ≡ SetOf ty (elements_of (map view_item items.items))
set_node ty items = view_set ty items ∙ ap (λ (z : Elements). SetOf ty z) (viewed items.items)

module _ (types : List TypeDef) (place : Place) (checked : Bool) where
  made_at : (s : Sort) (ty : TypeId) (items : List Item) → are_items types s items ≡ true → set_over types s ≡ Some ty
      → (constructed_by types place checked (Some s) items).run ≡ Ok (SetOf ty (elements_of (map (ranged_item checked) items)))
  made_at s ty items h o = rw (h, o) refl

  -- the node of elements that were tested
  pub over_gives : (s : Sort) (ty : TypeId) (items : List Item) (made : Vec SetElement Global) → are_items types s items ≡ true → set_over types s ≡ Some ty
      → map (ranged_item checked) items ≡ map view_item made.items → (constructed_by types place checked (Some s) items).run ≡ Ok (view_expr (expr.SetOf ty made))
  over_gives s ty items made h o m = made_at s ty items h o ∙ rw (set_node ty made, m) refl

  -- the node of none
  pub empty_gives : (items : Vec SetElement Global) → first_sort types (map view_item items.items) ≡ None
      → (constructed types place checked (map view_item items.items)).run ≡ Ok (view_expr (expr.SetOf set_of_byte items))
  unfolding constructed
  empty_gives items e = rw (e, set_node set_of_byte items) refl

  -- what begins with an ordinal
  pub first_gives : (s : Sort) (items : List Item) → first_sort types items ≡ Some s → (constructed types place checked items).run ≡ (constructed_by types place checked (Some s) items).run
  unfolding constructed
  first_gives s items e = rw e refl
