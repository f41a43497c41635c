-- Set constructors.
use Rattle.std.specs.Prelude.{◌≡◌, pos, Bool, true, ◌&&◌, List, [], ◌∷◌, Option, Some, None, map}
use Rattle.type_layout.specs.declared.definitions.TypeId.{TypeId}
use Rattle.type_layout.specs.declared.definitions.Host.TheVariants as host
use Rattle.type_layout.specs.declared.definitions.TypeDef.{TypeDef}
use Rattle.type_layout.specs.declared.texts.Place.{Place}
use Rattle.type_layout.specs.Storage.{holds}
use Rattle.typed_tree.specs.declared.expressions.Value.TheVariants as value
use Rattle.typed_tree.specs.declared.expressions.SetElement.{SetElement}
use Rattle.typed_tree.specs.declared.expressions.SetElement.TheVariants as element
use Rattle.typed_tree.specs.Expressions.{Expression, Elements, Const, SetOf, NoElements, One, Span, view_expr}
use Rattle.typing_rules.specs.declared.faults.Rule.TheVariants as rules
use Rattle.typing_rules.specs.declared.sorts.Sort.{Sort}
use Rattle.typing_rules.specs.Faults.{broken}
use Rattle.typing_rules.specs.Judgements.{Judgement, makes, refuses, rule}
use Rattle.typing_rules.specs.Selectors.{asking}
use Rattle.typing_rules.specs.Sorts.{sort_of}
use Rattle.typing_rules.specs.Plans.{AreOfOneHost, are_of_one_host}
use Rattle.typing_rules.specs.Assignments.{ranged}
use Rattle.call_rules.specs.set_rules.Bases.{set_of_byte, set_over}

-- what a constructor lists: an ordinal, or all from one to another
pub data Item : Type 0 where
  single : Expression → Item
  span : Expression → Expression → Item

abbrev pub view_item : SetElement → Item
view_item (element.One e) = single (view_expr e)
view_item (element.Span low high) = span (view_expr low) (view_expr high)

-- items as a node has them
abbrev pub onto : Item → Elements → Elements
onto (single e) rest = One e rest
onto (span low high) rest = Span low high rest

abbrev pub elements_of : List Item → Elements
elements_of [] = NoElements
elements_of (item ∷ items) = onto item (elements_of items)

-- ---- what is asked

-- a constant lies in 0..255
abbrev pub IsSmall : Expression → Type 0
IsSmall (Const ty (value.Number n)) = holds host.Byte n n ≡ true
IsSmall e = Unit {0}

abbrev pub is_small : Expression → Bool
is_small (Const ty (value.Number n)) = holds host.Byte n n
is_small e = true

-- an ordinal of the host
abbrev pub IsElement : List TypeDef → Sort → Expression → Type 0
IsElement types s e = AreOfOneHost s (sort_of types e) × IsSmall e

abbrev pub is_element : List TypeDef → Sort → Expression → Bool
is_element types s e = are_of_one_host s (sort_of types e) && is_small e

abbrev pub IsItem : List TypeDef → Sort → Item → Type 0
IsItem types s (single e) = IsElement types s e
IsItem types s (span low high) = IsElement types s low × IsElement types s high

abbrev pub is_item : List TypeDef → Sort → Item → Bool
is_item types s (single e) = is_element types s e
is_item types s (span low high) = is_element types s low && is_element types s high

abbrev pub AreItems : List TypeDef → Sort → List Item → Type 0
AreItems types s [] = Unit {0}
AreItems types s (item ∷ items) = IsItem types s item × AreItems types s items

abbrev pub are_items : List TypeDef → Sort → List Item → Bool
are_items types s [] = true
are_items types s (item ∷ items) = is_item types s item && are_items types s items

-- ---- the node

-- each element is tested where tests are asked for
abbrev pub ranged_item : Bool → Item → Item
ranged_item checked (single e) = single (ranged checked (pos 0) (pos 255) e)
ranged_item checked (span low high) = span (ranged checked (pos 0) (pos 255) low) (ranged checked (pos 0) (pos 255) high)

-- what the first element is, by which the others go
abbrev pub first_sort : List TypeDef → List Item → Option Sort
first_sort types [] = None
first_sort types (single e ∷ items) = Some (sort_of types e)
first_sort types (span low high ∷ items) = Some (sort_of types low)

-- the declaration of an enumeration adds the set over it, so that this is never told
abbrev pub typed_set : Place → Option TypeId → List Item → Judgement Expression
typed_set place None items = refuses (broken place rules.Listed)
typed_set place (Some ty) items = makes (SetOf ty (elements_of items))

abbrev pub constructed_by : List TypeDef → Place → Bool → Option Sort → List Item → Judgement Expression
constructed_by types place checked None items = makes (SetOf set_of_byte (elements_of items))
constructed_by types place checked (Some s) items =
    asking (rule (broken place rules.Listed) (are_items types s items) (AreItems types s items) tt)
    (typed_set place (set_over types s) (map (ranged_item checked) items))

-- A set constructor at a place: ordinals of one host, and the set over all of that host. With `checked` each element lies in 0..255.
unfoldable pub constructed : List TypeDef → Place → Bool → List Item → Judgement Expression
constructed types place checked items = constructed_by types place checked (first_sort types items) items
