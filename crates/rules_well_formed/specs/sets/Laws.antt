-- Set constructors give typed nodes, where what they list is typed.
use Rattle.std.specs.Prelude.{Bool, List, [], ◌∷◌}
use Rattle.well_formed.specs.type_layout.declared.texts.Place.{Place}
use Rattle.well_formed.specs.typed_tree.Expressions.{Expression}
use Rattle.well_formed.specs.Scopes.{Scope}
use Rattle.well_formed.specs.Typed.{IsTyped}
use Rattle.call_rules.specs.set_rules.Sets.{Item, single, span, constructed}
use Rattle.rules_well_formed.specs.nodes.Tables.{IsSound}
use Rattle.rules_well_formed.specs.nodes.Laws.{IsOperand}

abbrev pub ListsOperands : Scope → Item → Type 0
ListsOperands s (single e) = IsOperand s e
ListsOperands s (span low high) = IsOperand s low × IsOperand s high

abbrev pub AllListOperands : Scope → List Item → Type 0
AllListOperands s [] = Unit {0}
AllListOperands s (item ∷ items) = ListsOperands s item × AllListOperands s items

abbrev pub SetLaw : Type 0
SetLaw = (s : Scope) → IsSound s.types → (place : Place) (checked : Bool) (items : List Item) (e : Expression) → AllListOperands s items
    → (constructed s.types place checked items).holds e → IsTyped s e
