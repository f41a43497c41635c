-- What is well formed in a scope is so in each that has more.
use Rattle.type_layout.specs.declared.definitions.TypeId.{TypeId}
use Rattle.typed_tree.specs.Expressions.{Expression, Place}
use Rattle.typed_tree.specs.Statements.{Statement}
use Rattle.well_formed.specs.Scopes.{Scope}
use Rattle.well_formed.specs.Typed.{IsTyped, HasPlace}
use Rattle.well_formed.specs.WellFormed.{IsStatement}
use Rattle.well_formed.specs.weakening.Weakening.{Weakens}

abbrev pub ExpressionsStay : Type 0
ExpressionsStay = (s t : Scope) → Weakens s t → (e : Expression) → IsTyped s e → IsTyped t e

abbrev pub PlacesStay : Type 0
PlacesStay = (s t : Scope) → Weakens s t → (at : Place) (ty : TypeId) → HasPlace s at ty → HasPlace t at ty

abbrev pub StatementsStay : Type 0
StatementsStay = (s t : Scope) → Weakens s t → (one : Statement) → IsStatement s one → IsStatement t one
