-- What the judgement of set constructors promises.
use Rattle.std.specs.Prelude.{Bool, List}
use Rattle.type_layout.specs.declared.definitions.TypeDef.{TypeDef}
use Rattle.type_layout.specs.declared.texts.Place.{Place}
use Rattle.typing_rules.specs.Laws.{Lawful}
use Rattle.call_rules.specs.set_rules.Sets.{Item, constructed}

abbrev pub IsLawful : Type 0
IsLawful = (types : List TypeDef) (place : Place) (checked : Bool) (items : List Item) → Lawful (constructed types place checked items)
