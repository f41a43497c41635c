-- What follows for every scope, every type and every first value.
use Rattle.std.specs.Prelude.{◌≡◌, List, ℕ, length}
use Rattle.type_layout.specs.declared.definitions.TypeId.{TypeId}
use Rattle.type_layout.specs.declared.texts.Place.{Place}
use Rattle.type_layout.specs.Layouts.{size_of, IsMeasured}
use Rattle.scopes.specs.Environment.{Environment}
use Rattle.typing_rules.specs.Laws.{IsExact}
use Rattle.constant_checker.specs.typed_constants.Trees.{Initial}
use Rattle.constant_checker.specs.typed_constants.Initializers.{first_value, IsFirst}

-- A first value has one list of bytes at most; it has one exactly where no fault is in it.
abbrev pub AreExact : Type 0
AreExact = (g : Environment) (place : Place) (ty : TypeId) → IsExact (first_value g place ty)

-- the bytes are as many as the type's size
abbrev pub AreWhole : Type 0
AreWhole = (g : Environment) (place : Place) (ty : TypeId) (tree : Initial) (bytes : List ℕ) → IsMeasured g.types.types
    → IsFirst g place ty tree bytes → length bytes ≡ size_of g.types.types ty
