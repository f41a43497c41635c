-- What is answered has the size of its type.
use Rattle.std.proofs.Common.{◌≡◌, ℕ, List, Result, Ok, Err, length, IfOk}
use Rattle.type_layout.specs.declared.definitions.TypeId.{TypeId}
use Rattle.type_layout.specs.declared.texts.Place.{Place}
use Rattle.type_layout.specs.Layouts.{IsMeasured, size_of}
use Rattle.scopes.specs.Environment.{Environment}
use Rattle.typing_rules.specs.declared.faults.CheckError.{CheckError}
use Rattle.constant_checker.specs.typed_constants.Trees.{Initial}
use Rattle.constant_checker.specs.typed_constants.Initializers.{IsFirst}
use Rattle.constant_checker.proofs.typed_constants.Sizes.{whole}

pub whole_answer : (g : Environment) (place : Place) (ty : TypeId) (tree : Initial) → IsMeasured g.types.types → (answer : Result (List ℕ) CheckError)
    → IfOk answer (λ bytes. IsFirst g place ty tree bytes) → IfOk answer (λ bytes. length bytes ≡ size_of g.types.types ty)
whole_answer g place ty tree m (Ok bytes) h = whole g place ty tree bytes m h
whole_answer g place ty tree m (Err e) h = tt
