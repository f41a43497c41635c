-- What a well-typed program asks can be met.
use Rattle.store_typing.specs.tp_meaning.ShownCalls.{Boxed}
use Rattle.program_typing.specs.programs.WellTyped.{IsWellTyped}
use Rattle.program_typing.specs.programs.Example.{counting_program}

abbrev pub CanBeMet : Type 0
CanBeMet = (b : Boxed) → IsWellTyped (counting_program b)
