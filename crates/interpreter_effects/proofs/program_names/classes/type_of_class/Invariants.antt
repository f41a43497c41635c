-- None of the types so far is the class.
use Rattle.std.proofs.Common.{◌≡◌}
use Rattle.std.specs.Prelude.{position}
use Rattle.tp_meaning.specs.Programs.{is_origin}
use Rattle.interpreter_store.specs.cell_store.Views.{view_key}
use Rattle.interpreter_effects.proofs.program_names.Positions.{searched}
use Rattle.interpreter_effects.proofs.program_names.classes.type_of_class.Given as goal

abbrev pub invariant-types : goal.invariant-types
invariant-types l =
    position (is_origin l.types (view_key l.class)) l.types.origins ≡ searched (is_origin l.types (view_key l.class)) l.types.origins l.number
