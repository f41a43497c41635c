-- The activations of src/ as those of the meaning.
use Rattle.std.specs.Prelude.{map}
use Rattle.interpreter_effects.specs.declared.activations.calls.Level.{Level}
use Rattle.interpreter_effects.specs.declared.activations.calls.Activation.{Activation}
use Rattle.interpreter_effects.specs.declared.activations.callee.Callee.{Callee}
use Rattle.interpreter_store.specs.typed_cells.Sorts.{view_reached}
use Rattle.tp_meaning.specs.Activations.{Level as PureLevel, Activation as PureActivation, Callee as PureCallee}

abbrev pub view_level : Level → PureLevel
view_level level = record { number = level.number; routine = level.routine.now; first = level.first }

abbrev pub view_activation : Activation → PureActivation
view_activation f = record { unit = f.unit.now; levels = map view_level f.levels.items; withs = map view_reached f.withs.items; sum = f.sum }

abbrev pub view_callee : Callee → PureCallee
view_callee callee = record { unit = callee.unit.now; number = callee.number; routine = callee.routine.now }
