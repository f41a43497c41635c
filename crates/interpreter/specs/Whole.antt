-- What a whole run shows.
use Rattle.std.specs.Prelude.{List, map, Option}
use Rattle.type_layout.specs.declared.definitions.TypeDef.{TypeDef}
use Rattle.typed_tree.specs.declared.units.Global.{Global}
use Rattle.tp_meaning.specs.Shapes.{first_tree}
use Rattle.tp_meaning.specs.Store.{Object}
use Rattle.tp_meaning.specs.Activations.{variable_object}
use Rattle.common_values.specs.behaviour.Seen.{Standing, Ended, Going, Undefined, Stopped, Seen}
use Rattle.interpreter.specs.declared.program.MeanEnd.{MeanEnd}
use Rattle.interpreter.specs.declared.program.MeanEnd.TheVariants as mean_end
use Rattle.interpreter.specs.declared.program.Meaning.{Meaning}

abbrev pub view_end : MeanEnd → Standing
view_end (mean_end.Ended code) = Ended code
view_end mean_end.Going = Going
view_end (mean_end.Undefined act) = Undefined act
view_end mean_end.Stopped = Stopped

abbrev pub view_meaning : Meaning → Seen
view_meaning meaning = record { out = meaning.out.items; err = meaning.err.items; end = view_end meaning.end }

-- the objects of globals, which begin with their first values
abbrev pub global_objects : List TypeDef → List Global → List (Option Object)
global_objects types globals = map (λ (global : Global). variable_object (first_tree types global.ty global.first)) globals
