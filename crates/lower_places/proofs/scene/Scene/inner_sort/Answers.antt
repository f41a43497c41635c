use Rattle.std.proofs.Common.{arith, ◌-◌}
use Rattle.tp_meaning.specs.Activations.{first_held}
use Rattle.lower_places.specs.Sorts.{sort_of_number}
use Rattle.lower_places.specs.Scenes.{view_sort, view_scene, surroundings_in}
use Rattle.lower_places.proofs.SortParts.{held_found, held_past}
use Rattle.lower_places.proofs.scene.Scene.inner_sort.Goals as goal

pub returns-in_ok-held : goal.returns-in_ok-held
returns-in_ok-held c =
    let here = surroundings_in (view_scene c.args.self.now) in
    let held = c.in_ok-held.field-0.now in
    let at = held_found c.args.self.now.withs.now (c.args.number - first_held) held c.in_ok-held.ensures.value in
    held_past here c.args.number (sort_of_number here c.args.number c.args.self.now.routine.now) (view_sort held.sort) (omega arith) at
