-- Where variables lie, so far from BP.
use Rattle.std.specs.Prelude.{List}
use Rattle.type_layout.specs.declared.definitions.TypeDef.{TypeDef}
use Rattle.typed_tree.specs.declared.units.Routine.{Routine}
use Rattle.lower_places.specs.declared.homes.Home.{Home as PlacedHome}
use Rattle.lower_places.specs.declared.homes.Home.TheVariants as placed_home
use Rattle.lower_places.specs.Frames.{Home, In, Behind, part_at}

abbrev pub placed : List TypeDef → Routine → Home → PlacedHome
placed types routine (In part) = placed_home.In (part_at types routine part)
placed types routine (Behind part) = placed_home.Behind (part_at types routine part)
