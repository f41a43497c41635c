-- The start of a program.
use Rattle.std.specs.Prelude.{List, ◌∷◌, map}
use Rattle.std.specs.List.{flat_map}
use Rattle.program_typing.specs.typed_tree.declared.units.Global.{Global}
use Rattle.program_typing.specs.typed_tree.declared.units.Unit.{Unit as TypedUnit}
use Rattle.program_typing.specs.typed_tree.declared.units.Program.{Program}
use Rattle.program_typing.specs.tp_meaning.Programs.{sort_in, integer_sort}
use Rattle.program_typing.specs.tp_meaning.Meaning.{start_store}
use Rattle.program_typing.specs.store_typing.stores.Worlds.{Made, Own}
use Rattle.program_typing.specs.store_typing.stores.Stores.{IsTypedStore}
use Rattle.program_typing.specs.lvalues.Frames.{HasGlobals}
use Rattle.program_typing.specs.programs.Outcomes.{world}

-- what the globals of the units are made as, behind the variable of the unit Overlay
abbrev pub globals_made : TypedUnit → List Made
globals_made unit = map (λ (global : Global). Own (sort_in unit global.ty)) unit.globals

abbrev pub start_made : Program → List Made
start_made program = Own integer_sort ∷ flat_map globals_made program.units

-- the globals are there, each with what its type has
pub record HasSoundStart (program : Program) : Type 0 where
  pub store : IsTypedStore (world program (start_made program)) (start_store program)
  pub globals : HasGlobals (world program (start_made program))
