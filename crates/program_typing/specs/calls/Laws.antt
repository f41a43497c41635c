-- What a call makes of a typed store, and of the activations round the routine that is called.
use Rattle.std.specs.Prelude.{◌≡◌, ℕ, ◌<◌, ◌^◌, List, ◌++◌, length, slice_get, Option, Some, Ok}
use Rattle.well_formed.specs.typed_tree.declared.units.Routine.{Routine}
use Rattle.well_formed.specs.typed_tree.declared.units.Unit.{Unit as TypedUnit}
use Rattle.well_formed.specs.typed_tree.type_fits.Routines.{variables_of}
use Rattle.store_typing.specs.tp_meaning.Trees.{Spot, Value}
use Rattle.store_typing.specs.tp_meaning.Store.{Store, next_serial}
use Rattle.store_typing.specs.tp_meaning.Activations.{Level, Callee, opened, around}
use Rattle.store_typing.specs.stores.Worlds.{World}
use Rattle.store_typing.specs.stores.Stores.{IsTypedStore, Finds}
use Rattle.program_typing.specs.lvalues.Frames.{IsLevel, AreLevels}
use Rattle.program_typing.specs.calls.Callees.{AreTaken, IsSelf, HasTypes, variables_made}

-- the routine with the second number is the one with the first, or is round it
pub data IsRound (routines : List Routine) (outer : ℕ) : ℕ → Type 0 where
  Here : IsRound routines outer outer
  Outside : (n m : ℕ) (routine : Routine) → slice_get routines n ≡ Some routine → routine.outer ≡ Some m → IsRound routines outer m → IsRound routines outer n

-- a world with the variables of a routine that is called
abbrev pub called_world : World → Callee → World
called_world w callee = record { program = w.program; made = w.made ++ variables_made callee.unit callee.routine }

-- the activations of an outer routine among those of an inner
pub record OuterLevels (w : World) (unit : TypedUnit) (outer : ℕ) (levels : List Level) : Type 0 where
  pub rest : List Level
  pub found : around outer levels ≡ Ok rest
  pub are : AreLevels w unit (Some outer) rest

pub record CallLaws (w : World) (store : Store) : Type 0 where
  -- the variables of a routine are made with their types
  pub opens : (callee : Callee) (own : Option Spot) (args : List Value) → HasTypes w callee → AreTaken w callee.unit callee.routine.header.params args → IsSelf w callee.unit callee.routine.owner own
      → Finds (IsTypedStore (called_world w callee)) (opened callee own args store)
  pub level : (callee : Callee) → HasTypes w callee → length (variables_of callee.routine) < 2 ^ 31
      → IsLevel (called_world w callee) callee.unit (record { number = callee.number; routine = callee.routine; first = next_serial store })

pub record LevelLaws (w : World) : Type 0 where
  -- an outer routine has its activation among those of an inner one
  pub outer : (unit : TypedUnit) (number outer : ℕ) (levels : List Level) → AreLevels w unit (Some number) levels → IsRound unit.routines outer number → OuterLevels w unit outer levels
