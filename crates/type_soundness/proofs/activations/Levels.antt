-- The activations of routines stay theirs as objects are made.
use Rattle.std.proofs.Common.{ℕ, ◌+◌, List, [], ◌∷◌, Some, None}
use Rattle.std.specs.Prelude.{Option}
use Rattle.program_typing.specs.typed_tree.declared.units.Unit.{Unit as TypedUnit}
use Rattle.program_typing.specs.tp_meaning.Programs.{sort_in}
use Rattle.program_typing.specs.tp_meaning.Activations.{Level, is_alias}
use Rattle.program_typing.specs.store_typing.stores.Worlds.{Made, World}
use Rattle.program_typing.proofs.store_typing_proofs.stores.Grown.{grows_by, made_grows}
use Rattle.program_typing.specs.lvalues.Frames.{made_as, IsLevel, AreLevels}
use Rattle.program_typing.specs.programs.Outcomes.{after}

module _ (w : World) (more : List Made) where
  pub level_after : (unit : TypedUnit) (level : Level) → IsLevel w unit level → IsLevel (after w more) unit level
  level_after unit level is = record {
    few = is.few;
    variables = λ number ty e.
        let one = is.variables number ty e in
        (one.0, made_grows w (after w more) (grows_by w more) (level.first + number) (made_as (is_alias level.routine number) (sort_in unit ty)) one.1);
  }

  pub levels_after : (unit : TypedUnit) (number : Option ℕ) (levels : List Level) → AreLevels w unit number levels → AreLevels (after w more) unit number levels
  levels_after unit None [] are = tt
  levels_after unit None (level ∷ levels) are = absurd are
  levels_after unit (Some number) [] are = absurd are
  levels_after unit (Some number) (level ∷ levels) are = (are.0, are.1, level_after unit level are.2, levels_after unit level.routine.outer levels are.3)
