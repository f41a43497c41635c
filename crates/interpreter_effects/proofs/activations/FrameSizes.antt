-- The frame of a routine that is there.
use Rattle.std.proofs.Common.{◌≡◌, ℕ, ◌-◌, ◌^◌, ◌<◌, List, Some, ap, ◌∙◌, arith}
use Rattle.std.specs.Prelude.{slice_get}
use Rattle.std.specs.Option.{option_map_or}
use Rattle.type_layout.specs.declared.definitions.TypeDef.{TypeDef}
use Rattle.typed_tree.specs.declared.units.Routine.{Routine}
use Rattle.typed_tree.specs.Slots.{capped}
use Rattle.typed_tree.specs.Frames.{frame_of, at_routine}

-- below the greatest u64 it is exact
pub frame_exact : (types : List TypeDef) (routines : List Routine) (number bytes : ℕ) (routine : Routine) → slice_get routines number ≡ Some routine
    → bytes ≡ capped (at_routine (frame_of types) routines number) → bytes < 2 ^ 64 - 1 → bytes ≡ frame_of types routine
frame_exact types routines number bytes routine e f h =
    let g = f ∙ ap (λ found. capped (option_map_or (frame_of types) found 0)) e in
    omega (arith, g, h)
