-- Why units aren't linked.
use Rattle.std.specs.Prelude.{◌≡◌, ◌<◌, List, Some, None, IsTrue}
use Rattle.smart_linker.specs.declared.error.LinkError.{LinkError}
use Rattle.smart_linker.specs.declared.error.LinkError.TheVariants.{NotOverlayable, OldFrames, Misfit, CodeTooLarge, TooManyEntries, DataTooLarge, ImageTooLarge, TooManyRelocations, NoMemory}
use Rattle.smart_linker.specs.declared.unit.LinkUnit.{LinkUnit}
use Rattle.smart_linker.specs.Overlaid.{has_overlays, is_unfit, is_unmarked, first_where, CanBeOverlaid}

-- a cause that shows as parts are reached and placed; each number that is told passes its limit
abbrev pub IsLaterCause : LinkError → Type 0
IsLaterCause (NotOverlayable unit) = ⊥
IsLaterCause (OldFrames unit) = ⊥
IsLaterCause (Misfit unit named number) = Unit {0}
IsLaterCause (CodeTooLarge unit bytes) = 65520 < bytes
IsLaterCause (TooManyEntries unit count) = 13100 < count
IsLaterCause (DataTooLarge bytes) = 65520 < bytes
IsLaterCause (ImageTooLarge paragraphs) = 40848 < paragraphs
IsLaterCause (TooManyRelocations count) = 65535 < count
IsLaterCause NoMemory = Unit {0}

-- The first unit that can't be overlaid is told before one with old frames, and both before any other cause.
abbrev pub IsRefused : List LinkUnit → LinkError → Type 0
IsRefused units (NotOverlayable unit) = first_where is_unfit units ≡ Some unit
IsRefused units (OldFrames unit) = (first_where is_unfit units ≡ None) × IsTrue (has_overlays units) × (first_where is_unmarked units ≡ Some unit)
IsRefused units error = CanBeOverlaid units × IsLaterCause error
