-- What shows as parts are reached and placed is a cause of units that can be overlaid.
use Rattle.std.proofs.Common.{List}
use Rattle.smart_linker.specs.declared.error.LinkError.{LinkError}
use Rattle.smart_linker.specs.declared.error.LinkError.TheVariants.{NotOverlayable, OldFrames, Misfit, CodeTooLarge, TooManyEntries, DataTooLarge, ImageTooLarge, TooManyRelocations, NoMemory}
use Rattle.smart_linker.specs.declared.unit.LinkUnit.{LinkUnit}
use Rattle.smart_linker.specs.Overlaid.{CanBeOverlaid}
use Rattle.smart_linker.specs.Refused.{IsRefused, IsLaterCause}

pub as_refused : (units : List LinkUnit) (error : LinkError) → CanBeOverlaid units → IsLaterCause error → IsRefused units error
as_refused units (NotOverlayable unit) fit later = absurd later
as_refused units (OldFrames unit) fit later = absurd later
as_refused units (Misfit unit named number) fit later = (fit, later)
as_refused units (CodeTooLarge unit bytes) fit later = (fit, later)
as_refused units (TooManyEntries unit count) fit later = (fit, later)
as_refused units (DataTooLarge bytes) fit later = (fit, later)
as_refused units (ImageTooLarge paragraphs) fit later = (fit, later)
as_refused units (TooManyRelocations count) fit later = (fit, later)
as_refused units NoMemory fit later = (fit, later)
