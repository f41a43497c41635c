-- Why a program isn't built.
use Rattle.std.specs.Prelude.{◌≡◌, ◌<◌, ℕ, List, Option, Some, None}
use Rattle.typed_tree.specs.declared.units.Program.{Program}
use Rattle.codegen_8086.specs.declared.error.GenError.{GenError}
use Rattle.codegen_8086.specs.declared.error.GenError.TheVariants as generated
use Rattle.back_end.specs.declared.error.BuildError.{BuildError}
use Rattle.back_end.specs.declared.error.BuildError.TheVariants.{CodeTooLarge, NotOverlayable, DataTooLarge, ImageTooLarge, TooManyRelocations, NoMemory}
use Rattle.back_end.specs.Overlaid.{first_unfit}

-- Where unfit is the first overlaid unit that wasn't compiled for that: it is told before a limit of the whole program, and each number that is told passes its limit.
abbrev pub IsRefusedFor : Option (List ℕ) → BuildError → Type 0
IsRefusedFor unfit (CodeTooLarge bytes) = 65520 < bytes
IsRefusedFor unfit (NotOverlayable unit) = unfit ≡ Some unit
IsRefusedFor unfit (DataTooLarge bytes) = (unfit ≡ None) × (65520 < bytes)
IsRefusedFor unfit (ImageTooLarge paragraphs) = (unfit ≡ None) × (40848 < paragraphs)
IsRefusedFor unfit (TooManyRelocations count) = (unfit ≡ None) × (65535 < count)
IsRefusedFor unfit NoMemory = Unit {0}

abbrev pub IsRefused : Program → BuildError → Type 0
IsRefused program error = IsRefusedFor (first_unfit program) error

-- what a cause of the code generator is of the program
abbrev pub generator_refusal : GenError → BuildError
generator_refusal (generated.CodeTooLarge bytes) = CodeTooLarge bytes
generator_refusal generated.NoMemory = NoMemory

-- a cause that shows as a unit is compiled
abbrev pub IsCodeCause : BuildError → Type 0
IsCodeCause (CodeTooLarge bytes) = 65520 < bytes
IsCodeCause NoMemory = Unit {0}
IsCodeCause error = ⊥
