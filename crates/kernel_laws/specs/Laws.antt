-- The kernel's code, with addresses filled in, is the lines on which the code of programs is proved.
use Rattle.std.specs.Prelude.{◌≡◌, ℕ, ◌+◌, ◌<◌, false, true, List, [], ◌∷◌}
use Rattle.object_file.specs.declared.object_unit.object.Code8086.{Code8086}
use Rattle.x86_table.specs.Lines.{assembled}
use Rattle.flat_code.specs.Program.{Name, Key}
use Rattle.resident_machine.specs.machine_lines.Straight.{ones}
use Rattle.code_templates.specs.code_lines.Addresses.{Addresses}
use Rattle.codegen_8086.specs.object_code.Resolved.{known_as, resolved}
use Rattle.effect_simulation.specs.errors.Routine as effects
use Rattle.call_simulation.specs.services.Services as services
use Rattle.code_simulation.specs.start.Starting as starting
use Rattle.kernel_code.specs.declared.initial.Initial.{Initial}
use Rattle.kernel_code.specs.Errors.{error_bytes, error_of}
use Rattle.kernel_code.specs.Kernel.{clear_of, flag_of}
use Rattle.kernel_code.specs.Start.{start_of}

-- what a unit that knows itself by the first of these names calls a part of another
abbrev pub part_of : Name → List Name → Name → ℕ → Key
part_of own names unit number = record { unit = known_as own names unit; number = number }

-- the parts that the start calls
abbrev pub called : Name → List Name → List Initial → List Key
called own names [] = []
called own names (initial ∷ initials) = part_of own names initial.unit initial.number ∷ called own names initials

abbrev pub filled : Addresses → Name → List Name → ℕ → Code8086 → List ℕ
filled a own names p code = resolved a own names p code.code code.refs

-- For all addresses, and wherever the kernel stands. Data lie so that their offsets are words.
pub record KernelLaws (a : Addresses) (own : Name) (names : List Name) (kernel : Name) (p : ℕ) : Type 0 where
  pub start : (initials : List Initial) → filled a own names p (start_of kernel initials) ≡ assembled (starting.start_lines a (called own names initials))
  pub error : a.datum (part_of own names kernel 0) + 21 < 65536 → filled a own names p (error_of kernel) ≡ assembled (effects.error_lines (a.datum (part_of own names kernel 0)))
  pub text : error_bytes ≡ effects.error_bytes
  pub clear : filled a own names p (clear_of true) ≡ assembled (ones services.clear_code)
  pub idle : filled a own names p (clear_of false) ≡ assembled (ones services.idle_code)
  pub flag : a.datum (part_of own names kernel 1) < 65536 → filled a own names p (flag_of kernel) ≡ assembled (ones (services.flag_code (a.datum (part_of own names kernel 1))))
