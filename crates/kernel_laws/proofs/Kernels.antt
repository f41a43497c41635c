-- The kernel's routines, filled in.
use Rattle.std.proofs.Common.{◌≡◌, ℕ, ◌+◌, ◌%◌, ◌<◌, List, refl, ap, ◌∙◌, arith}
use Rattle.x86_table.specs.Lines.{assembled}
use Rattle.x86_table.specs.Spelling.{word_bytes, byte_modrm, memory_modrm, immediate_width, immediate_body, immediate_override}
use Rattle.flat_code.specs.Program.{Name}
use Rattle.resident_machine.specs.machine_lines.Straight.{ones}
use Rattle.code_templates.specs.code_lines.Addresses.{Addresses}
use Rattle.call_simulation.specs.services.Services as services
use Rattle.kernel_code.specs.Kernel.{flag_of}
use Rattle.kernel_laws.specs.Laws.{part_of, filled, KernelLaws}
use Rattle.kernel_laws.proofs.Starts.{start_filled}
use Rattle.kernel_laws.proofs.Errors.{error_filled}

flag_word : (a : Addresses) (own : Name) (names : List Name) (kernel : Name) (p : ℕ) → let flag = a.datum (part_of own names kernel 1) in
    filled a own names p (flag_of kernel) ≡ assembled (ones (services.flag_code ((flag + 0) % 65536)))
unfolding word_bytes byte_modrm memory_modrm immediate_width immediate_body immediate_override
flag_word a own names kernel p = refl

pub kernel_filled : (a : Addresses) (own : Name) (names : List Name) (kernel : Name) (p : ℕ) → KernelLaws a own names kernel p
kernel_filled a own names kernel p = record {
  start = start_filled a own names p kernel;
  error = error_filled a own names kernel p;
  text = refl;
  clear = refl;
  idle = refl;
  flag = λ small.
      let flag = a.datum (part_of own names kernel 1) in
      let same : (flag + 0) % 65536 ≡ flag = omega (arith, small) in
      flag_word a own names kernel p ∙ ap (λ (w : ℕ). assembled (ones (services.flag_code w))) same;
}
