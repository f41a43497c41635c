-- Code of the kernel: instructions as bytes, and references.
use Rattle.std.specs.Prelude.{ℕ, true, List}
use Rattle.std.specs.List.{flat_map}
use Rattle.object_file.specs.declared.object_unit.object.Code8086.{Code8086}
use Rattle.object_file.specs.declared.object_unit.object.Ref.{Ref}
use Rattle.object_file.specs.declared.object_unit.object.RefKind.{RefKind}
use Rattle.x86_table.specs.declared.instr.Instr.{Instr}
use Rattle.x86_table.specs.Spelling.{spelling}

-- instructions, one after another
abbrev pub encoded : List Instr → List ℕ
encoded is = flat_map spelling is

abbrev pub reference : ℕ → RefKind → List ℕ → ℕ → Ref
reference offset kind unit number = record { offset = offset; kind = kind; unit = unit; number = number }

-- a far routine, which takes no room on the stack that is counted
abbrev pub routine : List ℕ → List ℕ → List Ref → Code8086
routine name code refs = record { name = name; far = true; frame = 0; code = code; refs = refs }
