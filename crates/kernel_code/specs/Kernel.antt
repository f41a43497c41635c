-- The kernel of a program as an object unit.
use Rattle.std.specs.Prelude.{ℕ, Bool, if◌then◌else◌, List, [], ◌∷◌, None, codes}
use Rattle.object_file.specs.declared.object_unit.object.Code8086.{Code8086}
use Rattle.object_file.specs.declared.object_unit.object.Datum.{Datum}
use Rattle.object_file.specs.declared.object_unit.object.ObjectUnit.{ObjectUnit}
use Rattle.object_file.specs.declared.object_unit.object.RefKind.TheVariants as kind
use Rattle.x86_table.specs.declared.instr.Immediate.TheVariants as immediate
use Rattle.x86_table.specs.declared.instr.Instr.{Instr}
use Rattle.x86_table.specs.declared.instr.Instr.TheVariants as instr
use Rattle.x86_table.specs.declared.operand.ByteOperand.TheVariants as byte_rm
use Rattle.x86_table.specs.declared.operand.Place.TheVariants.{Direct}
use Rattle.kernel_code.specs.declared.initial.Initial.{Initial}
use Rattle.kernel_code.specs.Errors.{error_bytes, error_of}
use Rattle.kernel_code.specs.Parts.{encoded, reference, routine}
use Rattle.kernel_code.specs.Start.{start_of}

-- INT 60h sends all overlays out, where there are some
abbrev pub clear_code : Bool → List Instr
clear_code has_overlays = if has_overlays then instr.Int 0x60 ∷ instr.RetFar ∷ [] else instr.RetFar ∷ []

abbrev pub clear_of : Bool → Code8086
clear_of has_overlays = routine (codes "CLEAR") (encoded (clear_code has_overlays)) []

-- MOV BYTE [flag],1, the flag's offset being 0
abbrev pub flag_code : List Instr
flag_code = instr.MovImmediate (immediate.Byte (byte_rm.Mem (record { segment = None; place = Direct 0 })) 1) ∷ instr.RetFar ∷ []

abbrev pub flag_of : List ℕ → Code8086
flag_of kernel = routine (codes "FLAG") (encoded flag_code) (reference 2 kind.DataOffset kernel 1 ∷ [])

abbrev pub text_datum : Datum
text_datum = record { size = 21; first = error_bytes; refs = [] }

abbrev pub flag_datum : Datum
flag_datum = record { size = 1; first = []; refs = [] }

-- The start, the error routine, the one that clears the overlay buffer and the one that sets the installed flag; the error's text, and the flag.
abbrev pub kernel_of : List ℕ → List Initial → Bool → ObjectUnit
kernel_of name initials has_overlays = record {
  globals = text_datum ∷ flag_datum ∷ [];
  vmts = [];
  routines = start_of name initials ∷ error_of name ∷ clear_of has_overlays ∷ flag_of name ∷ [];
}
