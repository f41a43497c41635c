-- What lines refer to, as references in the bytes of their code.
use Rattle.std.specs.Prelude.{ℕ, ◌+◌, List, [], ◌∷◌, ◌++◌, Option, Some, None}
use Rattle.object_file.specs.declared.object_unit.object.Ref.{Ref}
use Rattle.object_file.specs.declared.object_unit.object.RefKind.{RefKind}
use Rattle.object_file.specs.declared.object_unit.object.RefKind.TheVariants as kind
use Rattle.flat_code.specs.Plain.{first_name}
use Rattle.flat_code.specs.Program.{Name, named}
use Rattle.code_templates.specs.code_lines.Addresses.{name_or_own}
use Rattle.code_templates.specs.declared.code_references.marks.MarkedLine.{MarkedLine}
use Rattle.code_templates.specs.declared.code_references.marks.Target.{Target}
use Rattle.code_templates.specs.declared.code_references.marks.Target.TheVariants as to

-- the bytes of an instruction before its word: an opcode, and before the offset of an operand how it is addressed
abbrev pub bytes_before : Target → ℕ
bytes_before (to.Datum unit number) = 2
bytes_before _ = 1

abbrev pub kind_of : Target → RefKind
kind_of (to.Datum unit number) = kind.DataOffset
kind_of (to.Table unit number) = kind.Vmt
kind_of (to.Routine unit number) = kind.FarRoutine
kind_of (to.OwnRoutine number) = kind.NearRoutine
kind_of (to.Runtime number) = kind.Runtime
kind_of to.ErrorRoutine = kind.Runtime
kind_of to.ClearRoutine = kind.Runtime
kind_of to.FlagRoutine = kind.Runtime

-- the name at a place in a unit's names, the unit's own where there is none
abbrev pub name_in : List Name → ℕ → Name
name_in names place = name_or_own (first_name names) (named (first_name names) names place)

-- the unit that has what is named; the runtime is named by each unit's own name
abbrev pub place_of : Target → ℕ
place_of (to.Datum unit number) = unit
place_of (to.Table unit number) = unit
place_of (to.Routine unit number) = unit
place_of _ = 0

-- the routine of the runtime that clears the overlay buffer has the number 3, the one that sets the installed flag 4, and the error routine 0
abbrev pub number_of : Target → ℕ
number_of (to.Datum unit number) = number
number_of (to.Table unit number) = number
number_of (to.Routine unit number) = number
number_of (to.OwnRoutine number) = number
number_of (to.Runtime number) = number
number_of to.ErrorRoutine = 0
number_of to.ClearRoutine = 3
number_of to.FlagRoutine = 4

-- the reference of an instruction at a place
abbrev pub ref_of : List Name → ℕ → Target → Ref
ref_of names place target = record { offset = place + bytes_before target; kind = kind_of target; unit = name_in names (place_of target); number = number_of target }

abbrev pub refs_of : List Name → ℕ → Option Target → List Ref
refs_of names place None = []
refs_of names place (Some target) = ref_of names place target ∷ []

-- the references of lines at these places
abbrev pub refs_at : List Name → List ℕ → List MarkedLine → List Ref
refs_at names places [] = []
refs_at names [] (line ∷ lines) = []
refs_at names (place ∷ places) (line ∷ lines) = refs_of names place line.target ++ refs_at names places lines
