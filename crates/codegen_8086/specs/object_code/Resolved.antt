-- Code with its references filled, for addresses and a place, and what it is for it to be a routine's code.
use Rattle.std.specs.Prelude.{◌≡◌, ◌⊎◌, ℕ, zero, suc, ◌+◌, ◌*◌, ◌%◌, ◌<◌, ◌≤◌, if◌then◌else◌, List, [], ◌∷◌, ◌++◌, length, take, drop, slice_index_or}
use Rattle.type_layout.specs.Words.{same_bytes}
use Rattle.object_file.specs.declared.object_unit.object.Code8086.{Code8086}
use Rattle.object_file.specs.declared.object_unit.object.Ref.{Ref}
use Rattle.object_file.specs.declared.object_unit.object.RefKind.{RefKind}
use Rattle.object_file.specs.declared.object_unit.object.RefKind.TheVariants as kind
use Rattle.x86_table.specs.Lines.{word_distance}
use Rattle.x86_table.specs.Spelling.{word_bytes}
use Rattle.x86_table.specs.Standing.{IsSpelledAt, Stands}
use Rattle.flat_code.specs.declared.memory.Place.{Place}
use Rattle.flat_code.specs.Plain.{first_name}
use Rattle.flat_code.specs.Program.{Name, Key, UnitCode, Routine, named, runtime_key}
use Rattle.code_templates.specs.code_lines.Addresses.{Addresses, Context, name_or_own}
use Rattle.code_templates.specs.code_lines.Lines.{routine_lines}
use Rattle.codegen_8086.specs.object_code.References.{name_in}

-- ## What references name

-- A unit names its own parts by its own first name, whatever name the program knows it by.
abbrev pub known_as : Name → List Name → Name → Name
known_as own names name = if same_bytes name (first_name names) then own else name

abbrev pub key_of : Name → List Name → Ref → Key
key_of own names one = record { unit = known_as own names one.unit; number = one.number }

-- The names of a unit lead to the units that the program knows by them: none but the unit itself has its first name.
abbrev pub NamesLead : Name → List Name → Type 0
NamesLead own names = (place : ℕ) → known_as own names (name_in names place) ≡ name_or_own own (named own names place)

-- the places of the runtime, by the numbers of references: the error routine, and the routines of two acts
abbrev pub runtime_place : Addresses → ℕ → Place
runtime_place a zero = a.error_routine
runtime_place a (suc (suc (suc zero))) = a.clear_routine
runtime_place a (suc (suc (suc (suc zero)))) = a.flag_routine
runtime_place a number = a.far (runtime_key number)

-- ## Bytes

abbrev pub far_words : Place → List ℕ
far_words p = word_bytes p.offset ++ word_bytes p.segment

-- the word at an offset of bytes
abbrev pub word_in : ℕ → List ℕ → ℕ
word_in offset bytes = slice_index_or bytes offset 0 + 256 * slice_index_or bytes (offset + 1) 0

-- What comes to stand at a reference to a part, where this word stood and the bytes behind it end there. A datum's offset is added to the word.
abbrev pub filling : Addresses → RefKind → Key → ℕ → ℕ → List ℕ
filling a kind.FarRoutine key end there = far_words (a.far key)
filling a kind.NearRoutine key end there = word_bytes (word_distance end (a.near key))
filling a kind.DataOffset key end there = word_bytes ((a.datum key + there) % 65536)
filling a kind.DataSegment key end there = word_bytes a.data_segment
filling a kind.Vmt key end there = word_bytes (a.vmt key)
filling a kind.Runtime key end there = far_words (runtime_place a key.number)

-- these bytes in place of as many from an offset on
abbrev pub replaced : ℕ → List ℕ → List ℕ → List ℕ
replaced offset new bytes = take offset bytes ++ (new ++ drop (offset + length new) bytes)

-- bytes that begin at p in their segment, with the references filled that their unit makes
abbrev pub resolved : Addresses → Name → List Name → ℕ → List ℕ → List Ref → List ℕ
resolved a own names p bytes [] = bytes
resolved a own names p bytes (one ∷ refs) =
    resolved a own names p (replaced one.offset (filling a one.kind (key_of own names one) (p + one.offset + 2) (word_in one.offset bytes)) bytes) refs

-- ## The code of a routine

abbrev pub routine_context : Addresses → Name → UnitCode → Routine → Context
routine_context a own unit r = record { addresses = a; own = own; unit = unit; far = r.far }

-- an offset in these bytes or at their end, or that of a routine of the unit
abbrev pub IsWithin : Addresses → Name → List ℕ → ℕ → Type 0
IsWithin a own bytes offset = (offset ≤ length bytes) ⊎ ((number : ℕ) × (offset ≡ a.near (record { unit = own; number = number })))

-- The lines of a routine stand in bytes from p on, and the labels of the unit's routines lead to where these stand. No line has an offset elsewhere.
pub record StandsFrom (a : Addresses) (own : Name) (unit : UnitCode) (pointer : ℕ) (r : Routine) (p : ℕ) (bytes : List ℕ) : Type 0 where
  pub at : ℕ → ℕ
  pub labels : ℕ → ℕ
  pub begins : at 0 ≡ p
  pub leads : (number : ℕ) → number < length unit.routines → at (labels number) ≡ a.near (record { unit = own; number = number })
  pub stands : Stands (IsSpelledAt bytes) at labels 0 (routine_lines (routine_context a own unit r) pointer r)
  pub bounded : (k : ℕ) → IsWithin a own bytes (at k)

-- For all addresses, and wherever it stands, the code with its references filled is the routine's lines for these addresses.
abbrev pub CodeFor : Name → UnitCode → ℕ → Routine → Code8086 → Type 0
CodeFor own unit pointer r code =
    (a : Addresses) (front back : List ℕ) → StandsFrom a own unit pointer r (length front) (front ++ (resolved a own unit.names (length front) code.code code.refs ++ back))
