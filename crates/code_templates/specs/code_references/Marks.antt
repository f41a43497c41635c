-- Lines before any address is known, beside what each of them refers to, and the same lines once addresses are known.
use Rattle.std.specs.Prelude.{ℕ, ◌+◌, ◌%◌, List, [], ◌∷◌, map, Option, Some, None}
use Rattle.x86_table.specs.declared.instr.Instr.{Instr}
use Rattle.x86_table.specs.declared.instr.Instr.TheVariants as instr
use Rattle.x86_table.specs.declared.instr.Pair.{Pair}
use Rattle.x86_table.specs.declared.instr.Pair.TheVariants as pair
use Rattle.x86_table.specs.declared.line.Line.{Line}
use Rattle.x86_table.specs.declared.line.Line.TheVariants.{One, CallNear}
use Rattle.x86_table.specs.declared.operand.ByteOperand.TheVariants as byte_rm
use Rattle.x86_table.specs.declared.operand.Memory.{Memory}
use Rattle.x86_table.specs.declared.operand.Place.{Place}
use Rattle.x86_table.specs.declared.operand.Place.TheVariants.{Direct}
use Rattle.x86_table.specs.declared.operand.WordOperand.TheVariants as word_rm
use Rattle.flat_code.specs.declared.memory.Place as far
use Rattle.flat_code.specs.Program.{runtime_key}
use Rattle.code_templates.specs.code_lines.Addresses.{Context, key_in}
use Rattle.code_templates.specs.declared.code_references.marks.Target.{Target}
use Rattle.code_templates.specs.declared.code_references.marks.Target.TheVariants.{Datum, Table, Routine, OwnRoutine, Runtime, ErrorRoutine, ClearRoutine, FlagRoutine}
use Rattle.code_templates.specs.declared.code_references.marks.MarkedLine.{MarkedLine}

-- lines that refer to nothing, and one that does
abbrev pub bare : List Line → List MarkedLine
bare [] = []
bare (l ∷ ls) = record { line = l; target = None } ∷ bare ls

abbrev pub plain : List Instr → List MarkedLine
plain [] = []
plain (i ∷ is) = record { line = One i; target = None } ∷ plain is

abbrev pub marked : Instr → Target → MarkedLine
marked i target = record { line = One i; target = Some target }

-- ## Addresses filled in

abbrev pub moved_place : ℕ → Place → Place
moved_place v (Direct d) = Direct ((v + d) % 65536)
moved_place v place = place

abbrev pub moved : ℕ → Memory → Memory
moved v m = record m { place = moved_place v m.place }

abbrev pub moved_pair : ℕ → Pair → Pair
moved_pair v (pair.RmByte (byte_rm.Mem m) r) = pair.RmByte (byte_rm.Mem (moved v m)) r
moved_pair v (pair.RmWord (word_rm.Mem m) r) = pair.RmWord (word_rm.Mem (moved v m)) r
moved_pair v (pair.ByteRm r (byte_rm.Mem m)) = pair.ByteRm r (byte_rm.Mem (moved v m))
moved_pair v (pair.WordRm r (word_rm.Mem m)) = pair.WordRm r (word_rm.Mem (moved v m))
moved_pair v p = p

-- an instruction whose operand lies so much farther on
abbrev pub with_datum : ℕ → Instr → Instr
with_datum v (instr.Mov p) = instr.Mov (moved_pair v p)
with_datum v (instr.Lea r m) = instr.Lea r (moved v m)
with_datum v (instr.CallFarIndirect m) = instr.CallFarIndirect (moved v m)
with_datum v i = i

abbrev pub with_table : ℕ → Instr → Instr
with_table v (instr.MovWord r n) = instr.MovWord r v
with_table v i = i

abbrev pub with_far : far.Place → Instr → Instr
with_far p (instr.CallFar o s) = instr.CallFar p.offset p.segment
with_far p (instr.JumpFar o s) = instr.JumpFar p.offset p.segment
with_far p i = i

-- the instruction, in code for these addresses
abbrev pub placed_instr : Context → Target → Instr → Instr
placed_instr x (Datum unit number) i = with_datum (x.addresses.datum (key_in x unit number)) i
placed_instr x (Table unit number) i = with_table (x.addresses.vmt (key_in x unit number)) i
placed_instr x (Routine unit number) i = with_far (x.addresses.far (key_in x unit number)) i
placed_instr x (OwnRoutine number) i = i
placed_instr x (Runtime number) i = with_far (x.addresses.far (runtime_key number)) i
placed_instr x ErrorRoutine i = with_far x.addresses.error_routine i
placed_instr x ClearRoutine i = with_far x.addresses.clear_routine i
placed_instr x FlagRoutine i = with_far x.addresses.flag_routine i

-- a near call of a routine of the same unit has a label for it
abbrev pub placed_own : ℕ → Instr → Line
placed_own number (instr.CallNear distance) = CallNear number
placed_own number i = One i

abbrev pub placed_one : Context → Target → Instr → Line
placed_one x (OwnRoutine number) i = placed_own number i
placed_one x target i = One (placed_instr x target i)

abbrev pub placed_by : Context → Option Target → Line → Line
placed_by x (Some target) (One i) = placed_one x target i
placed_by x _ line = line

-- a line once addresses are known
abbrev pub placed_line : Context → MarkedLine → Line
placed_line x m = placed_by x m.target m.line

abbrev pub line_of : MarkedLine → Line
line_of m = m.line

abbrev pub lines_of : List MarkedLine → List Line
lines_of ms = map line_of ms
