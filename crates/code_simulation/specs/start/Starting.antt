-- The start of a program: its lines, where they stand, and the state in which the machine comes to them.
use Rattle.std.specs.Prelude.{◌≡◌, ℕ, ◌+◌, ◌*◌, ◌<◌, ◌≤◌, false, List, [], ◌∷◌, ◌++◌, Option, Some, None}
use Rattle.std.specs.List.{AllByRecursion}
use Rattle.x86_table.specs.declared.instr.Instr.{Instr}
use Rattle.x86_table.specs.declared.instr.Instr.TheVariants as instr
use Rattle.x86_table.specs.declared.line.Line.{Line}
use Rattle.x86_table.specs.declared.operand.DataSeg.TheVariants as data_seg
use Rattle.x86_table.specs.declared.operand.WordOperand.TheVariants as word_rm
use Rattle.x86_table.specs.declared.operand.WordReg.TheVariants as word
use Rattle.x86_table.specs.Standing.{IsSpelledAt, Stands}
use Rattle.flat_code.specs.declared.memory.Cell.TheVariants as flat
use Rattle.flat_code.specs.Calls.{stack_top}
use Rattle.flat_code.specs.Legal.{Mention, ToRoutine}
use Rattle.flat_code.specs.Meaning.{start_cells, initial_of}
use Rattle.flat_code.specs.Program.{Name, Key, FlatProgram}
use Rattle.resident_machine.specs.Cells.{Known}
use Rattle.resident_machine.specs.Program.{Image}
use Rattle.resident_machine.specs.State.{ResidentState}
use Rattle.resident_machine.specs.machine_lines.Straight.{MayWrite, ones, Placed, IsAt}
use Rattle.code_templates.specs.code_lines.Addresses.{Addresses}
use Rattle.code_templates.specs.code_lines.Lines.{call_far}
use Rattle.statement_simulation.specs.flow.Sites.{World, AreBytes}
use Rattle.code_simulation.specs.bodies.Expressible.{IsFar}
use Rattle.code_simulation.specs.bodies.Layouts.{Layout}

-- ## Lines

-- DS is the data segment, BP ends the chain of frames, and DF is clear; SS and SP come from the header
abbrev pub start_code : ℕ → List Instr
start_code data_segment = instr.MovWord word.Ax data_segment ∷ instr.MovToSeg data_seg.Ds (word_rm.Reg word.Ax) ∷ instr.MovWord word.Bp 0 ∷ instr.Cld ∷ []

-- the first routine of a unit that has one
abbrev pub first_key : Name → Option ℕ → List Key
first_key name None = []
first_key name (Some number) = record { unit = name; number = number } ∷ []

abbrev pub first_keys : FlatProgram → List Name → List Key
first_keys program [] = []
first_keys program (name ∷ names) = first_key name (initial_of (program.unit name)) ++ first_keys program names

abbrev pub start_calls : Addresses → List Key → List Line
start_calls a [] = []
start_calls a (key ∷ keys) = call_far (a.far key) ++ start_calls a keys

-- the run ends with code 0
abbrev pub finish_code : List Instr
finish_code = instr.MovWord word.Ax 0x4C00 ∷ instr.Int 0x21 ∷ []

abbrev pub start_lines : Addresses → List Key → List Line
start_lines a keys = ones (start_code a.data_segment) ++ (start_calls a keys ++ ones finish_code)

-- ## Places

-- The lines stand in the image. The first routines are reached and far, and the stack has 512 bytes at least.
pub record HasStart (w : World) (R : Mention → Type 0) (x : Layout) : Type 0 where
  pub segment : ℕ
  pub code : List ℕ
  pub at : ℕ → ℕ
  pub labels : ℕ → ℕ
  pub placed : Placed w.machine (Image segment) code at
  pub stands : Stands (IsSpelledAt code) at labels 0 (start_lines x.addresses (first_keys w.program w.program.order))
  pub data_there : x.addresses.data_segment ≡ w.choice.data_segment
  pub first : AllByRecursion (λ (key : Key). R (ToRoutine key) × IsFar w.program key) (first_keys w.program w.program.order)
  -- no unit without a name is an overlay's
  pub resident : w.program.overlaid [] ≡ false
  pub tall : 512 ≤ stack_top w.program
  pub top : stack_top w.program < 65536
  pub inside : 16 * w.choice.stack_segment + stack_top w.program ≤ 1048576

-- The machine comes to the first line with an empty stack: its memory holds what flat code begins with, the constants, and 0 in the installed flag.
pub record IsStart (w : World) (R : Mention → Type 0) (x : Layout) (h : HasStart w R x) (input : List ℕ) (r : ResidentState) : Type 0 where
  pub here : IsAt (Image h.segment) (h.at 0) r
  pub ss : r.registers.ss ≡ w.choice.stack_segment
  pub sp : r.registers.sp ≡ stack_top w.program
  pub known : (place byte : ℕ) → start_cells w.program w.choice place ≡ flat.Known byte → (r.cells place ≡ Known byte) × (byte < 256)
  pub reached : (place : ℕ) → (start_cells w.program w.choice place ≡ flat.Outside → ⊥) → MayWrite r.cells w.machine.installed place
  pub below : (place : ℕ) → 16 * w.choice.stack_segment ≤ place → place < 16 * w.choice.stack_segment + stack_top w.program → start_cells w.program w.choice place ≡ flat.Outside
  pub spare : (offset : ℕ) → offset < stack_top w.program → MayWrite r.cells w.machine.installed (16 * w.choice.stack_segment + offset)
  pub constants : (place byte : ℕ) → x.constants place ≡ Some byte → (r.cells place ≡ Known byte) × (start_cells w.program w.choice place ≡ flat.Outside)
  pub flag : r.cells w.machine.installed ≡ Known 0
  pub records : r.records ≡ []
  pub input_is : r.input ≡ input
  pub bytes : AreBytes input
  pub taken : r.taken ≡ 0
  pub out : r.out ≡ []
  pub err : r.err ≡ []
