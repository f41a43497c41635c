-- What the code of a routine is proved in: the program and its choice, the place where the code stands, and the live activation.
use Rattle.std.specs.Prelude.{◌≡◌, ◌≢◌, ℕ, suc, ◌+◌, ◌*◌, ◌<◌, ◌≤◌, Bool, true, false, List, [], ◌∷◌, length, drop, Option, Some}
use Rattle.flat_code.specs.declared.memory.Cell.TheVariants as flat
use Rattle.flat_code.specs.Program.{FlatProgram, Choice}
use Rattle.flat_code.specs.Values.{Frame}
use Rattle.flat_code.specs.Calls.{State}
use Rattle.resident_machine.specs.Cells.{Cell, Known}
use Rattle.resident_machine.specs.Program.{Segment, Program}
use Rattle.resident_machine.specs.State.{Record, ResidentState}
use Rattle.resident_machine.specs.machine_lines.Straight.{Placed}
use Rattle.code_templates.specs.code_lines.Addresses.{Context}
use Rattle.statement_simulation.specs.expressions.Active.{Suits, Active}
use Rattle.statement_simulation.specs.expressions.Evaluates.{IsCode}

-- A flat program on the machine: whether each event must be framed, where the parts of the flat program lie, how many events each unit of its work is given, and how many the end of a run.
pub record World : Type 0 where
  pub machine : Program
  pub framed : Bool
  pub program : FlatProgram
  pub choice : Choice
  pub rate : ℕ
  pub last : ℕ

-- Where the code of a routine stands, and what it was made for: the segment and its code, the offset of each line, and the line of each label.
pub record Site : Type 0 where
  pub segment : Segment
  pub code : List ℕ
  pub at : ℕ → ℕ
  pub labels : ℕ → ℕ
  pub context : Context

-- A live activation: its frame; what bytes that flat code can't reach hold as long as it lives, as links, return addresses and the program's constants; and the far return pairs.
pub record Live : Type 0 where
  pub frame : Frame
  pub fixed : ℕ → Option ℕ
  pub records : List Record

-- The code stands in the program, and fits the activation. Its fixed bytes are none of the stack's below SP, and not the installed flag.
pub record Fits (w : World) (site : Site) (live : Live) : Type 0 where
  pub placed : Placed w.machine site.segment site.code site.at
  pub error : IsCode w.machine site.context.addresses.error_routine
  pub suits : Suits site.context w.choice live.frame
  pub above : (place byte : ℕ) → live.fixed place ≡ Some byte → 16 * w.choice.stack_segment ≤ place → 16 * w.choice.stack_segment + live.frame.sp ≤ place
  pub apart : (place byte : ℕ) → live.fixed place ≡ Some byte → place ≢ w.machine.installed

-- the installed flag, as its byte shows it
abbrev pub IsFlag : Bool → Cell → Type 0
IsFlag false cell = cell ≡ Known 0
IsFlag true cell = (v : ℕ) × (cell ≡ Known (suc v))

-- what is read are bytes
abbrev pub AreBytes : List ℕ → Type 0
AreBytes [] = Unit {0}
AreBytes (b ∷ bs) = (b < 256) × AreBytes bs

-- The machine stands for a state of flat code between two statements of an activation.
pub record Represents (w : World) (live : Live) (s : State) (r : ResidentState) : Type 0 where
  pub active : Active w.machine.installed w.choice live.frame s.cells r.registers r.cells
  pub sp : r.registers.sp ≡ live.frame.sp
  pub direction : r.registers.direction ≡ false
  pub flag : IsFlag s.flag (r.cells w.machine.installed)
  -- code of an overlay runs only after the flag was set
  pub set : w.program.overlaid live.frame.unit ≡ true → s.flag ≡ true
  pub outside : (place byte : ℕ) → live.fixed place ≡ Some byte → s.cells place ≡ flat.Outside
  pub fixed : (place byte : ℕ) → live.fixed place ≡ Some byte → r.cells place ≡ Known byte
  pub records : r.records ≡ live.records
  pub unread : drop r.taken r.input ≡ s.input
  pub bytes : AreBytes s.input
  pub read : r.taken ≤ length r.input
  pub out : r.out ≡ s.out
  pub err : r.err ≡ s.err
