-- When the machine stands for a live activation of flat code, and what code may change beside it.
use Rattle.std.specs.Prelude.{◌≡◌, ℕ, ◌+◌, ◌*◌, ◌≤◌, ◌<◌, Some}
use Rattle.flat_code.specs.declared.memory.Cell.TheVariants as flat
use Rattle.flat_code.specs.Memory as flat_memory
use Rattle.flat_code.specs.Program.{Key, Choice}
use Rattle.flat_code.specs.Values.{Frame}
use Rattle.flat_code.specs.Calls.{link_bytes}
use Rattle.cpu_8086.specs.declared.registers.Registers.{Registers}
use Rattle.resident_machine.specs.Cells.{Known, Cells}
use Rattle.resident_machine.specs.machine_lines.Straight.{MayWrite, StaysFree}
use Rattle.code_templates.specs.code_lines.Addresses.{Context}

-- What the code was made for fits the activation: its unit, its link word, and the places of what is placed.
pub record Suits (x : Context) (choice : Choice) (f : Frame) : Type 0 where
  pub unit : f.unit ≡ x.own
  pub names : f.names ≡ x.unit.names
  pub link : f.link ≡ f.bp + link_bytes x.far
  pub link_small : f.link < 65536
  pub datum : (key : Key) (offset : ℕ) → choice.datum key ≡ Some offset → x.addresses.datum key ≡ offset
  pub vmt : (key : Key) (offset : ℕ) → choice.vmt key ≡ Some offset → (x.addresses.vmt key ≡ offset) × (offset < 65536)
  pub data_segment : choice.data_segment < 65536
  pub stack_segment : choice.stack_segment < 65536

-- Registers and bytes of the machine stand for the activation's frame and the cells of flat code: what is known there is known here, what can be reached may be written, and of the stack below SP nothing can be reached, but all may be written.
pub record Active (flag : ℕ) (choice : Choice) (f : Frame) (m : flat_memory.Cells) (g : Registers) (c : Cells) : Type 0 where
  pub ss : g.ss ≡ choice.stack_segment
  pub ds : g.ds ≡ choice.data_segment
  pub bp : g.bp ≡ f.bp
  pub top : g.sp < 65536
  pub inside : 16 * g.ss + g.sp ≤ 1048576
  pub known : (place byte : ℕ) → m place ≡ flat.Known byte → c place ≡ Known byte
  pub small : (place byte : ℕ) → m place ≡ flat.Known byte → byte < 256
  pub reached : (place : ℕ) → (m place ≡ flat.Outside → ⊥) → MayWrite c flag place
  pub below : (place : ℕ) → 16 * g.ss ≤ place → place < 16 * g.ss + g.sp → m place ≡ flat.Outside
  pub spare : (offset : ℕ) → offset < g.sp → MayWrite c flag (16 * g.ss + offset)

-- a place that is none of the stack's below SP
abbrev pub IsKept : Registers → ℕ → Type 0
IsKept g place = 16 * g.ss ≤ place → 16 * g.ss + g.sp ≤ place

-- Registers of the frame are as they were, and so is each byte that is none of the stack's below SP.
pub record Keeps (g : Registers) (c : Cells) (h : Registers) (d : Cells) : Type 0 where
  pub sp : h.sp ≡ g.sp
  pub bp : h.bp ≡ g.bp
  pub ss : h.ss ≡ g.ss
  pub ds : h.ds ≡ g.ds
  pub direction : h.direction ≡ g.direction
  pub bytes : (place : ℕ) → IsKept g place → d place ≡ c place
  pub free : StaysFree c d
