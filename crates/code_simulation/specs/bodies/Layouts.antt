-- How the code of a flat program stands on the machine.
use Rattle.std.specs.Prelude.{◌≡◌, ◌≢◌, ℕ, ◌+◌, ◌*◌, ◌/◌, ◌%◌, ◌<◌, ◌≤◌, Bool, true, IsTrue, [], length, Option, Some, slice_get}
use Rattle.x86_table.specs.Standing.{IsSpelledAt, Stands}
use Rattle.flat_code.specs.declared.memory.Place.{Place}
use Rattle.flat_code.specs.Calls.{stack_top}
use Rattle.flat_code.specs.Legal.{Mention, ToRoutine, Reaches, IsLegal, IsWellFormed, IsShallow}
use Rattle.flat_code.specs.Meaning.{start_frame}
use Rattle.flat_code.specs.Program.{Name, Key, Routine, UnitCode, named}
use Rattle.flat_code.specs.Tree.{Step, StoreRoutine}
use Rattle.cpu_8086.specs.Memory.{address, next_offset}
use Rattle.resident_machine.specs.machine_lines.Straight.{Placed}
use Rattle.code_templates.specs.code_lines.Addresses.{Addresses}
use Rattle.code_templates.specs.code_lines.Lines.{framed_lines}
use Rattle.effect_simulation.specs.effects.Pointers.{pointer_offset}
use Rattle.effect_simulation.specs.errors.Routine.{HasErrorRoutine}
use Rattle.statement_simulation.specs.expressions.Evaluates.{IsCode}
use Rattle.statement_simulation.specs.flow.Lists.{AllSteps}
use Rattle.statement_simulation.specs.flow.Sites.{World, Site, Live}
use Rattle.call_simulation.specs.calls.Enters.{EntersAt}
use Rattle.call_simulation.specs.services.Services.{flag_code, HasService, HasClear, HasFlag}
use Rattle.call_simulation.specs.indirect_calls.FarCallable.{refusal_of, IsOverlaid}
use Rattle.code_simulation.specs.bodies.Expressible.{CodeIsExpressible, HasNoThrough}

-- what is reached, as a set
abbrev pub IsIn : (Mention → Bool) → Mention → Type 0
IsIn reached mention = reached mention ≡ true

-- The addresses that code was made with; where each routine's code stands, and the number of its first far-pointer datum; the bytes that flat code can't reach and that stay as they are; and the most lines that a routine has.
pub record Layout : Type 0 where
  pub addresses : Addresses
  pub site : Key → Site
  pub pointer : Key → ℕ
  pub constants : ℕ → Option ℕ
  pub most : ℕ

-- a word of the data segment is among the constants
pub record IsConstant (w : World) (x : Layout) (offset v : ℕ) : Type 0 where
  pub small : v < 65536
  pub low : x.constants (address w.choice.data_segment offset) ≡ Some (v % 256)
  pub high : x.constants (address w.choice.data_segment (next_offset offset)) ≡ Some (v / 256)

-- the datum with this number holds the far pointer that a step stores
abbrev pub StepPointer : World → Layout → Site → ℕ → Step → Type 0
StepPointer w x site pointer (StoreRoutine to unit number) =
    (name : Name) (q : Place) → named site.context.own site.context.unit.names unit ≡ Some name → w.choice.far (record { unit = name; number = number }) ≡ Some q →
    IsConstant w x (pointer_offset site pointer 0) q.offset × IsConstant w x (pointer_offset site pointer 2) q.segment
StepPointer w x site pointer _ = Unit {0}

-- A routine that is reached stands at its site, whose code was made for it.
pub record IsPlaced (w : World) (R : Mention → Type 0) (x : Layout) (key : Key) (unit : UnitCode) (r : Routine) : Type 0 where
  pub context : (x.site key).context ≡ record { addresses = x.addresses; own = key.unit; unit = unit; far = r.far }
  pub placed : Placed w.machine (x.site key).segment (x.site key).code (x.site key).at
  pub stands : Stands (IsSpelledAt (x.site key).code) (x.site key).at (x.site key).labels 0 (framed_lines (x.site key).context (x.pointer key) r)
  pub short : length (framed_lines (x.site key).context (x.pointer key) r) ≤ x.most
  pub home : IsOverlaid (x.site key).segment (w.program.overlaid key.unit)
  pub enters : r.far ≡ true → EntersAt w.machine (x.addresses.far key) (x.site key).segment ((x.site key).at 0)
  -- the label of another routine of the unit leads to its first line
  pub beside : (number : ℕ) → R (ToRoutine (record { unit = key.unit; number = number })) → (x.site (record { unit = key.unit; number = number })).segment ≡ (x.site key).segment
  pub leads : (number : ℕ) → R (ToRoutine (record { unit = key.unit; number = number })) → (x.site key).at ((x.site key).labels number) ≡ (x.site (record { unit = key.unit; number = number })).at 0
  pub pointers : AllSteps (StepPointer w x (x.site key)) (x.pointer key) r.body
  pub expressible : CodeIsExpressible w.program key.unit unit.names r.body
  -- routines of the runtime call none through pointers
  pub direct : r.frame ≡ 0 → HasNoThrough r.body
  -- BP stays even, so that links can be marked
  pub even : IsTrue w.framed → r.locals % 2 ≡ 0

-- what is constant, as an activation before the first one sees it
abbrev pub constant_live : World → Layout → Live
constant_live w x = record { frame = start_frame w.program; fixed = x.constants; records = [] }

-- A flat program stands on the machine: its routines that are reached, the error routine, and the routines of the acts.
pub record PlacedProgram (w : World) (R : Mention → Type 0) (x : Layout) : Type 0 where
  pub well_formed : IsWellFormed w.program
  pub shallow : IsShallow w.program
  pub marked : IsTrue w.framed → w.machine.marked ≡ true
  pub reaches : Reaches w.program R
  pub legal : IsLegal w.program w.choice R
  pub data_small : w.choice.data_segment < 65536
  pub stack_small : w.choice.stack_segment < 65536
  pub routine : (key : Key) (unit : UnitCode) (r : Routine) → R (ToRoutine key) → Some unit ≡ w.program.unit key.unit → Some r ≡ slice_get unit.routines key.number → IsPlaced w R x key unit r
  pub datum : (key : Key) (offset : ℕ) → w.choice.datum key ≡ Some offset → x.addresses.datum key ≡ offset
  pub vmt : (key : Key) (offset : ℕ) → w.choice.vmt key ≡ Some offset → (x.addresses.vmt key ≡ offset) × (offset < 65536)
  pub far : (key : Key) (place : Place) → w.choice.far key ≡ Some place → x.addresses.far key ≡ place
  pub error : HasErrorRoutine w (constant_live w x) x.addresses.error_routine
  pub error_code : IsCode w.machine x.addresses.error_routine
  pub refusal : refusal_of w.machine ≡ x.addresses.error_routine
  pub clear : HasClear w x.addresses.clear_routine
  pub flag_offset : ℕ
  pub flag : HasFlag w flag_offset
  pub set : HasService w x.addresses.flag_routine (flag_code flag_offset)
  pub above : (place byte : ℕ) → x.constants place ≡ Some byte → 16 * w.choice.stack_segment ≤ place → 16 * w.choice.stack_segment + stack_top w.program ≤ place
  pub apart : (place byte : ℕ) → x.constants place ≡ Some byte → place ≢ w.machine.installed
  pub paid : 8 + 2 * x.most ≤ w.rate
