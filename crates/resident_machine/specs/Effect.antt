-- What an instruction does to a resident state. Its tree of accesses is that of `cpu_8086`, run over cells.
use Rattle.std.specs.Prelude.{ℕ, ◌+◌, ◌%◌, ◌==◌, ◌&&◌, not, Bool, true, false, if◌then◌else◌, List, [], ◌∷◌, Result, Ok, Err}
use Rattle.x86_table.specs.declared.instr.Instr.{Instr}
use Rattle.x86_table.specs.declared.instr.Instr.TheVariants as instr
use Rattle.cpu_8086.specs.declared.process.Why.TheVariants as why
use Rattle.cpu_8086.specs.declared.registers.Registers.{Registers}
use Rattle.cpu_8086.specs.Access.{Act, Done, Read, Write, Copy, ReadCodeSegment, FarCall, FarReturn, FarJump, PushCodeSegment, Interrupt, DivideFault, raised, lowered, at_offset}
use Rattle.cpu_8086.specs.Effect.{act}
use Rattle.cpu_8086.specs.Step.{past}
use Rattle.resident_machine.specs.Program.{Segment, Image, Overlay, Program, Target, Into, Through, Nowhere, image_target, far_target}
use Rattle.resident_machine.specs.Astray.{Astray, LeadsNowhere, TakesCodeSegment, LeavesHalf, ReturnsElsewhere, Traps, ClearsItself, Uninstalls, MovesStack, and_then}
use Rattle.resident_machine.specs.Cells.{Cell, Known, Unknown, Kept, Paired, Cells, with_cell, with_word, known_then, free_then, moved_then, paired_then, with_lost}
use Rattle.resident_machine.specs.Dos.{plainly, stopped, dos_call}
use Rattle.resident_machine.specs.State.{Record, ResidentState, Service, AtCall, AtReturn, AtClear}

-- what a step gives: the state after it and the service that may follow
abbrev pub Outcome : Type 0
Outcome = Result (ResidentState × Service) Astray

abbrev pub with_memory : ResidentState → Registers → Cells → ResidentState
with_memory r g cells = record r { registers = g; cells = cells }

-- the 64 bytes below SP are lost
abbrev pub blurred : ResidentState → ResidentState
blurred t = record t { cells = with_lost t.registers.ss t.registers.sp t.cells }

-- ## Far calls

-- r called from IP of g; the words of the pair are paired in the cells
abbrev pub called : ResidentState → Registers → Cells → Segment → ℕ → ResidentState
called r g cells to offset = record r {
  registers = at_offset (lowered (lowered g)) offset;
  cs = to;
  cells = cells;
  records = record { place = (lowered (lowered g)).sp; segment = r.cs; offset = g.ip } ∷ r.records;
}

-- the error routine is entered with AX = 208: no overlay was installed
abbrev pub refused : Program → ResidentState → ResidentState
refused p t = record t {
  registers = record t.registers { ip = p.error_routine.offset; ax = 208 };
  cs = Image p.error_routine.segment;
}

abbrev pub refused_to : Program → ResidentState → Target → Outcome
refused_to p t (Into segment offset) = Ok (blurred (refused p t), AtCall)
refused_to p t (Through overlay offset) = Err LeadsNowhere
refused_to p t Nowhere = Err LeadsNowhere

-- a call through the entry of a stub, by the installed flag
abbrev pub entered : Program → ResidentState → ℕ → Outcome
entered p t flag =
    if flag == 0 then refused_to p t (image_target (p.image p.error_routine.segment) p.error_routine.segment p.error_routine.offset)
    else Ok (blurred t, AtCall)

abbrev pub called_to : Program → ResidentState → Registers → Cells → Target → Outcome
called_to p r g cells (Into segment offset) = plainly (called r g cells (Image segment) offset)
called_to p r g cells (Through overlay offset) =
    known_then (cells p.installed) (λ flag. entered p (called r g cells (Overlay overlay) offset) flag)
called_to p r g cells Nowhere = Err LeadsNowhere

-- CS is pushed, then IP
abbrev pub far_call : Program → ResidentState → Registers → Cells → Target → Outcome
far_call p r g cells target =
    paired_then cells g.ss (lowered g).sp (λ half.
    paired_then half g.ss (lowered (lowered g)).sp (λ whole. called_to p r g whole target))

-- ## Far returns and jumps

-- the words of the pair at SP are not known from here on
abbrev pub taken_pair : Registers → Cells → Cells
taken_pair g cells = with_word (with_word cells g.ss g.sp Unknown) g.ss ((g.sp + 2) % 65536) Unknown

abbrev pub returned : ResidentState → Registers → Cells → ℕ → Record → List Record → ResidentState
returned r g cells dropped x others = record r {
  registers = at_offset (raised g (4 + dropped)) x.offset;
  cs = x.segment;
  cells = taken_pair g cells;
  records = others;
}

abbrev pub returned_into : Segment → ResidentState → Outcome
returned_into (Image number) t = plainly t
returned_into (Overlay number) t = Ok (blurred t, AtReturn)

abbrev pub far_return : ResidentState → Registers → Cells → ℕ → List Record → Outcome
far_return r g cells dropped [] = Err ReturnsElsewhere
far_return r g cells dropped (x ∷ others) =
    if x.place == g.sp then returned_into x.segment (returned r g cells dropped x others) else Err ReturnsElsewhere

abbrev pub jumped_to : ResidentState → Registers → Cells → Target → Outcome
jumped_to r g cells (Into segment offset) = plainly (record r { registers = at_offset g offset; cs = Image segment; cells = cells })
jumped_to r g cells (Through overlay offset) = Err LeadsNowhere
jumped_to r g cells Nowhere = Err LeadsNowhere

abbrev pub half_pushed : ResidentState → Registers → Cells → Outcome
half_pushed r g cells = paired_then cells g.ss (lowered g).sp (λ half. plainly (record r { registers = lowered g; cells = half; half = true }))

-- ## Interrupts

-- INT 60h sends all overlays out, and goes on behind it
abbrev pub cleared : Segment → ResidentState → Outcome
cleared (Image number) t = Ok (blurred t, AtClear)
cleared (Overlay number) t = Err ClearsItself

-- INT n at r, past which t stands
abbrev pub serviced : ResidentState → ResidentState → ℕ → Outcome
serviced r t n =
    if n == 33 then dos_call r t
    else (if n == 96 then cleared r.cs t
    else (if n == 63 then Err Traps
    else plainly (stopped r (why.Interrupt n))))

-- ## The tree of an instruction

abbrev pub stack_then : ResidentState → Registers → Outcome → Outcome
stack_then r g next = if g.ss == r.registers.ss then next else Err MovesStack

-- r is the state before the instruction
abbrev pub on_cells : Program → ResidentState → Act → Cells → Outcome
on_cells p r (Done g) c = stack_then r g (plainly (with_memory r g c))
on_cells p r (Read place next) c = known_then (c place) (λ v. on_cells p r (next v) c)
on_cells p r (Write place value next) c = free_then (c place) (on_cells p r next (with_cell c place (Known value)))
on_cells p r (Copy from to next) c = moved_then (c from) (λ x. free_then (c to) (on_cells p r next (with_cell c to x)))
on_cells p r (ReadCodeSegment next) c = Err TakesCodeSegment
on_cells p r (FarCall g segment offset) c = stack_then r g (far_call p r g c (far_target p segment offset))
on_cells p r (FarReturn g dropped) c = stack_then r g (far_return r g c dropped r.records)
on_cells p r (FarJump g segment offset) c = stack_then r g (jumped_to r g c (image_target (p.image segment) segment offset))
on_cells p r (PushCodeSegment g) c = stack_then r g (half_pushed r g c)
on_cells p r (Interrupt g number) c = stack_then r g (serviced r (with_memory r g c) number)
on_cells p r DivideFault c = plainly (stopped r why.Divide)

abbrev pub plain_effect : Program → ResidentState → Instr → Outcome
plain_effect p r i = on_cells p r (act (past i r.registers) i) r.cells

-- ## After PUSH CS

abbrev pub is_near_call : Instr → Bool
is_near_call (instr.CallNear d) = true
is_near_call (instr.CallIndirect o) = true
is_near_call _ = false

-- A near call, which pushed the offset at SP, makes the record whole.
abbrev pub made_whole : ResidentState → ℕ → ResidentState × Service → Outcome
made_whole r offset w = plainly (record w.0 {
  cells = with_word w.0.cells w.0.registers.ss w.0.registers.sp Paired;
  records = record { place = w.0.registers.sp; segment = r.cs; offset = offset } ∷ w.0.records;
  half = false;
})

abbrev pub completed : Program → ResidentState → Instr → Outcome
completed p r i =
    if is_near_call i then and_then (plain_effect p r i) (made_whole r (past i r.registers).ip) else Err LeavesHalf

-- ## The installed flag

abbrev pub is_zero : Cell → Bool
is_zero (Known v) = v == 0
is_zero Unknown = false
is_zero Kept = false
is_zero Paired = false

abbrev pub kept_installed : Program → ResidentState → ResidentState × Service → Outcome
kept_installed p r w =
    if not (is_zero (r.cells p.installed)) && is_zero (w.0.cells p.installed) then Err Uninstalls else Ok w

-- what an instruction makes of a state
unfoldable pub effect_of : Program → ResidentState → Instr → Outcome
effect_of p r i = and_then (if r.half then completed p r i else plain_effect p r i) (kept_installed p r)
