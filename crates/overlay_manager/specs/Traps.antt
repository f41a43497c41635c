-- Traps: which overlay an INT 3Fh asks for, and where control goes on.
use Rattle.std.specs.Prelude.{ℕ, ◌+◌, ◌-◌, ◌/◌, ◌%◌, ◌==◌, ◌&&◌, Bool, true, false, nat_le, nat_lt, if◌then◌else◌, List, position, Option, Some, None}
use Rattle.cpu_8086.specs.Memory.{load_byte, load_word}
use Rattle.cpu_8086.specs.State.{State}
use Rattle.cpu_8086.specs.declared.registers.Far.{Far}
use Rattle.overlay_manager.specs.declared.traps.Trap.{Trap}

-- The machine stands past the INT, which takes two bytes.
abbrev pub trap_place : State → ℕ
trap_place s = (s.registers.ip + 65534) % 65536

-- the offset of one of so many entries of a stub: they stand from 32 on, five bytes each
abbrev pub is_entry_place : ℕ → ℕ → Bool
is_entry_place entries at = nat_le 32 at && (((at - 32) % 5 == 0) && nat_lt ((at - 32) / 5) entries)

-- A trap in the stub of an overlay: at its begin for a return, at an entry for a call.
abbrev pub trap_in : State → ℕ → Option Trap
trap_in s v =
    if trap_place s == 0 then Some (record { overlay = v; call = false })
    else (if is_entry_place (load_word s.memory s.cs 12) (trap_place s) then Some (record { overlay = v; call = true }) else None)

abbrev pub trap_by : State → Option ℕ → Option Trap
trap_by s None = None
trap_by s (Some v) = trap_in s v

-- the trap in which a machine stands, by the stubs of all overlays
abbrev pub trap_of : List ℕ → State → Option Trap
trap_of stubs s = trap_by s (position (λ stub. stub == s.cs) stubs)

-- a call while the byte at this place says that the manager isn't installed
abbrev pub is_refused : Far → State → Trap → Bool
is_refused installed s trap = trap.call && (load_byte s.memory installed.segment installed.offset == 0)

-- Control goes to the error routine with error 208 in AX.
abbrev pub refused : Far → State → State
refused routine s = record s { registers = record s.registers { ax = 208; ip = routine.offset }; cs = routine.segment }

-- A call goes on at the entry, which jumps now. A return goes on in the segment of its code, at the offset that was saved.
abbrev pub resumed : ℕ → ℕ → Trap → State → State
resumed load saved trap s =
    if trap.call then record s { registers = record s.registers { ip = trap_place s } }
    else record s { registers = record s.registers { ip = saved }; cs = load }
