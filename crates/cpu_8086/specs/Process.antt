-- A process: a machine, what it read and wrote, and whether it still runs. DOS and the other services.
use Rattle.std.specs.Prelude.{ℕ, zero, suc, ◌+◌, ◌%◌, ◌/◌, ◌==◌, Bool, true, false, if◌then◌else◌, List, [], ◌∷◌, ◌++◌, length, take, drop}
use Rattle.cpu_8086.specs.declared.process.Why.{Why}
use Rattle.cpu_8086.specs.declared.process.Why.TheVariants as why
use Rattle.cpu_8086.specs.declared.machine.Event.{Event}
use Rattle.cpu_8086.specs.declared.machine.Event.TheVariants.{Ran, Service, Divide, Unknown}
use Rattle.cpu_8086.specs.State.{State}
use Rattle.cpu_8086.specs.Memory.{load_byte, store_byte, next_offset}

pub data Status : Type 0 where
  Running : Status
  Ended : (code : ℕ) → Status
  Stopped : (cs ip : ℕ) (why : Why) → Status

-- taken counts the bytes of the input that were read
pub record Process : Type 0 where
  pub machine : State
  pub input : List ℕ
  pub taken : ℕ
  pub out : List ℕ
  pub err : List ℕ
  pub status : Status

-- n bytes from an offset on, and bytes put there one by one; offsets wrap
abbrev pub bytes_at : List ℕ → ℕ → ℕ → ℕ → List ℕ
bytes_at memory segment offset zero = []
bytes_at memory segment offset (suc n) = load_byte memory segment offset ∷ bytes_at memory segment (next_offset offset) n

abbrev pub with_bytes : List ℕ → ℕ → ℕ → List ℕ → List ℕ
with_bytes memory segment offset [] = memory
with_bytes memory segment offset (b ∷ bs) = with_bytes (store_byte memory segment offset b) segment (next_offset offset) bs

abbrev pub stopped : Process → Why → Process
stopped p reason = record p { status = Stopped p.machine.cs p.machine.registers.ip reason }

-- a DOS function answers in AX and CF
abbrev pub answered : State → ℕ → Bool → State
answered t ax failed = record t { registers = record t.registers { ax = ax; carry = failed } }

-- an unknown handle
abbrev pub bad_handle : Process → State → Process
bad_handle p t = record p { machine = answered t 6 true }

-- AH = 40h writes CX bytes from DS:DX to the handle BX: 1 is the output, 2 the errors
abbrev pub written_bytes : State → List ℕ
written_bytes t = bytes_at t.memory t.registers.ds t.registers.dx t.registers.cx

abbrev pub write_call : Process → State → Process
write_call p t =
    if t.registers.bx == 1 then record p { machine = answered t t.registers.cx false; out = p.out ++ written_bytes t }
    else (if t.registers.bx == 2 then record p { machine = answered t t.registers.cx false; err = p.err ++ written_bytes t }
    else bad_handle p t)

-- AH = 3Fh reads from the handle 0 to DS:DX until CX bytes came or the input ended
abbrev pub read_bytes : Process → State → List ℕ
read_bytes p t = take t.registers.cx (drop p.taken p.input)

abbrev pub given : State → List ℕ → State
given t bytes = answered (record t { memory = with_bytes t.memory t.registers.ds t.registers.dx bytes }) (length bytes) false

abbrev pub read_call : Process → State → Process
read_call p t =
    if t.registers.bx == 0 then record p { machine = given t (read_bytes p t); taken = p.taken + length (read_bytes p t) }
    else bad_handle p t

-- AH = 4Ch ends the process with the code AL
abbrev pub exit_call : Process → State → Process
exit_call p t = record p { machine = t; status = Ended (t.registers.ax % 256) }

-- INT 21h: the function is in AH
abbrev pub dos_call : Process → State → Process
dos_call p t =
    if t.registers.ax / 256 == 64 then write_call p t
    else (if t.registers.ax / 256 == 63 then read_call p t
    else (if t.registers.ax / 256 == 76 then exit_call p t
    else stopped p (why.Function (t.registers.ax / 256))))

-- What INT n does to a process whose machine stands past it, at t. Without overlays INT 60h only goes on, and
-- INT 3Fh stands in no stub.
abbrev pub serviced : Process → State → ℕ → Process
serviced p t n =
    if n == 33 then dos_call p t
    else (if n == 96 then record p { machine = t }
    else (if n == 63 then stopped p why.NoStub
    else stopped p (why.Interrupt n)))

-- what a step that led to t does to a process
abbrev pub after_step : Process → State → Event → Process
after_step p t Ran = record p { machine = t }
after_step p t (Service n) = serviced p t n
after_step p t Divide = stopped p why.Divide
after_step p t (Unknown cs ip) = stopped p why.Opcode
