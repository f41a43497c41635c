-- DOS calls, as `cpu_8086` has them for a process, where memory is known in part.
use Rattle.std.specs.Prelude.{ℕ, ◌+◌, ◌/◌, ◌%◌, ◌==◌, Bool, true, false, if◌then◌else◌, List, ◌++◌, length, take, drop, Result, Ok}
use Rattle.cpu_8086.specs.declared.process.Why.{Why}
use Rattle.cpu_8086.specs.declared.process.Why.TheVariants as why
use Rattle.resident_machine.specs.Astray.{Astray, and_then}
use Rattle.resident_machine.specs.Cells.{known_bytes, with_bytes}
use Rattle.resident_machine.specs.State.{ResidentState, Ended, Stopped, Service, NoService}

-- a step that no service follows
abbrev pub plainly : ResidentState → Result (ResidentState × Service) Astray
plainly t = Ok (t, NoService)

-- the step is not made, and r is where the machine was stopped
abbrev pub stopped : ResidentState → Why → ResidentState
stopped r reason = record r { status = Stopped r.cs r.registers.ip reason }

abbrev pub answered : ResidentState → ℕ → Bool → ResidentState
answered t ax failed = record t { registers = record t.registers { ax = ax; carry = failed } }

abbrev pub bad_handle : ResidentState → ResidentState
bad_handle t = answered t 6 true

-- AH = 40h writes CX bytes from DS:DX
abbrev pub said_bytes : ResidentState → Result (List ℕ) Astray
said_bytes t = known_bytes t.cells t.registers.ds t.registers.dx t.registers.cx

abbrev pub to_output : ResidentState → List ℕ → ResidentState
to_output t bytes = record (answered t t.registers.cx false) { out = t.out ++ bytes }

abbrev pub to_errors : ResidentState → List ℕ → ResidentState
to_errors t bytes = record (answered t t.registers.cx false) { err = t.err ++ bytes }

abbrev pub write_call : ResidentState → Result (ResidentState × Service) Astray
write_call t =
    if t.registers.bx == 1 then and_then (said_bytes t) (λ bytes. plainly (to_output t bytes))
    else (if t.registers.bx == 2 then and_then (said_bytes t) (λ bytes. plainly (to_errors t bytes))
    else plainly (bad_handle t))

-- AH = 3Fh reads to DS:DX
abbrev pub read_bytes : ResidentState → List ℕ
read_bytes t = take t.registers.cx (drop t.taken t.input)

abbrev pub given : ResidentState → List ℕ → Result (ResidentState × Service) Astray
given t bytes =
    and_then (with_bytes t.cells t.registers.ds t.registers.dx bytes)
    (λ cells. plainly (record (answered t (length bytes) false) { cells = cells; taken = t.taken + length bytes }))

abbrev pub read_call : ResidentState → Result (ResidentState × Service) Astray
read_call t = if t.registers.bx == 0 then given t (read_bytes t) else plainly (bad_handle t)

-- AH = 4Ch ends the process
abbrev pub exit_call : ResidentState → ResidentState
exit_call t = record t { status = Ended (t.registers.ax % 256) }

-- INT 21h at r, past which t stands
abbrev pub dos_call : ResidentState → ResidentState → Result (ResidentState × Service) Astray
dos_call r t =
    if t.registers.ax / 256 == 64 then write_call t
    else (if t.registers.ax / 256 == 63 then read_call t
    else (if t.registers.ax / 256 == 76 then plainly (exit_call t)
    else plainly (stopped r (why.Function (t.registers.ax / 256)))))
