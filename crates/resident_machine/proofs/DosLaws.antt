-- DOS calls over cells are those over memory.
use Rattle.std.proofs.Common.{◌≡◌, ℕ, zero, suc, ◌+◌, ◌/◌, ◌==◌, Bool, true, false, List, [], ◌∷◌, ◌++◌, length, take, drop, Ok, refl, sym, ap, ◌∙◌, subst}
use Rattle.std.specs.Prelude.{if◌then◌else◌, slice_index, slice_set}
use Rattle.cpu_8086.specs.declared.process.Why.{Why}
use Rattle.cpu_8086.specs.declared.process.Why.TheVariants as why
use Rattle.cpu_8086.specs.declared.registers.Registers.{Registers}
use Rattle.cpu_8086.specs.Memory.{address, next_offset, load_byte, store_byte}
use Rattle.cpu_8086.specs.Process as process
use Rattle.cpu_8086.specs.Process.{Process}
use Rattle.cpu_8086.specs.State.{State}
use Rattle.resident_machine.specs.Program.{Program}
use Rattle.resident_machine.specs.Astray.{and_then}
use Rattle.resident_machine.specs.Cells.{Known, Cells, with_cell, known_bytes, with_bytes}
use Rattle.resident_machine.specs.Dos.{plainly, stopped, answered, bad_handle, said_bytes, to_output, to_errors, write_call, read_bytes, given, read_call, exit_call, dos_call}
use Rattle.resident_machine.specs.Effect.{Outcome}
use Rattle.resident_machine.specs.Standing.{PairWord, HoldsMemory, StandsFor, pair_words, status_of}
use Rattle.resident_machine.specs.State.{ResidentState, Service, NoService}
use Rattle.resident_machine.proofs.CellLaws.{known_ok, free_ok, and_then_ok, ok_same}
use Rattle.resident_machine.proofs.HoldLaws.{memory_written}

-- bytes that are known are in memory
pub known_bytes-hold : (c : Cells) (m : List ℕ) → ((place v : ℕ) → c place ≡ Known v → slice_index m place ≡ v) → (segment offset n : ℕ) (bs : List ℕ) → known_bytes c segment offset n ≡ Ok bs → process.bytes_at m segment offset n ≡ bs
unfolding load_byte
known_bytes-hold c m known segment offset zero bs e = ok_same [] bs e
known_bytes-hold c m known segment offset (suc n) bs e =
    let first = known_ok (c (address segment offset)) (λ b. and_then (known_bytes c segment (next_offset offset) n) (λ others. Ok (b ∷ others))) bs e in
    let second = and_then_ok (known_bytes c segment (next_offset offset) n) (λ others. Ok (first.0 ∷ others)) bs first.2 in
    let rest = known_bytes-hold c m known segment (next_offset offset) n second.0 second.1 in
    let byte = known (address segment offset) first.0 first.1 in
    ap (λ b. b ∷ process.bytes_at m segment (next_offset offset) n) byte ∙ ap (λ others. first.0 ∷ others) rest ∙ ok_same (first.0 ∷ second.0) bs second.2

-- bytes that are put into cells are put into memory
pub with_bytes-hold : (p : Program) (ss : ℕ) (ws : List PairWord) (segment : ℕ) (bytes : List ℕ) (offset : ℕ) (c d : Cells) (m : List ℕ) → HoldsMemory p ss c m ws → with_bytes c segment offset bytes ≡ Ok d → HoldsMemory p ss d (process.with_bytes m segment offset bytes) ws
unfolding store_byte
with_bytes-hold p ss ws segment [] offset c d m h e = subst (λ z. HoldsMemory p ss z m ws) (ok_same c d e) h
with_bytes-hold p ss ws segment (b ∷ bs) offset c d m h e =
    let place = address segment offset in
    let first = free_ok (c place) (with_bytes (with_cell c place (Known b)) segment (next_offset offset) bs) d e in
    with_bytes-hold p ss ws segment bs (next_offset offset) (with_cell c place (Known b)) d (slice_set m place b)
    (memory_written p ss c m ws place (Known b) b h first.0 (λ v same. by v same)) first.1
  where
    by : (v : ℕ) → Known b ≡ Known v → b ≡ v
    by v same = cc

-- a state stands for another with the same memory, as other registers than SS and SP change
pub lands : (p : Program) (u : Process) (t : ResidentState) (service : Service) (w : ResidentState × Service) → (let o : Outcome = Ok (t, service) in o ≡ Ok w) → StandsFor p t u → StandsFor p w.0 u
lands p u t service w e h = subst (λ (z : ResidentState × Service). StandsFor p z.0 u) (ok_same (t, service) w e) h

pub stands_stopped : (p : Program) (r : ResidentState) (q : Process) (reason : Why) → StandsFor p r q → StandsFor p (stopped r reason) (process.stopped q reason)
stands_stopped p r q reason s =
    let status : process.Stopped q.machine.cs q.machine.registers.ip reason ≡ process.Stopped q.machine.cs r.registers.ip reason = ap (λ (g : Registers). process.Stopped q.machine.cs g.ip reason) s.registers in
    let named : process.Stopped q.machine.cs r.registers.ip reason ≡ status_of (stopped r reason).status = ap (λ n. process.Stopped n r.registers.ip reason) s.cs in
    record {
      registers = s.registers;
      cs = s.cs;
      memory = s.memory;
      input = s.input;
      taken = s.taken;
      out = s.out;
      err = s.err;
      status = status ∙ named;
    }

-- the machine with the registers of a state
abbrev pub machine_of : ResidentState → ℕ → List ℕ → State
machine_of t cs m = record { registers = t.registers; cs = cs; memory = m }

-- an answer in AX and CF, and what was written besides
stands_answered : (p : Program) (t : ResidentState) (q : Process) (cs : ℕ) (m : List ℕ) (ax : ℕ) (failed : Bool) → StandsFor p t (record q { machine = machine_of t cs m }) → StandsFor p (answered t ax failed) (record q { machine = process.answered (machine_of t cs m) ax failed })
stands_answered p t q cs m ax failed s = record { registers = refl; cs = s.cs; memory = s.memory; input = s.input; taken = s.taken; out = s.out; err = s.err; status = s.status }

said : (p : Program) (t : ResidentState) (q : Process) (cs : ℕ) (m bytes : List ℕ) → StandsFor p t (record q { machine = machine_of t cs m }) → said_bytes t ≡ Ok bytes → process.written_bytes (machine_of t cs m) ≡ bytes
said p t q cs m bytes s e = known_bytes-hold t.cells m s.memory.known t.registers.ds t.registers.dx t.registers.cx bytes e

stands_output : (p : Program) (t : ResidentState) (q : Process) (cs : ℕ) (m bytes : List ℕ) → StandsFor p t (record q { machine = machine_of t cs m }) → process.written_bytes (machine_of t cs m) ≡ bytes → StandsFor p (to_output t bytes) (record q { machine = process.answered (machine_of t cs m) t.registers.cx false; out = q.out ++ process.written_bytes (machine_of t cs m) })
stands_output p t q cs m bytes s e = record {
  registers = refl;
  cs = s.cs;
  memory = s.memory;
  input = s.input;
  taken = s.taken;
  out = ap (λ (o : List ℕ). o ++ process.written_bytes (machine_of t cs m)) s.out ∙ ap (λ o. t.out ++ o) e;
  err = s.err;
  status = s.status;
}

stands_errors : (p : Program) (t : ResidentState) (q : Process) (cs : ℕ) (m bytes : List ℕ) → StandsFor p t (record q { machine = machine_of t cs m }) → process.written_bytes (machine_of t cs m) ≡ bytes → StandsFor p (to_errors t bytes) (record q { machine = process.answered (machine_of t cs m) t.registers.cx false; err = q.err ++ process.written_bytes (machine_of t cs m) })
stands_errors p t q cs m bytes s e = record {
  registers = refl;
  cs = s.cs;
  memory = s.memory;
  input = s.input;
  taken = s.taken;
  out = s.out;
  err = ap (λ (o : List ℕ). o ++ process.written_bytes (machine_of t cs m)) s.err ∙ ap (λ o. t.err ++ o) e;
  status = s.status;
}

write_end : (p : Program) (t : ResidentState) (q : Process) (cs : ℕ) (m : List ℕ) (w : ResidentState × Service) → StandsFor p t (record q { machine = machine_of t cs m }) → write_call t ≡ Ok w → StandsFor p w.0 (process.write_call q (machine_of t cs m))
write_end p t q cs m w s e = by (t.registers.bx == 1) (t.registers.bx == 2) e
  where
    by : (x y : Bool) → (if x then and_then (said_bytes t) (λ bytes. plainly (to_output t bytes)) else (if y then and_then (said_bytes t) (λ bytes. plainly (to_errors t bytes)) else plainly (bad_handle t))) ≡ Ok w → StandsFor p w.0 (if x then record q { machine = process.answered (machine_of t cs m) t.registers.cx false; out = q.out ++ process.written_bytes (machine_of t cs m) } else (if y then record q { machine = process.answered (machine_of t cs m) t.registers.cx false; err = q.err ++ process.written_bytes (machine_of t cs m) } else process.bad_handle q (machine_of t cs m)))
    by true y e =
        let parts = and_then_ok (said_bytes t) (λ bytes. plainly (to_output t bytes)) w e in
        lands p _ (to_output t parts.0) NoService w parts.2 (stands_output p t q cs m parts.0 s (said p t q cs m parts.0 s parts.1))
    by false true e =
        let parts = and_then_ok (said_bytes t) (λ bytes. plainly (to_errors t bytes)) w e in
        lands p _ (to_errors t parts.0) NoService w parts.2 (stands_errors p t q cs m parts.0 s (said p t q cs m parts.0 s parts.1))
    by false false e = lands p _ (bad_handle t) NoService w e (stands_answered p t q cs m 6 true s)

-- bytes of the input are the same on both sides
read_same : (t : ResidentState) (q : Process) (cs : ℕ) (m : List ℕ) → q.input ≡ t.input → q.taken ≡ t.taken → process.read_bytes q (machine_of t cs m) ≡ read_bytes t
read_same t q cs m input taken = ap (λ n. take t.registers.cx (drop n q.input)) taken ∙ ap (λ (o : List ℕ). take t.registers.cx (drop t.taken o)) input

given_end : (p : Program) (t : ResidentState) (q : Process) (cs : ℕ) (m bytes : List ℕ) (w : ResidentState × Service) → StandsFor p t (record q { machine = machine_of t cs m }) → given t bytes ≡ Ok w → StandsFor p w.0 (record q { machine = process.given (machine_of t cs m) bytes; taken = q.taken + length bytes })
given_end p t q cs m bytes w s e =
    let parts = and_then_ok (with_bytes t.cells t.registers.ds t.registers.dx bytes) (λ cells. plainly (record (answered t (length bytes) false) { cells = cells; taken = t.taken + length bytes })) w e in
    lands p _ (record (answered t (length bytes) false) { cells = parts.0; taken = t.taken + length bytes }) NoService w parts.2 (record {
      registers = refl;
      cs = s.cs;
      memory = with_bytes-hold p t.registers.ss (pair_words t) t.registers.ds bytes t.registers.dx t.cells parts.0 m s.memory parts.1;
      input = s.input;
      taken = ap (λ n. n + length bytes) s.taken;
      out = s.out;
      err = s.err;
      status = s.status;
    })

read_end : (p : Program) (t : ResidentState) (q : Process) (cs : ℕ) (m : List ℕ) (w : ResidentState × Service) → StandsFor p t (record q { machine = machine_of t cs m }) → read_call t ≡ Ok w → StandsFor p w.0 (process.read_call q (machine_of t cs m))
read_end p t q cs m w s e = by (t.registers.bx == 0) e
  where
    read : List ℕ
    read = process.read_bytes q (machine_of t cs m)

    by : (x : Bool) → (if x then given t (read_bytes t) else plainly (bad_handle t)) ≡ Ok w → StandsFor p w.0 (if x then record q { machine = process.given (machine_of t cs m) read; taken = q.taken + length read } else process.bad_handle q (machine_of t cs m))
    by true e = subst (λ (o : List ℕ). StandsFor p w.0 (record q { machine = process.given (machine_of t cs m) o; taken = q.taken + length o })) (sym (read_same t q cs m s.input s.taken)) (given_end p t q cs m (read_bytes t) w s e)
    by false e = lands p _ (bad_handle t) NoService w e (stands_answered p t q cs m 6 true s)

-- r and q stand where INT 21h is, t past it
pub dos_end : (p : Program) (r t : ResidentState) (q : Process) (cs : ℕ) (m : List ℕ) (w : ResidentState × Service) → StandsFor p r q → StandsFor p t (record q { machine = machine_of t cs m }) → dos_call r t ≡ Ok w → StandsFor p w.0 (process.dos_call q (machine_of t cs m))
dos_end p r t q cs m w before s e = by (t.registers.ax / 256 == 64) (t.registers.ax / 256 == 63) (t.registers.ax / 256 == 76) e
  where
    by : (x y z : Bool) → (if x then write_call t else (if y then read_call t else (if z then plainly (exit_call t) else plainly (stopped r (why.Function (t.registers.ax / 256)))))) ≡ Ok w → StandsFor p w.0 (if x then process.write_call q (machine_of t cs m) else (if y then process.read_call q (machine_of t cs m) else (if z then process.exit_call q (machine_of t cs m) else process.stopped q (why.Function (t.registers.ax / 256)))))
    by true y z e = write_end p t q cs m w s e
    by false true z e = read_end p t q cs m w s e
    by false false true e = lands p _ (exit_call t) NoService w e (record { registers = refl; cs = s.cs; memory = s.memory; input = s.input; taken = s.taken; out = s.out; err = s.err; status = refl })
    by false false false e = lands p _ (stopped r (why.Function (t.registers.ax / 256))) NoService w e (stands_stopped p r q (why.Function (t.registers.ax / 256)) before)
