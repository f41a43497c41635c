-- What a process has written stays written.
use Rattle.std.proofs.Common.{◌≡◌, ℕ, ◌+◌, ◌/◌, ◌==◌, Bool, true, false, List, [], ◌++◌, length, refl, sym, ap, ◌∙◌, append_assoc, append-nil}
use Rattle.std.specs.Prelude.{if◌then◌else◌}
use Rattle.common_values.specs.behaviour.Seen.{Begins}
use Rattle.cpu_8086.specs.declared.process.Why.TheVariants as why
use Rattle.cpu_8086.specs.declared.machine.Event.{Event}
use Rattle.cpu_8086.specs.declared.machine.Event.TheVariants.{Ran, Service, Divide, Unknown}
use Rattle.cpu_8086.specs.State.{State}
use Rattle.cpu_8086.specs.Process.{Process, after_step, serviced, dos_call, write_call, read_call, exit_call, bad_handle, stopped, answered, written_bytes, read_bytes, given}

-- the output and the errors of one process begin with those of another
pub record Extends (p q : Process) : Type 0 where
  pub out : Begins p.out q.out
  pub err : Begins p.err q.err

begins_same : (xs ys : List ℕ) → ys ≡ xs → Begins xs ys
begins_same xs ys e = ([], e ∙ sym (append-nil xs))

pub begins_both : (xs ys zs : List ℕ) → Begins xs ys → Begins ys zs → Begins xs zs
begins_both xs ys zs a b = (a.0 ++ b.0, b.1 ∙ ap (λ (v : List ℕ). v ++ b.0) a.1 ∙ append_assoc xs a.0 b.0)

pub extends_same : (p q : Process) → q.out ≡ p.out → q.err ≡ p.err → Extends p q
extends_same p q out err = record { out = begins_same p.out q.out out; err = begins_same p.err q.err err }

pub extends_both : (p q r : Process) → Extends p q → Extends q r → Extends p r
extends_both p q r a b = record { out = begins_both p.out q.out r.out a.out b.out; err = begins_both p.err q.err r.err a.err b.err }

either : (b : Bool) (p q r : Process) → Extends p q → Extends p r → Extends p (if b then q else r)
either true p q r first second = first
either false p q r first second = second

writes : (p : Process) (t : State) → Extends p (write_call p t)
writes p t =
    let m : State = answered t t.registers.cx false in
    let a : Process = record p { machine = m; out = p.out ++ written_bytes t } in
    let b : Process = record p { machine = m; err = p.err ++ written_bytes t } in
    let to_output : Extends p a = record { out = (written_bytes t, refl); err = begins_same p.err p.err refl } in
    let to_errors : Extends p b = record { out = begins_same p.out p.out refl; err = (written_bytes t, refl) } in
    either (t.registers.bx == 1) p a (if t.registers.bx == 2 then b else bad_handle p t) to_output
    (either (t.registers.bx == 2) p b (bad_handle p t) to_errors (extends_same p (bad_handle p t) refl refl))

reads : (p : Process) (t : State) → Extends p (read_call p t)
reads p t =
    let a : Process = record p { machine = given t (read_bytes p t); taken = p.taken + length (read_bytes p t) } in
    either (t.registers.bx == 0) p a (bad_handle p t) (extends_same p a refl refl) (extends_same p (bad_handle p t) refl refl)

calls_dos : (p : Process) (t : State) → Extends p (dos_call p t)
calls_dos p t =
    let f : ℕ = t.registers.ax / 256 in
    let other : Process = stopped p (why.Function f) in
    either (f == 64) p (write_call p t) (if f == 63 then read_call p t else (if f == 76 then exit_call p t else other)) (writes p t)
    (either (f == 63) p (read_call p t) (if f == 76 then exit_call p t else other) (reads p t)
    (either (f == 76) p (exit_call p t) other (extends_same p (exit_call p t) refl refl) (extends_same p other refl refl)))

pub service_extends : (p : Process) (t : State) (n : ℕ) → Extends p (serviced p t n)
service_extends p t n =
    let on : Process = record p { machine = t } in
    let stub : Process = stopped p why.NoStub in
    let other : Process = stopped p (why.Interrupt n) in
    either (n == 33) p (dos_call p t) (if n == 96 then on else (if n == 63 then stub else other)) (calls_dos p t)
    (either (n == 96) p on (if n == 63 then stub else other) (extends_same p on refl refl)
    (either (n == 63) p stub other (extends_same p stub refl refl) (extends_same p other refl refl)))

pub step_extends : (p : Process) (t : State) (event : Event) → Extends p (after_step p t event)
step_extends p t Ran = extends_same p (record p { machine = t }) refl refl
step_extends p t (Service n) = service_extends p t n
step_extends p t Divide = extends_same p (stopped p why.Divide) refl refl
step_extends p t (Unknown cs ip) = extends_same p (stopped p why.Opcode) refl refl
