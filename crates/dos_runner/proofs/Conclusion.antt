-- What a call that runs a process tells, where the process is known to end.
use Rattle.std.proofs.Common.{◌≡◌, ◌≢◌, ℕ, zero, suc, ◌+◌, ◌-◌, ◌==◌, ◌/◌, ◌<◌, ◌≤◌, Bool, true, false, List, [], ◌++◌, length, length-append, take, refl, sym, ap, ◌∙◌, subst, arith, append_assoc, append-nil, Option, Some, inl, inr}
use Rattle.std.specs.Prelude.{if◌then◌else◌}
use Rattle.std.proofs.lemmas.Bool.{cases_lt}
use Rattle.std.proofs.lemmas.List.{take-append-le, take_all}
use Rattle.std.specs.Io.KnownBytes.{append_known}
use Rattle.tp_outside.specs.Streams.{TakesPrefix}
use Rattle.cpu_8086.specs.declared.process.Why.{Why}
use Rattle.cpu_8086.specs.declared.process.Why.TheVariants as why
use Rattle.cpu_8086.specs.declared.machine.Event.{Event}
use Rattle.cpu_8086.specs.declared.machine.Event.TheVariants.{Ran, Service, Divide, Unknown}
use Rattle.cpu_8086.specs.State.{State}
use Rattle.cpu_8086.specs.Process.{Process, Status, Running, Ended, Stopped, after_step, serviced, dos_call, write_call, read_call, exit_call, bad_handle, stopped, answered, written_bytes, read_bytes, given}
use Rattle.cpu_8086.specs.Run.{Goes, Runs}
use Rattle.cpu_8086.proofs.RunLaws.{runs_deterministic}
use Rattle.dos_runner.specs.declared.runner.RunEnd.{RunEnd}
use Rattle.dos_runner.specs.declared.runner.RunEnd.TheVariants as ends
use Rattle.dos_runner.specs.Run.{process_of, IsInput, Progress, advanced, IsRun}
use Rattle.dos_runner.specs.Outside.{Outside, RunsTo}
use Rattle.dos_runner.proofs.Composition.{further}

-- The process ends with this code, having written so much.
pub record Ends (p : Process) (code : ℕ) (out err : List ℕ) : Type 0 where
  pub events : ℕ
  pub last : Process
  pub runs : Runs events p last
  pub status : last.status ≡ Ended code
  pub wrote : last.out ≡ out
  pub told : last.err ≡ err

-- a run that stops on its way
split : (m n : ℕ) (p r : Process) → Runs (m + n) p r → (q : Process) × Runs m p q × Runs n q r
split zero n p r runs =
    let e : 0 + n ≡ n = omega arith in
    let R : ℕ → Type 0 = λ k. Runs k p r in
    (p, refl, subst R e runs)
split (suc m) n p r runs =
    let e : suc m + n ≡ suc (m + n) = omega arith in
    let R : ℕ → Type 0 = λ k. Runs k p r in
    let steps : Runs (suc (m + n)) p r = subst R e runs in
    let rest = split m n steps.0 r steps.2 in
    (rest.0, (steps.0, steps.1, rest.1), rest.2)

-- no run of a process is longer than one that it does not go on from
longest : (m n : ℕ) (p q r : Process) → Runs m p q → q.status ≢ Running → Runs n p r → n ≤ m
longest m n p q r final over runs =
    let longer : m < n → ⊥ = λ h.
    let e : n ≡ m + suc (n - (m + 1)) = omega arith in
    let R : ℕ → Type 0 = λ k. Runs k p r in
    let parts = split m (suc (n - (m + 1))) p r (subst R e runs) in
    let same : parts.0 ≡ q = runs_deterministic m p parts.0 q parts.1 final in
    let next : Goes parts.0 parts.2.0 = parts.2.1 in
    over (ap (λ (x : Process). x.status) (sym same) ∙ next.running) in
    elim (cases_lt m n) [ inl h ↦ absurd (longer h) | inr h ↦ h ]

-- two runs that end are one
one_end : (m n : ℕ) (p q r : Process) → Runs m p q → Runs n p r → q.status ≢ Running → r.status ≢ Running → q ≡ r
one_end m n p q r first second over over' =
    let below : n ≤ m = longest m n p q r first over second in
    let above : m ≤ n = longest n m p r q second over' first in
    let e : n ≡ m = omega arith in
    let R : ℕ → Type 0 = λ k. Runs k p r in
    runs_deterministic m p q r first (subst R e second)

-- what one process wrote is the front of what the other did
pub record Extends (p q : Process) : Type 0 where
  pub out : List ℕ
  pub err : List ℕ
  pub wrote : q.out ≡ p.out ++ out
  pub told : q.err ≡ p.err ++ err

extends_same : (p q : Process) → q.out ≡ p.out → q.err ≡ p.err → Extends p q
extends_same p q out err = record { out = []; err = []; wrote = out ∙ sym (append-nil p.out); told = err ∙ sym (append-nil p.err) }

extends_both : (p q r : Process) → Extends p q → Extends q r → Extends p r
extends_both p q r first second = record {
  out = first.out ++ second.out;
  err = first.err ++ second.err;
  wrote = second.wrote ∙ ap (λ xs. xs ++ second.out) first.wrote ∙ append_assoc p.out first.out second.out;
  told = second.told ∙ ap (λ xs. xs ++ second.err) first.told ∙ append_assoc p.err first.err second.err;
}

either : (b : Bool) (p q r : Process) → Extends p q → Extends p r → Extends p (if b then q else r)
either true p q r first second = first
either false p q r first second = second

writes : (p : Process) (t : State) → Extends p (write_call p t)
writes p t =
    let m : State = answered t t.registers.cx false in
    let a : Process = record p { machine = m; out = p.out ++ written_bytes t } in
    let b : Process = record p { machine = m; err = p.err ++ written_bytes t } in
    let to_output : Extends p a = record { out = written_bytes t; err = []; wrote = refl; told = sym (append-nil p.err) } in
    let to_errors : Extends p b = record { out = []; err = written_bytes t; wrote = sym (append-nil p.out); told = refl } in
    either (t.registers.bx == 1) p a (if t.registers.bx == 2 then b else bad_handle p t) to_output
    (either (t.registers.bx == 2) p b (bad_handle p t) to_errors (extends_same p (bad_handle p t) refl refl))

reads : (p : Process) (t : State) → Extends p (read_call p t)
reads p t =
    let a : Process = record p { machine = given t (read_bytes p t); taken = p.taken + length (read_bytes p t) } in
    either (t.registers.bx == 0) p a (bad_handle p t) (extends_same p a refl refl) (extends_same p (bad_handle p t) refl refl)

calls_dos : (p : Process) (t : State) → Extends p (dos_call p t)
calls_dos p t =
    let f : ℕ = t.registers.ax / 256 in
    let other : Process = stopped p (why.Function f) in
    either (f == 64) p (write_call p t) (if f == 63 then read_call p t else (if f == 76 then exit_call p t else other)) (writes p t)
    (either (f == 63) p (read_call p t) (if f == 76 then exit_call p t else other) (reads p t)
    (either (f == 76) p (exit_call p t) other (extends_same p (exit_call p t) refl refl) (extends_same p other refl refl)))

is_served : (p : Process) (t : State) (n : ℕ) → Extends p (serviced p t n)
is_served p t n =
    let on : Process = record p { machine = t } in
    let stub : Process = stopped p why.NoStub in
    let other : Process = stopped p (why.Interrupt n) in
    either (n == 33) p (dos_call p t) (if n == 96 then on else (if n == 63 then stub else other)) (calls_dos p t)
    (either (n == 96) p on (if n == 63 then stub else other) (extends_same p on refl refl)
    (either (n == 63) p stub other (extends_same p stub refl refl) (extends_same p other refl refl)))

steps_on : (p : Process) (t : State) (event : Event) → Extends p (after_step p t event)
steps_on p t Ran = extends_same p (record p { machine = t }) refl refl
steps_on p t (Service n) = is_served p t n
steps_on p t Divide = extends_same p (stopped p why.Divide) refl refl
steps_on p t (Unknown cs ip) = extends_same p (stopped p why.Opcode) refl refl

runs_on : (n : ℕ) (p q : Process) → Runs n p q → Extends p q
runs_on zero p q same = extends_same p q (ap (λ (x : Process). x.out) (sym same)) (ap (λ (x : Process). x.err) (sym same))
runs_on (suc n) p q runs =
    let one : Goes p runs.0 = runs.1 in
    let E : Process → Type 0 = λ x. Extends p x in
    extends_both p runs.0 q (subst E (sym one.result) (steps_on p one.machine one.event)) (runs_on n runs.0 q runs.2)

-- a run on the way to the end of another
on_the_way : (m n : ℕ) (p q r : Process) → Runs m p q → Runs n p r → r.status ≢ Running → Extends q r
on_the_way m n p q r first second over =
    let below : m ≤ n = longest n m p r q second over first in
    let e : n ≡ m + (n - m) = omega arith in
    let R : ℕ → Type 0 = λ k. Runs k p r in
    let parts = split m (n - m) p r (subst R e second) in
    let same : parts.0 ≡ q = runs_deterministic m p parts.0 q parts.1 first in
    let E : Process → Type 0 = λ x. Extends x r in
    subst E same (runs_on (n - m) parts.0 r parts.2)

-- a prefix of a prefix
pub shorter_prefix : (old new : Option (List ℕ)) (xs more whole : List ℕ) → whole ≡ xs ++ more → TakesPrefix old new xs → TakesPrefix old new whole
shorter_prefix old new xs more whole parts prefix =
    let k : ℕ = prefix.count in
    let fits : k ≤ length xs = prefix.within in
    let long : length whole ≡ length xs + length more = ap length parts ∙ length-append xs more in
    record {
      count = k;
      within = omega arith;
      taken = prefix.taken ∙ ap (append_known old) (sym (ap (take k) parts ∙ take-append-le k xs more fits));
    }

whole_prefix : (old new : Option (List ℕ)) (xs : List ℕ) → new ≡ append_known old xs → TakesPrefix old new xs
whole_prefix old new xs all = record { count = length xs; within = omega arith; taken = all ∙ ap (append_known old) (sym (take_all (length xs) xs (omega arith))) }

-- Both sinks took the first of the bytes that the process writes.
pub record TakesPrefixes (out err : List ℕ) (o o' : Outside) : Type 0 where
  pub output : TakesPrefix o.output o'.output out
  pub errors : TakesPrefix o.errors o'.errors err

-- What such a call then tells: the code and all bytes, unless there was a fault, or some run of the process is longer
-- than the limit.
abbrev pub Concludes : RunEnd → ℕ → (start : State) (code : ℕ) (out err : List ℕ) → ((input : List ℕ) → Ends (process_of start input) code out err) → Outside → Outside → Type 0
Concludes (ends.Ended result) limit start code out err known o o' = (result ≡ code) × (o'.output ≡ append_known o.output out) × (o'.errors ≡ append_known o.errors err)
Concludes (ends.Stopped cs ip reason) limit start code out err known o o' = ⊥
Concludes (ends.Limit taken) limit start code out err known o o' = (taken ≡ limit) × ((input : List ℕ) × (limit < (known input).events))
Concludes ends.InputFault limit start code out err known o o' = TakesPrefixes out err o o'
Concludes ends.OutputFault limit start code out err known o o' = TakesPrefixes out err o o'
Concludes ends.ErrorsFault limit start code out err known o o' = TakesPrefixes out err o o'
Concludes ends.FilesFault limit start code out err known o o' = ⊥

ended_is_over : (status : Status) (code : ℕ) → status ≡ Ended code → status ≢ Running
ended_is_over status code is e = let bad : ⊥ = cc in bad

stopped_is_over : (status : Status) (cs ip : ℕ) (reason : Why) → status ≡ Stopped cs ip reason → status ≢ Running
stopped_is_over status cs ip reason is e = let bad : ⊥ = cc in bad

-- the input that the source gave, and no more
only : (gained : List ℕ) (over : Bool) → IsInput gained over gained
only gained over = record { rest = []; parts = sym (append-nil gained); ended = λ e. refl }

-- where the call was cut short, the sinks took prefixes
fronts : (events : ℕ) (start : State) (over : Bool) (progress : Progress) (code : ℕ) (out err : List ℕ) (o o' : Outside) → IsRun events start over progress → Ends (process_of start progress.gained) code out err → TakesPrefix o.output o'.output progress.out → TakesPrefix o.errors o'.errors progress.err → TakesPrefixes out err o o'
fronts events start over progress code out err o o' does known output errors =
    let p : Process = process_of start progress.gained in
    let q : Process = advanced progress.gained 0 [] [] progress in
    let more : Extends q known.last = on_the_way events known.events p q known.last (does progress.gained (only progress.gained over)) known.runs (ended_is_over known.last.status code known.status) in
    record {
      output = shorter_prefix o.output o'.output progress.out more.out out (sym known.wrote ∙ more.wrote) output;
      errors = shorter_prefix o.errors o'.errors progress.err more.err err (sym known.told ∙ more.told) errors;
    }

pub concludes : (result : RunEnd) (limit : ℕ) (start new : State) (code : ℕ) (out err : List ℕ) (known : (input : List ℕ) → Ends (process_of start input) code out err) (o o' : Outside) → RunsTo result limit start new o o' → Concludes result limit start code out err known o o'
concludes (ends.Ended result) limit start new code out err known o o' called =
    let progress : Progress = called.run.progress in
    let q : Process = advanced progress.gained 0 [] [] progress in
    let k = known progress.gained in
    let status : progress.status ≡ Ended result = called.run.leaves in
    let same : q ≡ k.last = one_end called.events k.events (process_of start progress.gained) q k.last (called.run.does progress.gained (only progress.gained called.exhausted)) k.runs (ended_is_over q.status result status) (ended_is_over k.last.status code k.status) in
    let statuses : Ended result ≡ Ended code = sym status ∙ ap (λ (x : Process). x.status) same ∙ k.status in
    let codes : result ≡ code = cc in
    let outs : progress.out ≡ out = ap (λ (x : Process). x.out) same ∙ k.wrote in
    let errs : progress.err ≡ err = ap (λ (x : Process). x.err) same ∙ k.told in
    (codes, called.run.wrote ∙ ap (append_known o.output) outs, called.run.told ∙ ap (append_known o.errors) errs)
concludes (ends.Stopped cs ip reason) limit start new code out err known o o' called =
    let progress : Progress = called.run.progress in
    let q : Process = advanced progress.gained 0 [] [] progress in
    let k = known progress.gained in
    let status : progress.status ≡ Stopped cs ip reason = called.run.leaves in
    let same : q ≡ k.last = one_end called.events k.events (process_of start progress.gained) q k.last (called.run.does progress.gained (only progress.gained called.exhausted)) k.runs (stopped_is_over q.status cs ip reason status) (ended_is_over k.last.status code k.status) in
    let statuses : Stopped cs ip reason ≡ Ended code = sym status ∙ ap (λ (x : Process). x.status) same ∙ k.status in
    let bad : ⊥ = cc in
    bad
concludes (ends.Limit taken) limit start new code out err known o o' called =
    let progress : Progress = called.run.progress in
    let input : List ℕ = progress.gained in
    let p : Process = process_of start input in
    let q : Process = advanced input 0 [] [] progress in
    let k = known input in
    let over = ended_is_over k.last.status code k.status in
    let runs : Runs called.events p q = called.run.does input (only input called.exhausted) in
    let within : called.events ≤ k.events = longest k.events called.events p k.last q k.runs over runs in
    let count : called.events ≡ limit = called.limited.1 in
    let running : progress.status ≡ Running = called.run.leaves.1 in
    let differs : k.events ≡ called.events → ⊥ = λ e.
    let R : ℕ → Type 0 = λ n. Runs n p k.last in
    let same : q ≡ k.last = runs_deterministic called.events p q k.last runs (subst R e k.runs) in
    over (ap (λ (x : Process). x.status) (sym same) ∙ running) in
    let longer : limit < k.events = elim (cases_lt limit k.events) [ inl h ↦ h | inr h ↦ absurd (differs (omega arith)) ] in
    (called.limited.0, (input, longer))
concludes ends.InputFault limit start new code out err known o o' called =
    fronts called.events start called.exhausted called.run.progress code out err o o' called.run.does (known called.run.progress.gained)
    (whole_prefix o.output o'.output called.run.progress.out (called.event.wrote ∙ called.run.wrote)) (whole_prefix o.errors o'.errors called.run.progress.err (called.event.told ∙ called.run.told))
concludes ends.OutputFault limit start new code out err known o o' called =
    let whole = further (Some ends.OutputFault) called.events start called.last new called.exhausted called.over o called.mid o' called.counts called.run called.event in
    fronts (called.events + 1) start called.over whole.progress code out err o o' whole.does (known whole.progress.gained)
    whole.wrote.prefix (whole_prefix o.errors o'.errors whole.progress.err whole.told)
concludes ends.ErrorsFault limit start new code out err known o o' called =
    let whole = further (Some ends.ErrorsFault) called.events start called.last new called.exhausted called.over o called.mid o' called.counts called.run called.event in
    fronts (called.events + 1) start called.over whole.progress code out err o o' whole.does (known whole.progress.gained)
    (whole_prefix o.output o'.output whole.progress.out whole.wrote) whole.told.prefix
concludes ends.FilesFault limit start new code out err known o o' called = called.run.leaves

-- up to the limit the sinks took the first of them too
pub limit_prefixes : (taken limit : ℕ) (start new : State) (code : ℕ) (out err : List ℕ) (known : (input : List ℕ) → Ends (process_of start input) code out err) (o o' : Outside) → RunsTo (ends.Limit taken) limit start new o o' → TakesPrefixes out err o o'
limit_prefixes taken limit start new code out err known o o' called =
    fronts called.events start called.exhausted called.run.progress code out err o o' called.run.does (known called.run.progress.gained)
    (whole_prefix o.output o'.output called.run.progress.out called.run.wrote) (whole_prefix o.errors o'.errors called.run.progress.err called.run.told)
