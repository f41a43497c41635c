-- What the services do to a process.
use Rattle.std.proofs.Common.{◌≡◌, ◌≢◌, ℕ, ◌+◌, ◌/◌, ◌%◌, ◌<◌, ◌≤◌, Bool, true, false, List, [], ◌++◌, length, take, drop, None, refl, sym, ap, ◌∙◌, arith, append-nil, inl, inr}
use Rattle.std.proofs.Math.Seq.{take-append_seam}
use Rattle.std.proofs.lemmas.List.{take_all, length-replicate}
use Rattle.std.specs.Prelude.{replicate}
use Rattle.tp_outside.specs.Faults.{HasRisen}
use Rattle.std.proofs.lemmas.Bool.{cases_lt, ne_eqb}
use Rattle.cpu_8086.specs.declared.process.Why.{Why}
use Rattle.cpu_8086.specs.declared.process.Why.TheVariants as why
use Rattle.cpu_8086.specs.declared.machine.Event.{Event}
use Rattle.cpu_8086.specs.declared.machine.Event.TheVariants as events
use Rattle.cpu_8086.specs.State.{State}
use Rattle.cpu_8086.specs.Process.{Process, Status, Running, Ended, Stopped, stopped, serviced, after_step, answered, written_bytes, with_bytes, given}
use Rattle.cpu_8086.specs.Step.{Steps}
use Rattle.cpu_8086.specs.Run.{Goes}
use Rattle.dos_runner.specs.Run.{running, IsInput, Progress, advanced, IsEvent, IsFinish, IsService}
use Rattle.dos_runner.specs.Outside.{Outside, Progresses, FailsReading}
use Rattle.dos_runner.specs.Transfer.{ReadLess, ReadBytes}
use Rattle.dos_runner.proofs.Answered.{goes_reading}

-- the process with these fields
abbrev pub process : State → List ℕ → ℕ → List ℕ → List ℕ → Status → Process
process machine input taken out err status = record { machine = machine; input = input; taken = taken; out = out; err = err; status = status }

-- a progress without input
with_out : (m : State) (status : Status) (input : List ℕ) (taken : ℕ) (out err more told : List ℕ) → process m input taken (out ++ more) (err ++ told) status ≡ advanced input taken out err (record { machine = m; gained = []; out = more; err = told; status = status })
with_out m status input taken out err more told =
    let e : taken ≡ taken + 0 = omega arith in
    ap (λ n. process m input n (out ++ more) (err ++ told) status) e

-- a progress that leaves the outside alone
pub quiet : (m : State) (status : Status) (input : List ℕ) (taken : ℕ) (out err : List ℕ) → process m input taken out err status ≡ advanced input taken out err (record { machine = m; gained = []; out = []; err = []; status = status })
quiet m status input taken out err =
    ap (λ xs. process m input taken xs err status) (sym (append-nil out)) ∙ ap (λ xs. process m input taken (out ++ []) xs status) (sym (append-nil err)) ∙ with_out m status input taken out err [] []

pub writes_output : (before t : State) (over : Bool) → t.registers.ax / 256 ≡ 64 → t.registers.bx ≡ 1 → IsService before t 33 over (record { machine = answered t t.registers.cx false; gained = []; out = written_bytes t; err = []; status = Running })
writes_output before t over function handle input taken out err is_input =
    let m : State = answered t t.registers.cx false in
    let e : serviced (running before input taken out err) t 33 ≡ process m input taken (out ++ written_bytes t) err Running = rw function (rw handle refl) in
    e ∙ ap (λ xs. process m input taken (out ++ written_bytes t) xs Running) (sym (append-nil err)) ∙ with_out m Running input taken out err (written_bytes t) []

pub writes_errors : (before t : State) (over : Bool) → t.registers.ax / 256 ≡ 64 → t.registers.bx ≡ 2 → IsService before t 33 over (record { machine = answered t t.registers.cx false; gained = []; out = []; err = written_bytes t; status = Running })
writes_errors before t over function handle input taken out err is_input =
    let m : State = answered t t.registers.cx false in
    let e : serviced (running before input taken out err) t 33 ≡ process m input taken out (err ++ written_bytes t) Running = rw function (rw handle refl) in
    e ∙ ap (λ xs. process m input taken xs (err ++ written_bytes t) Running) (sym (append-nil out)) ∙ with_out m Running input taken out err [] (written_bytes t)

pub writes_nowhere : (before t : State) (over : Bool) → t.registers.ax / 256 ≡ 64 → t.registers.bx ≢ 1 → t.registers.bx ≢ 2 → IsService before t 33 over (record { machine = answered t 6 true; gained = []; out = []; err = []; status = Running })
writes_nowhere before t over function one two input taken out err is_input =
    let e : serviced (running before input taken out err) t 33 ≡ process (answered t 6 true) input taken out err Running = rw function (rw (ne_eqb t.registers.bx 1 one) (rw (ne_eqb t.registers.bx 2 two) refl)) in
    e ∙ quiet (answered t 6 true) Running input taken out err

-- the bytes that came are those that the function reads
came : (gained left : List ℕ) (n : ℕ) (over : Bool) → IsInput gained over left → length gained ≤ n → (length gained < n → over ≡ true) → take n left ≡ gained
came gained left n over is_input within short =
    let some : take n left ≡ take n (gained ++ is_input.rest) = ap (take n) is_input.parts in
    let fewer : length gained < n → take n left ≡ gained = λ h.
    some ∙ ap (λ xs. take n (gained ++ xs)) (is_input.ended (short h)) ∙ ap (take n) (append-nil gained) ∙ take_all n gained within in
    let all : n ≤ length gained → take n left ≡ gained = λ h.
    let same : n ≡ length gained = omega arith in
    some ∙ ap (λ k. take k (gained ++ is_input.rest)) same ∙ take-append_seam gained is_input.rest in
    elim (cases_lt (length gained) n) [ inl h ↦ fewer h | inr h ↦ all h ]

pub reads_input : (before t : State) (over : Bool) (gained : List ℕ) → t.registers.ax / 256 ≡ 63 → t.registers.bx ≡ 0 → length gained ≤ t.registers.cx → (length gained < t.registers.cx → over ≡ true) → IsService before t 33 over (record { machine = given t gained; gained = gained; out = []; err = []; status = Running })
reads_input before t over gained function handle within short input taken out err is_input =
    let read : List ℕ = take t.registers.cx (drop taken input) in
    let e : serviced (running before input taken out err) t 33 ≡ process (given t read) input (taken + length read) out err Running = rw function (rw handle refl) in
    e ∙ ap (λ xs. process (given t xs) input (taken + length xs) out err Running) (came gained (drop taken input) t.registers.cx over is_input within short)
    ∙ ap (λ xs. process (given t gained) input (taken + length gained) xs err Running) (sym (append-nil out))
    ∙ ap (λ xs. process (given t gained) input (taken + length gained) (out ++ []) xs Running) (sym (append-nil err))

-- a read that went well
pub read_goes_on : (before t mid new : State) (segment offset count done : ℕ) (over over' : Bool) (o o' : Outside) → t.registers.ax / 256 ≡ 63 → t.registers.bx ≡ 0 → segment ≡ t.registers.ds → offset ≡ t.registers.dx → count ≡ t.registers.cx → ReadBytes segment offset count t mid over over' o.input o'.input done → new ≡ answered mid done false → o'.output ≡ o.output → o'.errors ≡ o.errors → Progresses (IsService before t 33 over') None new over over' o o'
read_goes_on before t mid new segment offset count done over over' o o' function handle ds dx cx read answer output errors =
    let gained : List ℕ = read.gained in
    let counts : length gained ≡ done = read.counts in
    let at_most : done ≤ count = read.within in
    let within : length gained ≤ t.registers.cx = omega arith in
    let fewer : length gained < t.registers.cx → done < count = λ h. omega arith in
    let row : ℕ → ℕ → List ℕ = λ s p. with_bytes t.memory s p gained in
    let f : List ℕ → ℕ → State = λ m n. answered (record t { memory = m }) n false in
    let same : new ≡ given t gained =
    answer ∙ ap (λ (x : State). answered x done false) read.stand ∙ ap (λ s. f (row s offset) done) ds ∙ ap (λ p. f (row t.registers.ds p) done) dx
    ∙ ap (λ n. f (row t.registers.ds t.registers.dx) n) (sym counts) in
    goes_reading (IsService before t 33 over') new (given t gained) gained over over' o o' same
    (reads_input before t over' gained function handle within (λ h. read.short (fewer h))) read.gave output errors

-- a read in which the source failed, which was not over: with bytes enough it would take as many as it asks for
pub read_fails : (before t : State) (count : ℕ) (over over' : Bool) (o o' : Outside) → t.registers.ax / 256 ≡ 63 → t.registers.bx ≡ 0 → count ≡ t.registers.cx → ReadLess count o.input o'.input → o'.output ≡ o.output → o'.errors ≡ o.errors
    → HasRisen o.input_faults o'.input_faults → over ≡ false → FailsReading (IsService before t 33 over') over o o'
read_fails before t count over over' o o' function handle cx less output errors rose still =
    let zeros : List ℕ = replicate t.registers.cx 0 in
    let long : length zeros ≡ t.registers.cx = length-replicate t.registers.cx 0 in
    let fewer : length less.given < count = less.fewer in
    record {
      not_over = still;
      would = record { machine = given t zeros; gained = zeros; out = []; err = []; status = Running };
      is = reads_input before t over' zeros function handle (omega (arith, long)) (λ h. absurd (omega (arith, long, h)));
      lost = less.given;
      fewer = omega (arith, long, cx, fewer);
      gave = less.taken;
      wrote = output;
      told = errors;
      rose = rose;
    }

pub reads_nowhere : (before t : State) (over : Bool) → t.registers.ax / 256 ≡ 63 → t.registers.bx ≢ 0 → IsService before t 33 over (record { machine = answered t 6 true; gained = []; out = []; err = []; status = Running })
reads_nowhere before t over function handle input taken out err is_input =
    let e : serviced (running before input taken out err) t 33 ≡ process (answered t 6 true) input taken out err Running = rw function (rw (ne_eqb t.registers.bx 0 handle) refl) in
    e ∙ quiet (answered t 6 true) Running input taken out err

pub exits : (before t : State) (over : Bool) (code : ℕ) → t.registers.ax / 256 ≡ 76 → code ≡ t.registers.ax % 256 → IsService before t 33 over (record { machine = t; gained = []; out = []; err = []; status = Ended code })
exits before t over code function same input taken out err is_input =
    let e : serviced (running before input taken out err) t 33 ≡ process t input taken out err (Ended (t.registers.ax % 256)) = rw function refl in
    e ∙ ap (λ k. process t input taken out err (Ended k)) (sym same) ∙ quiet t (Ended code) input taken out err

-- a process that is stopped where it stands
stops_at : (before : State) (cs ip : ℕ) (why : Why) (input : List ℕ) (taken : ℕ) (out err : List ℕ) → before.cs ≡ cs → before.registers.ip ≡ ip → stopped (running before input taken out err) why ≡ advanced input taken out err (record { machine = before; gained = []; out = []; err = []; status = Stopped cs ip why })
stops_at before cs ip why input taken out err segment offset =
    ap (λ k. process before input taken out err (Stopped k before.registers.ip why)) segment ∙ ap (λ k. process before input taken out err (Stopped cs k why)) offset
    ∙ quiet before (Stopped cs ip why) input taken out err

pub has_no_function : (before t : State) (over : Bool) (cs ip function : ℕ) → before.cs ≡ cs → before.registers.ip ≡ ip → t.registers.ax / 256 ≡ function → function ≢ 64 → function ≢ 63 → function ≢ 76 → IsService before t 33 over (record { machine = before; gained = []; out = []; err = []; status = Stopped cs ip (why.Function function) })
has_no_function before t over cs ip function segment offset same write read exit input taken out err is_input =
    let e : serviced (running before input taken out err) t 33 ≡ stopped (running before input taken out err) (why.Function function) = rw same (rw (ne_eqb function 64 write) (rw (ne_eqb function 63 read) (rw (ne_eqb function 76 exit) refl))) in
    e ∙ stops_at before cs ip (why.Function function) input taken out err segment offset

pub only_goes_on : (before t : State) (n : ℕ) (over : Bool) → n ≡ 96 → IsService before t n over (record { machine = t; gained = []; out = []; err = []; status = Running })
only_goes_on before t n over same input taken out err is_input =
    let e : serviced (running before input taken out err) t n ≡ process t input taken out err Running = rw same refl in
    e ∙ quiet t Running input taken out err

pub has_no_stub : (before t : State) (n : ℕ) (over : Bool) (cs ip : ℕ) → before.cs ≡ cs → before.registers.ip ≡ ip → n ≡ 63 → IsService before t n over (record { machine = before; gained = []; out = []; err = []; status = Stopped cs ip why.NoStub })
has_no_stub before t n over cs ip segment offset same input taken out err is_input =
    let e : serviced (running before input taken out err) t n ≡ stopped (running before input taken out err) why.NoStub = rw same refl in
    e ∙ stops_at before cs ip why.NoStub input taken out err segment offset

pub has_no_service : (before t : State) (n : ℕ) (over : Bool) (cs ip : ℕ) → before.cs ≡ cs → before.registers.ip ≡ ip → n ≢ 33 → n ≢ 96 → n ≢ 63 → IsService before t n over (record { machine = before; gained = []; out = []; err = []; status = Stopped cs ip (why.Interrupt n) })
has_no_service before t n over cs ip segment offset dos other stub input taken out err is_input =
    let e : serviced (running before input taken out err) t n ≡ stopped (running before input taken out err) (why.Interrupt n) = rw (ne_eqb n 33 dos) (rw (ne_eqb n 96 other) (rw (ne_eqb n 63 stub) refl)) in
    e ∙ stops_at before cs ip (why.Interrupt n) input taken out err segment offset

pub finishes_running : (before t : State) (over : Bool) → IsFinish before t events.Ran over (record { machine = t; gained = []; out = []; err = []; status = Running })
finishes_running before t over input taken out err is_input = quiet t Running input taken out err

pub divides_by_zero : (before t : State) (over : Bool) (cs ip : ℕ) → before.cs ≡ cs → before.registers.ip ≡ ip → IsFinish before t events.Divide over (record { machine = before; gained = []; out = []; err = []; status = Stopped cs ip why.Divide })
divides_by_zero before t over cs ip segment offset input taken out err is_input = stops_at before cs ip why.Divide input taken out err segment offset

pub meets_unknown : (before t : State) (event : Event) (over : Bool) (cs ip cs' ip' : ℕ) → event ≡ events.Unknown cs' ip' → before.cs ≡ cs → before.registers.ip ≡ ip → IsFinish before t event over (record { machine = before; gained = []; out = []; err = []; status = Stopped cs ip why.Opcode })
meets_unknown before t event over cs ip cs' ip' is segment offset input taken out err is_input =
    ap (λ (event : Event). after_step (running before input taken out err) t event) is ∙ stops_at before cs ip why.Opcode input taken out err segment offset

-- a step, and what it asked for
pub is_finished : (before t : State) (event : Event) (over : Bool) (progress : Progress) → Steps before t event → IsFinish before t event over progress → IsEvent before over progress
is_finished before t event over progress steps finish input taken out err is_input =
    record { running = refl; machine = t; event = event; steps = steps; result = sym (finish input taken out err is_input) }
