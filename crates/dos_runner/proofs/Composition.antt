-- The parts of a run, one behind the other.
use Rattle.std.proofs.Common.{◌≡◌, ℕ, ◌+◌, ◌<◌, ◌≤◌, Bool, true, false, List, [], ◌++◌, length, length-append, take, drop, refl, sym, ap, ◌∙◌, subst, arith, append_assoc, Option, None, Some, inl, inr}
use Rattle.std.proofs.Math.Seq.{take-append-add, drop-append_seam}
use Rattle.std.specs.Io.KnownBytes.{append_known, prepend_known, IsAtEnd}
use Rattle.tp_outside.specs.Faults.{HasRisen}
use Rattle.tp_outside.specs.Streams.{TakesPrefix}
use Rattle.tp_outside.proofs.Known.{append_known-append_known, append_known-nil, prepend_known-prepend_known}
use Rattle.cpu_8086.specs.State.{State}
use Rattle.cpu_8086.specs.Process.{Process, Status, Running}
use Rattle.cpu_8086.specs.Run.{Goes, Runs}
use Rattle.cpu_8086.proofs.RunLaws.{runs_one, runs_compose}
use Rattle.dos_runner.specs.declared.runner.RunEnd.{RunEnd}
use Rattle.dos_runner.specs.declared.runner.RunEnd.TheVariants as ends
use Rattle.dos_runner.specs.Run.{running, process_of, IsInput, Progress, advanced, IsRun, IsEvent}
use Rattle.dos_runner.specs.Outside.{Outside, Counts, Gave, FailsWriting, Wrote, Told, Rose, Progresses, Advances, RunsTo}

pub prepend_known-nil : (known : Option (List ℕ)) → prepend_known [] known ≡ known
prepend_known-nil None = refl
prepend_known-nil (Some left) = refl

-- a source that is not asked
pub gave_none : (over : Bool) (old new : Option (List ℕ)) → new ≡ old → Gave [] over over old new
gave_none over old new same = record {
  given = sym same ∙ sym (prepend_known-nil new);
  stays_over = λ e. (refl, e);
  at_end = λ known e. subst IsAtEnd (sym same) (known e);
}

-- a sink that is not asked
pub took_none : (old new : Option (List ℕ)) → new ≡ old → new ≡ append_known old []
took_none old new same = same ∙ sym (append_known-nil old)

pub gave_both : (xs ys : List ℕ) (over0 over1 over2 : Bool) (a b c : Option (List ℕ)) → Gave xs over0 over1 a b → Gave ys over1 over2 b c → Gave (xs ++ ys) over0 over2 a c
gave_both xs ys over0 over1 over2 a b c first second = record {
  given = first.given ∙ ap (prepend_known xs) second.given ∙ prepend_known-prepend_known c xs ys;
  stays_over = λ e. (ap (λ zs. zs ++ ys) (first.stays_over e).0 ∙ (second.stays_over (first.stays_over e).1).0, (second.stays_over (first.stays_over e).1).1);
  at_end = λ known e. second.at_end (first.at_end known) e;
}

took_both : (xs ys : List ℕ) (a b c : Option (List ℕ)) → b ≡ append_known a xs → c ≡ append_known b ys → c ≡ append_known a (xs ++ ys)
took_both xs ys a b c first second = second ∙ ap (λ k. append_known k ys) first ∙ append_known-append_known a xs ys

prefix_behind : (xs ys : List ℕ) (a b c : Option (List ℕ)) → b ≡ append_known a xs → TakesPrefix b c ys → TakesPrefix a c (xs ++ ys)
prefix_behind xs ys a b c first second =
    let k : ℕ = second.count in
    let fits : k ≤ length ys = second.within in
    record {
      count = length xs + k;
      within = omega (arith, length-append xs ys);
      taken = took_both xs (take k ys) a b c first second.taken ∙ ap (append_known a) (sym (take-append-add xs ys k));
    }

fails_behind : (xs ys : List ℕ) (a b c : Option (List ℕ)) → b ≡ append_known a xs → FailsWriting b c ys → FailsWriting a c (xs ++ ys)
fails_behind xs ys a b c first second =
    let some : 0 < length ys = second.some in
    record { some = omega (arith, length-append xs ys); prefix = prefix_behind xs ys a b c first second.prefix }

wrote_both : (end : Option RunEnd) (xs ys : List ℕ) (a b c : Option (List ℕ)) → b ≡ append_known a xs → Wrote end b c ys → Wrote end a c (xs ++ ys)
wrote_both (Some ends.OutputFault) xs ys a b c first second = fails_behind xs ys a b c first second
wrote_both end xs ys a b c first second = took_both xs ys a b c first second

told_both : (end : Option RunEnd) (xs ys : List ℕ) (a b c : Option (List ℕ)) → b ≡ append_known a xs → Told end b c ys → Told end a c (xs ++ ys)
told_both (Some ends.ErrorsFault) xs ys a b c first second = fails_behind xs ys a b c first second
told_both end xs ys a b c first second = took_both xs ys a b c first second

pub risen_later : (a b c : ℕ) → a ≤ b → HasRisen b c → HasRisen a c
risen_later a b c below (inl h) = inl (omega arith)
risen_later a b c below (inr h) = inr h

pub rose_later : (end : Option RunEnd) (o o1 o2 : Outside) → Counts o o1 → Rose end o1 o2 → Rose end o o2
rose_later (Some ends.InputFault) o o1 o2 counts rose = risen_later o.input_faults o1.input_faults o2.input_faults counts.input rose
rose_later (Some ends.OutputFault) o o1 o2 counts rose = risen_later o.output_faults o1.output_faults o2.output_faults counts.output rose
rose_later (Some ends.ErrorsFault) o o1 o2 counts rose = risen_later o.errors_faults o1.errors_faults o2.errors_faults counts.errors rose
rose_later end o o1 o2 counts rose = tt

-- what two parts do
abbrev pub behind : Progress → Progress → Progress
behind p q = record { machine = q.machine; gained = p.gained ++ q.gained; out = p.out ++ q.out; err = p.err ++ q.err; status = q.status }

-- the process between the parts
stands_at : (input : List ℕ) (now : State) (p : Progress) → p.machine ≡ now → p.status ≡ Running → advanced input 0 [] [] p ≡ running now input (0 + length p.gained) p.out p.err
stands_at input now p stands runs =
    let f : State → Status → Process = λ m s. record { machine = m; input = input; taken = 0 + length p.gained; out = p.out; err = p.err; status = s } in
    ap (λ m. f m p.status) stands ∙ ap (λ s. f now s) runs

ends_at : (input : List ℕ) (p q : Progress) → advanced input (0 + length p.gained) p.out p.err q ≡ advanced input 0 [] [] (behind p q)
ends_at input p q =
    let f : ℕ → Process = λ n. record { machine = q.machine; input = input; taken = n; out = p.out ++ q.out; err = p.err ++ q.err; status = q.status } in
    let n : 0 + length p.gained + length q.gained ≡ 0 + length (p.gained ++ q.gained) = omega (arith, length-append p.gained q.gained) in
    ap f n

-- A part of a run and the event behind it, where runs of that kind are composed so.
pub run_behind : (Before One Whole : Process → Process → Type 0) → ((a b c : Process) → Before a b → One b c → Whole a c) → (start now : State) (over over' : Bool) (p q : Progress)
    → ((input : List ℕ) → IsInput p.gained over input → Before (process_of start input) (advanced input 0 [] [] p)) → p.machine ≡ now → p.status ≡ Running
    → (over ≡ true → (q.gained ≡ []) × (over' ≡ true))
    → ((input : List ℕ) (taken : ℕ) (out err : List ℕ) → IsInput q.gained over' (drop taken input) → One (running now input taken out err) (advanced input taken out err q))
    → (input : List ℕ) → IsInput (p.gained ++ q.gained) over' input → Whole (process_of start input) (advanced input 0 [] [] (behind p q))
run_behind Before One Whole compose start now over over' p q before stands runs stays event input is_input =
    let rest : List ℕ = is_input.rest in
    let parts : input ≡ p.gained ++ (q.gained ++ rest) = is_input.parts ∙ append_assoc p.gained q.gained rest in
    let first : IsInput p.gained over input = record { rest = q.gained ++ rest; parts = parts; ended = λ e. ap (λ xs. xs ++ rest) (stays e).0 ∙ is_input.ended (stays e).1 } in
    let place : ℕ = 0 + length p.gained in
    let same : place ≡ length p.gained = omega arith in
    let left : drop place input ≡ q.gained ++ rest = ap (λ n. drop n input) same ∙ ap (drop (length p.gained)) parts ∙ drop-append_seam p.gained (q.gained ++ rest) in
    let second : IsInput q.gained over' (drop place input) = record { rest = rest; parts = left; ended = is_input.ended } in
    let a : Process = process_of start input in
    let b : Process = advanced input 0 [] [] p in
    let c : Process = advanced input place p.out p.err q in
    let one : Before a b = before input first in
    let G : Process → Type 0 = λ x. One x c in
    let two : One b c = subst G (sym (stands_at input now p stands runs)) (event input place p.out p.err second) in
    let R : Process → Type 0 = λ x. Whole a x in
    subst R (ends_at input p q) (compose a b c one two)

-- a run, and the event behind it
run_event : (events : ℕ) (start now : State) (over over' : Bool) (p q : Progress) → IsRun events start over p → p.machine ≡ now → p.status ≡ Running → (over ≡ true → (q.gained ≡ []) × (over' ≡ true)) → IsEvent now over' q → IsRun (events + 1) start over' (behind p q)
run_event events start now over over' p q before stands runs stays event =
    run_behind (Runs events) Goes (Runs (events + 1)) (λ a b c one two. runs_compose events 1 a b c one (runs_one b c two)) start now over over' p q before stands runs stays event

-- nothing has run yet
pub started : (start : State) (o : Outside) → Progresses (IsRun 0 start false) None start false false o o
started start o = record {
  progress = record { machine = start; gained = []; out = []; err = []; status = Running };
  does = λ input is_input. refl;
  leaves = (refl, refl);
  reads = gave_none false o.input o.input refl;
  wrote = took_none o.output o.output refl;
  told = took_none o.errors o.errors refl;
  rose = tt;
}

-- a part of a run and the event behind it, joined to what both do
pub joined : (Before One Both : Progress → Type 0) (end : Option RunEnd) (now new : State) (over0 over over' : Bool) (o o1 o2 : Outside) → Counts o o1 → Progresses Before None now over0 over o o1
    → Progresses One end new over over' o1 o2
    → ((p q : Progress) → Before p → p.machine ≡ now → p.status ≡ Running → (over ≡ true → (q.gained ≡ []) × (over' ≡ true)) → One q → Both (behind p q))
    → Progresses Both end new over0 over' o o2
joined Before One Both end now new over0 over over' o o1 o2 counts before event join =
    let p : Progress = before.progress in
    let q : Progress = event.progress in
    record {
      progress = behind p q;
      does = join p q before.does before.leaves.0 before.leaves.1 event.reads.stays_over event.does;
      leaves = event.leaves;
      reads = gave_both p.gained q.gained over0 over over' o.input o1.input o2.input before.reads event.reads;
      wrote = wrote_both end p.out q.out o.output o1.output o2.output before.wrote event.wrote;
      told = told_both end p.err q.err o.errors o1.errors o2.errors before.told event.told;
      rose = rose_later end o o1 o2 counts event.rose;
    }

-- the part of the run so far, and the event
pub further : (end : Option RunEnd) (events : ℕ) (start now new : State) (over over' : Bool) (o o1 o2 : Outside) → Counts o o1 → Progresses (IsRun events start over) None now false over o o1 → Progresses (IsEvent now over') end new over over' o1 o2 → Progresses (IsRun (events + 1) start over') end new false over' o o2
further end events start now new over over' o o1 o2 counts before event =
    joined (IsRun events start over) (IsEvent now over') (IsRun (events + 1) start over') end now new false over over' o o1 o2 counts before event
    (λ p q first stands runs stays second. run_event events start now over over' p q first stands runs stays second)

-- the process goes on
pub goes_on : (events : ℕ) (start now new : State) (over over' : Bool) (o o1 o2 : Outside) → Counts o o1 → Progresses (IsRun events start over) None now false over o o1 → Advances (IsEvent now over') None new over over' o1 o2 → Progresses (IsRun (events + 1) start over') None new false over' o o2
goes_on events start now new over over' o o1 o2 counts before event = further None events start now new over over' o o1 o2 counts before event

-- the event ends the run
pub ends_by : (end : RunEnd) (events limit : ℕ) (start now new : State) (over over' : Bool) (o o1 o2 : Outside) → events < limit → Counts o o1 → Progresses (IsRun events start over) None now false over o o1 → Advances (IsEvent now over') (Some end) new over over' o1 o2 → RunsTo end limit start new o o2
ends_by (ends.Ended code) events limit start now new over over' o o1 o2 below counts before event = record {
  events = events + 1;
  bound = omega arith;
  exhausted = over';
  limited = tt;
  run = further (Some (ends.Ended code)) events start now new over over' o o1 o2 counts before event;
}
ends_by (ends.Stopped cs ip why) events limit start now new over over' o o1 o2 below counts before event = record {
  events = events + 1;
  bound = omega arith;
  exhausted = over';
  limited = tt;
  run = further (Some (ends.Stopped cs ip why)) events start now new over over' o o1 o2 counts before event;
}
ends_by ends.OutputFault events limit start now new over over' o o1 o2 below counts before event = record {
  events = events;
  below = below;
  exhausted = over;
  last = now;
  mid = o1;
  run = before;
  counts = counts;
  over = over';
  event = event;
}
ends_by ends.ErrorsFault events limit start now new over over' o o1 o2 below counts before event = record {
  events = events;
  below = below;
  exhausted = over;
  last = now;
  mid = o1;
  run = before;
  counts = counts;
  over = over';
  event = event;
}
ends_by (ends.Limit taken) events limit start now new over over' o o1 o2 below counts before event = absurd event
ends_by ends.FilesFault events limit start now new over over' o o1 o2 below counts before event = absurd event.leaves
ends_by ends.InputFault events limit start now new over over' o o1 o2 below counts before event = record {
  events = events;
  below = below;
  exhausted = over;
  last = now;
  mid = o1;
  run = before;
  counts = counts;
  over = over';
  event = event;
}
