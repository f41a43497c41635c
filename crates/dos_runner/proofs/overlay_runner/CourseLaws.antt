-- Runs of a program with overlays, event behind event.
use Rattle.std.proofs.Common.{◌≡◌, ℕ, zero, suc, ◌+◌, ◌<◌, Bool, true, List, [], Option, Some, None, IfSome, refl, sym, subst, ◌∙◌, arith}
use Rattle.tp_outside.specs.Folder.{Folder, bytes_of}
use Rattle.cpu_8086.specs.State.{State}
use Rattle.cpu_8086.specs.Process.{Running}
use Rattle.dos_runner.specs.declared.runner.RunEnd.{RunEnd}
use Rattle.dos_runner.specs.declared.runner.RunEnd.TheVariants as ends
use Rattle.dos_runner.specs.Run.{Progress}
use Rattle.dos_runner.specs.Outside.{Outside, Counts, Progresses}
use Rattle.dos_runner.proofs.Composition.{behind, gave_none, took_none, run_behind, joined}
use Rattle.overlay_manager.specs.Manager.{Manager}
use Rattle.overlay_manager.specs.overlay_run.Managed.{Managed, ManagedGoes, ManagedRuns}
use Rattle.dos_runner.specs.declared.overlay_runner.course.Course.{Course}
use Rattle.dos_runner.specs.overlay_runner.Event.{managed, IsManagedEvent, FindsTrap, FailsLoading, ManagedAdvances}
use Rattle.dos_runner.specs.overlay_runner.Course.{IsManagedRun, FailsAtTrap, Courses, events_in}

-- one event more
one-more : (bytes : List ℕ) (n : ℕ) (p q r : Managed) → ManagedRuns bytes n p q → ManagedGoes bytes q r → ManagedRuns bytes (n + 1) p r
one-more bytes zero p q r runs goes = (r, subst (λ (x : Managed). ManagedGoes bytes x r) (sym runs) goes, refl)
one-more bytes (suc n) p q r runs goes =
    let e : suc (n + 1) ≡ suc n + 1 = omega arith in
    let longer : ManagedRuns bytes (suc (n + 1)) p r = (runs.0, runs.1, one-more bytes n runs.0 q r runs.2 goes) in
    subst (λ (k : ℕ). ManagedRuns bytes k p r) e longer

run-event : (bytes : List ℕ) (events : ℕ) (start now : State) (m0 m m' : Manager) (traps traps' : ℕ) (over over' : Bool) (p q : Progress) → IsManagedRun bytes events start m0 m traps over p → p.machine ≡ now → p.status ≡ Running
    → (over ≡ true → (q.gained ≡ []) × (over' ≡ true)) → IsManagedEvent bytes now m traps m' traps' over' q → IsManagedRun bytes (events + 1) start m0 m' traps' over' (behind p q)
run-event bytes events start now m0 m m' traps traps' over over' p q before stands runs stays event =
    run_behind (λ a b. ManagedRuns bytes events (managed m0 0 a) (managed m traps b)) (λ b c. ManagedGoes bytes (managed m traps b) (managed m' traps' c)) (λ a c. ManagedRuns bytes (events + 1) (managed m0 0 a) (managed m' traps' c))
    (λ a b c one two. one-more bytes events (managed m0 0 a) (managed m traps b) (managed m' traps' c) one two)
    start now over over' p q before stands runs stays event

-- the part of a run so far
abbrev pub SoFar : List ℕ → ℕ → ℕ → Course → Course → Outside → Outside → Type 0
SoFar bytes events traps old now o o' = Progresses (IsManagedRun bytes events old.machine old.ovr now.ovr traps now.over) None now.machine old.over now.over o o'

-- the part of a run so far, and the event
further : (bytes : List ℕ) (end : Option RunEnd) (events traps traps' : ℕ) (old now new : Course) (o o1 o2 : Outside) → Counts o o1 → SoFar bytes events traps old now o o1
    → Progresses (IsManagedEvent bytes now.machine now.ovr traps new.ovr traps' new.over) end new.machine now.over new.over o1 o2
    → Progresses (IsManagedRun bytes (events + 1) old.machine old.ovr new.ovr traps' new.over) end new.machine old.over new.over o o2
further bytes end events traps traps' old now new o o1 o2 counts before event =
    joined (IsManagedRun bytes events old.machine old.ovr now.ovr traps now.over) (IsManagedEvent bytes now.machine now.ovr traps new.ovr traps' new.over) (IsManagedRun bytes (events + 1) old.machine old.ovr new.ovr traps' new.over)
    end now.machine new.machine old.over now.over new.over o o1 o2 counts before event
    (λ p q first stands runs stays second. run-event bytes events old.machine now.machine old.ovr now.ovr new.ovr traps traps' now.over new.over p q first stands runs stays second)

-- nothing has run yet
pub started : (known : Option Folder) (old : Course) (o : Outside) → IfSome known (λ held. SoFar (bytes_of held old.ovr.name) 0 0 old old o o)
started None old o = tt
started (Some held) old o = record {
  progress = record { machine = old.machine; gained = []; out = []; err = []; status = Running };
  does = λ input is_input. refl;
  leaves = (refl, refl);
  reads = gave_none old.over o.input o.input refl;
  wrote = took_none o.output o.output refl;
  told = took_none o.errors o.errors refl;
  rose = tt;
}

-- the process goes on
pub goes-on : (known now_known : Option Folder) (events traps traps' : ℕ) (old now new : Course) (o o1 o2 : Outside) → now_known ≡ known → Counts o o1
    → IfSome known (λ held. SoFar (bytes_of held old.ovr.name) events traps old now o o1) → IfSome known (λ held. now.ovr.name ≡ old.ovr.name)
    → IfSome now_known (λ held. ManagedAdvances (IsManagedEvent (bytes_of held now.ovr.name) now.machine now.ovr traps new.ovr traps' new.over) (FindsTrap now.ovr now.machine) None now new traps traps' o1 o2)
    → IfSome known (λ held. SoFar (bytes_of held old.ovr.name) (events + 1) traps' old new o o2)
goes-on None now_known events traps traps' old now new o o1 o2 same counts before name event = tt
goes-on (Some held) now_known events traps traps' old now new o o1 o2 same counts before name event =
    let E : Folder → List ℕ → Type 0 = λ held name. Progresses (IsManagedEvent (bytes_of held name) now.machine now.ovr traps new.ovr traps' new.over) None new.machine now.over new.over o1 o2 in
    let one : E held old.ovr.name = subst (E held) name (subst (λ (known : Option Folder). IfSome known (λ held. E held now.ovr.name)) same event) in
    further (bytes_of held old.ovr.name) None events traps traps' old now new o o1 o2 counts before one

-- the names of what a run kept
pub names-kept : (known now_known : Option Folder) (a b c : List ℕ) → now_known ≡ known → IfSome known (λ held. b ≡ a) → IfSome now_known (λ held. c ≡ b) → IfSome known (λ held. c ≡ a)
names-kept None now_known a b c same first second = tt
names-kept (Some held) now_known a b c same first second = subst (λ (known : Option Folder). IfSome known (λ held. c ≡ b)) same second ∙ first

pub same-name : (known : Option Folder) (a : List ℕ) → IfSome known (λ held. a ≡ a)
same-name None a = tt
same-name (Some held) a = refl

fails-loading : (bytes : List ℕ) (events traps traps' limit : ℕ) (old now new : Course) (o o1 o2 : Outside) → events < limit → SoFar bytes events traps old now o o1
    → FailsLoading (FindsTrap now.ovr now.machine) now.ovr new.ovr traps traps' o1 o2 → FailsAtTrap bytes (events + 0) traps' limit old new o o2
fails-loading bytes events traps traps' limit old now new o o1 o2 below before event =
    let none : events ≡ events + 0 = omega arith in
    let R : ℕ → ℕ → Outside → Type 0 = λ n k o'. SoFar bytes n k old now o o' in
    record {
      below = omega arith;
      last = now;
      run = subst (λ (n : ℕ). R n traps' o2) none (subst (λ (k : ℕ). R events k o2) (sym event.served) (subst (R events traps) (sym event.streams) before));
      trap = event.found;
      tally = event.tally;
    }

-- the event ends the run
ends-by : (bytes : List ℕ) (end : RunEnd) (events traps traps' limit : ℕ) (old now new : Course) (o o1 o2 : Outside) → events < limit → Counts o o1 → SoFar bytes events traps old now o o1
    → ManagedAdvances (IsManagedEvent bytes now.machine now.ovr traps new.ovr traps' new.over) (FindsTrap now.ovr now.machine) (Some end) now new traps traps' o1 o2
    → Courses bytes end (events + events_in end) traps' limit old new o o2
ends-by bytes (ends.Ended code) events traps traps' limit old now new o o1 o2 below counts before event = record {
  bound = omega arith;
  limited = tt;
  run = further bytes (Some (ends.Ended code)) events traps traps' old now new o o1 o2 counts before event;
}
ends-by bytes (ends.Stopped cs ip why) events traps traps' limit old now new o o1 o2 below counts before event = record {
  bound = omega arith;
  limited = tt;
  run = further bytes (Some (ends.Stopped cs ip why)) events traps traps' old now new o o1 o2 counts before event;
}
ends-by bytes ends.OutputFault events traps traps' limit old now new o o1 o2 below counts before event =
    record { ran = events; below = below; counted = refl; last = now; served = traps; mid = o1; run = before; counts = counts; event = event }
ends-by bytes ends.ErrorsFault events traps traps' limit old now new o o1 o2 below counts before event =
    record { ran = events; below = below; counted = refl; last = now; served = traps; mid = o1; run = before; counts = counts; event = event }
ends-by bytes (ends.Limit taken) events traps traps' limit old now new o o1 o2 below counts before event = absurd event
ends-by bytes ends.InputFault events traps traps' limit old now new o o1 o2 below counts before event =
    record { ran = events; below = below; counted = refl; last = now; served = traps; mid = o1; run = before; counts = counts; event = event }
ends-by bytes ends.FilesFault events traps traps' limit old now new o o1 o2 below counts before event =
    fails-loading bytes events traps traps' limit old now new o o1 o2 below before event

pub ends-so : (known now_known : Option Folder) (end : RunEnd) (events traps traps' limit : ℕ) (old now new : Course) (o o1 o2 : Outside) → now_known ≡ known → events < limit → Counts o o1
    → IfSome known (λ held. SoFar (bytes_of held old.ovr.name) events traps old now o o1) → IfSome known (λ held. now.ovr.name ≡ old.ovr.name)
    → IfSome now_known (λ held. ManagedAdvances (IsManagedEvent (bytes_of held now.ovr.name) now.machine now.ovr traps new.ovr traps' new.over) (FindsTrap now.ovr now.machine) (Some end) now new traps traps' o1 o2)
    → IfSome known (λ held. Courses (bytes_of held old.ovr.name) end (events + events_in end) traps' limit old new o o2)
ends-so None now_known end events traps traps' limit old now new o o1 o2 same below counts before name event = tt
ends-so (Some held) now_known end events traps traps' limit old now new o o1 o2 same below counts before name event =
    let E : Folder → List ℕ → Type 0 = λ held name.
    ManagedAdvances (IsManagedEvent (bytes_of held name) now.machine now.ovr traps new.ovr traps' new.over) (FindsTrap now.ovr now.machine) (Some end) now new traps traps' o1 o2 in
    let one : E held old.ovr.name = subst (E held) name (subst (λ (known : Option Folder). IfSome known (λ held. E held now.ovr.name)) same event) in
    ends-by (bytes_of held old.ovr.name) end events traps traps' limit old now new o o1 o2 below counts before one
