-- From what a service or a step did to what an event of a program does.
use Rattle.std.proofs.Common.{◌≡◌, ◌≢◌, ℕ, Bool, false, List, drop, Option, Some, None, IfSome, refl, sym, ap, subst}
use Rattle.std.specs.Prelude.{◌==◌}
use Rattle.std.proofs.lemmas.Bool.{ne_eqb}
use Rattle.tp_outside.specs.Folder.{Folder, bytes_of}
use Rattle.cpu_8086.specs.declared.machine.Event.{Event}
use Rattle.cpu_8086.specs.declared.machine.Event.TheVariants as events
use Rattle.cpu_8086.specs.declared.registers.Far.{Far}
use Rattle.cpu_8086.specs.State.{State}
use Rattle.cpu_8086.specs.Process.{Process, Running, Stopped, after_step}
use Rattle.cpu_8086.specs.Step.{Steps}
use Rattle.dos_runner.specs.declared.runner.RunEnd.{RunEnd}
use Rattle.dos_runner.specs.declared.runner.RunEnd.TheVariants as ends
use Rattle.dos_runner.specs.Run.{running, IsInput, Progress, advanced, IsFinish}
use Rattle.dos_runner.specs.Outside.{Outside, Progresses, FailsReading, Advances}
use Rattle.dos_runner.proofs.Answered.{goes_quietly, stops_quietly, advances_so}
use Rattle.dos_runner.proofs.Services.{quiet, finishes_running}
use Rattle.overlay_manager.specs.Manager.{Manager}
use Rattle.overlay_manager.specs.overlay_run.Managed.{Managed, IsTrapped, IsCleared, IsServicedAs, IsAfter}
use Rattle.dos_runner.specs.declared.overlay_runner.course.Course.{Course}
use Rattle.dos_runner.specs.overlay_runner.Event.{managed, IsManagedEvent, IsManagedFinish, GoesOrStops, IsTrap, FindsTrap, FailsLoading, ManagedAdvances, Rises, IsQuietEnd}

-- INT 3Fh is a trap, INT 60h a clear, and each other step is as without overlays
trapped-after : (bytes : List ℕ) (p q : Managed) (t : State) (number : ℕ) → number ≡ 63 → IsTrapped bytes p t q → IsAfter bytes p t (events.Service number) q
trapped-after bytes p q t number is it = subst (λ (n : ℕ). IsAfter bytes p t (events.Service n) q) (sym is) it

cleared-after : (bytes : List ℕ) (p q : Managed) (t : State) (number : ℕ) → number ≡ 96 → IsCleared p t q → IsAfter bytes p t (events.Service number) q
cleared-after bytes p q t number is it = subst (λ (n : ℕ). IsAfter bytes p t (events.Service n) q) (sym is) it

served-after : (bytes : List ℕ) (p q : Managed) (t : State) (number : ℕ) → number ≢ 63 → number ≢ 96 → q ≡ record p { process = after_step p.process t (events.Service number) } → IsAfter bytes p t (events.Service number) q
served-after bytes p q t number trap clear it =
    subst (λ (b : Bool). IsServicedAs bytes p t number q b (number == 96)) (sym (ne_eqb number 63 trap))
    (subst (λ (b : Bool). IsServicedAs bytes p t number q false b) (sym (ne_eqb number 96 clear)) it)

other-after : (bytes : List ℕ) (p q : Managed) (t : State) (event : Event) → ((number : ℕ) → event ≡ events.Service number → ⊥) → q ≡ record p { process = after_step p.process t event } → IsAfter bytes p t event q
other-after bytes p q t events.Ran other it = it
other-after bytes p q t (events.Service n) other it = absurd (other n refl)
other-after bytes p q t events.Divide other it = it
other-after bytes p q t (events.Unknown cs ip) other it = it

-- A service that touches no stream advances a program so.
abbrev Served : (Process → Managed → Type 0) → State → Course → ℕ → Progress → Type 0
Served Does before new traps' progress =
    (input : List ℕ) (taken : ℕ) (out err : List ℕ) → IsInput progress.gained new.over (drop taken input) → Does (running before input taken out err) (managed new.ovr traps' (advanced input taken out err progress))

serves : (Does : Process → Managed → Type 0) (Found : Type 0) (end : Option RunEnd) (before : State) (at : Far) (old new : Course) (traps traps' : ℕ) (o : Outside) → before.cs ≡ at.segment → before.registers.ip ≡ at.offset
    → new.over ≡ old.over → IsQuietEnd end → GoesOrStops Does end at new.machine new.ovr traps' → (end ≡ Some ends.FilesFault → FailsLoading Found old.ovr new.ovr traps traps' o o)
    → ManagedAdvances (Served Does before new traps') Found end old new traps traps' o o
serves Does Found None before at old new traps traps' o segment offset over kind does failed =
    let new_machine : State = new.machine in
    subst (λ (over : Bool). Progresses (Served Does before new traps') None new_machine old.over over o o) (sym over)
    (goes_quietly (Served Does before new traps') new_machine new_machine old.over o o refl
    (λ input taken out err is_input. subst (λ (p : Process). Does (running before input taken out err) (managed new.ovr traps' p)) (quiet new_machine Running input taken out err) (does (running before input taken out err)))
    (record { input = refl; output = refl; errors = refl }))
serves Does Found (Some (ends.Stopped cs ip why)) before at old new traps traps' o segment offset over kind does failed =
    subst (λ (over : Bool). Progresses (Served Does before new traps') (Some (ends.Stopped cs ip why)) new.machine old.over over o o) (sym over)
    (stops_quietly (Served Does before new traps') new.machine before cs ip why old.over o o
    (λ input taken out err is_input. subst (λ (p : Process). Does (running before input taken out err) (managed new.ovr traps' p)) (quiet before (Stopped cs ip why) input taken out err) (does (running before input taken out err) segment offset))
    (record { input = refl; output = refl; errors = refl }))
serves Does Found (Some ends.FilesFault) before at old new traps traps' o segment offset over kind does failed = failed refl
serves Does Found (Some (ends.Ended code)) before at old new traps traps' o segment offset over kind does failed = absurd kind
serves Does Found (Some (ends.Limit taken)) before at old new traps traps' o segment offset over kind does failed = absurd kind
serves Does Found (Some ends.InputFault) before at old new traps traps' o segment offset over kind does failed = absurd kind
serves Does Found (Some ends.OutputFault) before at old new traps traps' o segment offset over kind does failed = absurd kind
serves Does Found (Some ends.ErrorsFault) before at old new traps traps' o segment offset over kind does failed = absurd kind

goes-so : (P Q : Process → Managed → Type 0) (end : Option RunEnd) (at : Far) (t : State) (m : Manager) (traps : ℕ) → ((p : Process) (q : Managed) → P p q → Q p q) → GoesOrStops P end at t m traps → GoesOrStops Q end at t m traps
goes-so P Q None at t m traps so does = λ p. so p _ (does p)
goes-so P Q (Some (ends.Stopped cs ip why)) at t m traps so does = λ p segment offset. so p _ (does p segment offset)
goes-so P Q (Some ends.FilesFault) at t m traps so does = tt
goes-so P Q (Some end) at t m traps so does = does

-- INT 3Fh
pub trap-advances : (known : Option Folder) (number : ℕ) (result : Option RunEnd) (at : Far) (old new : Course) (traps traps' : ℕ) (o : Outside) → number ≡ 63 → new.over ≡ old.over → IsQuietEnd result
    → IfSome known (λ held. GoesOrStops (λ p q. IsTrapped (bytes_of held old.ovr.name) (managed old.ovr traps p) old.machine q) result at new.machine new.ovr traps')
    → (result ≡ Some ends.FilesFault → IsTrap old.ovr old.machine) → (result ≡ Some ends.FilesFault → new.ovr.tally ≡ old.ovr.tally) → (result ≡ Some ends.FilesFault → traps' ≡ traps)
    → IfSome known (λ held. (before : State) → before.cs ≡ at.segment → before.registers.ip ≡ at.offset
    → ManagedAdvances (IsManagedFinish (bytes_of held old.ovr.name) before old.machine (events.Service number) old.ovr traps new.ovr traps' new.over) ((number ≡ 63) × IsTrap old.ovr old.machine) result old new traps traps' o o)
trap-advances None number result at old new traps traps' o is over kind does found tally served = tt
trap-advances (Some held) number result at old new traps traps' o is over kind does found tally served = λ before segment offset.
    let bytes : List ℕ = bytes_of held old.ovr.name in
    serves (λ p q. IsAfter bytes (managed old.ovr traps p) old.machine (events.Service number) q) ((number ≡ 63) × IsTrap old.ovr old.machine) result before at old new traps traps' o segment offset over kind
    (goes-so (λ p q. IsTrapped bytes (managed old.ovr traps p) old.machine q) _ result at new.machine new.ovr traps' (λ p q it. trapped-after bytes (managed old.ovr traps p) q old.machine number is it) does)
    (λ failed. record { found = (is, found failed); tally = tally failed; served = served failed; streams = refl })

-- INT 60h
pub clear-advances : (known : Option Folder) (number : ℕ) (result : Option RunEnd) (at : Far) (old new : Course) (traps : ℕ) (o : Outside) → number ≡ 96 → new.over ≡ old.over → IsQuietEnd result
    → GoesOrStops (λ p q. IsCleared (managed old.ovr traps p) old.machine q) result at new.machine new.ovr traps → (result ≡ Some ends.FilesFault → ⊥)
    → IfSome known (λ held. (before : State) → before.cs ≡ at.segment → before.registers.ip ≡ at.offset
    → ManagedAdvances (IsManagedFinish (bytes_of held old.ovr.name) before old.machine (events.Service number) old.ovr traps new.ovr traps new.over) ((number ≡ 63) × IsTrap old.ovr old.machine) result old new traps traps o o)
clear-advances None number result at old new traps o is over kind does no_fault = tt
clear-advances (Some held) number result at old new traps o is over kind does no_fault = λ before segment offset.
    let bytes : List ℕ = bytes_of held old.ovr.name in
    serves (λ p q. IsAfter bytes (managed old.ovr traps p) old.machine (events.Service number) q) ((number ≡ 63) × IsTrap old.ovr old.machine) result before at old new traps traps o segment offset over kind
    (goes-so (λ p q. IsCleared (managed old.ovr traps p) old.machine q) _ result at new.machine new.ovr traps (λ p q it. cleared-after bytes (managed old.ovr traps p) q old.machine number is it) does)
    (λ failed. absurd (no_fault failed))

-- what a step did that knows no overlays
abbrev with_streams : Course → State → Bool → Course
with_streams old machine over = record old { machine = machine; over = over }

plain-advances : (P Q : Progress → Type 0) (Found : Type 0) (end : Option RunEnd) (old : Course) (machine : State) (over : Bool) (traps : ℕ) (o o' : Outside) → ((progress : Progress) → P progress → Q progress)
    → Advances P end machine old.over over o o' → ManagedAdvances Q Found end old (with_streams old machine over) traps traps o o'
plain-advances P Q Found (Some ends.InputFault) old machine over traps o o' so part =
    record { fails = advances_so P Q (Some ends.InputFault) machine old.over over o o' so part; manager = refl; served = refl }
plain-advances P Q Found (Some ends.FilesFault) old machine over traps o o' so part = absurd part.leaves
plain-advances P Q Found (Some (ends.Limit taken)) old machine over traps o o' so part = part
plain-advances P Q Found (Some (ends.Ended code)) old machine over traps o o' so part = advances_so P Q (Some (ends.Ended code)) machine old.over over o o' so part
plain-advances P Q Found (Some (ends.Stopped cs ip why)) old machine over traps o o' so part = advances_so P Q (Some (ends.Stopped cs ip why)) machine old.over over o o' so part
plain-advances P Q Found (Some ends.OutputFault) old machine over traps o o' so part = advances_so P Q (Some ends.OutputFault) machine old.over over o o' so part
plain-advances P Q Found (Some ends.ErrorsFault) old machine over traps o o' so part = advances_so P Q (Some ends.ErrorsFault) machine old.over over o o' so part
plain-advances P Q Found None old machine over traps o o' so part = advances_so P Q None machine old.over over o o' so part

-- another interrupt
pub other-advances : (known : Option Folder) (number : ℕ) (result : Option RunEnd) (at : Far) (old : Course) (machine : State) (over : Bool) (traps : ℕ) (o o' : Outside) → number ≢ 63 → number ≢ 96
    → ((before : State) → before.cs ≡ at.segment → before.registers.ip ≡ at.offset → Advances (IsFinish before old.machine (events.Service number) over) result machine old.over over o o')
    → IfSome known (λ held. (before : State) → before.cs ≡ at.segment → before.registers.ip ≡ at.offset
    → ManagedAdvances (IsManagedFinish (bytes_of held old.ovr.name) before old.machine (events.Service number) old.ovr traps old.ovr traps over) ((number ≡ 63) × IsTrap old.ovr old.machine) result old (with_streams old machine over) traps traps o o')
other-advances None number result at old machine over traps o o' trap clear finished = tt
other-advances (Some held) number result at old machine over traps o o' trap clear finished = λ before segment offset.
    plain-advances (IsFinish before old.machine (events.Service number) over) _ ((number ≡ 63) × IsTrap old.ovr old.machine) result old machine over traps o o'
    (λ progress finish input taken out err is_input.
    served-after (bytes_of held old.ovr.name) (managed old.ovr traps (running before input taken out err)) (managed old.ovr traps (advanced input taken out err progress)) old.machine number trap clear
    (ap (managed old.ovr traps) (sym (finish input taken out err is_input))))
    (finished before segment offset)

managed-so : (P Q : Progress → Type 0) (F G : Type 0) (end : Option RunEnd) (old older new : Course) (traps traps' : ℕ) (o o' : Outside) → ((progress : Progress) → P progress → Q progress) → (F → G)
    → old.ovr ≡ older.ovr → old.over ≡ older.over → ManagedAdvances P F end old new traps traps' o o' → ManagedAdvances Q G end older new traps traps' o o'
managed-so P Q F G (Some ends.FilesFault) old older new traps traps' o o' so found ovr over part =
    record { found = found part.found; tally = subst (λ (m : Manager). new.ovr.tally ≡ m.tally) ovr part.tally; served = part.served; streams = part.streams }
managed-so P Q F G (Some ends.InputFault) old older new traps traps' o o' so found ovr over part =
    record { fails = subst (λ (b : Bool). FailsReading Q b o o') over (advances_so P Q (Some ends.InputFault) new.machine old.over new.over o o' so part.fails); manager = subst (λ (m : Manager). new.ovr ≡ m) ovr part.manager; served = part.served }
managed-so P Q F G (Some (ends.Limit taken)) old older new traps traps' o o' so found ovr over part = part
managed-so P Q F G (Some (ends.Ended code)) old older new traps traps' o o' so found ovr over part =
    subst (λ (b : Bool). Progresses Q (Some (ends.Ended code)) new.machine b new.over o o') over (advances_so P Q (Some (ends.Ended code)) new.machine old.over new.over o o' so part)
managed-so P Q F G (Some (ends.Stopped cs ip why)) old older new traps traps' o o' so found ovr over part =
    subst (λ (b : Bool). Progresses Q (Some (ends.Stopped cs ip why)) new.machine b new.over o o') over (advances_so P Q (Some (ends.Stopped cs ip why)) new.machine old.over new.over o o' so part)
managed-so P Q F G (Some ends.OutputFault) old older new traps traps' o o' so found ovr over part =
    subst (λ (b : Bool). Progresses Q (Some ends.OutputFault) new.machine b new.over o o') over (advances_so P Q (Some ends.OutputFault) new.machine old.over new.over o o' so part)
managed-so P Q F G (Some ends.ErrorsFault) old older new traps traps' o o' so found ovr over part =
    subst (λ (b : Bool). Progresses Q (Some ends.ErrorsFault) new.machine b new.over o o') over (advances_so P Q (Some ends.ErrorsFault) new.machine old.over new.over o o' so part)
managed-so P Q F G None old older new traps traps' o o' so found ovr over part =
    subst (λ (b : Bool). Progresses Q None new.machine b new.over o o') over (advances_so P Q None new.machine old.over new.over o o' so part)

is-event : (bytes : List ℕ) (before t : State) (event : Event) (m m' : Manager) (traps traps' : ℕ) (over : Bool) (progress : Progress) → Steps before t event
    → IsManagedFinish bytes before t event m traps m' traps' over progress → IsManagedEvent bytes before m traps m' traps' over progress
is-event bytes before t event m m' traps traps' over progress steps finish input taken out err is_input =
    record { running = refl; machine = t; event = event; steps = steps; result = finish input taken out err is_input }

finds : (old : Course) (t : State) (number : ℕ) → Steps old.machine t (events.Service number) → (number ≡ 63) × IsTrap old.ovr t → FindsTrap old.ovr old.machine
finds old t number steps found = record { past = t; steps = subst (λ (n : ℕ). Steps old.machine t (events.Service n)) found.0 steps; trap = found.1 }

-- an event that asked for a service
pub service-event : (known : Option Folder) (old : Course) (t : State) (number : ℕ) (new : Course) (at : Far) (result : Option RunEnd) (traps traps' : ℕ) (o o' : Outside) → Steps old.machine t (events.Service number)
    → old.machine.cs ≡ at.segment → old.machine.registers.ip ≡ at.offset
    → IfSome known (λ held. (before : State) → before.cs ≡ at.segment → before.registers.ip ≡ at.offset
    → ManagedAdvances (IsManagedFinish (bytes_of held old.ovr.name) before t (events.Service number) old.ovr traps new.ovr traps' new.over) ((number ≡ 63) × IsTrap old.ovr t) result (record old { machine = t }) new traps traps' o o')
    → IfSome known (λ held. ManagedAdvances (IsManagedEvent (bytes_of held old.ovr.name) old.machine old.ovr traps new.ovr traps' new.over) (FindsTrap old.ovr old.machine) result old new traps traps' o o')
service-event None old t number new at result traps traps' o o' steps segment offset served = tt
service-event (Some held) old t number new at result traps traps' o o' steps segment offset served =
    managed-so _ _ ((number ≡ 63) × IsTrap old.ovr t) (FindsTrap old.ovr old.machine) result (record old { machine = t }) old new traps traps' o o'
    (λ progress. is-event (bytes_of held old.ovr.name) old.machine t (events.Service number) old.ovr new.ovr traps traps' new.over progress steps)
    (finds old t number steps) refl refl (served old.machine segment offset)

-- an event that asked for none
pub plain-event : (known : Option Folder) (old : Course) (t : State) (event : Event) (machine : State) (over : Bool) (at : Far) (result : Option RunEnd) (traps : ℕ) (o o' : Outside) → Steps old.machine t event
    → ((number : ℕ) → event ≡ events.Service number → ⊥) → old.machine.cs ≡ at.segment → old.machine.registers.ip ≡ at.offset
    → ((before : State) → before.cs ≡ at.segment → before.registers.ip ≡ at.offset → Advances (IsFinish before t event over) result machine old.over over o o')
    → IfSome known (λ held. ManagedAdvances (IsManagedEvent (bytes_of held old.ovr.name) old.machine old.ovr traps old.ovr traps over) (FindsTrap old.ovr old.machine) result old (with_streams old machine over) traps traps o o')
plain-event None old t event machine over at result traps o o' steps other segment offset finished = tt
plain-event (Some held) old t event machine over at result traps o o' steps other segment offset finished =
    plain-advances (IsFinish old.machine t event over) _ (FindsTrap old.ovr old.machine) result old machine over traps o o'
    (λ progress finish input taken out err is_input. record {
      running = refl;
      machine = t;
      event = event;
      steps = steps;
      result = other-after (bytes_of held old.ovr.name) (managed old.ovr traps (running old.machine input taken out err)) (managed old.ovr traps (advanced input taken out err progress)) t event other
          (ap (managed old.ovr traps) (sym (finish input taken out err is_input)));
    })
    (finished old.machine segment offset)

-- an instruction ran that asked for nothing
pub ran-event : (known : Option Folder) (old : Course) (t : State) (traps : ℕ) (o : Outside) → Steps old.machine t events.Ran
    → IfSome known (λ held. ManagedAdvances (IsManagedEvent (bytes_of held old.ovr.name) old.machine old.ovr traps old.ovr traps old.over) (FindsTrap old.ovr old.machine) None old (with_streams old t old.over) traps traps o o)
ran-event None old t traps o steps = tt
ran-event (Some held) old t traps o steps =
    goes_quietly (IsManagedEvent (bytes_of held old.ovr.name) old.machine old.ovr traps old.ovr traps old.over) t t old.over o o refl
    (λ input taken out err is_input. record {
      running = refl;
      machine = t;
      event = events.Ran;
      steps = steps;
      result = ap (managed old.ovr traps) (sym (finishes_running old.machine t old.over input taken out err is_input));
    })
    (record { input = refl; output = refl; errors = refl })

pub plain-rises : (P : Progress → Type 0) (end : Option RunEnd) (machine : State) (over over' : Bool) (o o' : Outside) (files : ℕ) → Advances P end machine over over' o o' → Rises end o o' files files
plain-rises P None machine over over' o o' files part = tt
plain-rises P (Some (ends.Stopped cs ip why)) machine over over' o o' files part = tt
plain-rises P (Some ends.FilesFault) machine over over' o o' files part = absurd part.leaves
plain-rises P (Some (ends.Ended code)) machine over over' o o' files part = tt
plain-rises P (Some (ends.Limit taken)) machine over over' o o' files part = tt
plain-rises P (Some ends.InputFault) machine over over' o o' files part = part.rose
plain-rises P (Some ends.OutputFault) machine over over' o o' files part = part.rose
plain-rises P (Some ends.ErrorsFault) machine over over' o o' files part = part.rose
