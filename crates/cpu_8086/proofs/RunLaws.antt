-- Runs compose, and a process has one future.
use Rattle.std.proofs.Common.{◌≡◌, ◌≢◌, ℕ, zero, suc, ◌+◌, List, ◌++◌, refl, sym, ◌∙◌, arith, subst}
use Rattle.x86_table.specs.declared.instr.Instr.{Instr}
use Rattle.x86_table.specs.Spelling.{spelling}
use Rattle.cpu_8086.specs.Step.{fetched, effect}
use Rattle.cpu_8086.specs.Process.{Process, Running, after_step}
use Rattle.cpu_8086.specs.Run.{Goes, Runs}
use Rattle.cpu_8086.proofs.StepLaws.{steps_by, steps_deterministic}

-- a running process goes on by the instruction that stands at CS:IP
pub goes_by : (p : Process) (i : Instr) (rest : List ℕ) → p.status ≡ Running → fetched p.machine ≡ spelling i ++ rest → Goes p (after_step p (effect p.machine i).0 (effect p.machine i).1)
goes_by p i rest running e = record {
  running = running;
  machine = (effect p.machine i).0;
  event = (effect p.machine i).1;
  steps = steps_by p.machine i rest e;
  result = refl;
}

pub goes_deterministic : (p q r : Process) → Goes p q → Goes p r → q ≡ r
goes_deterministic p q r x y =
    let same = steps_deterministic p.machine x.machine y.machine x.event y.event x.steps y.steps in
    let state : x.machine ≡ y.machine = same.0 in
    let event : x.event ≡ y.event = same.1 in
    let left = x.result in
    let right = y.result in
    cc

-- one event and then n more
pub runs_after : (n : ℕ) (p q r : Process) → Goes p q → Runs n q r → Runs (suc n) p r
runs_after n p q r one more = (q, one, more)

pub runs_one : (p q : Process) → Goes p q → Runs 1 p q
runs_one p q one = (q, one, refl)

pub runs_compose : (m n : ℕ) (p q r : Process) → Runs m p q → Runs n q r → Runs (m + n) p r
runs_compose zero n p q r first second =
    let e : 0 + n ≡ n = omega arith in
    let P : Process → Type 0 = λ x. Runs n x r in
    let N : ℕ → Type 0 = λ k. Runs k p r in
    subst N (sym e) (subst P (sym first) second)
runs_compose (suc m) n p q r first second =
    let e : suc m + n ≡ suc (m + n) = omega arith in
    let N : ℕ → Type 0 = λ k. Runs k p r in
    subst N (sym e) (first.0, first.1, runs_compose m n first.0 q r first.2 second)

pub runs_deterministic : (n : ℕ) (p q r : Process) → Runs n p q → Runs n p r → q ≡ r
runs_deterministic zero p q r x y = sym x ∙ y
runs_deterministic (suc n) p q r x y =
    let same = goes_deterministic p x.0 y.0 x.1 y.1 in
    let P : Process → Type 0 = λ m. Runs n m q in
    runs_deterministic n y.0 q r (subst P same x.2) y.2

-- a process that ended or was stopped goes nowhere
pub not_running_stays : (p q : Process) → p.status ≢ Running → Goes p q → ⊥
not_running_stays p q over x = over x.running
