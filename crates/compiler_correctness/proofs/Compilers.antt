-- From the laws of a compiler's parts to its theorems.
use Rattle.std.proofs.Common.{◌≡◌, ℕ, ◌≤◌, Bool, true, false, List, subst, arith}
use Rattle.std.proofs.lemmas.Nat.{mul-le}
use Rattle.std.specs.Prelude.{◌⊎◌}
use Rattle.common_values.specs.behaviour.Seen.{Stopped, Seen, Begins, IsOver, IsUndefined}
use Rattle.typed_tree.specs.declared.units.Program.{Program}
use Rattle.tp_meaning.specs.Meaning.{mean}
use Rattle.cpu_8086.specs.Process.{Process}
use Rattle.overlay_manager.specs.overlay_run.Managed.{Managed}
use Rattle.program_typing.specs.programs.WellTyped.{IsWellTyped}
use Rattle.compiler_correctness.specs.Runs.{Files, shown}
use Rattle.compiler_correctness.specs.Hypotheses.{Placement, Starts, resident_rate, IsBuiltPlain, IsBuilt, plain_rate, overlaid_rate}
use Rattle.compiler_correctness.specs.Correct.{IsCorrectPlain, IsCorrect}
use Rattle.compiler_correctness.specs.Compiler.{Compiler, CompilerLaws, PlainTheorem, OverlaidTheorem, IsMeant, RunTheorem}
use Rattle.compiler_correctness.proofs.OverlayFiles.{ring_tables}

-- the laws on programs that are built
abbrev pub PlainLaw : Type 0
PlainLaw = (program : Program) (exe : List ℕ) → IsWellTyped program → (built : IsBuiltPlain program exe) → IsCorrectPlain (plain_rate program exe built) program exe

abbrev pub OverlaidLaw : Type 0
OverlaidLaw = (program : Program) (files : Files) → IsWellTyped program → (built : IsBuilt program files) → IsCorrect (overlaid_rate program files built) program files

pub plain_theorem : (c : Compiler) → CompilerLaws c → PlainLaw → PlainTheorem c
plain_theorem c laws law program files compiled none =
    let P : Bool → Type 0 = λ (framed : Bool). (p : Placement (c.lowered program) (c.machine files) framed) × Starts (c.lowered program) (c.machine files) framed p (c.start files)
    × (resident_rate (c.lowered program) (c.machine files) framed p (c.few program) ≤ c.rate program) in
    let placing : P false = subst P none (laws.placing program files compiled) in
    let loading = laws.loading program files compiled none in
    let built : IsBuiltPlain program files.exe = record {
      few = c.few program;
      flat = c.lowered program;
      machine = c.machine files;
      start = c.start files;
      lowering = laws.lowering program compiled.typed compiled.lowerable;
      placement = placing.0;
      starts = placing.1;
      loads = loading.1;
      plain = loading.0;
    } in
    (plain_rate program files.exe built, placing.2, law program files.exe compiled.typed built)

pub overlaid_theorem : (c : Compiler) → CompilerLaws c → OverlaidLaw → OverlaidTheorem c
overlaid_theorem c laws law program files compiled some =
    let P : Bool → Type 0 = λ (framed : Bool). (p : Placement (c.lowered program) (c.machine files) framed) × Starts (c.lowered program) (c.machine files) framed p (c.start files)
    × (resident_rate (c.lowered program) (c.machine files) framed p (c.few program) ≤ c.rate program) in
    let placing : P true = subst P some (laws.placing program files compiled) in
    let built : IsBuilt program files = record {
      few = c.few program;
      flat = c.lowered program;
      machine = c.machine files;
      start = c.start files;
      lowering = laws.lowering program compiled.typed compiled.lowerable;
      placement = placing.0;
      starts = placing.1;
      holds = laws.holding program files compiled some;
      pair = laws.pairing program files compiled some;
    } in
    (overlaid_rate program files built, mul-le 3 (resident_rate (c.lowered program) (c.machine files) true placing.0 (c.few program)) 3 (c.rate program) (omega arith) placing.2, law program files compiled.typed built)

-- it is the process that is meant
meant_too : (program : Program) (input : List ℕ) (m : ℕ) (p q : Managed) → p.process ≡ q.process → IsMeant program input m p → IsMeant program input m q
meant_too program input m p q same meant =
    let x : Seen = mean program input m in
    record {
      over = subst (λ (r : Process). IsOver (shown r).end → (x ≡ shown r) ⊎ IsUndefined x.end) same meant.over;
      wrote = subst (λ (r : Process). (Begins r.out x.out × Begins r.err x.err) ⊎ IsUndefined x.end) same meant.wrote;
      never_stopped = subst (λ (r : Process). (shown r).end ≡ Stopped → IsUndefined x.end) same meant.never_stopped;
    }

pub run_theorem : (c : Compiler) → OverlaidTheorem c → RunTheorem c
run_theorem c theorem program files compiled some name buffer state manager opened retry input are m end runs =
    let found = ring_tables files name buffer state manager opened retry input m end runs in
    let correct = (theorem program files compiled some).2 in
    let meant : IsMeant program input m found.0 = record {
      over = correct.over input are m found.0 found.1;
      wrote = correct.wrote input are m found.0 found.1;
      never_stopped = correct.never_stopped input are m found.0 found.1;
    } in
    meant_too program input m found.0 end found.2 meant
