-- Lists of statements: what each of their steps does, where its code stands, and what is asked of their tests.
use Rattle.std.specs.Prelude.{ℕ, ◌+◌, ◌*◌, ◌≤◌, ◌<◌, length}
use Rattle.x86_table.specs.Standing.{IsSpelledAt, Stands}
use Rattle.flat_code.specs.Calls.{State, begun}
use Rattle.flat_code.specs.Legal.{code_depth}
use Rattle.flat_code.specs.Meaning.{step_of, run}
use Rattle.flat_code.specs.Tree.{Step, step_size, Code, End, Do, If, Loop}
use Rattle.resident_machine.specs.State.{ResidentState}
use Rattle.resident_machine.specs.machine_lines.Straight.{IsAt}
use Rattle.code_templates.specs.code_lines.Lines.{Around, step_lines, step_pointers, pointers, code_lines}
use Rattle.statement_simulation.specs.expressions.Evaluates.{HasWords}
use Rattle.statement_simulation.specs.flow.Sites.{World, Site, Live, Represents}
use Rattle.statement_simulation.specs.flow.Outcomes.{Flows}

-- The code of a step, where it stands with this number for its far pointer, does what the step means, if fewer turns are left than a bound.
abbrev pub StepFlows : World → Site → Live → ℕ → ℕ → Step → Type 0
StepFlows w site live bound pointer step =
    (around : Around) (k : ℕ) (s : State) (r : ResidentState) → s.turns < bound → IsAt site.segment (site.at k) r → Represents w live s r →
    Stands (IsSpelledAt site.code) site.at site.labels k (step_lines site.context around pointer step) →
    length (step_lines site.context around pointer step) ≤ w.rate →
    Flows w site live around (site.at (k + length (step_lines site.context around pointer step))) s r
    (step_of w.program w.choice (run w.program w.choice) step live.frame (begun (step_size step) s))

-- each step of a list, with the number of the next far pointer
abbrev pub AllSteps : (ℕ → Step → Type 0) → ℕ → Code → Type 0
AllSteps P pointer End = Unit {0}
AllSteps P pointer (Do step next) = P pointer step × AllSteps P (pointer + step_pointers step) next
AllSteps P pointer (If test taken other next) =
    AllSteps P pointer taken × AllSteps P (pointer + pointers taken) other × AllSteps P (pointer + pointers taken + pointers other) next
AllSteps P pointer (Loop body next) = AllSteps P pointer body × AllSteps P (pointer + pointers body) next

-- the numbers of tests are words
abbrev pub TestsHaveWords : Code → Type 0
TestsHaveWords End = Unit {0}
TestsHaveWords (Do step next) = TestsHaveWords next
TestsHaveWords (If test taken other next) = HasWords test × TestsHaveWords taken × TestsHaveWords other × TestsHaveWords next
TestsHaveWords (Loop body next) = TestsHaveWords body × TestsHaveWords next

-- What is asked of a list of statements: each step is followed by its code, numbers are words, and the stack has room for the operands that tests keep aside.
pub record IsFit (w : World) (site : Site) (live : Live) (bound pointer : ℕ) (code : Code) : Type 0 where
  pub steps : AllSteps (λ pointer step. StepFlows w site live bound pointer step) pointer code
  pub words : TestsHaveWords code
  pub room : 64 + 2 * code_depth code ≤ live.frame.sp

-- The code of a list, wherever it stands among the labels around, does what the list means.
abbrev pub CodeFlows : World → Site → Live → ℕ → ℕ → Code → Type 0
CodeFlows w site live bound pointer code =
    (around : Around) (label k : ℕ) (s : State) (r : ResidentState) → s.turns < bound → IsAt site.segment (site.at k) r → Represents w live s r →
    Stands (IsSpelledAt site.code) site.at site.labels k (code_lines site.context around label pointer code) →
    length (code_lines site.context around label pointer code) ≤ w.rate →
    Flows w site live around (site.at (k + length (code_lines site.context around label pointer code))) s r (run w.program w.choice code live.frame s)
