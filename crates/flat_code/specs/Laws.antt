-- The laws of flat code, by which a piece of it is proved without unfolding its meaning: one for each node.
use Rattle.std.specs.Prelude.{◌≡◌, ℕ, ◌+◌}
use Rattle.flat_code.specs.Tree.{Expr, expr_size, Step, step_size, Code, End, Do, If, Loop, ◌then◌}
use Rattle.flat_code.specs.declared.memory.Cell.TheVariants.{Outside}
use Rattle.flat_code.specs.Memory.{Cells}
use Rattle.flat_code.specs.Program.{FlatProgram, Choice}
use Rattle.flat_code.specs.Meaning.{Frame, State, Outcome, Next, Left, Returned, Over, and_then, spend, with_found, begun, looped, chosen, value_of, step_of, run}

-- the meaning of each node in terms of that of its parts
pub record NodeLaws (program : FlatProgram) (choice : Choice) : Type 0 where
  pub nothing : (f : Frame) (s : State) → run program choice End f s ≡ Next s
  pub step : (step : Step) (next : Code) (f : Frame) (s : State) →
      run program choice (Do step next) f s ≡ and_then (step_of program choice (run program choice) step f (begun (step_size step) s)) (run program choice next f)
  pub test : (test : Expr) (taken other next : Code) (f : Frame) (s : State) →
      run program choice (If test taken other next) f s ≡ and_then
      (with_found (value_of choice f s.cells test) (begun (1 + expr_size test) s) (λ v.
      chosen v (run program choice taken f (begun (1 + expr_size test) s)) (run program choice other f (begun (1 + expr_size test) s))))
      (run program choice next f)
  -- a turn, the body, and the loop again where the body came to its end
  pub loop : (body next : Code) (f : Frame) (s : State) →
      run program choice (Loop body next) f s ≡ and_then
      (spend (begun 1 s) (λ s. looped (run program choice body f (begun 1 s)) (run program choice (Loop body End) f)))
      (run program choice next f)
  pub sequence : (first after : Code) (f : Frame) (s : State) → run program choice (first then after) f s ≡ and_then (run program choice first f s) (run program choice after f)

-- what the first cells can't reach the second can't reach either
abbrev pub IsShutIn : Cells → Cells → Type 0
IsShutIn m m' = (address : ℕ) → m address ≡ Outside → m' address ≡ Outside

-- an outcome from which the run goes on reaches nothing that the state before did not reach
abbrev pub StaysShut : State → Outcome → Type 0
StaysShut r (Next s) = IsShutIn r.cells s.cells
StaysShut r (Left loops s) = IsShutIn r.cells s.cells
StaysShut r (Returned s) = IsShutIn r.cells s.cells
StaysShut r (Over standing s) = Unit {0}
