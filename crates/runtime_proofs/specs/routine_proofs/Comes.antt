-- What some statements come to, in the states that an activation is seen in.
use Rattle.std.specs.Prelude.{◌≡◌, ℕ, ◌+◌, ◌≤◌, ◌<◌}
use Rattle.common_values.specs.behaviour.Seen.{Going}
use Rattle.flat_code.specs.Tree.{Code}
use Rattle.flat_code.specs.Program.{FlatProgram, Choice}
use Rattle.flat_code.specs.Meaning.{Frame, State, Outcome, Next, Left, Returned, Over, raised, run}
use Rattle.flat_code.specs.Gives.{with_turns}
use Rattle.runtime_proofs.specs.routine_proofs.Activation.{Activation, IsSeen}
use Rattle.runtime_proofs.specs.routine_proofs.Straight.{Exit, Onward, Leaving, Returning, Failing}

abbrev pub outcome_of : Exit → State → Outcome
outcome_of Onward s = Next s
outcome_of (Leaving loops) s = Left loops s
outcome_of Returning s = Returned s
outcome_of (Failing code) s = raised code s

-- the run goes on for want of a turn, and has written nothing
abbrev pub WantsTurn : Outcome → State → Type 0
WantsTurn o s = (u : State) × (o ≡ Over Going u) × (u.out ≡ s.out) × (u.err ≡ s.err)

-- from a state the statements come to an exit and another activation, with at most so many turns and so much work; where more turns are there they are left, and before the first turn nothing is written
pub record Comes (program : FlatProgram) (choice : Choice) (own : Frame) (sp : ℕ) (code : Code) (turns work : ℕ) (exit : Exit) (b : Activation) (s : State) : Type 0 where
  pub spent : ℕ
  pub few : spent ≤ turns
  pub after : State
  pub seen : IsSeen choice sp b after
  pub worked : after.work ≤ s.work + work
  pub ends : (t : ℕ) → run program choice code own (with_turns s (spent + t)) ≡ outcome_of exit (with_turns after t)
  pub quiet : 0 < spent → WantsTurn (run program choice code own (with_turns s 0)) s
  pub silent : spent ≡ 0 → (after.out ≡ s.out) × (after.err ≡ s.err)

-- they do so from each state in which an activation is seen
abbrev pub Does : FlatProgram → Choice → Frame → ℕ → Code → ℕ → ℕ → Activation → Exit → Activation → Type 0
Does program choice own sp code turns work a exit b = (s : State) → IsSeen choice sp a s → Comes program choice own sp code turns work exit b s
