-- The turns that are left fall at each call and each run of a loop's body; else the statements that are left get fewer.
use Rattle.std.proofs.Common.{◌≡◌, ℕ, ◌+◌, ◌≤◌, drop, map, List}
use Rattle.flat_code.specs.declared.unit.FlatUnit.{FlatUnit}
use Rattle.flat_code.specs.Tree.{End, Loop}
use Rattle.flat_code.specs.View.{view_stmt, view_list}
use Rattle.flat_code.specs.Plain.{view_unit}
use Rattle.flat_run.specs.Views.{view_frame}
use Rattle.flat_code.specs.Meaning.{run}
use Rattle.flat_run.specs.Running.{view_program, view_choice, view_run}
use Rattle.flat_run.proofs.Sizes.{code_size, program_size, turns_left}
use Rattle.flat_run.proofs.context.Interpreter.+run.Given as goal

abbrev left : List FlatUnit → ℕ → ℕ
left units turns = turns_left turns (program_size (map view_unit units))

abbrev pub decreases-run_list : goal.decreases-run_list
decreases-run_list l = left l.self.now.units.now l.state.now.turns + (code_size (view_list l.list.now) + 1)

abbrev pub decreases-run_statement : goal.decreases-run_statement
decreases-run_statement l = left l.self.now.units.now l.state.now.turns + code_size (view_stmt l.statement.now End)

abbrev pub decreases-choose : goal.decreases-choose
decreases-choose l = left l.self.now.units.now l.state.now.turns + (code_size (view_list l.yes.now) + code_size (view_list l.no.now) + 3)

abbrev pub decreases-repeat : goal.decreases-repeat
decreases-repeat l = left l.self.now.units.now l.state.now.turns + (code_size (view_list l.body.now) + 3)

abbrev pub decreases-call_routine : goal.decreases-call_routine
decreases-call_routine l = left l.self.now.units.now l.state.now.turns + 3

abbrev pub decreases-call_through : goal.decreases-call_through
decreases-call_through l = left l.self.now.units.now l.state.now.turns + 3

abbrev pub decreases-call_runtime : goal.decreases-call_runtime
decreases-call_runtime l = left l.self.now.units.now l.state.now.turns + 3

abbrev pub decreases-call : goal.decreases-call
decreases-call l = left l.self.now.units.now l.state.now.turns + (program_size (map view_unit l.self.now.units.now) + 3)

abbrev pub decreases-activate : goal.decreases-activate
decreases-activate l = left l.self.now.units.now l.state.now.turns + (code_size (view_list l.routine.now.body.items) + 2)

-- what is left of the list
abbrev pub invariant-run_list-statements : goal.invariant-run_list-statements
invariant-run_list-statements l = record {
  rest : run (view_program l.self) (view_choice l.self) (view_list l.list) (view_frame l.f) (view_run l.fn.state) ≡ run (view_program l.self) (view_choice l.self) (view_list (drop l.statement-index l.list)) (view_frame l.f) (view_run l.state);
  turns : l.state.turns ≤ l.fn.state.turns;
}

-- the loop again
abbrev pub invariant-repeat-rounds : goal.invariant-repeat-rounds
invariant-repeat-rounds l = record {
  again : run (view_program l.self) (view_choice l.self) (Loop (view_list l.body) End) (view_frame l.f) (view_run l.fn.state) ≡ run (view_program l.self) (view_choice l.self) (Loop (view_list l.body) End) (view_frame l.f) (view_run l.state);
  turns : l.state.turns ≤ l.fn.state.turns;
}

abbrev pub decreases-repeat-rounds : goal.decreases-repeat-rounds
decreases-repeat-rounds l = l.state.turns
