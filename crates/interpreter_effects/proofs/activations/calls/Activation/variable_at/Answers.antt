use Rattle.std.proofs.Common.{subst, sym, arith}
use Rattle.interpreter_store.specs.cell_store.Views.{view_store}
use Rattle.interpreter_store.specs.cell_store.Finding.{Gets}
use Rattle.interpreter_store.specs.typed_cells.Sorts.{view_reached}
use Rattle.tp_meaning.specs.Found.{Found}
use Rattle.tp_meaning.specs.Activations.{Reached}
use Rattle.interpreter_effects.specs.activations.Views.{view_activation}
use Rattle.interpreter_effects.proofs.activations.Outer.{outer_is}
use Rattle.interpreter_effects.proofs.activations.calls.Activation.variable_at.Goals as goal

pub returns-in_default : goal.returns-in_default
returns-in_default c =
    let variable = c.args.variable in
    let same = outer_is c.args.sources.now.program.now (view_activation c.args.self.now) variable.level variable.unit variable.number (view_store c.args.store.now) (omega arith) in
    subst (λ (found : Found Reached). Gets view_reached c.outer_variable.result found) (sym same) c.outer_variable.ensures
