use Rattle.std.proofs.Common.{◌≡◌, ◌≢◌, length, subst, sym, arith}
use Rattle.interpreter_store.specs.cell_store.Views.{view_store}
use Rattle.interpreter_store.specs.cell_store.Finding.{Gets}
use Rattle.tp_meaning.specs.Found.{Found}
use Rattle.tp_meaning.specs.Store.{Store}
use Rattle.interpreter_effects.specs.standard_effects.Operands.{view_operand}
use Rattle.interpreter_effects.proofs.standard_effects.Told.{told_plain, told_wide}
use Rattle.interpreter_effects.proofs.standard_effects.changes.telling.Goals as goal

pub returns-then-args-eq2 : goal.returns-then-args-eq2
returns-then-args-eq2 c =
    let two : length c.args.args.now ≡ 2 = omega arith in
    let same = told_plain view_operand c.args.args.now (view_store c.args.store.now) two in
    subst (λ (found : Found Store). Gets {A = Unit {0}} {B = Store} (λ _. view_store c.telling_plain.new.store) c.telling_plain.result found) (sym same) c.telling_plain.ensures

pub returns-else-args-eq2 : goal.returns-else-args-eq2
returns-else-args-eq2 c =
    let other : length c.args.args.now ≢ 2 = omega arith in
    let same = told_wide view_operand c.args.args.now (view_store c.args.store.now) other in
    subst (λ (found : Found Store). Gets {A = Unit {0}} {B = Store} (λ _. view_store c.telling_wide.new.store) c.telling_wide.result found) (sym same) c.telling_wide.ensures
