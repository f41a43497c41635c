use Rattle.std.proofs.Common.{◌≡◌, ◌+◌, ◌-◌, suc, refl, sym, ap, ◌∙◌, arith, None}
use Rattle.std.proofs.Math.ListN.{length-set}
use Rattle.tp_meaning.specs.Store.{without}
use Rattle.interpreter_store.specs.cell_store.Views.{view_store}
use Rattle.interpreter_store.proofs.cell_store.Stores.{without_all, without_more}
use Rattle.interpreter_store.proofs.cell_store.objects.Store.drop_variables.Goals as goal

pub variables-init : goal.variables-init
variables-init c =
    let store = c.args.self.now in
    record { left = without_all store.objects.items store.blocks c.args.first c.args.count; length = refl }

pub variables-preserved : goal.variables-preserved
variables-preserved c =
    let store = c.variables.self in
    let serial = c.variables.serial in
    let end = c.args.first + c.args.count in
    let one : end - serial ≡ suc (end - (serial + 1)) = omega (arith, c.variables-test.true) in
    record {
      left = c.variables.invariant.left ∙ ap (without (view_store store) serial) one ∙ without_more store.objects.items store.blocks serial (end - (serial + 1));
      length = length-set store.objects.items serial None ∙ c.variables.invariant.length;
    }

pub returns : goal.returns
returns c =
    let none : c.args.first + c.args.count - c.variables.serial ≡ 0 = omega arith in
    sym (c.variables.invariant.left ∙ ap (without (view_store c.variables.self) c.variables.serial) none)
