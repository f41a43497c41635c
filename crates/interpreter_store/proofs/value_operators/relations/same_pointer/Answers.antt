use Rattle.std.proofs.Common.{Bool, subst, sym}
use Rattle.interpreter_store.specs.declared.cell_store.contents.Value.{Value}
use Rattle.interpreter_store.specs.cell_store.Views.{view_value, view_store}
use Rattle.interpreter_store.specs.cell_store.Finding.{Finds}
use Rattle.tp_meaning.specs.Operators.{same_pointer}
use Rattle.interpreter_store.proofs.value_operators.relations.same_pointer.Goals as goal

pub returns-in-Nil : goal.returns-in-Nil
returns-in-Nil c =
    let store = view_store c.args.store.now in
    let b = view_value c.args.b.now in
    subst (λ (a : Value). Finds {A = Bool} {B = Bool} (λ same. same) c.is_nil.result (same_pointer store (view_value a) b)) (sym c.in-Nil.is) (c.is_nil.ensures store)
