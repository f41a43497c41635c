use Rattle.std.proofs.Common.{subst, sym, rules}
use mir.Syntax.{w32}
use mir.Val.{SFits}
use Rattle.std.proofs.lemmas.Int.{to_z-of_z}
use Rattle.interpreter_store.specs.declared.cell_store.contents.Value.{Value}
use Rattle.interpreter_store.specs.cell_store.Views.{view_value, view_store}
use Rattle.interpreter_store.specs.cell_store.Finding.{Gets}
use Rattle.tp_meaning.specs.Operators.{binary}
use Rattle.interpreter_store.proofs.value_operators.operators.binary.Goals as goal

pub returns-in-Ordinal : goal.returns-in-Ordinal
returns-in-Ordinal c =
    let store = view_store c.args.store.now in
    let right = view_value c.args.right.now in
    let fits : SFits w32 c.in-Ordinal.left = search rules in
    subst (λ (left : Value). Gets view_value c.of_ordinal.result (binary c.args.op c.args.stored (view_value left) right store)) (sym c.in-Ordinal.is) (simp (to_z-of_z, fits) at (c.of_ordinal.ensures store))

pub returns-in-Text : goal.returns-in-Text
returns-in-Text c =
    let store = view_store c.args.store.now in
    let right = view_value c.args.right.now in
    subst (λ (left : Value). Gets view_value c.of_text.result (binary c.args.op c.args.stored (view_value left) right store)) (sym c.in-Text.is) (rw c.as_slice.ensures at (c.of_text.ensures c.args.stored store))

pub returns-in-Elements : goal.returns-in-Elements
returns-in-Elements c =
    let store = view_store c.args.store.now in
    let right = view_value c.args.right.now in
    subst (λ (left : Value). Gets view_value c.of_set.result (binary c.args.op c.args.stored (view_value left) right store)) (sym c.in-Elements.is) (rw c.as_slice-in-Elements.ensures at (c.of_set.ensures c.args.stored store))
