use Rattle.std.proofs.Common.{◌∙◌, sym, Option, Some, None}
use Rattle.type_layout.specs.declared.definitions.Kind.{Kind}
use Rattle.lower_places.proofs.KindTurns.{kind_turns}
use Rattle.lower_places.proofs.kinds.kind_from.Goals as goal

pub returns-in-Some : goal.returns-in-Some
returns-in-Some c =
    let table = c.args.types.now in
    let found = rw (c.methods_of-methods.ensures, c.units.ensures) at c.kind_among.ensures in
    sym (c.types.invariant ∙ kind_turns table.units c.args.name.now c.args.number table.types c.types.id c.get.result.now (Some c.in-Some.kind) c.get.ensures (sym c.in-Some.is ∙ found))

pub types-preserved : goal.types-preserved
types-preserved c =
    let table = c.args.types.now in
    let found = rw (c.methods_of-methods.ensures, c.units.ensures) at c.kind_among.ensures in
    let none : Option Kind = None in
    c.types.invariant ∙ kind_turns table.units c.args.name.now c.args.number table.types c.types.id c.get.result.now none c.get.ensures (sym c.in_default.is ∙ found)
