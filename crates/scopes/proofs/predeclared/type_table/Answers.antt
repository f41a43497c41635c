use Rattle.std.proofs.Common.{◌∙◌, sym}
use Rattle.scopes.specs.Growth.{Addition, empty}
use Rattle.scopes.specs.Predeclared.{system, type_list, of_system}
use Rattle.scopes.proofs.GrowthLaws.{addable-at, grown-next}
use Rattle.scopes.proofs.PredeclaredLaws.{predeclared-at, addable, grown-type_table}
use Rattle.scopes.proofs.predeclared.type_table.Goals as goal

pub add-requires : goal.add-requires
add-requires c =
    let one : Addition = record { origin = system; number = c.loop-number.number; one = c.type_of.result } in
    let there = predeclared-at c.loop-number.number c.type_of.result c.type_of.ensures in
    rw (c.system.ensures, c.loop-number.invariant) (addable-at empty (of_system 0 type_list) c.loop-number.number one addable there)

pub loop-number-preserved : goal.loop-number-preserved
loop-number-preserved c =
    let one : Addition = record { origin = system; number = c.loop-number.number; one = c.type_of.result } in
    let there = predeclared-at c.loop-number.number c.type_of.result c.type_of.ensures in
    let next = grown-next empty (of_system 0 type_list) c.loop-number.number one there in
    c.in-Ok.ensures.ok.1 ∙ rw (c.system.ensures, c.loop-number.invariant) (sym next)

pub returns-in-Err-clause-grown : goal.returns-in-Err-clause-grown
returns-in-Err-clause-grown c = grown-type_table

pub returns-clause-grown : goal.returns-clause-grown
returns-clause-grown c = grown-type_table
