use Rattle.typing_rules.proofs.JudgementLaws.{fails_answer}
use Rattle.std.proofs.Common.{Err, ◌∙◌}
use Rattle.tp_check_decl.specs.Units.{view_unit}
use Rattle.tp_check_decl.specs.Shown.{outlined}
use Rattle.tp_check_decl.proofs.CheckLaws.{lawful_outlined}
use Rattle.tp_check_decl.proofs.NameLaws.{named_outline, shown_name}
use Rattle.tp_check_decl.proofs.Showing.{shows_of, is_outline, shown_by, refused_complete}
use Rattle.tp_check_decl.proofs.shown.check_interface.Goals as goal

pub returns-in-Ok-interface_of-clause-typed : goal.returns-in-Ok-interface_of-clause-typed
returns-in-Ok-interface_of-clause-typed c =
    let a = c.args in
    record {
      unit = view_unit c.in-Ok.unit;
      holds = is_outline (outlined a.name.now a.says.now a.scope.now a.tree.now) (lawful_outlined a.name.now a.says.now a.scope.now a.tree.now) c.in-Ok.unit c.in-Ok.ensures;
      shows = shows_of c.in-Ok.unit c.in-Ok-interface_of.interface c.in-Ok-interface_of.ensures.ok;
    }

pub returns-in-Ok-interface_of-clause-complete : goal.returns-in-Ok-interface_of-clause-complete
returns-in-Ok-interface_of-clause-complete c = λ interface shown.
    let a = c.args in
    let other = shown_by (outlined a.name.now a.says.now a.scope.now a.tree.now) (lawful_outlined a.name.now a.says.now a.scope.now a.tree.now) c.in-Ok.unit c.in-Ok.ensures shown.unit interface shown.holds shown.shows in
    c.in-Ok-interface_of.ensures.one c.in-Ok-interface_of.interface interface c.in-Ok-interface_of.ensures.ok other

pub returns-in-Ok-interface_of-clause-named : goal.returns-in-Ok-interface_of-clause-named
returns-in-Ok-interface_of-clause-named c =
    let a = c.args in
    let holds = is_outline (outlined a.name.now a.says.now a.scope.now a.tree.now) (lawful_outlined a.name.now a.says.now a.scope.now a.tree.now) c.in-Ok.unit c.in-Ok.ensures in
    shown_name c.in-Ok.unit c.in-Ok-interface_of.interface c.in-Ok-interface_of.ensures.ok
    ∙ named_outline a.name.now a.says.now a.scope.now a.tree.now (view_unit c.in-Ok.unit) holds

pub returns-clause-complete : goal.returns-clause-complete
returns-clause-complete c = λ interface shown.
    let a = c.args in
    rw c.error_for.ensures (refused_complete (outlined a.name.now a.says.now a.scope.now a.tree.now) (lawful_outlined a.name.now a.says.now a.scope.now a.tree.now) c.in-Err.refusal c.in-Err.ensures shown.unit shown.holds interface)

pub returns-clause-fails : goal.returns-clause-fails
returns-clause-fails c =
    let a = c.args in
    rw c.error_for.ensures (fails_answer view_unit (outlined a.name.now a.says.now a.scope.now a.tree.now) (lawful_outlined a.name.now a.says.now a.scope.now a.tree.now) (Err c.in-Err.refusal) c.in-Err.ensures)
