use Rattle.std.proofs.Common.{◌≡◌, [], drop}
use Rattle.std.specs.Prelude.{reverse}
use Rattle.declaration_checker.specs.type_denoters.Trees.{view_denoters, view_groups}
use Rattle.declaration_checker.specs.type_denoters.Denoters.{ground, indexes_judged, fields_judged}
use Rattle.declaration_checker.proofs.type_denoters.denoters.+parts.Given as goal

abbrev pub invariant-judged_indexes-loop-one : goal.invariant-judged_indexes-loop-one
invariant-judged_indexes-loop-one l =
    (indexes_judged (ground l.unit l.names) l.scope (reverse l.types.items) (view_denoters (drop l.one-index l.all))).run
    ≡ (indexes_judged (ground l.unit l.names) l.fn.scope [] (view_denoters l.all)).run

abbrev pub invariant-judged_fields-loop-group : goal.invariant-judged_fields-loop-group
invariant-judged_fields-loop-group l =
    (fields_judged (ground l.unit l.names) l.scope l.fields (view_groups (drop l.group-index l.groups))).run
    ≡ (fields_judged (ground l.unit l.names) l.fn.scope [] (view_groups l.groups)).run
