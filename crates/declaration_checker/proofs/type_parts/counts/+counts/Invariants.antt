use Rattle.std.proofs.Common.{◌≡◌, ◌≤◌, ◌+◌, drop}
use Rattle.scopes.specs.Members.{narrow}
use Rattle.declaration_checker.specs.type_denoters.Trees.{view_denoters, view_groups}
use Rattle.declaration_checker.specs.type_parts.Promised.{adds_indexes, adds_fields}
use Rattle.declaration_checker.proofs.type_parts.counts.+counts.Given as goal

abbrev pub invariant-adds_indexes-loop-one : goal.invariant-adds_indexes-loop-one
invariant-adds_indexes-loop-one l = (l.sum ≤ 4294967295) × (narrow (l.sum + adds_indexes (view_denoters (drop l.one-index l.all))) ≡ narrow (adds_indexes (view_denoters l.all)))

abbrev pub invariant-adds_fields-loop-group : goal.invariant-adds_fields-loop-group
invariant-adds_fields-loop-group l = (l.sum ≤ 4294967295) × (narrow (l.sum + adds_fields (view_groups (drop l.group-index l.groups))) ≡ narrow (adds_fields (view_groups l.groups)))
