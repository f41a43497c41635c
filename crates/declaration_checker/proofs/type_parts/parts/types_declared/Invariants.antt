use Rattle.std.proofs.Common.{◌≡◌, drop}
use Rattle.declaration_checker.specs.type_denoters.Denoters.{ground}
use Rattle.declaration_checker.specs.type_parts.Parts.{types_declared}
use Rattle.declaration_checker.proofs.type_parts.parts.types_declared.Given as goal

abbrev pub invariant-loop-one : goal.invariant-loop-one
invariant-loop-one l =
    (types_declared (ground l.unit l.names) l.next l.scope (drop l.one-index l.all)).run ≡ (types_declared (ground l.unit l.names) l.fn.first l.fn.scope l.all).run
