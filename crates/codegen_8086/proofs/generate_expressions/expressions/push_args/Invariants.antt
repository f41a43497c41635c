use Rattle.std.proofs.Common.{◌≡◌, ◌++◌, take}
use Rattle.flat_code.specs.View.{view_exprs}
use Rattle.code_templates.specs.code_references.Marked.{marked_args}
use Rattle.codegen_8086.proofs.generate_expressions.expressions.push_args.Given as goal

abbrev pub invariant-loop-arg : goal.invariant-loop-arg
invariant-loop-arg l = l.lines ≡ l.initial.lines ++ marked_args l.far (view_exprs (take l.arg-index l.args))
