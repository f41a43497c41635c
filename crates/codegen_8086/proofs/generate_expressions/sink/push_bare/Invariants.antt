use Rattle.std.proofs.Common.{◌≡◌, ◌++◌, take}
use Rattle.code_templates.specs.code_references.Marks.{bare}
use Rattle.codegen_8086.proofs.generate_expressions.sink.push_bare.Given as goal

abbrev pub invariant-loop-line : goal.invariant-loop-line
invariant-loop-line l = l.lines ≡ l.initial.lines ++ bare (take l.line-index l.code)
