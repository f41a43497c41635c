use Rattle.std.proofs.Common.{◌≡◌, ◌++◌, take}
use Rattle.code_templates.specs.code_references.Marks.{plain}
use Rattle.codegen_8086.proofs.generate_expressions.sink.push_plain.Given as goal

abbrev pub invariant-loop-instr : goal.invariant-loop-instr
invariant-loop-instr l = l.lines ≡ l.initial.lines ++ plain (take l.instr-index l.code)
