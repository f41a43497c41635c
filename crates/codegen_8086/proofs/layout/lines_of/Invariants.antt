use Rattle.std.proofs.Common.{◌≡◌, ◌++◌, drop}
use Rattle.code_templates.specs.code_references.Marks.{lines_of}
use Rattle.codegen_8086.proofs.layout.lines_of.Given as goal

abbrev pub invariant-loop-line : goal.invariant-loop-line
invariant-loop-line l = l.lines ++ lines_of (drop l.line-index l.marked) ≡ lines_of l.marked
