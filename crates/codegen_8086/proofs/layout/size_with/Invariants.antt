use Rattle.std.proofs.Common.{◌≡◌, ◌+◌, drop}
use Rattle.x86_table.specs.Lines.{code_size}
use Rattle.codegen_8086.proofs.layout.size_with.Given as goal

abbrev pub invariant-loop-line : goal.invariant-loop-line
invariant-loop-line l = l.size + code_size (drop l.line-index l.lines) ≡ l.before + code_size l.lines
