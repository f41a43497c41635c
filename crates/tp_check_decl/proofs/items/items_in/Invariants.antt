use Rattle.std.proofs.Common.{◌≡◌, ◌++◌, drop}
use Rattle.tp_check_decl.specs.Interfaces.{items_in}
use Rattle.tp_check_decl.proofs.items.items_in.Given as goal

abbrev pub invariant-loop-place : goal.invariant-loop-place
invariant-loop-place l = l.items ++ items_in (drop l.place l.symbols) ≡ items_in l.symbols
