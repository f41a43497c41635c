use Rattle.std.specs.Prelude.{◌↔◌, drop}
use Rattle.tp_check_decl.specs.routines.Trees.{view_declarations}
use Rattle.token_provenance.specs.sources.Variables.{EachHasFew}
use Rattle.checked_front_end.proofs.variables.+blocks.Given as goal

abbrev pub invariant-each_has_few-loop-one : goal.invariant-each_has_few-loop-one
invariant-each_has_few-loop-one l = EachHasFew (view_declarations (drop l.one-index l.all)) ↔ EachHasFew (view_declarations l.all)
