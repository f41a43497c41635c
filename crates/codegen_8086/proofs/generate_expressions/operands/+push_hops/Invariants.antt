use Rattle.codegen_8086.proofs.generate_expressions.operands.+push_hops.Given as goal

abbrev pub decreases-push_hops : goal.decreases-push_hops
decreases-push_hops l = l.count
