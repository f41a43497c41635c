-- Calls as statements.
use Rattle.std.specs.Prelude.{List}
use Rattle.type_layout.specs.declared.definitions.TypeDef.{TypeDef}
use Rattle.pascal_grammar.specs.declared.lexeme.Position.{Position}
use Rattle.syntax_tree.specs.expression_tree.Trees.{Tree, Operands}
use Rattle.typed_tree.specs.Expressions.{Expression}
use Rattle.typed_tree.specs.Statements.{Statement, Run}
use Rattle.scopes.specs.declared.entries.Entry.{Entry}
use Rattle.scopes.specs.declared.entries.Entry.TheVariants as entry
use Rattle.scopes.specs.Environment.{Environment}
use Rattle.typing_rules.specs.declared.faults.Rule.TheVariants as rules
use Rattle.typing_rules.specs.Faults.{broken}
use Rattle.typing_rules.specs.Judgements.{Judgement, makes, refuses, part}
use Rattle.call_rules.specs.Given.{performed}
use Rattle.call_rules.specs.method_rules.Calls.{performed_on}
use Rattle.call_rules.specs.procedural_rules.Through.{performed_through}
use Rattle.tp_check_expr.specs.Calls.{Callable, declared, method, through, maker, params_of_entry}
use Rattle.tp_check_expr.specs.Typed.{callable, all_given}
use Rattle.tp_check_stmt.specs.Standard.{standard_of, standard_run}

abbrev pub run_node : Judgement Expression → Judgement Statement
run_node call = part call (λ e. makes (Run e))

-- a call of a routine of the sources; nothing else that is declared is one
abbrev pub performed_entry : List TypeDef → Position → Entry → List Expression → Judgement Statement
performed_entry types here (entry.Code routine level header far) es = run_node (performed types here.place here.switches.r routine header es)
performed_entry types here one es = refuses (broken here.place rules.Stands)

abbrev pub run_entry : Environment → Position → Entry → Operands → Judgement Statement
run_entry g here (entry.Std n) all = standard_run g here n (standard_of n) all
run_entry g here one all = part (all_given g here (params_of_entry one) all) (λ es. performed_entry g.types.types here one es)

-- a call of what stands before the arguments
abbrev pub run_target : Environment → Position → Callable → Operands → Judgement Statement
run_target g here (declared one) all = run_entry g here one all
run_target g here (method one) all = part (all_given g here one.header.params all) (λ es. run_node (performed_on g.types.types here.place here.switches.r one es))
run_target g here (through one) all =
    part (all_given g here one.header.params all) (λ es. run_node (performed_through g.types.types here.place here.switches.r one es))
run_target g here (maker ty one) all = refuses (broken here.place rules.Stands)

-- a call that begins here
abbrev pub run_of : Environment → Position → Tree → Operands → Judgement Statement
run_of g here callee all = part (callable g here.place callee) (λ one. run_target g here one all)
