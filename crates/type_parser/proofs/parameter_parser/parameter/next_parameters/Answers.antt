use Rattle.std.proofs.Common.{[]}
use Rattle.std.proofs.lemmas.Result.{err_from_is_err_and}
use Rattle.pascal_grammar.specs.Productions as p
use Rattle.syntax_tree.specs.Expressions.{of}
use Rattle.syntax_tree.specs.type_tree.Parameters.{group_list}
use Rattle.type_parser.proofs.parameter_parser.Bracketed.{opens, parameters_stop, parameters_open, parameters_end}
use Rattle.type_parser.proofs.parameter_parser.parameter.next_parameters.Goals as goal

pub returns-in_err-all-clause-gives : goal.returns-in_err-all-clause-gives
returns-in_err-all-clause-gives c =
    let p1 = err_from_is_err_and c.from_residual-in_err-all.result c.from_residual-in_err-all.ensures.1 in
    let b = opens c.args.lexemes.now c.in_ok-rest.rest.now c.in_ok-rest.ensures.gives in
    rw (p1.1, p1.2) (parameters_stop c.in_err-all.field-0.0 _ c.args.depth c.args.lexemes.now c.in_ok-rest.rest.now c.in_ok-deeper.ensures.less b c.in_ok-rest.ensures.gives c.in_err-all.ensures.gives)

pub returns-in_err-rest-2-clause-gives : goal.returns-in_err-rest-2-clause-gives
returns-in_err-rest-2-clause-gives c =
    let p1 = err_from_is_err_and c.from_residual-in_err-rest-2.result c.from_residual-in_err-rest-2.ensures.1 in
    let b = opens c.args.lexemes.now c.in_ok-rest.rest.now c.in_ok-rest.ensures.gives in
    rw (p1.1, p1.2) (parameters_open c.in_err-rest-2.field-0.0 _ c.args.depth c.args.lexemes.now c.in_ok-rest.rest.now c.in_ok-all.rest.now (group_list c.in_ok-all.all.items (of p.no_groups [])) c.in_ok-deeper.ensures.less b c.in_ok-rest.ensures.gives c.in_ok-all.ensures.gives c.in_err-rest-2.ensures.gives)

pub returns-clause-gives : goal.returns-clause-gives
returns-clause-gives c =
    let b = opens c.args.lexemes.now c.in_ok-rest.rest.now c.in_ok-rest.ensures.gives in
    parameters_end _ c.args.depth c.args.lexemes.now c.in_ok-rest.rest.now c.in_ok-all.rest.now c.in_ok-rest-2.rest.now c.in_ok-all.all.items c.in_ok-deeper.ensures.less b c.in_ok-rest.ensures.gives c.in_ok-all.ensures.gives c.in_ok-rest-2.ensures.gives
