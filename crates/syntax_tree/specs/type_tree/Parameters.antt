-- What the grammar makes of lists of names, parameters and methods.
use Rattle.std.specs.Prelude.{Bool, true, false, List, [], ◌∷◌, Option, Some, None}
use Rattle.pascal_grammar.specs.Productions as p
use Rattle.ll1_grammar.specs.Grammar.{nil}
use Rattle.syntax_tree.specs.declared.identifier.Identifier.{Identifier}
use Rattle.syntax_tree.specs.Expressions.{Parsed, of, word, mark_at, name_of}
use Rattle.syntax_tree.specs.declared.type_tree.parameter.NamedType.{NamedType}
use Rattle.syntax_tree.specs.declared.type_tree.parameter.NamedType.TheVariants as t
use Rattle.syntax_tree.specs.declared.type_tree.parameter.ParameterGroup.{ParameterGroup}
use Rattle.syntax_tree.specs.declared.type_tree.parameter.ParameterGroup.TheVariants as g
use Rattle.syntax_tree.specs.declared.type_tree.parameter.MethodHeader.{MethodHeader}
use Rattle.syntax_tree.specs.declared.type_tree.parameter.MethodHeader.TheVariants as m
use Rattle.syntax_tree.specs.declared.type_tree.parameter.Method.{Method}

-- names behind the first, and what comes behind them
abbrev pub next_identifiers : List Identifier → Parsed → Parsed
next_identifiers [] more = more
next_identifiers (i ∷ all) more = of p.next_identifier (word ∷ name_of i ∷ next_identifiers all more ∷ [])

-- names, at least one, and what comes behind them; no names at all are spelled by nothing
abbrev pub identifiers_with : List Identifier → Parsed → Parsed
identifiers_with [] more = nil
identifiers_with (i ∷ all) more = of p.identifiers (name_of i ∷ next_identifiers all more ∷ [])

abbrev pub identifiers_of : List Identifier → Parsed
identifiers_of all = identifiers_with all (of p.no_identifiers [])

abbrev pub parameter_type_of : NamedType → Parsed
parameter_type_of (t.Name i) = of p.parameter_type_name (name_of i ∷ [])
parameter_type_of (t.String here) = of p.parameter_string (mark_at here ∷ [])

abbrev pub result_type_of : NamedType → Parsed
result_type_of (t.Name i) = of p.result_type_name (name_of i ∷ [])
result_type_of (t.String here) = of p.result_string (mark_at here ∷ [])

abbrev pub result_of : Option NamedType → Parsed
result_of None = of p.no_result []
result_of (Some r) = of p.result (word ∷ result_type_of r ∷ [])

abbrev pub of_group : ParameterGroup → Parsed
of_group (g.Variable here names r) = of p.variable_group (mark_at here ∷ identifiers_of names.items ∷ of p.typed_group (word ∷ parameter_type_of r ∷ []) ∷ [])
of_group (g.Value names r) = of p.value_group (identifiers_of names.items ∷ word ∷ parameter_type_of r ∷ [])

-- groups behind the first, and what comes behind them
abbrev pub next_groups : List ParameterGroup → Parsed → Parsed
next_groups [] more = more
next_groups (x ∷ all) more = of p.next_group (word ∷ of_group x ∷ next_groups all more ∷ [])

-- the first group, and those behind it
abbrev pub group_list : List ParameterGroup → Parsed → Parsed × Parsed
group_list [] more = (nil, nil)
group_list (x ∷ all) more = (of_group x, next_groups all more)

-- the groups in parentheses, and what comes behind the last; none at all are no parentheses
abbrev pub parameters_with : List ParameterGroup → Parsed → Parsed
parameters_with [] more = of p.no_parameters []
parameters_with (x ∷ all) more = of p.parameters (word ∷ of_group x ∷ next_groups all more ∷ word ∷ [])

abbrev pub parameters_of : List ParameterGroup → Parsed
parameters_of all = parameters_with all (of p.no_groups [])

abbrev pub method_header_of : MethodHeader → Parsed
method_header_of (m.Procedure here name all) = of p.method_procedure (mark_at here ∷ name_of name ∷ parameters_of all.items ∷ [])
method_header_of (m.Function here name all r) = of p.method_function (mark_at here ∷ name_of name ∷ parameters_of all.items ∷ result_of r ∷ [])
method_header_of (m.Constructor here name all) = of p.method_constructor (mark_at here ∷ name_of name ∷ parameters_of all.items ∷ [])
method_header_of (m.Destructor here name all) = of p.method_destructor (mark_at here ∷ name_of name ∷ parameters_of all.items ∷ [])

abbrev pub virtual_of : Bool → Parsed
virtual_of true = of p.virtual (word ∷ word ∷ [])
virtual_of false = of p.not_virtual []

-- methods, and what comes behind them
abbrev pub methods_with : List Method → Parsed → Parsed
methods_with [] more = more
methods_with (x ∷ all) more = of p.method (method_header_of x.header ∷ word ∷ virtual_of x.is_virtual ∷ methods_with all more ∷ [])

abbrev pub methods_of : List Method → Parsed
methods_of all = methods_with all (of p.no_methods [])
