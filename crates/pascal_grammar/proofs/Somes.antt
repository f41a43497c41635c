-- Some tree of each part, and what is joined in each production.
use Rattle.std.proofs.Common.{◌≡◌, Bool, true, false, List, [], ◌∷◌, refl, arith}
use Rattle.pascal_grammar.specs.Parts.{Part}
use Rattle.pascal_grammar.specs.Parts as n
use Rattle.pascal_grammar.specs.Productions.{Production, left_out}
use Rattle.pascal_grammar.specs.Productions as p
use Rattle.pascal_grammar.specs.Asked.{Asked, accepts}
use Rattle.pascal_grammar.specs.Rules.{grammar}
use Rattle.pascal_grammar.specs.Choices.{choose}
use Rattle.pascal_grammar.specs.Starts.{starts, vanishes}
use Rattle.pascal_grammar.proofs.Tables.{Follow, accepted, known, followed, predict}
use Rattle.pascal_grammar.proofs.Samples.{Some_, has_sample, of_asked, always, allowed}
use Rattle.ll1_grammar.proofs.Checking.{and, first_of, second_of}
use Rattle.ll1_grammar.specs.Grammar.{Symbol, token, part, node, nil, Belongs}
use Rattle.ll1_grammar.proofs.Meeting.{one, AllJoin, Begun-none}
use Rattle.ll1_grammar.proofs.Choosing.{node_begun}
use Rattle.ll1_grammar.proofs.Predicting.{AllBegun, RestBegun, list_begun, all_join, rest_of}

abbrev Begun_ : List (Symbol Asked Part) → Type 0
Begun_ = AllBegun grammar accepts starts vanishes accepted known Follow

by_production : (x : Production) → always x ≡ true → left_out x ≡ false → Begun_ (grammar.body x) → Some_ (part (grammar.owner x))
by_production x a i b =
    let j = all_join grammar accepts starts vanishes accepted known Follow (grammar.body x) (grammar.owner x) (followed x) (rest_of grammar accepts starts vanishes accepted known Follow (grammar.body x) b) in
    let l = list_begun grammar accepts starts vanishes accepted known Follow (grammar.body x) (Follow (grammar.owner x)) j b in
    Begun-none grammar Follow (one grammar Follow (part (grammar.owner x))) (Belongs grammar) _ 0 (node_begun grammar Follow choose predict x (allowed x a) (Belongs grammar) i 0 [] l)

some_program_head : Some_ (part n.program_head)
some_program_head = by_production p.headless refl refl tt

some_program_files : Some_ (part n.program_files)
some_program_files = by_production p.no_files refl refl tt

some_uses : Some_ (part n.uses)
some_uses = by_production p.no_uses refl refl tt

some_more_identifiers : Some_ (part n.more_identifiers)
some_more_identifiers = by_production p.no_identifiers refl refl tt

some_declarations : Some_ (part n.declarations)
some_declarations = by_production p.no_declarations refl refl tt

some_interface_part : Some_ (part n.interface_part)
some_interface_part = by_production p.no_interface refl refl tt

some_interface_directive : Some_ (part n.interface_directive)
some_interface_directive = by_production p.no_directive refl refl tt

some_unit_body : Some_ (part n.unit_body)
some_unit_body = by_production p.no_body refl refl (of_asked _ refl, tt)

some_more_constants : Some_ (part n.more_constants)
some_more_constants = by_production p.no_constants refl refl tt

some_more_initializers : Some_ (part n.more_initializers)
some_more_initializers = by_production p.no_initializers refl refl tt

some_more_field_values : Some_ (part n.more_field_values)
some_more_field_values = by_production p.no_field_values refl refl tt

some_more_types : Some_ (part n.more_types)
some_more_types = by_production p.no_types refl refl tt

some_variable_end : Some_ (part n.variable_end)
some_variable_end = by_production p.no_address refl refl tt

some_more_variables : Some_ (part n.more_variables)
some_more_variables = by_production p.no_variables refl refl tt

some_after_type_name : Some_ (part n.after_type_name)
some_after_type_name = by_production p.only_name refl refl tt

some_target : Some_ (part n.target)
some_target = by_production p.long_target refl refl (of_asked _ refl, tt)

some_after_letter : Some_ (part n.after_letter)
some_after_letter = by_production p.only_letter refl refl tt

some_string_size : Some_ (part n.string_size)
some_string_size = by_production p.unsized refl refl tt

some_more_index_types : Some_ (part n.more_index_types)
some_more_index_types = by_production p.no_index_types refl refl tt

some_fields : Some_ (part n.fields)
some_fields = by_production p.no_fields refl refl tt

some_fields_end : Some_ (part n.fields_end)
some_fields_end = by_production p.last_fields refl refl tt

some_ancestor : Some_ (part n.ancestor)
some_ancestor = by_production p.ancestor refl refl (of_asked _ refl, (of_asked _ refl, (of_asked _ refl, tt)))

some_object_fields_end : Some_ (part n.object_fields_end)
some_object_fields_end = by_production p.object_end refl refl (of_asked _ refl, tt)

some_methods : Some_ (part n.methods)
some_methods = by_production p.no_methods refl refl tt

some_virtual : Some_ (part n.virtual)
some_virtual = by_production p.virtual refl refl (of_asked _ refl, (of_asked _ refl, tt))

some_parameters : Some_ (part n.parameters)
some_parameters = by_production p.no_parameters refl refl tt

some_more_groups : Some_ (part n.more_groups)
some_more_groups = by_production p.no_groups refl refl tt

some_parameter_type : Some_ (part n.parameter_type)
some_parameter_type = by_production p.parameter_type_name refl refl (of_asked _ refl, tt)

some_result_type : Some_ (part n.result_type)
some_result_type = by_production p.result_type_name refl refl (of_asked _ refl, tt)

some_result : Some_ (part n.result)
some_result = by_production p.no_result refl refl tt

some_routine_body : Some_ (part n.routine_body)
some_routine_body = by_production p.forward refl refl (of_asked _ refl, (of_asked _ refl, tt))

some_more_statements : Some_ (part n.more_statements)
some_more_statements = by_production p.no_statements refl refl tt

some_statement : Some_ (part n.statement)
some_statement = by_production p.empty_statement refl refl tt

some_after_designator : Some_ (part n.after_designator)
some_after_designator = by_production p.no_arguments refl refl tt

some_statement_argument_end : Some_ (part n.statement_argument_end)
some_statement_argument_end = by_production p.no_cast refl refl tt

some_else_part : Some_ (part n.else_part)
some_else_part = record { tree = node p.without_else nil; more = []; fits = λ h w f. (refl, w p.without_else, refl); next = λ h w. w; has = (refl, tt); size = refl; deep = omega arith }

some_case_else : Some_ (part n.case_else)
some_case_else = by_production p.no_case_else refl refl tt

some_more_arms : Some_ (part n.more_arms)
some_more_arms = by_production p.no_semicolon refl refl tt

some_next_arms : Some_ (part n.next_arms)
some_next_arms = by_production p.no_arms refl refl tt

some_label_end : Some_ (part n.label_end)
some_label_end = by_production p.single_label refl refl tt

some_more_labels : Some_ (part n.more_labels)
some_more_labels = by_production p.no_labels refl refl tt

some_relation : Some_ (part n.relation)
some_relation = by_production p.no_relation refl refl tt

some_terms : Some_ (part n.terms)
some_terms = by_production p.no_terms refl refl tt

some_sign : Some_ (part n.sign)
some_sign = by_production p.sign refl refl (of_asked _ refl, tt)

some_factors : Some_ (part n.factors)
some_factors = by_production p.no_factors refl refl tt

some_bare_factor : Some_ (part n.bare_factor)
some_bare_factor = by_production p.control refl refl (of_asked _ refl, (of_asked _ refl, tt))

some_closed_factor : Some_ (part n.closed_factor)
some_closed_factor = by_production p.number refl refl (of_asked _ refl, tt)

some_elements : Some_ (part n.elements)
some_elements = by_production p.no_elements refl refl tt

some_more_elements : Some_ (part n.more_elements)
some_more_elements = by_production p.no_more_elements refl refl tt

some_element_end : Some_ (part n.element_end)
some_element_end = by_production p.single_element refl refl tt

some_call : Some_ (part n.call)
some_call = by_production p.no_call refl refl tt

some_argument_end : Some_ (part n.argument_end)
some_argument_end = by_production p.argument_end refl refl tt

some_argument_width : Some_ (part n.argument_width)
some_argument_width = by_production p.no_width refl refl tt

some_more_arguments : Some_ (part n.more_arguments)
some_more_arguments = by_production p.no_more_arguments refl refl tt

some_selectors : Some_ (part n.selectors)
some_selectors = by_production p.no_selectors refl refl tt

some_source : Some_ (part n.source)
some_source = by_production p.unit refl refl (of_asked _ refl, (of_asked _ refl, (of_asked _ refl, (of_asked _ refl, (some_uses, (some_interface_part, (of_asked _ refl, (some_uses, (some_declarations, (some_unit_body, (of_asked _ refl, tt)))))))))))

some_identifiers : Some_ (part n.identifiers)
some_identifiers = by_production p.identifiers refl refl (of_asked _ refl, (some_more_identifiers, tt))

some_initializer : Some_ (part n.initializer)
some_initializer = by_production p.value refl refl (some_bare_factor, (some_factors, (some_terms, tt)))

some_list_items : Some_ (part n.list_items)
some_list_items = by_production p.begins_with_control refl refl (of_asked _ refl, (of_asked _ refl, (some_factors, (some_terms, (some_more_initializers, (of_asked _ refl, tt))))))

some_after_name : Some_ (part n.after_name)
some_after_name = by_production p.named_value refl refl (some_selectors, (some_call, (some_factors, (some_terms, (some_more_initializers, (of_asked _ refl, tt))))))

some_type : Some_ (part n.type)
some_type = by_production p.type_name refl refl (of_asked _ refl, (some_after_type_name, tt))

some_structured : Some_ (part n.structured)
some_structured = by_production p.record_type refl refl (of_asked _ refl, (some_fields, (of_asked _ refl, tt)))

some_object_part : Some_ (part n.object_part)
some_object_part = by_production p.object_methods refl refl (some_methods, (of_asked _ refl, tt))

some_method_header : Some_ (part n.method_header)
some_method_header = by_production p.method_procedure refl refl (of_asked _ refl, (of_asked _ refl, (some_parameters, tt)))

some_variable_group_type : Some_ (part n.variable_group_type)
some_variable_group_type = by_production p.typed_group refl refl (of_asked _ refl, (some_parameter_type, tt))

some_header : Some_ (part n.header)
some_header = by_production p.procedure_header refl refl (of_asked _ refl, (of_asked _ refl, (some_parameters, tt)))

some_procedure_rest : Some_ (part n.procedure_rest)
some_procedure_rest = by_production p.plain_procedure refl refl (some_parameters, (of_asked _ refl, (some_routine_body, tt)))

some_function_rest : Some_ (part n.function_rest)
some_function_rest = by_production p.plain_function refl refl (some_parameters, (some_result, (of_asked _ refl, (some_routine_body, tt))))

some_statements : Some_ (part n.statements)
some_statements = by_production p.statements refl refl (some_statement, (some_more_statements, tt))

some_designator : Some_ (part n.designator)
some_designator = by_production p.designator refl refl (of_asked _ refl, (some_selectors, tt))

some_with_rest : Some_ (part n.with_rest)
some_with_rest = by_production p.with_body refl refl (of_asked _ refl, (some_statement, tt))

some_factor : Some_ (part n.factor)
some_factor = by_production p.bare_factor refl refl (some_bare_factor, tt)

some_selector : Some_ (part n.selector)
some_selector = by_production p.field refl refl (of_asked _ refl, (of_asked _ refl, (some_selectors, tt)))

some_more_indexes : Some_ (part n.more_indexes)
some_more_indexes = by_production p.last_index refl refl (of_asked _ refl, (some_selectors, tt))

some_constant_value : Some_ (part n.constant_value)
some_constant_value = by_production p.typed_constant refl refl (of_asked _ refl, (some_type, (of_asked _ refl, (some_initializer, (of_asked _ refl, tt)))))

some_initializer_list : Some_ (part n.initializer_list)
some_initializer_list = by_production p.initializer_list refl refl (of_asked _ refl, (some_list_items, tt))

some_type_declaration : Some_ (part n.type_declaration)
some_type_declaration = by_production p.type_declaration refl refl (of_asked _ refl, (of_asked _ refl, (some_type, (of_asked _ refl, tt))))

some_variable : Some_ (part n.variable)
some_variable = by_production p.variable refl refl (some_identifiers, (of_asked _ refl, (some_type, (some_variable_end, (of_asked _ refl, tt)))))

some_packed_type : Some_ (part n.packed_type)
some_packed_type = by_production p.packed_structured refl refl (some_structured, tt)

some_index_types : Some_ (part n.index_types)
some_index_types = by_production p.index_types refl refl (of_asked _ refl, (some_type, (some_more_index_types, (of_asked _ refl, tt))))

some_group : Some_ (part n.group)
some_group = by_production p.value_group refl refl (some_identifiers, (of_asked _ refl, (some_parameter_type, tt)))

some_routine : Some_ (part n.routine)
some_routine = by_production p.procedure refl refl (of_asked _ refl, (of_asked _ refl, (some_procedure_rest, tt)))

some_compound : Some_ (part n.compound)
some_compound = by_production p.compound refl refl (of_asked _ refl, (some_statements, (of_asked _ refl, tt)))

some_term : Some_ (part n.term)
some_term = by_production p.term refl refl (some_factor, (some_factors, tt))

some_multiplied : Some_ (part n.multiplied)
some_multiplied = by_production p.multiplied refl refl (of_asked _ refl, (some_sign, (some_factor, (some_factors, tt))))

some_constant : Some_ (part n.constant)
some_constant = by_production p.constant refl refl (of_asked _ refl, (some_constant_value, tt))

some_block : Some_ (part n.block)
some_block = by_production p.block refl refl (some_declarations, (some_compound, tt))

some_simple : Some_ (part n.simple)
some_simple = by_production p.signed refl refl (of_asked _ refl, (some_term, (some_terms, tt)))

some_added : Some_ (part n.added)
some_added = by_production p.added refl refl (of_asked _ refl, (some_sign, (some_term, (some_terms, tt))))

some_label : Some_ (part n.label)
some_label = by_production p.label refl refl (some_simple, (some_label_end, tt))

some_expression : Some_ (part n.expression)
some_expression = by_production p.expression refl refl (some_simple, (some_relation, tt))

some_arm : Some_ (part n.arm)
some_arm = by_production p.arm refl refl (some_label, (some_more_labels, (of_asked _ refl, (some_statement, tt))))

some_element : Some_ (part n.element)
some_element = by_production p.element refl refl (some_expression, (some_element_end, tt))

some_argument : Some_ (part n.argument)
some_argument = by_production p.argument refl refl (some_expression, (some_argument_width, tt))

some_arguments : Some_ (part n.arguments)
some_arguments = by_production p.arguments refl refl (of_asked _ refl, (some_argument, (some_more_arguments, (of_asked _ refl, tt))))

pub some : (n : Part) → Some_ (part n)
some n.source = some_source
some n.program_head = some_program_head
some n.program_files = some_program_files
some n.uses = some_uses
some n.identifiers = some_identifiers
some n.more_identifiers = some_more_identifiers
some n.declarations = some_declarations
some n.interface_part = some_interface_part
some n.interface_directive = some_interface_directive
some n.unit_body = some_unit_body
some n.constant = some_constant
some n.constant_value = some_constant_value
some n.more_constants = some_more_constants
some n.initializer = some_initializer
some n.initializer_list = some_initializer_list
some n.list_items = some_list_items
some n.after_name = some_after_name
some n.more_initializers = some_more_initializers
some n.more_field_values = some_more_field_values
some n.type_declaration = some_type_declaration
some n.more_types = some_more_types
some n.variable = some_variable
some n.variable_end = some_variable_end
some n.more_variables = some_more_variables
some n.type = some_type
some n.after_type_name = some_after_type_name
some n.target = some_target
some n.after_letter = some_after_letter
some n.string_size = some_string_size
some n.packed_type = some_packed_type
some n.structured = some_structured
some n.index_types = some_index_types
some n.more_index_types = some_more_index_types
some n.fields = some_fields
some n.fields_end = some_fields_end
some n.ancestor = some_ancestor
some n.object_part = some_object_part
some n.object_fields_end = some_object_fields_end
some n.methods = some_methods
some n.virtual = some_virtual
some n.method_header = some_method_header
some n.parameters = some_parameters
some n.group = some_group
some n.variable_group_type = some_variable_group_type
some n.more_groups = some_more_groups
some n.parameter_type = some_parameter_type
some n.result_type = some_result_type
some n.result = some_result
some n.header = some_header
some n.routine = some_routine
some n.procedure_rest = some_procedure_rest
some n.function_rest = some_function_rest
some n.routine_body = some_routine_body
some n.block = some_block
some n.compound = some_compound
some n.statements = some_statements
some n.more_statements = some_more_statements
some n.statement = some_statement
some n.after_designator = some_after_designator
some n.statement_argument_end = some_statement_argument_end
some n.else_part = some_else_part
some n.case_else = some_case_else
some n.arm = some_arm
some n.more_arms = some_more_arms
some n.next_arms = some_next_arms
some n.label = some_label
some n.label_end = some_label_end
some n.more_labels = some_more_labels
some n.designator = some_designator
some n.with_rest = some_with_rest
some n.expression = some_expression
some n.relation = some_relation
some n.simple = some_simple
some n.terms = some_terms
some n.added = some_added
some n.sign = some_sign
some n.term = some_term
some n.factors = some_factors
some n.multiplied = some_multiplied
some n.factor = some_factor
some n.bare_factor = some_bare_factor
some n.closed_factor = some_closed_factor
some n.elements = some_elements
some n.more_elements = some_more_elements
some n.element = some_element
some n.element_end = some_element_end
some n.call = some_call
some n.arguments = some_arguments
some n.argument_end = some_argument_end
some n.argument = some_argument
some n.argument_width = some_argument_width
some n.more_arguments = some_more_arguments
some n.selectors = some_selectors
some n.selector = some_selector
some n.more_indexes = some_more_indexes

-- each symbol can be asked for: all but the else, which begins its production
can_ask : List (Symbol Asked Part) → Bool
can_ask [] = true
can_ask (token s ∷ ys) = and (has_sample s) (can_ask ys)
can_ask (part n ∷ ys) = can_ask ys

can_ask_rest : List (Symbol Asked Part) → Bool
can_ask_rest [] = true
can_ask_rest (y ∷ ys) = can_ask ys

all_asked : (ys : List (Symbol Asked Part)) → can_ask ys ≡ true → Begun_ ys
unfolding can_ask
all_asked [] e = tt
all_asked (token s ∷ ys) e = (of_asked s (first_of (has_sample s) (can_ask ys) e), all_asked ys (second_of (has_sample s) (can_ask ys) e))
all_asked (part n ∷ ys) e = (some n, all_asked ys e)

rest_asked : (ys : List (Symbol Asked Part)) → can_ask_rest ys ≡ true → RestBegun grammar accepts starts vanishes accepted known Follow ys
unfolding can_ask_rest
rest_asked [] e = tt
rest_asked (y ∷ ys) e = all_asked ys e

asked : (x : Production) → can_ask_rest (grammar.body x) ≡ true
unfolding can_ask_rest can_ask
asked p.program = refl
asked x = refl

-- what comes after each symbol of a production may follow it, and can be ended
pub joins : (x : Production) → AllJoin grammar Follow (grammar.body x) (Follow (grammar.owner x))
joins x = all_join grammar accepts starts vanishes accepted known Follow (grammar.body x) (grammar.owner x) (followed x) (rest_asked (grammar.body x) (asked x))
