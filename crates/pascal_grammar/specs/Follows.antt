-- The kinds of lexemes that may follow a part.
use Rattle.std.specs.Prelude.{Bool, true, false, ◌||◌, Option, Some, None}
use Rattle.pascal_grammar.specs.declared.kind.Kind.{Kind}
use Rattle.pascal_grammar.specs.declared.kind.Kind.TheVariants as k
use Rattle.pascal_grammar.specs.Asked.{is_name, is_relator, is_adder, is_multiplier}
use Rattle.pascal_grammar.specs.Parts.{Part}
use Rattle.pascal_grammar.specs.Parts as n

abbrev follows_program_head : Kind → Bool
follows_program_head k.Begin = true
follows_program_head k.Const = true
follows_program_head k.Constructor = true
follows_program_head k.Destructor = true
follows_program_head k.Function = true
follows_program_head k.Label = true
follows_program_head k.Procedure = true
follows_program_head k.Type = true
follows_program_head k.Uses = true
follows_program_head k.Var = true
follows_program_head x = false

abbrev follows_program_files : Kind → Bool
follows_program_files k.Semicolon = true
follows_program_files x = false

abbrev follows_uses : Kind → Bool
follows_uses k.Begin = true
follows_uses k.Const = true
follows_uses k.Constructor = true
follows_uses k.Destructor = true
follows_uses k.End = true
follows_uses k.Function = true
follows_uses k.Implementation = true
follows_uses k.Label = true
follows_uses k.Procedure = true
follows_uses k.Type = true
follows_uses k.Var = true
follows_uses x = false

abbrev follows_identifiers : Kind → Bool
follows_identifiers k.Close = true
follows_identifiers k.Semicolon = true
follows_identifiers k.Colon = true
follows_identifiers x = false

abbrev follows_declarations : Kind → Bool
follows_declarations k.Begin = true
follows_declarations k.End = true
follows_declarations x = false

abbrev follows_interface_part : Kind → Bool
follows_interface_part k.Implementation = true
follows_interface_part x = false

abbrev follows_interface_directive : Kind → Bool
follows_interface_directive k.Const = true
follows_interface_directive k.Function = true
follows_interface_directive k.Implementation = true
follows_interface_directive k.Procedure = true
follows_interface_directive k.Type = true
follows_interface_directive k.Var = true
follows_interface_directive x = false

abbrev follows_unit_body : Kind → Bool
follows_unit_body k.Dot = true
follows_unit_body x = false

abbrev follows_constant : Kind → Bool
follows_constant k.Begin = true
follows_constant k.Const = true
follows_constant k.Constructor = true
follows_constant k.Destructor = true
follows_constant k.End = true
follows_constant k.Function = true
follows_constant k.Implementation = true
follows_constant k.Label = true
follows_constant k.Procedure = true
follows_constant k.Type = true
follows_constant k.Var = true
follows_constant x = is_name x

abbrev follows_initializer : Kind → Bool
follows_initializer k.Close = true
follows_initializer k.Comma = true
follows_initializer k.Semicolon = true
follows_initializer x = false

abbrev follows_more_initializers : Kind → Bool
follows_more_initializers k.Close = true
follows_more_initializers x = false

abbrev follows_type : Kind → Bool
follows_type k.End = true
follows_type k.Equal = true
follows_type k.CloseBracket = true
follows_type k.Comma = true
follows_type k.Semicolon = true
follows_type k.Absolute = true
follows_type x = false

abbrev follows_index_types : Kind → Bool
follows_index_types k.Of = true
follows_index_types x = false

abbrev follows_more_index_types : Kind → Bool
follows_more_index_types k.CloseBracket = true
follows_more_index_types x = false

abbrev follows_fields : Kind → Bool
follows_fields k.End = true
follows_fields x = false

abbrev follows_ancestor : Kind → Bool
follows_ancestor k.Constructor = true
follows_ancestor k.Destructor = true
follows_ancestor k.End = true
follows_ancestor k.Function = true
follows_ancestor k.Procedure = true
follows_ancestor x = is_name x

abbrev follows_virtual : Kind → Bool
follows_virtual k.Constructor = true
follows_virtual k.Destructor = true
follows_virtual k.End = true
follows_virtual k.Function = true
follows_virtual k.Procedure = true
follows_virtual x = false

abbrev follows_parameters : Kind → Bool
follows_parameters k.End = true
follows_parameters k.Equal = true
follows_parameters k.CloseBracket = true
follows_parameters k.Comma = true
follows_parameters k.Semicolon = true
follows_parameters k.Colon = true
follows_parameters k.Absolute = true
follows_parameters x = false

abbrev follows_group : Kind → Bool
follows_group k.Close = true
follows_group k.Semicolon = true
follows_group x = false

abbrev follows_routine : Kind → Bool
follows_routine k.Begin = true
follows_routine k.Const = true
follows_routine k.Constructor = true
follows_routine k.Destructor = true
follows_routine k.End = true
follows_routine k.Function = true
follows_routine k.Label = true
follows_routine k.Procedure = true
follows_routine k.Type = true
follows_routine k.Var = true
follows_routine x = false

abbrev follows_compound : Kind → Bool
follows_compound k.Else = true
follows_compound k.End = true
follows_compound k.Until = true
follows_compound k.Dot = true
follows_compound k.Semicolon = true
follows_compound x = false

abbrev follows_statements : Kind → Bool
follows_statements k.End = true
follows_statements k.Until = true
follows_statements x = false

abbrev follows_statement : Kind → Bool
follows_statement k.Else = true
follows_statement k.End = true
follows_statement k.Until = true
follows_statement k.Semicolon = true
follows_statement x = false

abbrev follows_arm : Kind → Bool
follows_arm k.Else = true
follows_arm k.End = true
follows_arm k.Semicolon = true
follows_arm x = false

abbrev follows_more_arms : Kind → Bool
follows_more_arms k.Else = true
follows_more_arms k.End = true
follows_more_arms x = false

abbrev follows_label : Kind → Bool
follows_label k.Comma = true
follows_label k.Colon = true
follows_label x = false

abbrev follows_more_labels : Kind → Bool
follows_more_labels k.Colon = true
follows_more_labels x = false

abbrev follows_designator : Kind → Bool
follows_designator k.Do = true
follows_designator k.Open = true
follows_designator k.Comma = true
follows_designator x = false

abbrev follows_expression : Kind → Bool
follows_expression k.Do = true
follows_expression k.Downto = true
follows_expression k.Else = true
follows_expression k.End = true
follows_expression k.Of = true
follows_expression k.Then = true
follows_expression k.To = true
follows_expression k.Until = true
follows_expression k.Close = true
follows_expression k.CloseBracket = true
follows_expression k.Comma = true
follows_expression k.Semicolon = true
follows_expression k.Colon = true
follows_expression k.Dots = true
follows_expression x = false

abbrev follows_simple : Kind → Bool
follows_simple k.Do = true
follows_simple k.Downto = true
follows_simple k.Else = true
follows_simple k.End = true
follows_simple k.Of = true
follows_simple k.Then = true
follows_simple k.To = true
follows_simple k.Until = true
follows_simple k.Close = true
follows_simple k.CloseBracket = true
follows_simple k.Comma = true
follows_simple k.Semicolon = true
follows_simple k.Colon = true
follows_simple k.Dots = true
follows_simple k.Absolute = true
follows_simple x = is_relator x

abbrev follows_sign : Kind → Bool
follows_sign k.Nil = true
follows_sign k.Not = true
follows_sign k.Open = true
follows_sign k.OpenBracket = true
follows_sign k.Caret = true
follows_sign k.Address = true
follows_sign k.Number = true
follows_sign k.Text = true
follows_sign k.Real = true
follows_sign x = is_name x

abbrev follows_term : Kind → Bool
follows_term k.Do = true
follows_term k.Downto = true
follows_term k.Else = true
follows_term k.End = true
follows_term k.Of = true
follows_term k.Then = true
follows_term k.To = true
follows_term k.Until = true
follows_term k.Close = true
follows_term k.CloseBracket = true
follows_term k.Comma = true
follows_term k.Semicolon = true
follows_term k.Colon = true
follows_term k.Dots = true
follows_term k.Absolute = true
follows_term x = is_relator x || is_adder x

abbrev follows_factor : Kind → Bool
follows_factor k.Do = true
follows_factor k.Downto = true
follows_factor k.Else = true
follows_factor k.End = true
follows_factor k.Of = true
follows_factor k.Then = true
follows_factor k.To = true
follows_factor k.Until = true
follows_factor k.Slash = true
follows_factor k.Close = true
follows_factor k.CloseBracket = true
follows_factor k.Comma = true
follows_factor k.Semicolon = true
follows_factor k.Colon = true
follows_factor k.Dots = true
follows_factor k.Absolute = true
follows_factor x = is_relator x || is_multiplier x || is_adder x

abbrev follows_element : Kind → Bool
follows_element k.CloseBracket = true
follows_element k.Comma = true
follows_element x = false

abbrev follows_arguments : Kind → Bool
follows_arguments k.Do = true
follows_arguments k.Downto = true
follows_arguments k.Else = true
follows_arguments k.End = true
follows_arguments k.Of = true
follows_arguments k.Then = true
follows_arguments k.To = true
follows_arguments k.Until = true
follows_arguments k.Slash = true
follows_arguments k.Close = true
follows_arguments k.OpenBracket = true
follows_arguments k.CloseBracket = true
follows_arguments k.Dot = true
follows_arguments k.Comma = true
follows_arguments k.Semicolon = true
follows_arguments k.Colon = true
follows_arguments k.Becomes = true
follows_arguments k.Dots = true
follows_arguments k.Caret = true
follows_arguments k.Absolute = true
follows_arguments x = is_relator x || is_multiplier x || is_adder x

abbrev follows_argument : Kind → Bool
follows_argument k.Close = true
follows_argument k.Comma = true
follows_argument x = false

abbrev follows_selectors : Kind → Bool
follows_selectors k.Do = true
follows_selectors k.Downto = true
follows_selectors k.Else = true
follows_selectors k.End = true
follows_selectors k.Of = true
follows_selectors k.Then = true
follows_selectors k.To = true
follows_selectors k.Until = true
follows_selectors k.Slash = true
follows_selectors k.Open = true
follows_selectors k.Close = true
follows_selectors k.CloseBracket = true
follows_selectors k.Comma = true
follows_selectors k.Semicolon = true
follows_selectors k.Colon = true
follows_selectors k.Becomes = true
follows_selectors k.Dots = true
follows_selectors k.Absolute = true
follows_selectors x = is_relator x || is_multiplier x || is_adder x

abbrev pub follows_by : Part → Kind → Bool
follows_by n.source = λ x. false
follows_by n.program_head = follows_program_head
follows_by n.program_files = follows_program_files
follows_by n.uses = follows_uses
follows_by n.identifiers = follows_identifiers
follows_by n.more_identifiers = follows_identifiers
follows_by n.declarations = follows_declarations
follows_by n.interface_part = follows_interface_part
follows_by n.interface_directive = follows_interface_directive
follows_by n.unit_body = follows_unit_body
follows_by n.constant = follows_constant
follows_by n.constant_value = follows_constant
follows_by n.more_constants = follows_uses
follows_by n.initializer = follows_initializer
follows_by n.initializer_list = follows_initializer
follows_by n.list_items = follows_initializer
follows_by n.after_name = follows_initializer
follows_by n.more_initializers = follows_more_initializers
follows_by n.more_field_values = follows_more_initializers
follows_by n.type_declaration = follows_constant
follows_by n.more_types = follows_uses
follows_by n.variable = follows_constant
follows_by n.variable_end = follows_program_files
follows_by n.more_variables = follows_uses
follows_by n.type = follows_type
follows_by n.after_type_name = follows_type
follows_by n.target = follows_type
follows_by n.after_letter = follows_type
follows_by n.string_size = follows_type
follows_by n.packed_type = follows_type
follows_by n.structured = follows_type
follows_by n.index_types = follows_index_types
follows_by n.more_index_types = follows_more_index_types
follows_by n.fields = follows_fields
follows_by n.fields_end = follows_fields
follows_by n.ancestor = follows_ancestor
follows_by n.object_part = follows_type
follows_by n.object_fields_end = follows_type
follows_by n.methods = follows_fields
follows_by n.virtual = follows_virtual
follows_by n.method_header = follows_program_files
follows_by n.parameters = follows_parameters
follows_by n.group = follows_group
follows_by n.variable_group_type = follows_group
follows_by n.more_groups = follows_more_initializers
follows_by n.parameter_type = follows_group
follows_by n.result_type = follows_type
follows_by n.result = follows_program_files
follows_by n.header = follows_program_files
follows_by n.routine = follows_routine
follows_by n.procedure_rest = follows_routine
follows_by n.function_rest = follows_routine
follows_by n.routine_body = follows_routine
follows_by n.block = follows_program_files
follows_by n.compound = follows_compound
follows_by n.statements = follows_statements
follows_by n.more_statements = follows_statements
follows_by n.statement = follows_statement
follows_by n.after_designator = follows_statement
follows_by n.statement_argument_end = follows_statement
follows_by n.else_part = follows_statement
follows_by n.case_else = follows_fields
follows_by n.arm = follows_arm
follows_by n.more_arms = follows_more_arms
follows_by n.next_arms = follows_more_arms
follows_by n.label = follows_label
follows_by n.label_end = follows_label
follows_by n.more_labels = follows_more_labels
follows_by n.designator = follows_designator
follows_by n.with_rest = follows_statement
follows_by n.expression = follows_expression
follows_by n.relation = follows_expression
follows_by n.simple = follows_simple
follows_by n.terms = follows_simple
follows_by n.added = follows_simple
follows_by n.sign = follows_sign
follows_by n.term = follows_term
follows_by n.factors = follows_term
follows_by n.multiplied = follows_term
follows_by n.factor = follows_factor
follows_by n.bare_factor = follows_factor
follows_by n.closed_factor = follows_factor
follows_by n.elements = follows_more_index_types
follows_by n.more_elements = follows_more_index_types
follows_by n.element = follows_element
follows_by n.element_end = follows_element
follows_by n.call = follows_factor
follows_by n.arguments = follows_arguments
follows_by n.argument_end = follows_factor
follows_by n.argument = follows_argument
follows_by n.argument_width = follows_argument
follows_by n.more_arguments = follows_more_initializers
follows_by n.selectors = follows_selectors
follows_by n.selector = follows_selectors
follows_by n.more_indexes = follows_selectors

abbrev pub follows : Part → Option Kind → Bool
follows n.source None = true
follows n None = false
follows n (Some x) = follows_by n x
