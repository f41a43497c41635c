-- The production that the kind of the next lexeme chooses for a part of declarations, types and routines.
use Rattle.std.specs.Prelude.{Option, Some, None, if◌then◌else◌}
use Rattle.pascal_grammar.specs.declared.kind.Kind.{Kind}
use Rattle.pascal_grammar.specs.declared.kind.Kind.TheVariants as k
use Rattle.pascal_grammar.specs.Asked.{is_name, is_adder, is_multiplier, is_sign}
use Rattle.pascal_grammar.specs.Productions.{Production}
use Rattle.pascal_grammar.specs.Productions as p

abbrev pub choose_source : Kind → Option Production
choose_source k.Unit = Some p.unit
choose_source x = Some p.program

abbrev pub choose_program_head : Kind → Option Production
choose_program_head k.Program = Some p.headed
choose_program_head x = Some p.headless

abbrev pub choose_program_files : Kind → Option Production
choose_program_files k.Open = Some p.files
choose_program_files x = Some p.no_files

abbrev pub choose_uses : Kind → Option Production
choose_uses k.Uses = Some p.uses_clause
choose_uses x = Some p.no_uses

abbrev pub choose_more_identifiers : Kind → Option Production
choose_more_identifiers k.Comma = Some p.next_identifier
choose_more_identifiers x = Some p.no_identifiers

abbrev pub choose_declarations : Kind → Option Production
choose_declarations k.Const = Some p.constants
choose_declarations k.Type = Some p.types
choose_declarations k.Var = Some p.variables
choose_declarations k.Constructor = Some p.routines
choose_declarations k.Destructor = Some p.routines
choose_declarations k.Function = Some p.routines
choose_declarations k.Procedure = Some p.routines
choose_declarations k.Label = Some p.labels
choose_declarations x = Some p.no_declarations

abbrev pub choose_interface_part : Kind → Option Production
choose_interface_part k.Const = Some p.interface_constants
choose_interface_part k.Type = Some p.interface_types
choose_interface_part k.Var = Some p.interface_variables
choose_interface_part k.Function = Some p.interface_header
choose_interface_part k.Procedure = Some p.interface_header
choose_interface_part x = Some p.no_interface

abbrev pub choose_interface_directive : Kind → Option Production
choose_interface_directive k.External = Some p.interface_external
choose_interface_directive k.Interrupt = Some p.interface_interrupt
choose_interface_directive k.Inline = Some p.interface_inline
choose_interface_directive x = Some p.no_directive

abbrev pub choose_unit_body : Kind → Option Production
choose_unit_body k.End = Some p.no_body
choose_unit_body x = Some p.initialization

abbrev pub choose_constant_value : Kind → Option Production
choose_constant_value k.Colon = Some p.typed_constant
choose_constant_value x = Some p.plain_constant

abbrev pub choose_more_constants : Kind → Option Production
choose_more_constants x = if is_name x then Some p.next_constant else Some p.no_constants

abbrev pub choose_initializer : Kind → Option Production
choose_initializer k.Open = Some p.list
choose_initializer x = if is_sign x then Some p.signed_value else Some p.value

abbrev pub choose_list_items : Kind → Option Production
choose_list_items k.Open = Some p.begins_with_list
choose_list_items k.Caret = Some p.begins_with_control
choose_list_items x = if is_name x then Some p.begins_with_name else if is_sign x then Some p.begins_with_sign else Some p.begins_with_closed

abbrev pub choose_after_name : Kind → Option Production
choose_after_name k.Colon = Some p.field_values
choose_after_name k.Slash = Some p.named_value
choose_after_name k.Open = Some p.named_value
choose_after_name k.Close = Some p.named_value
choose_after_name k.OpenBracket = Some p.named_value
choose_after_name k.Dot = Some p.named_value
choose_after_name k.Comma = Some p.named_value
choose_after_name k.Caret = Some p.named_value
choose_after_name x = if is_adder x then Some p.named_value else if is_multiplier x then Some p.named_value else None

abbrev pub choose_more_initializers : Kind → Option Production
choose_more_initializers k.Comma = Some p.next_initializer
choose_more_initializers x = Some p.no_initializers

abbrev pub choose_more_field_values : Kind → Option Production
choose_more_field_values k.Semicolon = Some p.next_field_value
choose_more_field_values x = Some p.no_field_values

abbrev pub choose_more_types : Kind → Option Production
choose_more_types x = if is_name x then Some p.next_type else Some p.no_types

abbrev pub choose_variable_end : Kind → Option Production
choose_variable_end k.Absolute = Some p.absolute
choose_variable_end x = Some p.no_address

abbrev pub choose_more_variables : Kind → Option Production
choose_more_variables x = if is_name x then Some p.next_variable else Some p.no_variables

abbrev pub choose_type : Kind → Option Production
choose_type k.Caret = Some p.caret_type
choose_type k.String = Some p.string_type
choose_type k.Open = Some p.enumeration_type
choose_type k.Procedure = Some p.procedural_type
choose_type k.Function = Some p.functional_type
choose_type k.Object = Some p.object_type
choose_type k.Packed = Some p.packed_type
choose_type k.Array = Some p.structured_type
choose_type k.Record = Some p.structured_type
choose_type k.Set = Some p.structured_type
choose_type k.File = Some p.file_type
choose_type x = if is_sign x then Some p.signed_range else if is_name x then Some p.type_name else Some p.closed_range

abbrev pub choose_after_type_name : Kind → Option Production
choose_after_type_name k.OpenBracket = Some p.selected_range
choose_after_type_name k.Dot = Some p.selected_range
choose_after_type_name k.Caret = Some p.selected_range
choose_after_type_name k.Open = Some p.called_range
choose_after_type_name k.Slash = Some p.divided_range
choose_after_type_name k.Dots = Some p.named_range
choose_after_type_name x = if is_adder x then Some p.added_range else if is_multiplier x then Some p.multiplied_range else Some p.only_name

abbrev pub choose_target : Kind → Option Production
choose_target k.Letter = Some p.letter_target
choose_target x = Some p.long_target

abbrev pub choose_after_letter : Kind → Option Production
choose_after_letter k.Slash = Some p.divided_control
choose_after_letter k.Dots = Some p.control_range
choose_after_letter x = if is_adder x then Some p.added_control else if is_multiplier x then Some p.multiplied_control else Some p.only_letter

abbrev pub choose_string_size : Kind → Option Production
choose_string_size k.OpenBracket = Some p.sized
choose_string_size x = Some p.unsized

abbrev pub choose_packed_type : Kind → Option Production
choose_packed_type k.File = Some p.packed_file
choose_packed_type x = Some p.packed_structured

abbrev pub choose_structured : Kind → Option Production
choose_structured k.Array = Some p.array_type
choose_structured k.Record = Some p.record_type
choose_structured k.Set = Some p.set_type
choose_structured x = None

abbrev pub choose_more_index_types : Kind → Option Production
choose_more_index_types k.Comma = Some p.next_index_type
choose_more_index_types x = Some p.no_index_types

abbrev pub choose_fields : Kind → Option Production
choose_fields k.Case = Some p.variants
choose_fields x = if is_name x then Some p.fields else Some p.no_fields

abbrev pub choose_fields_end : Kind → Option Production
choose_fields_end k.Semicolon = Some p.next_fields
choose_fields_end x = Some p.last_fields

abbrev pub choose_ancestor : Kind → Option Production
choose_ancestor k.Open = Some p.ancestor
choose_ancestor x = Some p.no_ancestor

abbrev pub choose_object_part : Kind → Option Production
choose_object_part x = if is_name x then Some p.object_fields else Some p.object_methods

abbrev pub choose_object_fields_end : Kind → Option Production
choose_object_fields_end k.Semicolon = Some p.next_object_part
choose_object_fields_end x = Some p.object_end

abbrev pub choose_methods : Kind → Option Production
choose_methods k.Constructor = Some p.method
choose_methods k.Destructor = Some p.method
choose_methods k.Function = Some p.method
choose_methods k.Procedure = Some p.method
choose_methods x = Some p.no_methods

abbrev pub choose_virtual : Kind → Option Production
choose_virtual k.Virtual = Some p.virtual
choose_virtual x = Some p.not_virtual

abbrev pub choose_method_header : Kind → Option Production
choose_method_header k.Procedure = Some p.method_procedure
choose_method_header k.Function = Some p.method_function
choose_method_header k.Constructor = Some p.method_constructor
choose_method_header k.Destructor = Some p.method_destructor
choose_method_header x = None

abbrev pub choose_parameters : Kind → Option Production
choose_parameters k.Open = Some p.parameters
choose_parameters x = Some p.no_parameters

abbrev pub choose_group : Kind → Option Production
choose_group k.Var = Some p.variable_group
choose_group x = Some p.value_group

abbrev pub choose_variable_group_type : Kind → Option Production
choose_variable_group_type k.Semicolon = Some p.untyped_before_group
choose_variable_group_type k.Close = Some p.untyped_last
choose_variable_group_type x = Some p.typed_group

abbrev pub choose_more_groups : Kind → Option Production
choose_more_groups k.Semicolon = Some p.next_group
choose_more_groups x = Some p.no_groups

abbrev pub choose_parameter_type : Kind → Option Production
choose_parameter_type k.String = Some p.parameter_string
choose_parameter_type k.File = Some p.parameter_file
choose_parameter_type x = Some p.parameter_type_name

abbrev pub choose_result_type : Kind → Option Production
choose_result_type k.String = Some p.result_string
choose_result_type x = Some p.result_type_name

abbrev pub choose_result : Kind → Option Production
choose_result k.Colon = Some p.result
choose_result x = Some p.no_result

abbrev pub choose_header : Kind → Option Production
choose_header k.Procedure = Some p.procedure_header
choose_header k.Function = Some p.function_header
choose_header x = None

abbrev pub choose_routine : Kind → Option Production
choose_routine k.Procedure = Some p.procedure
choose_routine k.Function = Some p.function
choose_routine k.Constructor = Some p.constructor
choose_routine k.Destructor = Some p.destructor
choose_routine x = None

abbrev pub choose_procedure_rest : Kind → Option Production
choose_procedure_rest k.Dot = Some p.procedure_method
choose_procedure_rest k.Open = Some p.plain_procedure
choose_procedure_rest k.Semicolon = Some p.plain_procedure
choose_procedure_rest x = None

abbrev pub choose_function_rest : Kind → Option Production
choose_function_rest k.Dot = Some p.function_method
choose_function_rest k.Open = Some p.plain_function
choose_function_rest k.Semicolon = Some p.plain_function
choose_function_rest k.Colon = Some p.plain_function
choose_function_rest x = None

abbrev pub choose_routine_body : Kind → Option Production
choose_routine_body k.Forward = Some p.forward
choose_routine_body k.External = Some p.external
choose_routine_body k.Interrupt = Some p.interrupt
choose_routine_body k.Inline = Some p.inline_body
choose_routine_body x = Some p.own_block
