-- The kinds of lexemes that may stand first in a part of declarations, types and routines.
use Rattle.std.specs.Prelude.{Bool, true, false, ◌||◌}
use Rattle.pascal_grammar.specs.declared.kind.Kind.{Kind}
use Rattle.pascal_grammar.specs.declared.kind.Kind.TheVariants as k
use Rattle.pascal_grammar.specs.Asked.{is_name, is_adder, is_multiplier, is_sign}

abbrev pub starts_source : Kind → Bool
starts_source k.Begin = true
starts_source k.Const = true
starts_source k.Constructor = true
starts_source k.Destructor = true
starts_source k.Function = true
starts_source k.Label = true
starts_source k.Procedure = true
starts_source k.Program = true
starts_source k.Type = true
starts_source k.Unit = true
starts_source k.Uses = true
starts_source k.Var = true
starts_source x = false

abbrev pub starts_program_head : Kind → Bool
starts_program_head k.Program = true
starts_program_head x = false

abbrev pub starts_program_files : Kind → Bool
starts_program_files k.Open = true
starts_program_files x = false

abbrev pub starts_uses : Kind → Bool
starts_uses k.Uses = true
starts_uses x = false

abbrev pub starts_identifiers : Kind → Bool
starts_identifiers x = is_name x

abbrev pub starts_more_identifiers : Kind → Bool
starts_more_identifiers k.Comma = true
starts_more_identifiers x = false

abbrev pub starts_declarations : Kind → Bool
starts_declarations k.Const = true
starts_declarations k.Constructor = true
starts_declarations k.Destructor = true
starts_declarations k.Function = true
starts_declarations k.Label = true
starts_declarations k.Procedure = true
starts_declarations k.Type = true
starts_declarations k.Var = true
starts_declarations x = false

abbrev pub starts_interface_part : Kind → Bool
starts_interface_part k.Const = true
starts_interface_part k.Function = true
starts_interface_part k.Procedure = true
starts_interface_part k.Type = true
starts_interface_part k.Var = true
starts_interface_part x = false

abbrev pub starts_interface_directive : Kind → Bool
starts_interface_directive k.Inline = true
starts_interface_directive k.External = true
starts_interface_directive k.Interrupt = true
starts_interface_directive x = false

abbrev pub starts_unit_body : Kind → Bool
starts_unit_body k.Begin = true
starts_unit_body k.End = true
starts_unit_body x = false

abbrev pub starts_constant_value : Kind → Bool
starts_constant_value k.Equal = true
starts_constant_value k.Colon = true
starts_constant_value x = false

abbrev pub starts_initializer : Kind → Bool
starts_initializer k.Nil = true
starts_initializer k.Not = true
starts_initializer k.Open = true
starts_initializer k.OpenBracket = true
starts_initializer k.Caret = true
starts_initializer k.Address = true
starts_initializer k.Number = true
starts_initializer k.Text = true
starts_initializer k.Real = true
starts_initializer x = is_name x || is_sign x

abbrev pub starts_after_name : Kind → Bool
starts_after_name k.Slash = true
starts_after_name k.Open = true
starts_after_name k.Close = true
starts_after_name k.OpenBracket = true
starts_after_name k.Dot = true
starts_after_name k.Comma = true
starts_after_name k.Colon = true
starts_after_name k.Caret = true
starts_after_name x = is_multiplier x || is_adder x

abbrev pub starts_more_field_values : Kind → Bool
starts_more_field_values k.Semicolon = true
starts_more_field_values x = false

abbrev pub starts_variable_end : Kind → Bool
starts_variable_end k.Absolute = true
starts_variable_end x = false

abbrev pub starts_type : Kind → Bool
starts_type k.Array = true
starts_type k.File = true
starts_type k.Function = true
starts_type k.Nil = true
starts_type k.Not = true
starts_type k.Object = true
starts_type k.Packed = true
starts_type k.Procedure = true
starts_type k.Record = true
starts_type k.Set = true
starts_type k.String = true
starts_type k.Open = true
starts_type k.OpenBracket = true
starts_type k.Caret = true
starts_type k.Address = true
starts_type k.Number = true
starts_type k.Text = true
starts_type k.Real = true
starts_type x = is_name x || is_sign x

abbrev pub starts_after_type_name : Kind → Bool
starts_after_type_name k.Slash = true
starts_after_type_name k.Open = true
starts_after_type_name k.OpenBracket = true
starts_after_type_name k.Dot = true
starts_after_type_name k.Dots = true
starts_after_type_name k.Caret = true
starts_after_type_name x = is_multiplier x || is_adder x

abbrev pub starts_after_letter : Kind → Bool
starts_after_letter k.Slash = true
starts_after_letter k.Dots = true
starts_after_letter x = is_multiplier x || is_adder x

abbrev pub starts_string_size : Kind → Bool
starts_string_size k.OpenBracket = true
starts_string_size x = false

abbrev pub starts_packed_type : Kind → Bool
starts_packed_type k.Array = true
starts_packed_type k.File = true
starts_packed_type k.Record = true
starts_packed_type k.Set = true
starts_packed_type x = false

abbrev pub starts_structured : Kind → Bool
starts_structured k.Array = true
starts_structured k.Record = true
starts_structured k.Set = true
starts_structured x = false

abbrev pub starts_fields : Kind → Bool
starts_fields k.Case = true
starts_fields x = is_name x

abbrev pub starts_object_part : Kind → Bool
starts_object_part k.Constructor = true
starts_object_part k.Destructor = true
starts_object_part k.End = true
starts_object_part k.Function = true
starts_object_part k.Procedure = true
starts_object_part x = is_name x

abbrev pub starts_object_fields_end : Kind → Bool
starts_object_fields_end k.End = true
starts_object_fields_end k.Semicolon = true
starts_object_fields_end x = false

abbrev pub starts_methods : Kind → Bool
starts_methods k.Constructor = true
starts_methods k.Destructor = true
starts_methods k.Function = true
starts_methods k.Procedure = true
starts_methods x = false

abbrev pub starts_virtual : Kind → Bool
starts_virtual k.Virtual = true
starts_virtual x = false

abbrev pub starts_group : Kind → Bool
starts_group k.Var = true
starts_group x = is_name x

abbrev pub starts_variable_group_type : Kind → Bool
starts_variable_group_type k.Close = true
starts_variable_group_type k.Semicolon = true
starts_variable_group_type k.Colon = true
starts_variable_group_type x = false

abbrev pub starts_parameter_type : Kind → Bool
starts_parameter_type k.File = true
starts_parameter_type k.String = true
starts_parameter_type x = is_name x

abbrev pub starts_result_type : Kind → Bool
starts_result_type k.String = true
starts_result_type x = is_name x

abbrev pub starts_result : Kind → Bool
starts_result k.Colon = true
starts_result x = false

abbrev pub starts_header : Kind → Bool
starts_header k.Function = true
starts_header k.Procedure = true
starts_header x = false

abbrev pub starts_procedure_rest : Kind → Bool
starts_procedure_rest k.Open = true
starts_procedure_rest k.Dot = true
starts_procedure_rest k.Semicolon = true
starts_procedure_rest x = false

abbrev pub starts_function_rest : Kind → Bool
starts_function_rest k.Open = true
starts_function_rest k.Dot = true
starts_function_rest k.Semicolon = true
starts_function_rest k.Colon = true
starts_function_rest x = false

abbrev pub starts_routine_body : Kind → Bool
starts_routine_body k.Begin = true
starts_routine_body k.Const = true
starts_routine_body k.Constructor = true
starts_routine_body k.Destructor = true
starts_routine_body k.Function = true
starts_routine_body k.Inline = true
starts_routine_body k.Label = true
starts_routine_body k.Procedure = true
starts_routine_body k.Type = true
starts_routine_body k.Var = true
starts_routine_body k.External = true
starts_routine_body k.Forward = true
starts_routine_body k.Interrupt = true
starts_routine_body x = false
