-- The productions of the grammar, by name.
use Rattle.std.specs.Prelude.{Bool, true, false, Option, Some, None}
use Rattle.std.specs.Option.{is_some}
use Rattle.tp_lexer.specs.declared.token.Feature.{Feature}
use Rattle.tp_lexer.specs.declared.token.Feature.TheVariants as f
use Rattle.pascal_grammar.specs.declared.kind.Kind.{Kind}
use Rattle.pascal_grammar.specs.declared.kind.Kind.TheVariants as k

pub data Production : Type 0 where
  program : Production
  unit : Production
  headed : Production
  headless : Production
  files : Production
  no_files : Production
  uses_clause : Production
  no_uses : Production
  identifiers : Production
  next_identifier : Production
  no_identifiers : Production
  constants : Production
  types : Production
  variables : Production
  routines : Production
  labels : Production
  no_declarations : Production
  interface_constants : Production
  interface_types : Production
  interface_variables : Production
  interface_header : Production
  no_interface : Production
  interface_external : Production
  interface_interrupt : Production
  interface_inline : Production
  no_directive : Production
  no_body : Production
  initialization : Production
  constant : Production
  plain_constant : Production
  typed_constant : Production
  next_constant : Production
  no_constants : Production
  list : Production
  signed_value : Production
  value : Production
  initializer_list : Production
  begins_with_list : Production
  begins_with_sign : Production
  begins_with_control : Production
  begins_with_closed : Production
  begins_with_name : Production
  field_values : Production
  named_value : Production
  next_initializer : Production
  no_initializers : Production
  next_field_value : Production
  no_field_values : Production
  type_declaration : Production
  next_type : Production
  no_types : Production
  variable : Production
  absolute : Production
  no_address : Production
  next_variable : Production
  no_variables : Production
  type_name : Production
  caret_type : Production
  string_type : Production
  enumeration_type : Production
  procedural_type : Production
  functional_type : Production
  object_type : Production
  packed_type : Production
  structured_type : Production
  file_type : Production
  signed_range : Production
  closed_range : Production
  selected_range : Production
  called_range : Production
  multiplied_range : Production
  divided_range : Production
  added_range : Production
  named_range : Production
  only_name : Production
  long_target : Production
  letter_target : Production
  multiplied_control : Production
  divided_control : Production
  added_control : Production
  control_range : Production
  only_letter : Production
  sized : Production
  unsized : Production
  packed_structured : Production
  packed_file : Production
  array_type : Production
  record_type : Production
  set_type : Production
  index_types : Production
  next_index_type : Production
  no_index_types : Production
  fields : Production
  variants : Production
  no_fields : Production
  next_fields : Production
  last_fields : Production
  ancestor : Production
  no_ancestor : Production
  object_fields : Production
  object_methods : Production
  next_object_part : Production
  object_end : Production
  method : Production
  no_methods : Production
  virtual : Production
  not_virtual : Production
  method_procedure : Production
  method_function : Production
  method_constructor : Production
  method_destructor : Production
  parameters : Production
  no_parameters : Production
  variable_group : Production
  value_group : Production
  typed_group : Production
  untyped_before_group : Production
  untyped_last : Production
  next_group : Production
  no_groups : Production
  parameter_type_name : Production
  parameter_string : Production
  parameter_file : Production
  result_type_name : Production
  result_string : Production
  result : Production
  no_result : Production
  procedure_header : Production
  function_header : Production
  procedure : Production
  function : Production
  constructor : Production
  destructor : Production
  procedure_method : Production
  plain_procedure : Production
  function_method : Production
  plain_function : Production
  forward : Production
  external : Production
  interrupt : Production
  inline_body : Production
  own_block : Production
  block : Production
  compound : Production
  statements : Production
  next_statement : Production
  no_statements : Production
  named_statement : Production
  compound_statement : Production
  if_statement : Production
  case_statement : Production
  while_statement : Production
  repeat_statement : Production
  for_statement : Production
  with_statement : Production
  goto_statement : Production
  inline_statement : Production
  empty_statement : Production
  assignment : Production
  called : Production
  no_arguments : Production
  assigned_cast : Production
  dereferenced_cast : Production
  selected_cast : Production
  indexed_cast : Production
  no_cast : Production
  with_else : Production
  without_else : Production
  case_else : Production
  no_case_else : Production
  arm : Production
  semicolon_arms : Production
  no_semicolon : Production
  next_arm : Production
  no_arms : Production
  label : Production
  label_range : Production
  single_label : Production
  next_label : Production
  no_labels : Production
  designator : Production
  next_designator : Production
  with_body : Production
  with_cast : Production
  expression : Production
  relation : Production
  no_relation : Production
  signed : Production
  unsigned : Production
  more_terms : Production
  no_terms : Production
  added : Production
  sign : Production
  no_sign : Production
  term : Production
  more_factors : Production
  divided : Production
  no_factors : Production
  multiplied : Production
  group_factor : Production
  bare_factor : Production
  named_factor : Production
  control : Production
  closed_factor : Production
  number : Production
  text : Production
  nil : Production
  negation : Production
  set_constructor : Production
  real : Production
  address : Production
  elements : Production
  no_elements : Production
  next_element : Production
  no_more_elements : Production
  element : Production
  element_range : Production
  single_element : Production
  call : Production
  no_call : Production
  arguments : Production
  caret_cast : Production
  dot_cast : Production
  bracket_cast : Production
  argument_end : Production
  argument : Production
  width : Production
  no_width : Production
  next_argument : Production
  no_more_arguments : Production
  more_selectors : Production
  no_selectors : Production
  field : Production
  index : Production
  dereference : Production
  next_index : Production
  last_index : Production

-- what opens a construct, from its first lexeme to its last
abbrev pub counts : Production → Bool
counts files = true
counts initializer_list = true
counts enumeration_type = true
counts procedural_type = true
counts functional_type = true
counts object_type = true
counts sized = true
counts array_type = true
counts record_type = true
counts set_type = true
counts index_types = true
counts ancestor = true
counts method_procedure = true
counts method_function = true
counts method_constructor = true
counts method_destructor = true
counts parameters = true
counts procedure_header = true
counts function_header = true
counts procedure = true
counts function = true
counts constructor = true
counts destructor = true
counts compound = true
counts if_statement = true
counts case_statement = true
counts while_statement = true
counts repeat_statement = true
counts for_statement = true
counts with_statement = true
counts next_designator = true
counts added = true
counts multiplied = true
counts group_factor = true
counts negation = true
counts set_constructor = true
counts arguments = true
counts field = true
counts index = true
counts dereference = true
counts next_index = true
counts p = false

-- What a word or a symbol stands for that the language has there and this profile leaves out. What comes behind it is not told.
abbrev pub feature_of : Production → Option Feature
feature_of labels = Some f.Gotos
feature_of interface_external = Some f.Externals
feature_of interface_interrupt = Some f.Interrupts
feature_of interface_inline = Some f.Inline
feature_of absolute = Some f.Absolute
feature_of file_type = Some f.Files
feature_of divided_range = Some f.Reals
feature_of divided_control = Some f.Reals
feature_of packed_file = Some f.Files
feature_of variants = Some f.Variants
feature_of untyped_before_group = Some f.UntypedParameters
feature_of untyped_last = Some f.UntypedParameters
feature_of parameter_file = Some f.Files
feature_of external = Some f.Externals
feature_of interrupt = Some f.Interrupts
feature_of inline_body = Some f.Inline
feature_of goto_statement = Some f.Gotos
feature_of inline_statement = Some f.Inline
feature_of assigned_cast = Some f.Casts
feature_of dereferenced_cast = Some f.Casts
feature_of selected_cast = Some f.Casts
feature_of indexed_cast = Some f.Casts
feature_of with_cast = Some f.Casts
feature_of divided = Some f.Reals
feature_of real = Some f.Reals
feature_of address = Some f.Addresses
feature_of caret_cast = Some f.Casts
feature_of dot_cast = Some f.Casts
feature_of bracket_cast = Some f.Casts
feature_of p = None

abbrev pub left_out : Production → Bool
left_out p = is_some (feature_of p)

-- An else belongs to the nearest if that is open: an if without one stands before no else.
abbrev pub allows : Production → Option Kind → Bool
allows without_else (Some k.Else) = false
allows p h = true
