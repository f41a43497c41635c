-- Lists of all kinds and all productions.
use Rattle.std.specs.Prelude.{◌≡◌, ℕ, Bool, true, false, List, [], ◌∷◌, nat_eq, get_or}
use Rattle.std.specs.Prelude.{if◌then◌else◌}
use Rattle.std.proofs.Common.{refl, sym, ap, ◌∙◌, rules}
use Rattle.std.proofs.lemmas.Bool.{eqb-true}
use denote.Enum.Bare.{same_true}
use Rattle.pascal_grammar.specs.contracts.kind.Kind.{the_type}
use Rattle.ll1_grammar.proofs.Checking.{and, all_in, first_of, second_of}
use Rattle.pascal_grammar.specs.Asked.{same}
use Rattle.pascal_grammar.specs.declared.kind.Kind.{Kind}
use Rattle.pascal_grammar.specs.declared.kind.Kind.TheVariants as k
use Rattle.pascal_grammar.specs.Productions.{Production}
use Rattle.pascal_grammar.specs.Productions as p

abbrev pub kinds : List Kind
kinds =
    k.And ∷ k.Array ∷ k.Begin ∷ k.Case ∷ k.Const ∷ k.Constructor ∷ k.Destructor ∷ k.Div ∷ k.Do ∷ k.Downto ∷
    k.Else ∷ k.End ∷ k.File ∷ k.For ∷ k.Function ∷ k.Goto ∷ k.If ∷ k.Implementation ∷ k.In ∷ k.Inline ∷
    k.Interface ∷ k.Label ∷ k.Mod ∷ k.Nil ∷ k.Not ∷ k.Object ∷ k.Of ∷ k.Or ∷ k.Packed ∷ k.Procedure ∷
    k.Program ∷ k.Record ∷ k.Repeat ∷ k.Set ∷ k.Shl ∷ k.Shr ∷ k.String ∷ k.Then ∷ k.To ∷ k.Type ∷ k.Unit ∷
    k.Until ∷ k.Uses ∷ k.Var ∷ k.Virtual ∷ k.While ∷ k.With ∷ k.Xor ∷ k.Plus ∷ k.Minus ∷ k.Times ∷ k.Slash ∷
    k.Equal ∷ k.Less ∷ k.Greater ∷ k.AtMost ∷ k.AtLeast ∷ k.Unequal ∷ k.Open ∷ k.Close ∷ k.OpenBracket ∷
    k.CloseBracket ∷ k.Dot ∷ k.Comma ∷ k.Semicolon ∷ k.Colon ∷ k.Becomes ∷ k.Dots ∷ k.Caret ∷ k.Address ∷
    k.Letter ∷ k.Absolute ∷ k.External ∷ k.Forward ∷ k.Interrupt ∷ k.Name ∷ k.Number ∷ k.Text ∷ k.Real ∷
    k.Stray ∷ []

abbrev pub productions : List Production
productions =
    p.program ∷ p.unit ∷ p.headed ∷ p.headless ∷ p.files ∷ p.no_files ∷ p.uses_clause ∷ p.no_uses ∷
    p.identifiers ∷ p.next_identifier ∷ p.no_identifiers ∷ p.constants ∷ p.types ∷ p.variables ∷ p.routines ∷
    p.labels ∷ p.no_declarations ∷ p.interface_constants ∷ p.interface_types ∷ p.interface_variables ∷
    p.interface_header ∷ p.no_interface ∷ p.interface_external ∷ p.interface_interrupt ∷ p.interface_inline ∷
    p.no_directive ∷ p.no_body ∷ p.initialization ∷ p.constant ∷ p.plain_constant ∷ p.typed_constant ∷
    p.next_constant ∷ p.no_constants ∷ p.list ∷ p.signed_value ∷ p.value ∷ p.initializer_list ∷
    p.begins_with_list ∷ p.begins_with_sign ∷ p.begins_with_control ∷ p.begins_with_closed ∷
    p.begins_with_name ∷ p.field_values ∷ p.named_value ∷ p.next_initializer ∷ p.no_initializers ∷
    p.next_field_value ∷ p.no_field_values ∷ p.type_declaration ∷ p.next_type ∷ p.no_types ∷ p.variable ∷
    p.absolute ∷ p.no_address ∷ p.next_variable ∷ p.no_variables ∷ p.type_name ∷ p.caret_type ∷
    p.string_type ∷ p.enumeration_type ∷ p.procedural_type ∷ p.functional_type ∷ p.object_type ∷
    p.packed_type ∷ p.structured_type ∷ p.file_type ∷ p.signed_range ∷ p.closed_range ∷ p.selected_range ∷
    p.called_range ∷ p.multiplied_range ∷ p.divided_range ∷ p.added_range ∷ p.named_range ∷ p.only_name ∷
    p.long_target ∷ p.letter_target ∷ p.multiplied_control ∷ p.divided_control ∷ p.added_control ∷
    p.control_range ∷ p.only_letter ∷ p.sized ∷ p.unsized ∷ p.packed_structured ∷ p.packed_file ∷
    p.array_type ∷ p.record_type ∷ p.set_type ∷ p.index_types ∷ p.next_index_type ∷ p.no_index_types ∷
    p.fields ∷ p.variants ∷ p.no_fields ∷ p.next_fields ∷ p.last_fields ∷ p.ancestor ∷ p.no_ancestor ∷
    p.object_fields ∷ p.object_methods ∷ p.next_object_part ∷ p.object_end ∷ p.method ∷ p.no_methods ∷
    p.virtual ∷ p.not_virtual ∷ p.method_procedure ∷ p.method_function ∷ p.method_constructor ∷
    p.method_destructor ∷ p.parameters ∷ p.no_parameters ∷ p.variable_group ∷ p.value_group ∷ p.typed_group ∷
    p.untyped_before_group ∷ p.untyped_last ∷ p.next_group ∷ p.no_groups ∷ p.parameter_type_name ∷
    p.parameter_string ∷ p.parameter_file ∷ p.result_type_name ∷ p.result_string ∷ p.result ∷ p.no_result ∷
    p.procedure_header ∷ p.function_header ∷ p.procedure ∷ p.function ∷ p.constructor ∷ p.destructor ∷
    p.procedure_method ∷ p.plain_procedure ∷ p.function_method ∷ p.plain_function ∷ p.forward ∷ p.external ∷
    p.interrupt ∷ p.inline_body ∷ p.own_block ∷ p.block ∷ p.compound ∷ p.statements ∷ p.next_statement ∷
    p.no_statements ∷ p.named_statement ∷ p.compound_statement ∷ p.if_statement ∷ p.case_statement ∷
    p.while_statement ∷ p.repeat_statement ∷ p.for_statement ∷ p.with_statement ∷ p.goto_statement ∷
    p.inline_statement ∷ p.empty_statement ∷ p.assignment ∷ p.called ∷ p.no_arguments ∷ p.assigned_cast ∷
    p.dereferenced_cast ∷ p.selected_cast ∷ p.indexed_cast ∷ p.no_cast ∷ p.with_else ∷ p.without_else ∷
    p.case_else ∷ p.no_case_else ∷ p.arm ∷ p.semicolon_arms ∷ p.no_semicolon ∷ p.next_arm ∷ p.no_arms ∷
    p.label ∷ p.label_range ∷ p.single_label ∷ p.next_label ∷ p.no_labels ∷ p.designator ∷
    p.next_designator ∷ p.with_body ∷ p.with_cast ∷ p.expression ∷ p.relation ∷ p.no_relation ∷ p.signed ∷
    p.unsigned ∷ p.more_terms ∷ p.no_terms ∷ p.added ∷ p.sign ∷ p.no_sign ∷ p.term ∷ p.more_factors ∷
    p.divided ∷ p.no_factors ∷ p.multiplied ∷ p.group_factor ∷ p.bare_factor ∷ p.named_factor ∷ p.control ∷
    p.closed_factor ∷ p.number ∷ p.text ∷ p.nil ∷ p.negation ∷ p.set_constructor ∷ p.real ∷ p.address ∷
    p.elements ∷ p.no_elements ∷ p.next_element ∷ p.no_more_elements ∷ p.element ∷ p.element_range ∷
    p.single_element ∷ p.call ∷ p.no_call ∷ p.arguments ∷ p.caret_cast ∷ p.dot_cast ∷ p.bracket_cast ∷
    p.argument_end ∷ p.argument ∷ p.width ∷ p.no_width ∷ p.next_argument ∷ p.no_more_arguments ∷
    p.more_selectors ∷ p.no_selectors ∷ p.field ∷ p.index ∷ p.dereference ∷ p.next_index ∷ p.last_index ∷ []

abbrev pub number : Production → ℕ
number p.program = 0
number p.unit = 1
number p.headed = 2
number p.headless = 3
number p.files = 4
number p.no_files = 5
number p.uses_clause = 6
number p.no_uses = 7
number p.identifiers = 8
number p.next_identifier = 9
number p.no_identifiers = 10
number p.constants = 11
number p.types = 12
number p.variables = 13
number p.routines = 14
number p.labels = 15
number p.no_declarations = 16
number p.interface_constants = 17
number p.interface_types = 18
number p.interface_variables = 19
number p.interface_header = 20
number p.no_interface = 21
number p.interface_external = 22
number p.interface_interrupt = 23
number p.interface_inline = 24
number p.no_directive = 25
number p.no_body = 26
number p.initialization = 27
number p.constant = 28
number p.plain_constant = 29
number p.typed_constant = 30
number p.next_constant = 31
number p.no_constants = 32
number p.list = 33
number p.signed_value = 34
number p.value = 35
number p.initializer_list = 36
number p.begins_with_list = 37
number p.begins_with_sign = 38
number p.begins_with_control = 39
number p.begins_with_closed = 40
number p.begins_with_name = 41
number p.field_values = 42
number p.named_value = 43
number p.next_initializer = 44
number p.no_initializers = 45
number p.next_field_value = 46
number p.no_field_values = 47
number p.type_declaration = 48
number p.next_type = 49
number p.no_types = 50
number p.variable = 51
number p.absolute = 52
number p.no_address = 53
number p.next_variable = 54
number p.no_variables = 55
number p.type_name = 56
number p.caret_type = 57
number p.string_type = 58
number p.enumeration_type = 59
number p.procedural_type = 60
number p.functional_type = 61
number p.object_type = 62
number p.packed_type = 63
number p.structured_type = 64
number p.file_type = 65
number p.signed_range = 66
number p.closed_range = 67
number p.selected_range = 68
number p.called_range = 69
number p.multiplied_range = 70
number p.divided_range = 71
number p.added_range = 72
number p.named_range = 73
number p.only_name = 74
number p.long_target = 75
number p.letter_target = 76
number p.multiplied_control = 77
number p.divided_control = 78
number p.added_control = 79
number p.control_range = 80
number p.only_letter = 81
number p.sized = 82
number p.unsized = 83
number p.packed_structured = 84
number p.packed_file = 85
number p.array_type = 86
number p.record_type = 87
number p.set_type = 88
number p.index_types = 89
number p.next_index_type = 90
number p.no_index_types = 91
number p.fields = 92
number p.variants = 93
number p.no_fields = 94
number p.next_fields = 95
number p.last_fields = 96
number p.ancestor = 97
number p.no_ancestor = 98
number p.object_fields = 99
number p.object_methods = 100
number p.next_object_part = 101
number p.object_end = 102
number p.method = 103
number p.no_methods = 104
number p.virtual = 105
number p.not_virtual = 106
number p.method_procedure = 107
number p.method_function = 108
number p.method_constructor = 109
number p.method_destructor = 110
number p.parameters = 111
number p.no_parameters = 112
number p.variable_group = 113
number p.value_group = 114
number p.typed_group = 115
number p.untyped_before_group = 116
number p.untyped_last = 117
number p.next_group = 118
number p.no_groups = 119
number p.parameter_type_name = 120
number p.parameter_string = 121
number p.parameter_file = 122
number p.result_type_name = 123
number p.result_string = 124
number p.result = 125
number p.no_result = 126
number p.procedure_header = 127
number p.function_header = 128
number p.procedure = 129
number p.function = 130
number p.constructor = 131
number p.destructor = 132
number p.procedure_method = 133
number p.plain_procedure = 134
number p.function_method = 135
number p.plain_function = 136
number p.forward = 137
number p.external = 138
number p.interrupt = 139
number p.inline_body = 140
number p.own_block = 141
number p.block = 142
number p.compound = 143
number p.statements = 144
number p.next_statement = 145
number p.no_statements = 146
number p.named_statement = 147
number p.compound_statement = 148
number p.if_statement = 149
number p.case_statement = 150
number p.while_statement = 151
number p.repeat_statement = 152
number p.for_statement = 153
number p.with_statement = 154
number p.goto_statement = 155
number p.inline_statement = 156
number p.empty_statement = 157
number p.assignment = 158
number p.called = 159
number p.no_arguments = 160
number p.assigned_cast = 161
number p.dereferenced_cast = 162
number p.selected_cast = 163
number p.indexed_cast = 164
number p.no_cast = 165
number p.with_else = 166
number p.without_else = 167
number p.case_else = 168
number p.no_case_else = 169
number p.arm = 170
number p.semicolon_arms = 171
number p.no_semicolon = 172
number p.next_arm = 173
number p.no_arms = 174
number p.label = 175
number p.label_range = 176
number p.single_label = 177
number p.next_label = 178
number p.no_labels = 179
number p.designator = 180
number p.next_designator = 181
number p.with_body = 182
number p.with_cast = 183
number p.expression = 184
number p.relation = 185
number p.no_relation = 186
number p.signed = 187
number p.unsigned = 188
number p.more_terms = 189
number p.no_terms = 190
number p.added = 191
number p.sign = 192
number p.no_sign = 193
number p.term = 194
number p.more_factors = 195
number p.divided = 196
number p.no_factors = 197
number p.multiplied = 198
number p.group_factor = 199
number p.bare_factor = 200
number p.named_factor = 201
number p.control = 202
number p.closed_factor = 203
number p.number = 204
number p.text = 205
number p.nil = 206
number p.negation = 207
number p.set_constructor = 208
number p.real = 209
number p.address = 210
number p.elements = 211
number p.no_elements = 212
number p.next_element = 213
number p.no_more_elements = 214
number p.element = 215
number p.element_range = 216
number p.single_element = 217
number p.call = 218
number p.no_call = 219
number p.arguments = 220
number p.caret_cast = 221
number p.dot_cast = 222
number p.bracket_cast = 223
number p.argument_end = 224
number p.argument = 225
number p.width = 226
number p.no_width = 227
number p.next_argument = 228
number p.no_more_arguments = 229
number p.more_selectors = 230
number p.no_selectors = 231
number p.field = 232
number p.index = 233
number p.dereference = 234
number p.next_index = 235
number p.last_index = 236

abbrev pub same_production : Production → Production → Bool
same_production p q = nat_eq (number p) (number q)

-- the production with the number
at : ℕ → Production
at i = get_or productions i p.program

numbered : (x : Production) → at (number x) ≡ x
unfolding at
numbered p.program = refl
numbered x = refl

pub same_is : (x y : Production) → same_production x y ≡ true → x ≡ y
same_is x y e = sym (numbered x) ∙ ap at (eqb-true (number x) (number y) e) ∙ numbered y

member : Kind → List Kind → Bool
member x [] = false
member x (y ∷ l) = if same x y then true else member x l

listed : (x : Kind) → member x kinds ≡ true
unfolding member
listed k.And = refl
listed x = refl

found : (f : Kind → Bool) (x y : Kind) (l : List Kind) (b : Bool) → same x y ≡ b → and (f y) (all_in f l) ≡ true → (if b then true else member x l) ≡ true → (all_in f l ≡ true → member x l ≡ true → f x ≡ true) → f x ≡ true
found f x y l true s e m rest = let is : x ≡ y = same_true the_type (search rules) x y s in ap f is ∙ first_of (f y) (all_in f l) e
found f x y l false s e m rest = rest (second_of (f y) (all_in f l) e) m

at_member : (f : Kind → Bool) (l : List Kind) → all_in f l ≡ true → (x : Kind) → member x l ≡ true → f x ≡ true
unfolding member
at_member f [] e x m = absurd cc
at_member f (y ∷ l) e x m = found f x y l (same x y) refl e m (λ e' m'. at_member f l e' x m')

pub every_kind : (f : Kind → Bool) → all_in f kinds ≡ true → (x : Kind) → f x ≡ true
every_kind f e x = at_member f kinds e x (listed x)
