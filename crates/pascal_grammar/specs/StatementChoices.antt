-- The production that the kind of the next lexeme chooses for a part of statements and expressions.
use Rattle.std.specs.Prelude.{Option, Some, None, if◌then◌else◌}
use Rattle.pascal_grammar.specs.declared.kind.Kind.{Kind}
use Rattle.pascal_grammar.specs.declared.kind.Kind.TheVariants as k
use Rattle.pascal_grammar.specs.Asked.{is_name, is_relator, is_adder, is_multiplier, is_sign}
use Rattle.pascal_grammar.specs.Productions.{Production}
use Rattle.pascal_grammar.specs.Productions as p

abbrev pub choose_more_statements : Kind → Option Production
choose_more_statements k.Semicolon = Some p.next_statement
choose_more_statements x = Some p.no_statements

abbrev pub choose_statement : Kind → Option Production
choose_statement k.Begin = Some p.compound_statement
choose_statement k.If = Some p.if_statement
choose_statement k.Case = Some p.case_statement
choose_statement k.While = Some p.while_statement
choose_statement k.Repeat = Some p.repeat_statement
choose_statement k.For = Some p.for_statement
choose_statement k.With = Some p.with_statement
choose_statement k.Goto = Some p.goto_statement
choose_statement k.Inline = Some p.inline_statement
choose_statement x = if is_name x then Some p.named_statement else Some p.empty_statement

abbrev pub choose_after_designator : Kind → Option Production
choose_after_designator k.Becomes = Some p.assignment
choose_after_designator k.Open = Some p.called
choose_after_designator x = Some p.no_arguments

abbrev pub choose_statement_argument_end : Kind → Option Production
choose_statement_argument_end k.Becomes = Some p.assigned_cast
choose_statement_argument_end k.Caret = Some p.dereferenced_cast
choose_statement_argument_end k.Dot = Some p.selected_cast
choose_statement_argument_end k.OpenBracket = Some p.indexed_cast
choose_statement_argument_end x = Some p.no_cast

abbrev pub choose_else_part : Kind → Option Production
choose_else_part k.Else = Some p.with_else
choose_else_part x = Some p.without_else

abbrev pub choose_case_else : Kind → Option Production
choose_case_else k.Else = Some p.case_else
choose_case_else x = Some p.no_case_else

abbrev pub choose_more_arms : Kind → Option Production
choose_more_arms k.Semicolon = Some p.semicolon_arms
choose_more_arms x = Some p.no_semicolon

abbrev pub choose_next_arms : Kind → Option Production
choose_next_arms k.Else = Some p.no_arms
choose_next_arms k.End = Some p.no_arms
choose_next_arms x = Some p.next_arm

abbrev pub choose_label_end : Kind → Option Production
choose_label_end k.Dots = Some p.label_range
choose_label_end x = Some p.single_label

abbrev pub choose_more_labels : Kind → Option Production
choose_more_labels k.Comma = Some p.next_label
choose_more_labels x = Some p.no_labels

abbrev pub choose_with_rest : Kind → Option Production
choose_with_rest k.Comma = Some p.next_designator
choose_with_rest k.Open = Some p.with_cast
choose_with_rest x = Some p.with_body

abbrev pub choose_relation : Kind → Option Production
choose_relation x = if is_relator x then Some p.relation else Some p.no_relation

abbrev pub choose_simple : Kind → Option Production
choose_simple x = if is_sign x then Some p.signed else Some p.unsigned

abbrev pub choose_terms : Kind → Option Production
choose_terms x = if is_adder x then Some p.more_terms else Some p.no_terms

abbrev pub choose_sign : Kind → Option Production
choose_sign x = if is_sign x then Some p.sign else Some p.no_sign

abbrev pub choose_factors : Kind → Option Production
choose_factors k.Slash = Some p.divided
choose_factors x = if is_multiplier x then Some p.more_factors else Some p.no_factors

abbrev pub choose_factor : Kind → Option Production
choose_factor k.Open = Some p.group_factor
choose_factor x = Some p.bare_factor

abbrev pub choose_bare_factor : Kind → Option Production
choose_bare_factor k.Caret = Some p.control
choose_bare_factor x = if is_name x then Some p.named_factor else Some p.closed_factor

abbrev pub choose_closed_factor : Kind → Option Production
choose_closed_factor k.Number = Some p.number
choose_closed_factor k.Text = Some p.text
choose_closed_factor k.Nil = Some p.nil
choose_closed_factor k.Not = Some p.negation
choose_closed_factor k.OpenBracket = Some p.set_constructor
choose_closed_factor k.Real = Some p.real
choose_closed_factor k.Address = Some p.address
choose_closed_factor x = None

abbrev pub choose_elements : Kind → Option Production
choose_elements k.CloseBracket = Some p.no_elements
choose_elements x = Some p.elements

abbrev pub choose_more_elements : Kind → Option Production
choose_more_elements k.Comma = Some p.next_element
choose_more_elements x = Some p.no_more_elements

abbrev pub choose_element_end : Kind → Option Production
choose_element_end k.Dots = Some p.element_range
choose_element_end x = Some p.single_element

abbrev pub choose_call : Kind → Option Production
choose_call k.Open = Some p.call
choose_call x = Some p.no_call

abbrev pub choose_argument_end : Kind → Option Production
choose_argument_end k.Caret = Some p.caret_cast
choose_argument_end k.Dot = Some p.dot_cast
choose_argument_end k.OpenBracket = Some p.bracket_cast
choose_argument_end x = Some p.argument_end

abbrev pub choose_argument_width : Kind → Option Production
choose_argument_width k.Colon = Some p.width
choose_argument_width x = Some p.no_width

abbrev pub choose_more_arguments : Kind → Option Production
choose_more_arguments k.Comma = Some p.next_argument
choose_more_arguments x = Some p.no_more_arguments

abbrev pub choose_selectors : Kind → Option Production
choose_selectors k.OpenBracket = Some p.more_selectors
choose_selectors k.Dot = Some p.more_selectors
choose_selectors k.Caret = Some p.more_selectors
choose_selectors x = Some p.no_selectors

abbrev pub choose_selector : Kind → Option Production
choose_selector k.Dot = Some p.field
choose_selector k.OpenBracket = Some p.index
choose_selector k.Caret = Some p.dereference
choose_selector x = None

abbrev pub choose_more_indexes : Kind → Option Production
choose_more_indexes k.Comma = Some p.next_index
choose_more_indexes x = Some p.last_index
