-- The kinds of lexemes that may stand first in a part of statements and expressions.
use Rattle.std.specs.Prelude.{Bool, true, false}
use Rattle.pascal_grammar.specs.declared.kind.Kind.{Kind}
use Rattle.pascal_grammar.specs.declared.kind.Kind.TheVariants as k
use Rattle.pascal_grammar.specs.Asked.{is_name, is_relator, is_adder, is_multiplier, is_sign}

abbrev pub starts_block : Kind → Bool
starts_block k.Begin = true
starts_block k.Const = true
starts_block k.Constructor = true
starts_block k.Destructor = true
starts_block k.Function = true
starts_block k.Label = true
starts_block k.Procedure = true
starts_block k.Type = true
starts_block k.Var = true
starts_block x = false

abbrev pub starts_compound : Kind → Bool
starts_compound k.Begin = true
starts_compound x = false

abbrev pub starts_statements : Kind → Bool
starts_statements k.Begin = true
starts_statements k.Case = true
starts_statements k.For = true
starts_statements k.Goto = true
starts_statements k.If = true
starts_statements k.Inline = true
starts_statements k.Repeat = true
starts_statements k.While = true
starts_statements k.With = true
starts_statements k.Semicolon = true
starts_statements x = is_name x

abbrev pub starts_statement : Kind → Bool
starts_statement k.Begin = true
starts_statement k.Case = true
starts_statement k.For = true
starts_statement k.Goto = true
starts_statement k.If = true
starts_statement k.Inline = true
starts_statement k.Repeat = true
starts_statement k.While = true
starts_statement k.With = true
starts_statement x = is_name x

abbrev pub starts_after_designator : Kind → Bool
starts_after_designator k.Open = true
starts_after_designator k.Becomes = true
starts_after_designator x = false

abbrev pub starts_statement_argument_end : Kind → Bool
starts_statement_argument_end k.OpenBracket = true
starts_statement_argument_end k.Dot = true
starts_statement_argument_end k.Becomes = true
starts_statement_argument_end k.Caret = true
starts_statement_argument_end x = false

abbrev pub starts_else_part : Kind → Bool
starts_else_part k.Else = true
starts_else_part x = false

abbrev pub starts_label_end : Kind → Bool
starts_label_end k.Dots = true
starts_label_end x = false

abbrev pub starts_with_rest : Kind → Bool
starts_with_rest k.Do = true
starts_with_rest k.Open = true
starts_with_rest k.Comma = true
starts_with_rest x = false

abbrev pub starts_relation : Kind → Bool
starts_relation x = is_relator x

abbrev pub starts_terms : Kind → Bool
starts_terms x = is_adder x

abbrev pub starts_sign : Kind → Bool
starts_sign x = is_sign x

abbrev pub starts_term : Kind → Bool
starts_term k.Nil = true
starts_term k.Not = true
starts_term k.Open = true
starts_term k.OpenBracket = true
starts_term k.Caret = true
starts_term k.Address = true
starts_term k.Number = true
starts_term k.Text = true
starts_term k.Real = true
starts_term x = is_name x

abbrev pub starts_factors : Kind → Bool
starts_factors k.Slash = true
starts_factors x = is_multiplier x

abbrev pub starts_multiplied : Kind → Bool
starts_multiplied x = is_multiplier x

abbrev pub starts_bare_factor : Kind → Bool
starts_bare_factor k.Nil = true
starts_bare_factor k.Not = true
starts_bare_factor k.OpenBracket = true
starts_bare_factor k.Caret = true
starts_bare_factor k.Address = true
starts_bare_factor k.Number = true
starts_bare_factor k.Text = true
starts_bare_factor k.Real = true
starts_bare_factor x = is_name x

abbrev pub starts_closed_factor : Kind → Bool
starts_closed_factor k.Nil = true
starts_closed_factor k.Not = true
starts_closed_factor k.OpenBracket = true
starts_closed_factor k.Address = true
starts_closed_factor k.Number = true
starts_closed_factor k.Text = true
starts_closed_factor k.Real = true
starts_closed_factor x = false

abbrev pub starts_argument_end : Kind → Bool
starts_argument_end k.OpenBracket = true
starts_argument_end k.Dot = true
starts_argument_end k.Caret = true
starts_argument_end x = false

abbrev pub starts_more_indexes : Kind → Bool
starts_more_indexes k.CloseBracket = true
starts_more_indexes k.Comma = true
starts_more_indexes x = false
