-- What a lexeme begins, by its kind.
use Rattle.std.specs.Prelude.{Bool, true, false, Option, Some}
use Rattle.pascal_grammar.specs.declared.kind.Kind.{Kind}
use Rattle.pascal_grammar.specs.declared.kind.Kind.TheVariants as k
use Rattle.type_parser.specs.declared.parameter_parser.lookahead.MethodStart.{MethodStart}
use Rattle.type_parser.specs.declared.parameter_parser.lookahead.MethodStart.TheVariants as m

abbrev pub method_start : Option Kind → MethodStart
method_start (Some k.Procedure) = m.Procedure
method_start (Some k.Function) = m.Function
method_start (Some k.Constructor) = m.Constructor
method_start (Some k.Destructor) = m.Destructor
method_start h = m.Nothing

abbrev pub is_method : MethodStart → Bool
is_method m.Nothing = false
is_method x = true
