-- What a lexeme begins, by its kind.
use Rattle.std.specs.Prelude.{Option, Some}
use Rattle.pascal_grammar.specs.declared.kind.Kind.{Kind}
use Rattle.pascal_grammar.specs.declared.kind.Kind.TheVariants as k
use Rattle.tp_parser.specs.declared.heading_parser.lookahead.HeaderStart.{HeaderStart}
use Rattle.tp_parser.specs.declared.heading_parser.lookahead.HeaderStart.TheVariants as start

abbrev pub header_start : Option Kind → HeaderStart
header_start (Some k.Procedure) = start.Procedure
header_start (Some k.Function) = start.Function
header_start h = start.Nothing
