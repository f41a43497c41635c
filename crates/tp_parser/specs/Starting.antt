-- What a lexeme begins, by its kind.
use Rattle.std.specs.Prelude.{Option, Some}
use Rattle.pascal_grammar.specs.declared.kind.Kind.{Kind}
use Rattle.pascal_grammar.specs.declared.kind.Kind.TheVariants as k
use Rattle.tp_parser.specs.declared.declaration_parser.lookahead.PartStart.TheVariants as part
use Rattle.tp_parser.specs.declared.lookahead.InterfaceStart.{InterfaceStart}
use Rattle.tp_parser.specs.declared.lookahead.InterfaceStart.TheVariants as item
use Rattle.tp_parser.specs.declared.lookahead.DirectiveStart.{DirectiveStart}
use Rattle.tp_parser.specs.declared.lookahead.DirectiveStart.TheVariants as directive

abbrev pub interface_start : Option Kind → InterfaceStart
interface_start (Some k.Const) = item.Part part.Constants
interface_start (Some k.Type) = item.Part part.Types
interface_start (Some k.Var) = item.Part part.Variables
interface_start (Some k.Procedure) = item.Header
interface_start (Some k.Function) = item.Header
interface_start h = item.Nothing

-- what stands behind the semicolon of a header
abbrev pub directive_start : Option Kind → DirectiveStart
directive_start (Some k.External) = directive.External
directive_start (Some k.Interrupt) = directive.Interrupt
directive_start (Some k.Inline) = directive.Inline
directive_start h = directive.Nothing
