-- What a lexeme begins, by its kind.
use Rattle.std.specs.Prelude.{Bool, true, false, if◌then◌else◌, Option, Some, None}
use Rattle.pascal_grammar.specs.declared.kind.Kind.{Kind}
use Rattle.pascal_grammar.specs.declared.kind.Kind.TheVariants as k
use Rattle.pascal_grammar.specs.Asked.{is_name}
use Rattle.expression_parser.specs.declared.lookahead.SelectorStart.{SelectorStart}
use Rattle.expression_parser.specs.declared.lookahead.SelectorStart.TheVariants as s
use Rattle.expression_parser.specs.declared.lookahead.FactorStart.{FactorStart}
use Rattle.expression_parser.specs.declared.lookahead.FactorStart.TheVariants as f
use Rattle.expression_parser.specs.declared.lookahead.ClosedStart.{ClosedStart}
use Rattle.expression_parser.specs.declared.lookahead.ClosedStart.TheVariants as c
use Rattle.expression_parser.specs.declared.lookahead.PlainStart.{PlainStart}
use Rattle.expression_parser.specs.declared.lookahead.PlainStart.TheVariants as l

abbrev pub selector_start : Option Kind → Option SelectorStart
selector_start (Some k.Dot) = Some s.Field
selector_start (Some k.OpenBracket) = Some s.Index
selector_start (Some k.Caret) = Some s.Dereference
selector_start h = None

abbrev pub names : Option Kind → Bool
names None = false
names (Some x) = is_name x

abbrev pub factor_start : Option Kind → FactorStart
factor_start (Some k.Open) = f.Group
factor_start (Some k.Caret) = f.Control
factor_start h = if names h then f.Named else f.Closed

abbrev pub closed_start : Option Kind → ClosedStart
closed_start (Some k.Not) = c.Negation
closed_start (Some k.OpenBracket) = c.Set
closed_start h = c.Plain

abbrev pub plain_start : Option Kind → PlainStart
plain_start (Some k.Number) = l.Number
plain_start (Some k.Text) = l.Text
plain_start (Some k.Nil) = l.Nil
plain_start (Some k.Real) = l.Real
plain_start (Some k.Address) = l.Address
plain_start h = l.Nothing
