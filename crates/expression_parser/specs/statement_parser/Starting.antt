-- What a lexeme begins, by its kind.
use Rattle.std.specs.Prelude.{Bool, true, false, if◌then◌else◌, Option, Some}
use Rattle.pascal_grammar.specs.declared.kind.Kind.{Kind}
use Rattle.pascal_grammar.specs.declared.kind.Kind.TheVariants as k
use Rattle.expression_parser.specs.Starting.{names}
use Rattle.expression_parser.specs.declared.statement_parser.lookahead.StatementStart.{StatementStart}
use Rattle.expression_parser.specs.declared.statement_parser.lookahead.StatementStart.TheVariants as s
use Rattle.expression_parser.specs.declared.statement_parser.lookahead.BehindDesignator.{BehindDesignator}
use Rattle.expression_parser.specs.declared.statement_parser.lookahead.BehindDesignator.TheVariants as d
use Rattle.expression_parser.specs.declared.statement_parser.lookahead.BehindArguments.{BehindArguments}
use Rattle.expression_parser.specs.declared.statement_parser.lookahead.BehindArguments.TheVariants as a
use Rattle.expression_parser.specs.declared.statement_parser.lookahead.BehindWith.{BehindWith}
use Rattle.expression_parser.specs.declared.statement_parser.lookahead.BehindWith.TheVariants as w

abbrev pub statement_start : Option Kind → StatementStart
statement_start (Some k.Begin) = s.Compound
statement_start (Some k.If) = s.If
statement_start (Some k.Case) = s.Case
statement_start (Some k.While) = s.While
statement_start (Some k.Repeat) = s.Repeat
statement_start (Some k.For) = s.For
statement_start (Some k.With) = s.With
statement_start (Some k.Goto) = s.Goto
statement_start (Some k.Inline) = s.Inline
statement_start h = if names h then s.Named else s.Nothing

abbrev pub behind_designator : Option Kind → BehindDesignator
behind_designator (Some k.Becomes) = d.Becomes
behind_designator (Some k.Open) = d.Arguments
behind_designator h = d.Nothing

abbrev pub behind_arguments : Option Kind → BehindArguments
behind_arguments (Some k.Becomes) = a.Becomes
behind_arguments (Some k.Caret) = a.Caret
behind_arguments (Some k.Dot) = a.Dot
behind_arguments (Some k.OpenBracket) = a.Bracket
behind_arguments h = a.Nothing

abbrev pub behind_with : Option Kind → BehindWith
behind_with (Some k.Comma) = w.Comma
behind_with (Some k.Open) = w.Cast
behind_with h = w.Do

-- whether no arm of a `case` begins so
abbrev pub ends_arms : Option Kind → Bool
ends_arms (Some k.Else) = true
ends_arms (Some k.End) = true
ends_arms h = false
