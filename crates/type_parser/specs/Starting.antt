-- What a lexeme begins, by its kind.
use Rattle.std.specs.Prelude.{Bool, false, ◌||◌, if◌then◌else◌, Option, Some, None}
use Rattle.pascal_grammar.specs.declared.kind.Kind.{Kind}
use Rattle.pascal_grammar.specs.declared.kind.Kind.TheVariants as k
use Rattle.pascal_grammar.specs.Asked.{is_adder, is_multiplier}
use Rattle.expression_parser.specs.Starting.{names}
use Rattle.type_parser.specs.declared.lookahead.TypeStart.{TypeStart}
use Rattle.type_parser.specs.declared.lookahead.TypeStart.TheVariants as t
use Rattle.type_parser.specs.declared.lookahead.StructuredStart.{StructuredStart}
use Rattle.type_parser.specs.declared.lookahead.StructuredStart.TheVariants as s
use Rattle.type_parser.specs.declared.lookahead.BehindName.{BehindName}
use Rattle.type_parser.specs.declared.lookahead.BehindName.TheVariants as b

abbrev pub type_start : Option Kind → TypeStart
type_start (Some k.Caret) = t.Caret
type_start (Some k.String) = t.String
type_start (Some k.Open) = t.Enumeration
type_start (Some k.Procedure) = t.Procedure
type_start (Some k.Function) = t.Function
type_start (Some k.Object) = t.Object
type_start (Some k.Packed) = t.Packed
type_start (Some k.Array) = t.Structured
type_start (Some k.Record) = t.Structured
type_start (Some k.Set) = t.Structured
type_start (Some k.File) = t.File
type_start h = if names h then t.Name else t.Range

abbrev pub structured_start : Option Kind → StructuredStart
structured_start (Some k.Array) = s.Array
structured_start (Some k.Record) = s.Record
structured_start (Some k.Set) = s.Set
structured_start h = s.Nothing

-- an operator between factors or between terms
abbrev pub operates : Option Kind → Bool
operates None = false
operates (Some x) = is_adder x || is_multiplier x

abbrev pub behind_caret : Option Kind → BehindName
behind_caret (Some k.Dots) = b.Range
behind_caret (Some k.Slash) = b.Quotient
behind_caret h = if operates h then b.Range else b.Nothing

abbrev pub behind_name : Option Kind → BehindName
behind_name (Some k.OpenBracket) = b.Range
behind_name (Some k.Dot) = b.Range
behind_name (Some k.Caret) = b.Range
behind_name (Some k.Open) = b.Range
behind_name h = behind_caret h
