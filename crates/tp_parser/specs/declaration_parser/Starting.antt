-- What a lexeme begins, by its kind.
use Rattle.std.specs.Prelude.{Option, Some}
use Rattle.pascal_grammar.specs.declared.kind.Kind.{Kind}
use Rattle.pascal_grammar.specs.declared.kind.Kind.TheVariants as k
use Rattle.tp_parser.specs.declared.declaration_parser.lookahead.PartStart.TheVariants as p
use Rattle.tp_parser.specs.declared.declaration_parser.lookahead.DeclarationStart.{DeclarationStart}
use Rattle.tp_parser.specs.declared.declaration_parser.lookahead.DeclarationStart.TheVariants as d
use Rattle.tp_parser.specs.declared.declaration_parser.lookahead.BehindRoutineName.{BehindRoutineName}
use Rattle.tp_parser.specs.declared.declaration_parser.lookahead.BehindRoutineName.TheVariants as n
use Rattle.tp_parser.specs.declared.declaration_parser.lookahead.BodyStart.{BodyStart}
use Rattle.tp_parser.specs.declared.declaration_parser.lookahead.BodyStart.TheVariants as b

abbrev pub declaration_start : Option Kind → DeclarationStart
declaration_start (Some k.Const) = d.Part p.Constants
declaration_start (Some k.Type) = d.Part p.Types
declaration_start (Some k.Var) = d.Part p.Variables
declaration_start (Some k.Procedure) = d.Procedure
declaration_start (Some k.Function) = d.Function
declaration_start (Some k.Constructor) = d.Constructor
declaration_start (Some k.Destructor) = d.Destructor
declaration_start (Some k.Label) = d.Label
declaration_start h = d.Nothing

-- what stands behind the name of a procedure, and of a function
abbrev pub behind_procedure : Option Kind → BehindRoutineName
behind_procedure (Some k.Dot) = n.Dot
behind_procedure (Some k.Open) = n.Header
behind_procedure (Some k.Semicolon) = n.Header
behind_procedure h = n.Nothing

abbrev pub behind_function : Option Kind → BehindRoutineName
behind_function (Some k.Dot) = n.Dot
behind_function (Some k.Open) = n.Header
behind_function (Some k.Semicolon) = n.Header
behind_function (Some k.Colon) = n.Header
behind_function h = n.Nothing

-- what stands behind the semicolon of a routine's header
abbrev pub body_start : Option Kind → BodyStart
body_start (Some k.Forward) = b.Forward
body_start (Some k.External) = b.External
body_start (Some k.Interrupt) = b.Interrupt
body_start (Some k.Inline) = b.Inline
body_start h = b.Block
