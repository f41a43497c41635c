-- Reading sources from left to right.
use Rattle.std.specs.Prelude.{ℕ, Bool, true, false, List, [], ◌∷◌, length, Ok, Err}
use Rattle.pascal_grammar.specs.declared.kind.Kind.TheVariants as k
use Rattle.pascal_grammar.specs.declared.lexeme.Lexeme.{Lexeme}
use Rattle.pascal_grammar.specs.Asked as q
use Rattle.pascal_grammar.specs.Lexemes.{front_kind}
use Rattle.pascal_grammar.specs.Productions as p
use Rattle.ll1_grammar.specs.Readers.{Syntax, ◌>>=◌, made}
use Rattle.syntax_tree.specs.Expressions.{Parsed, of}
use Rattle.syntax_tree.specs.source_tree.Declarations.{in_interface}
use Rattle.expression_parser.specs.Gives.{Reads, ask, name_at}
use Rattle.expression_parser.specs.Reading.{begins, leaves, inside}
use Rattle.type_parser.specs.parameter_parser.Chains.{ReadsTo, Chain, chain_at}
use Rattle.expression_parser.specs.statement_parser.Reading.{whole_compound_at}
use Rattle.tp_parser.specs.heading_parser.Reading.{uses_at, heading_at, header_at}
use Rattle.tp_parser.specs.declaration_parser.Reading.{part_by, declarations_at, nested}
use Rattle.tp_parser.specs.declared.lookahead.InterfaceStart.{InterfaceStart}
use Rattle.tp_parser.specs.declared.lookahead.InterfaceStart.TheVariants as item
use Rattle.tp_parser.specs.declared.lookahead.DirectiveStart.{DirectiveStart}
use Rattle.tp_parser.specs.declared.lookahead.DirectiveStart.TheVariants as directive
use Rattle.tp_parser.specs.Starting.{interface_start, directive_start}

-- ---- the interface part, of which a declaration is read as what it makes of those behind it

unfoldable pub directive_by : DirectiveStart → Reads
directive_by directive.External ts = leaves p.interface_external ts
directive_by directive.Interrupt ts = leaves p.interface_interrupt ts
directive_by directive.Inline ts = leaves p.interface_inline ts
directive_by directive.Nothing ts = Ok (of p.no_directive [], ts)

abbrev pub directive_at : Reads
directive_at ts = directive_by (directive_start (front_kind ts)) ts

-- a header with the semicolon behind it
abbrev pub header_then : ℕ → ReadsTo (Parsed → Parsed)
header_then d ts = do
  h ← header_at (inside d) ts
  w ← ask (q.word k.Semicolon) h.1
  x ← directive_at w.1
  Ok ((λ more. of p.interface_header (h.0 ∷ w.0 ∷ x.0 ∷ more ∷ [])), x.1)

unfoldable pub interface_by : InterfaceStart → ℕ → ReadsTo (Parsed → Parsed)
interface_by (item.Part s) d ts = part_by in_interface s d ts
interface_by item.Header d ts = header_then d ts
interface_by item.Nothing d ts = Err (Syntax (length ts))

-- what the first lexeme declares
abbrev pub declared_at : ℕ → ReadsTo (Parsed → Parsed)
declared_at d ts = interface_by (interface_start (front_kind ts)) d ts

abbrev pub offers : InterfaceStart → Bool
offers item.Nothing = false
offers x = true

abbrev pub begins_interface : List Lexeme → Bool
begins_interface ts = offers (interface_start (front_kind ts))

abbrev pub interface : ℕ → Chain (Parsed → Parsed)
interface d = record { follows = begins_interface; item = declared_at d; join = λ x y. x y; last = λ ts. Ok (of p.no_interface [], ts) }

abbrev pub interface_at : ℕ → Reads
interface_at d ts = chain_at (interface d) ts

-- ---- sources

unfoldable pub unit_body_by : Bool → ℕ → Reads
unit_body_by true d ts = made p.no_body (ask (q.word k.End) ∷ []) ts
unit_body_by false d ts = made p.initialization (whole_compound_at d ∷ []) ts

abbrev pub unit_body_at : ℕ → Reads
unit_body_at d ts = unit_body_by (begins k.End ts) d ts

unfoldable pub source_by : Bool → ℕ → Reads
source_by true d ts = made p.unit (ask (q.mark k.Unit) ∷ name_at ∷ ask (q.word k.Semicolon) ∷ ask (q.word k.Interface) ∷ uses_at ∷ interface_at d ∷ ask (q.word k.Implementation) ∷ uses_at ∷ declarations_at d (nested d) ∷ unit_body_at d ∷ ask (q.word k.Dot) ∷ []) ts
source_by false d ts = made p.program (heading_at (inside d) ∷ uses_at ∷ declarations_at d (nested d) ∷ whole_compound_at d ∷ ask (q.word k.Dot) ∷ []) ts

abbrev pub source_at : ℕ → Reads
source_at d ts = source_by (begins k.Unit ts) d ts
