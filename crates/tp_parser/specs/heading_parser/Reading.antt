-- Reading uses clauses and headings from left to right.
use Rattle.std.specs.Prelude.{Bool, true, false, [], ◌∷◌, Ok}
use Rattle.pascal_grammar.specs.declared.kind.Kind.TheVariants as k
use Rattle.pascal_grammar.specs.Asked as q
use Rattle.pascal_grammar.specs.Lexemes.{front_kind}
use Rattle.pascal_grammar.specs.Productions as p
use Rattle.ll1_grammar.specs.Readers.{made, opened}
use Rattle.syntax_tree.specs.Expressions.{of}
use Rattle.expression_parser.specs.Gives.{Reads, Inside, ask, name_at}
use Rattle.expression_parser.specs.Reading.{begins, wrong, inside}
use Rattle.type_parser.specs.parameter_parser.Reading.{identifiers_at, parameters_at, result_at}
use Rattle.tp_parser.specs.declared.heading_parser.lookahead.HeaderStart.{HeaderStart}
use Rattle.tp_parser.specs.declared.heading_parser.lookahead.HeaderStart.TheVariants as start
use Rattle.tp_parser.specs.heading_parser.Starting.{header_start}

unfoldable pub uses_by : Bool → Reads
uses_by true ts = made p.uses_clause (ask (q.word k.Uses) ∷ identifiers_at ∷ ask (q.word k.Semicolon) ∷ []) ts
uses_by false ts = Ok (of p.no_uses [], ts)

abbrev pub uses_at : Reads
uses_at ts = uses_by (begins k.Uses ts) ts

-- ---- what is open may hold the readers of one construct less

unfoldable pub files_by : Bool → Inside → Reads
files_by true b ts = opened p.files (λ e l. ask (q.word k.Open) ∷ identifiers_at ∷ ask (q.word k.Close) ∷ []) b ts
files_by false b ts = Ok (of p.no_files [], ts)

abbrev pub files_at : Inside → Reads
files_at b ts = files_by (begins k.Open ts) b ts

unfoldable pub heading_by : Bool → Inside → Reads
heading_by true b ts = made p.headed (ask (q.mark k.Program) ∷ name_at ∷ files_at b ∷ ask (q.word k.Semicolon) ∷ []) ts
heading_by false b ts = Ok (of p.headless [], ts)

abbrev pub heading_at : Inside → Reads
heading_at b ts = heading_by (begins k.Program ts) b ts

unfoldable pub header_by : HeaderStart → Inside → Reads
header_by start.Procedure b ts = opened p.procedure_header (λ e l. ask (q.mark k.Procedure) ∷ name_at ∷ parameters_at (inside e) ∷ []) b ts
header_by start.Function b ts = opened p.function_header (λ e l. ask (q.mark k.Function) ∷ name_at ∷ parameters_at (inside e) ∷ result_at ∷ []) b ts
header_by start.Nothing b ts = wrong ts

abbrev pub header_at : Inside → Reads
header_at b ts = header_by (header_start (front_kind ts)) b ts
