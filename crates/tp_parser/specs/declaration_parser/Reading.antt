-- Reading declarations from left to right.
use Rattle.std.specs.Prelude.{ℕ, zero, suc, Bool, true, false, List, [], ◌∷◌, length, Some, None, Ok, Err}
use Rattle.pascal_grammar.specs.declared.kind.Kind.TheVariants as k
use Rattle.pascal_grammar.specs.declared.lexeme.Lexeme.{Lexeme}
use Rattle.pascal_grammar.specs.Asked as q
use Rattle.pascal_grammar.specs.Lexemes.{front_kind}
use Rattle.pascal_grammar.specs.Parts.{Part}
use Rattle.pascal_grammar.specs.Parts as n
use Rattle.pascal_grammar.specs.Productions.{Production}
use Rattle.pascal_grammar.specs.Productions as p
use Rattle.ll1_grammar.specs.Readers.{Syntax, LeftOut, ◌>>=◌, made, opened}
use Rattle.syntax_tree.specs.Expressions.{Parsed, of}
use Rattle.syntax_tree.specs.source_tree.Declarations.{Words, in_block, words_of}
use Rattle.expression_parser.specs.Gives.{Reads, Inside, ask, name_at}
use Rattle.expression_parser.specs.Starting.{names}
use Rattle.expression_parser.specs.Reading.{begins, wrong, leaves, inside, simple_at}
use Rattle.type_parser.specs.parameter_parser.Reading.{identifiers_at, parameters_at, result_at}
use Rattle.type_parser.specs.Reading.{type_at, typed_inside}
use Rattle.type_parser.specs.initializer_parser.Reading.{initializer_at, valued_inside}
use Rattle.type_parser.specs.parameter_parser.Chains.{ReadsTo, Chain, chain_at}
use Rattle.expression_parser.specs.statement_parser.Reading.{whole_compound_at}
use Rattle.tp_parser.specs.declared.declaration_parser.lookahead.PartStart.{PartStart}
use Rattle.tp_parser.specs.declared.declaration_parser.lookahead.PartStart.TheVariants as part
use Rattle.tp_parser.specs.declared.declaration_parser.lookahead.DeclarationStart.{DeclarationStart}
use Rattle.tp_parser.specs.declared.declaration_parser.lookahead.DeclarationStart.TheVariants as start
use Rattle.tp_parser.specs.declared.declaration_parser.lookahead.BehindRoutineName.{BehindRoutineName}
use Rattle.tp_parser.specs.declared.declaration_parser.lookahead.BehindRoutineName.TheVariants as behind
use Rattle.tp_parser.specs.declared.declaration_parser.lookahead.BodyStart.{BodyStart}
use Rattle.tp_parser.specs.declared.declaration_parser.lookahead.BodyStart.TheVariants as body
use Rattle.tp_parser.specs.declaration_parser.Starting.{declaration_start, behind_procedure, behind_function, body_start}

-- ---- constants, types and variables

abbrev pub denoter_at : ℕ → Reads
denoter_at d ts = type_at d (typed_inside d) ts

abbrev pub first_value_at : ℕ → Reads
first_value_at d ts = initializer_at d (valued_inside d) ts

unfoldable pub constant_value_by : Bool → ℕ → Reads
constant_value_by true d ts = made p.typed_constant (ask (q.word k.Colon) ∷ denoter_at d ∷ ask (q.word k.Equal) ∷ first_value_at d ∷ ask (q.word k.Semicolon) ∷ []) ts
constant_value_by false d ts = made p.plain_constant (ask (q.word k.Equal) ∷ simple_at (inside d) ∷ ask (q.word k.Semicolon) ∷ []) ts

abbrev pub constant_value_at : ℕ → Reads
constant_value_at d ts = constant_value_by (begins k.Colon ts) d ts

unfoldable pub constant_at : ℕ → Reads
constant_at d ts = made p.constant (name_at ∷ constant_value_at d ∷ []) ts

unfoldable pub type_declaration_at : ℕ → Reads
type_declaration_at d ts = made p.type_declaration (name_at ∷ ask (q.word k.Equal) ∷ denoter_at d ∷ ask (q.word k.Semicolon) ∷ []) ts

unfoldable pub variable_end_by : Bool → Reads
variable_end_by true ts = leaves p.absolute ts
variable_end_by false ts = Ok (of p.no_address [], ts)

abbrev pub variable_end_at : Reads
variable_end_at ts = variable_end_by (begins k.Absolute ts) ts

unfoldable pub variable_at : ℕ → Reads
variable_at d ts = made p.variable (identifiers_at ∷ ask (q.word k.Colon) ∷ denoter_at d ∷ variable_end_at ∷ ask (q.word k.Semicolon) ∷ []) ts

-- whether a name stands in front
abbrev pub is_named : List Lexeme → Bool
is_named ts = names (front_kind ts)

-- items with nothing between them, as long as a name stands in front
abbrev pub listed : Production → Production → Reads → Chain Parsed
listed next none item = record { follows = is_named; item = item; join = λ x y. of next (x ∷ y ∷ []); last = λ ts. Ok (of none [], ts) }

abbrev pub more_constants : ℕ → Chain Parsed
more_constants d = listed p.next_constant p.no_constants (constant_at d)

abbrev pub more_types : ℕ → Chain Parsed
more_types d = listed p.next_type p.no_types (type_declaration_at d)

abbrev pub more_variables : ℕ → Chain Parsed
more_variables d = listed p.next_variable p.no_variables (variable_at d)

-- the first item, and those behind it
abbrev pub items_at : Reads → Chain Parsed → ReadsTo (Parsed × Parsed)
items_at item more ts = do
  x ← item ts
  xs ← chain_at more x.1
  Ok ((x.0, xs.0), xs.1)

unfoldable pub constants_at : ℕ → ReadsTo (Parsed × Parsed)
constants_at d ts = items_at (constant_at d) (more_constants d) ts

unfoldable pub types_at : ℕ → ReadsTo (Parsed × Parsed)
types_at d ts = items_at (type_declaration_at d) (more_types d) ts

unfoldable pub variables_at : ℕ → ReadsTo (Parsed × Parsed)
variables_at d ts = items_at (variable_at d) (more_variables d) ts

-- ---- A declaration is read as what it makes of those behind it.

-- a word and what it declares
abbrev pub worded : Production → Reads → ReadsTo (Parsed × Parsed) → ReadsTo (Parsed → Parsed)
worded x asks items ts = do
  here ← asks ts
  all ← items here.1
  Ok ((λ more. words_of x here.0 all.0 more), all.1)

unfoldable pub part_by : Words → PartStart → ℕ → ReadsTo (Parsed → Parsed)
part_by w part.Constants d ts = worded w.constants (ask (q.mark k.Const)) (constants_at d) ts
part_by w part.Types d ts = worded w.types (ask (q.mark k.Type)) (types_at d) ts
part_by w part.Variables d ts = worded w.variables (ask (q.mark k.Var)) (variables_at d) ts

abbrev pub routine_then : Reads → ReadsTo (Parsed → Parsed)
routine_then read ts = do
  x ← read ts
  Ok ((λ more. of p.routines (x.0 ∷ more ∷ [])), x.1)

-- ---- routines. What is open may hold the readers of one construct less; declarations are read by the reader that is given.

unfoldable pub block_at : ℕ → Reads → Reads
block_at d declarations ts = made p.block (declarations ∷ whole_compound_at d ∷ []) ts

unfoldable pub body_by : BodyStart → ℕ → Reads → Reads
body_by body.Forward d declarations ts = made p.forward (ask (q.word k.Forward) ∷ ask (q.word k.Semicolon) ∷ []) ts
body_by body.External d declarations ts = leaves p.external ts
body_by body.Interrupt d declarations ts = leaves p.interrupt ts
body_by body.Inline d declarations ts = leaves p.inline_body ts
body_by body.Block d declarations ts = made p.own_block (block_at d declarations ∷ ask (q.word k.Semicolon) ∷ []) ts

abbrev pub body_at : ℕ → Reads → Reads
body_at d declarations ts = body_by (body_start (front_kind ts)) d declarations ts

unfoldable pub procedure_rest_by : BehindRoutineName → ℕ → Reads → Reads
procedure_rest_by behind.Dot d declarations ts = made p.procedure_method (ask (q.word k.Dot) ∷ name_at ∷ parameters_at (inside d) ∷ ask (q.word k.Semicolon) ∷ block_at d declarations ∷ ask (q.word k.Semicolon) ∷ []) ts
procedure_rest_by behind.Header d declarations ts = made p.plain_procedure (parameters_at (inside d) ∷ ask (q.word k.Semicolon) ∷ body_at d declarations ∷ []) ts
procedure_rest_by behind.Nothing d declarations ts = wrong ts

abbrev pub procedure_rest_at : ℕ → Reads → Reads
procedure_rest_at d declarations ts = procedure_rest_by (behind_procedure (front_kind ts)) d declarations ts

unfoldable pub function_rest_by : BehindRoutineName → ℕ → Reads → Reads
function_rest_by behind.Dot d declarations ts = made p.function_method (ask (q.word k.Dot) ∷ name_at ∷ parameters_at (inside d) ∷ result_at ∷ ask (q.word k.Semicolon) ∷ block_at d declarations ∷ ask (q.word k.Semicolon) ∷ []) ts
function_rest_by behind.Header d declarations ts = made p.plain_function (parameters_at (inside d) ∷ result_at ∷ ask (q.word k.Semicolon) ∷ body_at d declarations ∷ []) ts
function_rest_by behind.Nothing d declarations ts = wrong ts

abbrev pub function_rest_at : ℕ → Reads → Reads
function_rest_at d declarations ts = function_rest_by (behind_function (front_kind ts)) d declarations ts

unfoldable pub procedure_at : Inside → Reads
procedure_at b ts = opened p.procedure (λ e l. ask (q.mark k.Procedure) ∷ name_at ∷ l n.procedure_rest ∷ []) b ts

unfoldable pub function_at : Inside → Reads
function_at b ts = opened p.function (λ e l. ask (q.mark k.Function) ∷ name_at ∷ l n.function_rest ∷ []) b ts

unfoldable pub constructor_at : Inside → Reads
constructor_at b ts = opened p.constructor (λ e l. ask (q.mark k.Constructor) ∷ name_at ∷ ask (q.word k.Dot) ∷ name_at ∷ l n.parameters ∷ ask (q.word k.Semicolon) ∷ l n.block ∷ ask (q.word k.Semicolon) ∷ []) b ts

unfoldable pub destructor_at : Inside → Reads
destructor_at b ts = opened p.destructor (λ e l. ask (q.mark k.Destructor) ∷ name_at ∷ ask (q.word k.Dot) ∷ name_at ∷ l n.parameters ∷ ask (q.word k.Semicolon) ∷ l n.block ∷ ask (q.word k.Semicolon) ∷ []) b ts

-- ---- declarations

unfoldable pub declaration_by : DeclarationStart → ℕ → Inside → ReadsTo (Parsed → Parsed)
declaration_by (start.Part s) d b ts = part_by in_block s d ts
declaration_by start.Procedure d b ts = routine_then (procedure_at b) ts
declaration_by start.Function d b ts = routine_then (function_at b) ts
declaration_by start.Constructor d b ts = routine_then (constructor_at b) ts
declaration_by start.Destructor d b ts = routine_then (destructor_at b) ts
declaration_by start.Label d b ts = Err (LeftOut p.labels (length ts))
declaration_by start.Nothing d b ts = Err (Syntax (length ts))

abbrev pub declaration_at : ℕ → Inside → ReadsTo (Parsed → Parsed)
declaration_at d b ts = declaration_by (declaration_start (front_kind ts)) d b ts

-- whether a declaration is begun, be it one that is left out
abbrev pub declares : DeclarationStart → Bool
declares start.Nothing = false
declares s = true

abbrev pub begins_declaration : List Lexeme → Bool
begins_declaration ts = declares (declaration_start (front_kind ts))

abbrev pub declarations : ℕ → Inside → Chain (Parsed → Parsed)
declarations d b = record { follows = begins_declaration; item = declaration_at d b; join = λ x y. x y; last = λ ts. Ok (of p.no_declarations [], ts) }

abbrev pub declarations_at : ℕ → Inside → Reads
declarations_at d b ts = chain_at (declarations d b) ts

-- what may stand in a routine
abbrev pub routine_parts : ℕ → Inside → Part → Reads
routine_parts d b n.parameters = parameters_at (inside d)
routine_parts d b n.block = block_at d (declarations_at d b)
routine_parts d b n.procedure_rest = procedure_rest_at d (declarations_at d b)
routine_parts d b n.function_rest = function_rest_at d (declarations_at d b)
routine_parts d b m = wrong

-- the readers of what may hold fewer constructs
unfoldable pub nested : ℕ → Inside
nested zero = None
nested (suc d) = Some (d, routine_parts d (nested d))
