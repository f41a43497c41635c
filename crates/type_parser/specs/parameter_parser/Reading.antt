-- Reading names, parameters and methods from left to right.
use Rattle.std.specs.Prelude.{Bool, true, false, List, [], ◌∷◌, length, Ok}
use Rattle.pascal_grammar.specs.declared.kind.Kind.TheVariants as k
use Rattle.pascal_grammar.specs.declared.lexeme.Lexeme.{Lexeme}
use Rattle.pascal_grammar.specs.Asked as q
use Rattle.pascal_grammar.specs.Lexemes.{front_kind}
use Rattle.pascal_grammar.specs.Productions as p
use Rattle.ll1_grammar.specs.Readers.{◌>>=◌, made, opened}
use Rattle.syntax_tree.specs.Expressions.{Parsed, of}
use Rattle.expression_parser.specs.Gives.{Reads, Inside, ask, name_at}
use Rattle.expression_parser.specs.Reading.{begins, wrong, leaves, list_from, inside}
use Rattle.type_parser.specs.declared.parameter_parser.lookahead.MethodStart.{MethodStart}
use Rattle.type_parser.specs.declared.parameter_parser.lookahead.MethodStart.TheVariants as method
use Rattle.type_parser.specs.parameter_parser.Chains.{ReadsTo, Chain, chain_at}
use Rattle.type_parser.specs.parameter_parser.Starting.{method_start, is_method}

-- ---- names

abbrev pub more_identifiers_at : Reads
more_identifiers_at ts = list_from k.Comma p.no_identifiers p.next_identifier name_at (length ts) ts

unfoldable pub identifiers_at : Reads
identifiers_at ts = made p.identifiers (name_at ∷ more_identifiers_at ∷ []) ts

-- ---- the types of parameters and results

unfoldable pub parameter_type_by : Bool → Bool → Reads
parameter_type_by true f ts = made p.parameter_string (ask (q.mark k.String) ∷ []) ts
parameter_type_by false true ts = leaves p.parameter_file ts
parameter_type_by false false ts = made p.parameter_type_name (name_at ∷ []) ts

abbrev pub parameter_type_at : Reads
parameter_type_at ts = parameter_type_by (begins k.String ts) (begins k.File ts) ts

unfoldable pub result_type_by : Bool → Reads
result_type_by true ts = made p.result_string (ask (q.mark k.String) ∷ []) ts
result_type_by false ts = made p.result_type_name (name_at ∷ []) ts

abbrev pub result_type_at : Reads
result_type_at ts = result_type_by (begins k.String ts) ts

unfoldable pub result_by : Bool → Reads
result_by true ts = made p.result (ask (q.word k.Colon) ∷ result_type_at ∷ []) ts
result_by false ts = Ok (of p.no_result [], ts)

abbrev pub result_at : Reads
result_at ts = result_by (begins k.Colon ts) ts

-- ---- parameters

-- the type behind variable parameters: where there is none they are left out
unfoldable pub group_type_by : Bool → Bool → Reads
group_type_by true c ts = leaves p.untyped_before_group ts
group_type_by false true ts = leaves p.untyped_last ts
group_type_by false false ts = made p.typed_group (ask (q.word k.Colon) ∷ parameter_type_at ∷ []) ts

abbrev pub group_type_at : Reads
group_type_at ts = group_type_by (begins k.Semicolon ts) (begins k.Close ts) ts

unfoldable pub group_by : Bool → Reads
group_by true ts = made p.variable_group (ask (q.mark k.Var) ∷ identifiers_at ∷ group_type_at ∷ []) ts
group_by false ts = made p.value_group (identifiers_at ∷ ask (q.word k.Colon) ∷ parameter_type_at ∷ []) ts

abbrev pub group_at : Reads
group_at ts = group_by (begins k.Var ts) ts

abbrev pub more_groups_at : Reads
more_groups_at ts = list_from k.Semicolon p.no_groups p.next_group group_at (length ts) ts

-- the first group, and those behind it
unfoldable pub group_list_at : ReadsTo (Parsed × Parsed)
group_list_at ts = do
  x ← group_at ts
  xs ← more_groups_at x.1
  Ok ((x.0, xs.0), xs.1)

unfoldable pub parameters_by : Bool → Inside → Reads
parameters_by true b ts = opened p.parameters (λ e l. ask (q.word k.Open) ∷ group_at ∷ more_groups_at ∷ ask (q.word k.Close) ∷ []) b ts
parameters_by false b ts = Ok (of p.no_parameters [], ts)

abbrev pub parameters_at : Inside → Reads
parameters_at b ts = parameters_by (begins k.Open ts) b ts

-- ---- methods

unfoldable pub method_header_by : MethodStart → Inside → Reads
method_header_by method.Procedure b ts = opened p.method_procedure (λ e l. ask (q.mark k.Procedure) ∷ name_at ∷ parameters_at (inside e) ∷ []) b ts
method_header_by method.Function b ts = opened p.method_function (λ e l. ask (q.mark k.Function) ∷ name_at ∷ parameters_at (inside e) ∷ result_at ∷ []) b ts
method_header_by method.Constructor b ts = opened p.method_constructor (λ e l. ask (q.mark k.Constructor) ∷ name_at ∷ parameters_at (inside e) ∷ []) b ts
method_header_by method.Destructor b ts = opened p.method_destructor (λ e l. ask (q.mark k.Destructor) ∷ name_at ∷ parameters_at (inside e) ∷ []) b ts
method_header_by method.Nothing b ts = wrong ts

abbrev pub method_header_at : Inside → Reads
method_header_at b ts = method_header_by (method_start (front_kind ts)) b ts

unfoldable pub virtual_by : Bool → Reads
virtual_by true ts = made p.virtual (ask (q.word k.Virtual) ∷ ask (q.word k.Semicolon) ∷ []) ts
virtual_by false ts = Ok (of p.not_virtual [], ts)

abbrev pub virtual_at : Reads
virtual_at ts = virtual_by (begins k.Virtual ts) ts

-- a method with the semicolon behind it: its header, the semicolon, and whether it is virtual
unfoldable pub method_at : Inside → ReadsTo (Parsed × Parsed × Parsed)
method_at b ts = do
  h ← method_header_at b ts
  w ← ask (q.word k.Semicolon) h.1
  v ← virtual_at w.1
  Ok ((h.0, w.0, v.0), v.1)

abbrev pub begins_method : List Lexeme → Bool
begins_method ts = is_method (method_start (front_kind ts))

abbrev pub methods : Inside → Chain (Parsed × Parsed × Parsed)
methods b = record { follows = begins_method; item = method_at b; join = λ x y. of p.method (x.0 ∷ x.1 ∷ x.2 ∷ y ∷ []); last = λ ts. Ok (of p.no_methods [], ts) }

abbrev pub methods_at : Inside → Reads
methods_at b = chain_at (methods b)
