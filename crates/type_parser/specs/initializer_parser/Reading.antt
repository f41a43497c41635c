-- Reading first values from left to right.
use Rattle.std.specs.Prelude.{ℕ, zero, suc, Bool, true, false, ◌&&◌, List, [], ◌∷◌, length, Some, None, Ok}
use Rattle.pascal_grammar.specs.declared.kind.Kind.TheVariants as k
use Rattle.pascal_grammar.specs.declared.lexeme.Lexeme.{Lexeme}
use Rattle.pascal_grammar.specs.Asked as q
use Rattle.pascal_grammar.specs.Lexemes.{front_kind}
use Rattle.pascal_grammar.specs.Parts.{Part}
use Rattle.pascal_grammar.specs.Parts as n
use Rattle.pascal_grammar.specs.Productions as p
use Rattle.ll1_grammar.specs.Readers.{◌>>=◌, made, opened}
use Rattle.syntax_tree.specs.Expressions.{Parsed, of, word}
use Rattle.syntax_tree.specs.type_tree.Regrouped.{value_of, first_value}
use Rattle.expression_parser.specs.Gives.{Reads, Inside, ask, name_at}
use Rattle.expression_parser.specs.Starting.{names}
use Rattle.expression_parser.specs.Reading.{begins, tail_of, wrong, list_from, inside, simple_at}
use Rattle.type_parser.specs.parameter_parser.Chains.{ReadsTo, Chain, chain_at}

-- a value that is no list
unfoldable pub value_at : ℕ → Reads
value_at d ts = do
  i ← simple_at (inside d) ts
  Ok (value_of i.0, i.1)

-- a field's name, a colon and its value, which is read by the reader that is given
unfoldable pub field_value_at : Reads → ReadsTo (Parsed × Parsed × Parsed)
field_value_at initializer_at ts = do
  i ← name_at ts
  w ← ask (q.word k.Colon) i.1
  x ← initializer_at w.1
  Ok ((i.0, w.0, x.0), x.1)

abbrev pub more_field_values : Reads → Chain (Parsed × Parsed × Parsed)
more_field_values initializer_at = record { follows = begins k.Semicolon; item = λ ts. field_value_at initializer_at (tail_of ts); join = λ x y. of p.next_field_value (word ∷ x.0 ∷ x.1 ∷ x.2 ∷ y ∷ []); last = λ ts. Ok (of p.no_field_values [], ts) }

-- the first field with its value, and those behind it
unfoldable pub field_list_at : Reads → ReadsTo ((Parsed × Parsed × Parsed) × Parsed)
field_list_at initializer_at ts = do
  x ← field_value_at initializer_at ts
  y ← chain_at (more_field_values initializer_at) x.1
  Ok ((x.0, y.0), y.1)

-- values of fields, and the parenthesis behind them
unfoldable pub field_values_at : Reads → Reads
field_values_at initializer_at ts = do
  x ← field_list_at initializer_at ts
  w ← ask (q.word k.Close) x.1
  Ok (of p.begins_with_name (x.0.0.0 ∷ of p.field_values (x.0.0.1 ∷ x.0.0.2 ∷ x.0.1 ∷ w.0 ∷ []) ∷ []), w.1)

abbrev pub more_values_at : Reads → Reads
more_values_at initializer_at ts = list_from k.Comma p.no_initializers p.next_initializer initializer_at (length ts) ts

-- the first value, and those behind it
unfoldable pub value_list_at : Reads → ReadsTo (Parsed × Parsed)
value_list_at initializer_at ts = do
  x ← initializer_at ts
  xs ← more_values_at initializer_at x.1
  Ok ((x.0, xs.0), xs.1)

-- values, and the parenthesis behind them
unfoldable pub values_at : Reads → Reads
values_at initializer_at ts = do
  x ← value_list_at initializer_at ts
  w ← ask (q.word k.Close) x.1
  Ok (first_value x.0.0 x.0.1 w.0, w.1)

-- by the first two lexemes: a name with a colon behind it begins values of fields
abbrev pub begins_field : List Lexeme → Bool
begins_field ts = names (front_kind ts) && begins k.Colon (tail_of ts)

unfoldable pub items_by : Bool → Reads → Reads
items_by true initializer_at ts = field_values_at initializer_at ts
items_by false initializer_at ts = values_at initializer_at ts

abbrev pub items_at : Reads → Reads
items_at initializer_at ts = items_by (begins_field ts) initializer_at ts

unfoldable pub list_at : Inside → Reads
list_at b ts = made p.list (opened p.initializer_list (λ e l. ask (q.mark k.Open) ∷ l n.list_items ∷ []) b ∷ []) ts

unfoldable pub initializer_by : Bool → ℕ → Inside → Reads
initializer_by true d b ts = list_at b ts
initializer_by false d b ts = value_at d ts

abbrev pub initializer_at : ℕ → Inside → Reads
initializer_at d b ts = initializer_by (begins k.Open ts) d b ts

-- what may stand in a construct of first values, where d more may be open
abbrev pub value_parts : ℕ → Inside → Part → Reads
value_parts d b n.list_items = items_at (initializer_at d b)
value_parts d b m = wrong

-- the readers of what may hold fewer constructs
unfoldable pub valued_inside : ℕ → Inside
valued_inside zero = None
valued_inside (suc d) = Some (d, value_parts d (valued_inside d))
