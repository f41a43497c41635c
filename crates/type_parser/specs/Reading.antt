-- Reading types from left to right.
use Rattle.std.specs.Prelude.{ℕ, zero, suc, Bool, true, false, ◌&&◌, if◌then◌else◌, List, [], ◌∷◌, length, Some, None, Ok}
use Rattle.pascal_grammar.specs.declared.kind.Kind.TheVariants as k
use Rattle.pascal_grammar.specs.declared.lexeme.Lexeme.{Lexeme}
use Rattle.pascal_grammar.specs.Asked as q
use Rattle.pascal_grammar.specs.Lexemes.{front_kind}
use Rattle.pascal_grammar.specs.Parts.{Part}
use Rattle.pascal_grammar.specs.Parts as n
use Rattle.pascal_grammar.specs.Productions.{Production}
use Rattle.pascal_grammar.specs.Productions as p
use Rattle.ll1_grammar.specs.Readers.{◌>>=◌, made, opened}
use Rattle.syntax_tree.specs.Expressions.{Parsed, of, word}
use Rattle.syntax_tree.specs.type_tree.Regrouped.{range_of}
use Rattle.expression_parser.specs.Gives.{Reads, Inside, ask, name_at}
use Rattle.expression_parser.specs.Starting.{names}
use Rattle.expression_parser.specs.Reading.{begins, tail_of, wrong, leaves, list_from, inside, simple_at}
use Rattle.type_parser.specs.parameter_parser.Chains.{ReadsTo}
use Rattle.type_parser.specs.parameter_parser.Reading.{identifiers_at, result_type_at, parameters_at, methods_at}
use Rattle.type_parser.specs.declared.lookahead.TypeStart.{TypeStart}
use Rattle.type_parser.specs.declared.lookahead.TypeStart.TheVariants as start
use Rattle.type_parser.specs.declared.lookahead.StructuredStart.{StructuredStart}
use Rattle.type_parser.specs.declared.lookahead.StructuredStart.TheVariants as structured
use Rattle.type_parser.specs.declared.lookahead.BehindName.{BehindName}
use Rattle.type_parser.specs.declared.lookahead.BehindName.TheVariants as behind
use Rattle.type_parser.specs.Starting.{type_start, structured_start, behind_name, behind_caret}

-- ---- subranges

-- a subrange, with at most d constructs open
unfoldable pub range_at : ℕ → Reads
range_at d ts = do
  i ← simple_at (inside d) ts
  w ← ask (q.word k.Dots) i.1
  j ← simple_at (inside d) w.1
  Ok (range_of i.0 (w.0 ∷ j.0 ∷ []), j.1)

-- a name, by what stands behind it
unfoldable pub named_by : BehindName → ℕ → Reads
named_by behind.Range d ts = range_at d ts
named_by behind.Quotient d ts = leaves p.divided_range (tail_of ts)
named_by behind.Nothing d ts = made p.type_name (name_at ∷ (λ us. Ok (of p.only_name [], us)) ∷ []) ts

abbrev pub named_type_at : ℕ → Reads
named_type_at d ts = named_by (behind_name (front_kind (tail_of ts))) d ts

-- a caret and a letter, by what stands behind them
unfoldable pub letter_by : BehindName → ℕ → Reads
letter_by behind.Range d ts = range_at d ts
letter_by behind.Quotient d ts = leaves p.divided_control (tail_of (tail_of ts))
letter_by behind.Nothing d ts = made p.caret_type (ask (q.mark k.Caret) ∷ made p.letter_target (ask q.letter ∷ (λ vs. Ok (of p.only_letter [], vs)) ∷ []) ∷ []) ts

abbrev pub letter_type_at : ℕ → Reads
letter_type_at d ts = letter_by (behind_caret (front_kind (tail_of (tail_of ts)))) d ts

unfoldable pub caret_by : Bool → ℕ → Reads
caret_by true d ts = letter_type_at d ts
caret_by false d ts = made p.caret_type (ask (q.mark k.Caret) ∷ made p.long_target (ask q.long_name ∷ []) ∷ []) ts

abbrev pub caret_type_at : ℕ → Reads
caret_type_at d ts = caret_by (begins k.Letter (tail_of ts)) d ts

-- ---- types that hold no type

unfoldable pub length_by : Bool → ℕ → Reads
length_by true d ts = opened p.sized (λ e l. ask (q.word k.OpenBracket) ∷ simple_at (inside e) ∷ ask (q.word k.CloseBracket) ∷ []) (inside d) ts
length_by false d ts = Ok (of p.unsized [], ts)

abbrev pub length_at : ℕ → Reads
length_at d ts = length_by (begins k.OpenBracket ts) d ts

unfoldable pub ancestor_by : Bool → ℕ → Reads
ancestor_by true d ts = opened p.ancestor (λ e l. ask (q.word k.Open) ∷ name_at ∷ ask (q.word k.Close) ∷ []) (inside d) ts
ancestor_by false d ts = Ok (of p.no_ancestor [], ts)

abbrev pub ancestor_at : ℕ → Reads
ancestor_at d ts = ancestor_by (begins k.Open ts) d ts

unfoldable pub string_at : ℕ → Reads
string_at d ts = made p.string_type (ask (q.mark k.String) ∷ length_at d ∷ []) ts

unfoldable pub enumeration_at : ℕ → Reads
enumeration_at d ts = opened p.enumeration_type (λ e l. ask (q.mark k.Open) ∷ identifiers_at ∷ ask (q.word k.Close) ∷ []) (inside d) ts

unfoldable pub procedural_at : ℕ → Reads
procedural_at d ts = opened p.procedural_type (λ e l. ask (q.mark k.Procedure) ∷ parameters_at (inside e) ∷ []) (inside d) ts

unfoldable pub functional_at : ℕ → Reads
functional_at d ts = opened p.functional_type (λ e l. ask (q.mark k.Function) ∷ parameters_at (inside e) ∷ ask (q.word k.Colon) ∷ result_type_at ∷ []) (inside d) ts

-- ---- fields. A type is read by the reader that is given.

-- names, a colon and a type
abbrev pub Group : Type 0
Group = Parsed × Parsed × Parsed

unfoldable pub group_at : Reads → ReadsTo Group
group_at type_at ts = do
  i ← identifiers_at ts
  w ← ask (q.word k.Colon) i.1
  t ← type_at w.1
  Ok ((i.0, w.0, t.0), t.1)

abbrev pub begins_name : List Lexeme → Bool
begins_name ts = names (front_kind ts)

-- a semicolon with fields behind it
abbrev pub goes_on : List Lexeme → Bool
goes_on ts = begins k.Semicolon ts && begins_name (tail_of ts)

-- as many groups as stand behind a semicolon each, where the number is no less than that of the lexemes
unfoldable pub groups_from : Reads → ℕ → ReadsTo (List Group)
groups_from type_at zero ts = Ok ([], ts)
groups_from type_at (suc i) ts = if goes_on ts then (group_at type_at (tail_of ts) >>= λ x. groups_from type_at i x.1 >>= λ y. Ok (x.0 ∷ y.0, y.1)) else Ok ([], ts)

unfoldable pub groups_at : Reads → ReadsTo (List Group)
groups_at type_at ts = do
  x ← group_at type_at ts
  y ← groups_from type_at (length x.1) x.1
  Ok (x.0 ∷ y.0, y.1)

-- groups behind the first, and what ends them, by the productions of a group and of one behind a semicolon
abbrev pub more_groups : Production → Production → List Group → Parsed → Parsed
more_groups w again [] end = end
more_groups w again (x ∷ all) end = of again (word ∷ of w (x.0 ∷ x.1 ∷ x.2 ∷ more_groups w again all end ∷ []) ∷ [])

-- groups, and what ends them
abbrev pub with_groups : Production → Production → List Group → Parsed → Parsed
with_groups w again [] end = end
with_groups w again (x ∷ all) end = of w (x.0 ∷ x.1 ∷ x.2 ∷ more_groups w again all end ∷ [])

-- groups as one of these productions, and what ends them by the reader that is given
abbrev pub grouped_at : Production → Production → Reads → Reads → Reads
grouped_at w again type_at end_at ts = do
  x ← groups_at type_at ts
  e ← end_at x.1
  Ok (with_groups w again x.0 e.0, e.1)

-- ---- the fields of a record

-- what ends them: nothing, or a semicolon; behind that variants are left out
unfoldable pub fields_end_by : Bool → Bool → Reads
fields_end_by true true ts = leaves p.variants (tail_of ts)
fields_end_by true false ts = made p.next_fields (ask (q.word k.Semicolon) ∷ (λ us. Ok (of p.no_fields [], us)) ∷ []) ts
fields_end_by false v ts = Ok (of p.last_fields [], ts)

abbrev pub fields_end_at : Reads
fields_end_at ts = fields_end_by (begins k.Semicolon ts) (begins k.Case (tail_of ts)) ts

unfoldable pub fields_by : Bool → Bool → Reads → Reads
fields_by true v type_at ts = grouped_at p.fields p.next_fields type_at fields_end_at ts
fields_by false true type_at ts = leaves p.variants ts
fields_by false false type_at ts = Ok (of p.no_fields [], ts)

abbrev pub fields_at : Reads → Reads
fields_at type_at ts = fields_by (begins_name ts) (begins k.Case ts) type_at ts

-- ---- the fields and methods of an object

unfoldable pub methods_end_at : ℕ → Reads
methods_end_at d ts = made p.object_methods (methods_at (inside d) ∷ ask (q.word k.End) ∷ []) ts

-- what ends the fields: the word, or a semicolon and the methods
unfoldable pub object_end_by : Bool → ℕ → Reads
object_end_by true d ts = made p.next_object_part (ask (q.word k.Semicolon) ∷ methods_end_at d ∷ []) ts
object_end_by false d ts = made p.object_end (ask (q.word k.End) ∷ []) ts

abbrev pub object_end_at : ℕ → Reads
object_end_at d ts = object_end_by (begins k.Semicolon ts) d ts

unfoldable pub object_part_by : Bool → ℕ → Reads → Reads
object_part_by true d type_at ts = grouped_at p.object_fields p.next_object_part type_at (object_end_at d) ts
object_part_by false d type_at ts = methods_end_at d ts

abbrev pub object_part_at : ℕ → Reads → Reads
object_part_at d type_at ts = object_part_by (begins_name ts) d type_at ts

-- ---- types. The number is how many constructs may be open, and b has the readers inside one of them.

unfoldable pub object_at : Inside → Reads
object_at b ts = opened p.object_type (λ e l. ask (q.mark k.Object) ∷ ancestor_at e ∷ l n.object_part ∷ []) b ts

unfoldable pub index_types_by : Bool → Inside → Reads
index_types_by true b ts = opened p.index_types (λ e l. ask (q.word k.OpenBracket) ∷ l n.type ∷ l n.more_index_types ∷ ask (q.word k.CloseBracket) ∷ []) b ts
index_types_by false b ts = wrong ts

abbrev pub index_types_at : Inside → Reads
index_types_at b ts = index_types_by (begins k.OpenBracket ts) b ts

unfoldable pub array_at : Inside → Reads
array_at b ts = opened p.array_type (λ e l. ask (q.mark k.Array) ∷ l n.index_types ∷ ask (q.word k.Of) ∷ l n.type ∷ []) b ts

unfoldable pub record_at : Inside → Reads
record_at b ts = opened p.record_type (λ e l. ask (q.mark k.Record) ∷ l n.fields ∷ ask (q.word k.End) ∷ []) b ts

unfoldable pub set_at : Inside → Reads
set_at b ts = opened p.set_type (λ e l. ask (q.mark k.Set) ∷ ask (q.word k.Of) ∷ l n.type ∷ []) b ts

unfoldable pub structured_by : StructuredStart → Inside → Reads
structured_by structured.Array b ts = array_at b ts
structured_by structured.Record b ts = record_at b ts
structured_by structured.Set b ts = set_at b ts
structured_by structured.Nothing b ts = wrong ts

abbrev pub structured_at : Inside → Reads
structured_at b ts = structured_by (structured_start (front_kind ts)) b ts

unfoldable pub packed_by : Bool → Inside → Reads
packed_by true b ts = leaves p.packed_file ts
packed_by false b ts = made p.packed_structured (structured_at b ∷ []) ts

abbrev pub packed_at : Inside → Reads
packed_at b ts = packed_by (begins k.File ts) b ts

unfoldable pub type_by : TypeStart → ℕ → Inside → Reads
type_by start.Name d b ts = named_type_at d ts
type_by start.Caret d b ts = caret_type_at d ts
type_by start.String d b ts = string_at d ts
type_by start.Enumeration d b ts = enumeration_at d ts
type_by start.Procedure d b ts = procedural_at d ts
type_by start.Function d b ts = functional_at d ts
type_by start.Object d b ts = object_at b ts
type_by start.Packed d b ts = made p.packed_type (ask (q.mark k.Packed) ∷ packed_at b ∷ []) ts
type_by start.Structured d b ts = made p.structured_type (structured_at b ∷ []) ts
type_by start.File d b ts = leaves p.file_type ts
type_by start.Range d b ts = range_at d ts

abbrev pub type_at : ℕ → Inside → Reads
type_at d b ts = type_by (type_start (front_kind ts)) d b ts

abbrev pub more_index_types_at : ℕ → Inside → Reads
more_index_types_at d b ts = list_from k.Comma p.no_index_types p.next_index_type (type_at d b) (length ts) ts

-- the first index type, and those behind it
unfoldable pub index_list_at : ℕ → Inside → ReadsTo (Parsed × Parsed)
index_list_at d b ts = do
  x ← type_at d b ts
  xs ← more_index_types_at d b x.1
  Ok ((x.0, xs.0), xs.1)

-- what may stand in a construct of types, where d more may be open
abbrev pub type_parts : ℕ → Inside → Part → Reads
type_parts d b n.type = type_at d b
type_parts d b n.more_index_types = more_index_types_at d b
type_parts d b n.index_types = index_types_at b
type_parts d b n.fields = fields_at (type_at d b)
type_parts d b n.object_part = object_part_at d (type_at d b)
type_parts d b m = wrong

-- the readers of what may hold fewer constructs
unfoldable pub typed_inside : ℕ → Inside
typed_inside zero = None
typed_inside (suc d) = Some (d, type_parts d (typed_inside d))
