-- The readers of types meet the grammar.
use Rattle.std.proofs.Common.{◌≡◌, ℕ, zero, suc, Bool, true, false, if◌then◌else◌, List, [], ◌∷◌, length, Some, Ok, refl, subst, arith}
use Rattle.pascal_grammar.specs.declared.kind.Kind.{Kind}
use Rattle.pascal_grammar.specs.declared.kind.Kind.TheVariants as k
use Rattle.pascal_grammar.specs.declared.lexeme.Lexeme.{Lexeme}
use Rattle.pascal_grammar.specs.Asked.{same}
use Rattle.pascal_grammar.specs.Asked as q
use Rattle.pascal_grammar.specs.Lexemes.{kind_of, front_kind}
use Rattle.pascal_grammar.specs.Parts.{Part}
use Rattle.pascal_grammar.specs.Parts as n
use Rattle.pascal_grammar.specs.Productions as p
use Rattle.pascal_grammar.specs.Choices.{choose, choose_by}
use Rattle.pascal_grammar.proofs.Somes.{joins}
use Rattle.pascal_grammar.proofs.Tables.{Follow}
use Rattle.pascal_grammar.proofs.Reading.{Reads, AreRead, asked, plain, empty, none}
use Rattle.ll1_grammar.specs.Grammar.{token, part}
use Rattle.ll1_grammar.specs.Readers.{made}
use Rattle.syntax_tree.specs.Expressions.{of}
use Rattle.expression_parser.specs.Gives.{Inside, ask, name_at}
use Rattle.expression_parser.specs.Starting.{names}
use Rattle.expression_parser.specs.Reading.{begins, tail_of, leaves, inside, simple_at}
use Rattle.expression_parser.proofs.Shapes.{same_kind}
use Rattle.expression_parser.proofs.Sound as expressions
use Rattle.type_parser.specs.parameter_parser.Reading.{identifiers_at, result_type_at, parameters_at, methods_at}
use Rattle.type_parser.proofs.parameter_parser.Behind.{Outcome, at_kind, at_all, present, absent, left_at, opens_at, known_step, last_part, list_reads, not_begun}
use Rattle.type_parser.proofs.parameter_parser.Sound.{identifiers_reads, result_type_reads, parameters_reads, methods_reads}
use Rattle.type_parser.specs.Starting.{type_start, structured_start}
use Rattle.type_parser.specs.Reading.{length_by, length_at, ancestor_by, ancestor_at, string_at, enumeration_at, procedural_at, functional_at, begins_name, goes_on, fields_end_by, fields_end_at, fields_by, methods_end_at, object_end_by, object_end_at, object_part_by, object_at, index_types_by, array_at, record_at, set_at, structured_by, structured_at, packed_by, packed_at, type_by, type_at, more_index_types_at, type_parts, typed_inside}
use Rattle.type_parser.proofs.Fields.{groups_reads}
use Rattle.type_parser.proofs.Named.{named_type_reads, caret_type_reads, range_reads, range_at_end}

-- what the readers of fewer constructs read
abbrev pub Held : Part → Type 0
Held n.type = Unit {0}
Held n.more_index_types = Unit {0}
Held n.index_types = Unit {0}
Held n.fields = Unit {0}
Held n.object_part = Unit {0}
Held m = ⊥

-- ---- what one lexeme chooses

no_bracket : (y : Kind) → same y k.OpenBracket ≡ false → choose_by n.string_size y ≡ Some p.unsized
no_bracket k.OpenBracket e = absurd cc
no_bracket y e = refl

no_open : (y : Kind) → same y k.Open ≡ false → choose_by n.ancestor y ≡ Some p.no_ancestor
no_open k.Open e = absurd cc
no_open y e = refl

no_comma : (y : Kind) → same y k.Comma ≡ false → choose_by n.more_index_types y ≡ Some p.no_index_types
no_comma k.Comma e = absurd cc
no_comma y e = refl

no_file : (y : Kind) → same y k.File ≡ false → choose_by n.packed_type y ≡ Some p.packed_structured
no_file k.File e = absurd cc
no_file y e = refl

no_semicolon : (y : Kind) → same y k.Semicolon ≡ false → choose_by n.fields_end y ≡ Some p.last_fields
no_semicolon k.Semicolon e = absurd cc
no_semicolon y e = refl

no_object_semicolon : (y : Kind) → same y k.Semicolon ≡ false → choose_by n.object_fields_end y ≡ Some p.object_end
no_object_semicolon k.Semicolon e = absurd cc
no_object_semicolon y e = refl

named_fields : (ts : List Lexeme) → begins_name ts ≡ true → choose n.fields (front_kind ts) ≡ Some p.fields
named_fields [] e = absurd cc
named_fields (x ∷ ts) e = by (kind_of x) e
  where
    by : (y : Kind) → names (Some y) ≡ true → choose_by n.fields y ≡ Some p.fields
    by k.Letter e = refl
    by k.Absolute e = refl
    by k.External e = refl
    by k.Forward e = refl
    by k.Interrupt e = refl
    by k.Name e = refl
    by y e = absurd cc

no_fields : (ts : List Lexeme) → begins_name ts ≡ false → begins k.Case ts ≡ false → choose n.fields (front_kind ts) ≡ Some p.no_fields
no_fields [] e f = refl
no_fields (x ∷ ts) e f = by (kind_of x) e f
  where
    by : (y : Kind) → names (Some y) ≡ false → same y k.Case ≡ false → choose_by n.fields y ≡ Some p.no_fields
    by k.Letter e f = absurd cc
    by k.Absolute e f = absurd cc
    by k.External e f = absurd cc
    by k.Forward e f = absurd cc
    by k.Interrupt e f = absurd cc
    by k.Name e f = absurd cc
    by k.Case e f = absurd cc
    by y e f = refl

object_chosen : (ts : List Lexeme) (b : Bool) → begins_name ts ≡ b → choose n.object_part (front_kind ts) ≡ (if b then Some p.object_fields else Some p.object_methods)
object_chosen [] true e = absurd cc
object_chosen [] false e = refl
object_chosen (x ∷ ts) b e = by (kind_of x) b e
  where
    by : (y : Kind) (b : Bool) → names (Some y) ≡ b → choose_by n.object_part y ≡ (if b then Some p.object_fields else Some p.object_methods)
    by k.Letter true e = refl
    by k.Letter false e = absurd cc
    by k.Absolute true e = refl
    by k.Absolute false e = absurd cc
    by k.External true e = refl
    by k.External false e = absurd cc
    by k.Forward true e = refl
    by k.Forward false e = absurd cc
    by k.Interrupt true e = refl
    by k.Interrupt false e = absurd cc
    by k.Name true e = refl
    by k.Name false e = absurd cc
    by y true e = absurd cc
    by y false e = refl

-- ---- types that hold no type

module _ (d : ℕ) where
  simple : (ts : List Lexeme) → Reads n.simple d ts (simple_at (inside d) ts)
  simple ts = expressions.simple_reads d (inside d) (expressions.inside_reads d) ts

length_with : (d : ℕ) (ts : List Lexeme) (b : Bool) → begins k.OpenBracket ts ≡ b → Reads n.string_size d ts (length_by b d ts)
unfolding length_by
length_with d ts true e = opens_at expressions.Held p.sized k.OpenBracket (q.word k.OpenBracket) refl refl refl refl refl (part n.simple ∷ token (q.word k.CloseBracket) ∷ []) refl (joins p.sized)
    (λ e l. simple_at (inside e) ∷ ask (q.word k.CloseBracket) ∷ []) d (inside d) (expressions.inside_reads d) (λ e l m. (simple e, (asked (q.word k.CloseBracket) refl e, tt))) ts e
length_with d ts false e = empty p.unsized d ts (absent n.string_size k.OpenBracket (Some p.unsized) refl no_bracket ts e) refl refl refl refl

ancestor_with : (d : ℕ) (ts : List Lexeme) (b : Bool) → begins k.Open ts ≡ b → Reads n.ancestor d ts (ancestor_by b d ts)
unfolding ancestor_by
ancestor_with d ts true e = opens_at expressions.Held p.ancestor k.Open (q.word k.Open) refl refl refl refl refl (token q.name ∷ token (q.word k.Close) ∷ []) refl (joins p.ancestor)
    (λ e l. name_at ∷ ask (q.word k.Close) ∷ []) d (inside d) (expressions.inside_reads d) (λ e l m. (asked q.name refl e, (asked (q.word k.Close) refl e, tt))) ts e
ancestor_with d ts false e = empty p.no_ancestor d ts (absent n.ancestor k.Open (Some p.no_ancestor) refl no_open ts e) refl refl refl refl

string_reads : (d : ℕ) (ts : List Lexeme) → begins k.String ts ≡ true → Reads n.type d ts (string_at d ts)
unfolding string_at
string_reads d ts e = plain p.string_type d ts (present n.type k.String p.string_type refl ts e) refl refl refl (ask (q.mark k.String) ∷ length_at d ∷ []) (asked (q.mark k.String) refl d, ((λ us. length_with d us (begins k.OpenBracket us) refl), tt))

enumeration_reads : (d : ℕ) (ts : List Lexeme) → begins k.Open ts ≡ true → Reads n.type d ts (enumeration_at d ts)
unfolding enumeration_at
enumeration_reads d ts e = opens_at expressions.Held p.enumeration_type k.Open (q.mark k.Open) refl refl refl refl refl (part n.identifiers ∷ token (q.word k.Close) ∷ []) refl (joins p.enumeration_type)
    (λ e l. identifiers_at ∷ ask (q.word k.Close) ∷ []) d (inside d) (expressions.inside_reads d) (λ e l m. (identifiers_reads e, (asked (q.word k.Close) refl e, tt))) ts e

procedural_reads : (d : ℕ) (ts : List Lexeme) → begins k.Procedure ts ≡ true → Reads n.type d ts (procedural_at d ts)
unfolding procedural_at
procedural_reads d ts e = opens_at expressions.Held p.procedural_type k.Procedure (q.mark k.Procedure) refl refl refl refl refl (part n.parameters ∷ []) refl (joins p.procedural_type)
    (λ e l. parameters_at (inside e) ∷ []) d (inside d) (expressions.inside_reads d) (λ e l m. (parameters_reads e, tt)) ts e

functional_reads : (d : ℕ) (ts : List Lexeme) → begins k.Function ts ≡ true → Reads n.type d ts (functional_at d ts)
unfolding functional_at
functional_reads d ts e = opens_at expressions.Held p.functional_type k.Function (q.mark k.Function) refl refl refl refl refl (part n.parameters ∷ token (q.word k.Colon) ∷ part n.result_type ∷ []) refl (joins p.functional_type)
    (λ e l. parameters_at (inside e) ∷ ask (q.word k.Colon) ∷ result_type_at ∷ []) d (inside d) (expressions.inside_reads d) (λ e l m. (parameters_reads e, (asked (q.word k.Colon) refl e, (result_type_reads e, tt)))) ts e

-- ---- what ends fields

module _ (d : ℕ) where
  -- a semicolon, and what is not the name of a field
  behind_semicolon : (x : Lexeme) (ts : List Lexeme) (b : Bool) → same (kind_of x) k.Semicolon ≡ true → begins_name ts ≡ false → begins k.Case ts ≡ b → Reads n.fields_end d (x ∷ ts) (fields_end_by true b (x ∷ ts))
  unfolding fields_end_by
  behind_semicolon x ts true e f g =
      let here = known_step p.next_fields (q.word k.Semicolon) (part n.fields ∷ []) refl (joins p.next_fields) refl refl refl d x ts (at_kind n.fields_end x k.Semicolon _ (same_kind x k.Semicolon e) refl) e (leaves p.variants ∷ [])
      (last_part n.fields (Follow n.fields_end) (joins p.next_fields).1 d ts (leaves p.variants) (left_at p.variants k.Case refl refl refl refl d ts g)) in
      let is : made p.next_fields (ask (q.word k.Semicolon) ∷ leaves p.variants ∷ []) (x ∷ ts) ≡ leaves p.variants ts = rw e refl in
      subst (λ (r : Outcome). Reads n.fields_end d (x ∷ ts) r) is here
  behind_semicolon x ts false e f g = known_step p.next_fields (q.word k.Semicolon) (part n.fields ∷ []) refl (joins p.next_fields) refl refl refl d x ts (at_kind n.fields_end x k.Semicolon _ (same_kind x k.Semicolon e) refl) e ((λ us. Ok (of p.no_fields [], us)) ∷ [])
      (last_part n.fields (Follow n.fields_end) (joins p.next_fields).1 d ts (λ us. Ok (of p.no_fields [], us)) (empty p.no_fields d ts (no_fields ts f g) refl refl refl refl))

  fields_end_with : (ts : List Lexeme) (b : Bool) → begins k.Semicolon ts ≡ b → goes_on ts ≡ false → Reads n.fields_end d ts (fields_end_by b (begins k.Case (tail_of ts)) ts)
  unfolding fields_end_by
  fields_end_with ts false e f = empty p.last_fields d ts (absent n.fields_end k.Semicolon (Some p.last_fields) refl no_semicolon ts e) refl refl refl refl
  fields_end_with [] true e f = absurd cc
  fields_end_with (x ∷ ts) true e f = let h : begins_name ts ≡ false = rw e at f in behind_semicolon x ts (begins k.Case ts) e h refl

  fields_end_reads : (ts : List Lexeme) → goes_on ts ≡ false → Reads n.fields_end d ts (fields_end_at ts)
  fields_end_reads ts f = fields_end_with ts (begins k.Semicolon ts) refl f

  methods_end_reads : (ts : List Lexeme) → begins_name ts ≡ false → Reads n.object_part d ts (methods_end_at d ts)
  unfolding methods_end_at
  methods_end_reads ts e = plain p.object_methods d ts (object_chosen ts false e) refl refl refl (methods_at (inside d) ∷ ask (q.word k.End) ∷ []) (methods_reads d, (asked (q.word k.End) refl d, tt))

  object_end_with : (ts : List Lexeme) (b : Bool) → begins k.Semicolon ts ≡ b → goes_on ts ≡ false → Reads n.object_fields_end d ts (object_end_by b d ts)
  unfolding object_end_by
  object_end_with ts false e f = plain p.object_end d ts (absent n.object_fields_end k.Semicolon (Some p.object_end) refl no_object_semicolon ts e) refl refl refl (ask (q.word k.End) ∷ []) (asked (q.word k.End) refl d, tt)
  object_end_with [] true e f = absurd cc
  object_end_with (x ∷ ts) true e f =
      let h : begins_name ts ≡ false = rw e at f in
      known_step p.next_object_part (q.word k.Semicolon) (part n.object_part ∷ []) refl (joins p.next_object_part) refl refl refl d x ts (at_kind n.object_fields_end x k.Semicolon _ (same_kind x k.Semicolon e) refl) e (methods_end_at d ∷ [])
      (last_part n.object_part (Follow n.object_fields_end) (joins p.next_object_part).1 d ts (methods_end_at d) (methods_end_reads ts h))

  object_end_reads : (ts : List Lexeme) → goes_on ts ≡ false → Reads n.object_fields_end d ts (object_end_at d ts)
  object_end_reads ts f = object_end_with ts (begins k.Semicolon ts) refl f

-- ---- types

module _ (d : ℕ) (b : Inside) (h : AreRead Held d b) where
  array_reads : (ts : List Lexeme) → begins k.Array ts ≡ true → Reads n.structured d ts (array_at b ts)
  unfolding array_at
  array_reads ts e = opens_at Held p.array_type k.Array (q.mark k.Array) refl refl refl refl refl (part n.index_types ∷ token (q.word k.Of) ∷ part n.type ∷ []) refl (joins p.array_type)
      (λ e l. l n.index_types ∷ ask (q.word k.Of) ∷ l n.type ∷ []) d b h (λ e l m. (m.meets n.index_types tt, (asked (q.word k.Of) refl e, (m.meets n.type tt, tt)))) ts e

  record_reads : (ts : List Lexeme) → begins k.Record ts ≡ true → Reads n.structured d ts (record_at b ts)
  unfolding record_at
  record_reads ts e = opens_at Held p.record_type k.Record (q.mark k.Record) refl refl refl refl refl (part n.fields ∷ token (q.word k.End) ∷ []) refl (joins p.record_type)
      (λ e l. l n.fields ∷ ask (q.word k.End) ∷ []) d b h (λ e l m. (m.meets n.fields tt, (asked (q.word k.End) refl e, tt))) ts e

  set_reads : (ts : List Lexeme) → begins k.Set ts ≡ true → Reads n.structured d ts (set_at b ts)
  unfolding set_at
  set_reads ts e = opens_at Held p.set_type k.Set (q.mark k.Set) refl refl refl refl refl (token (q.word k.Of) ∷ part n.type ∷ []) refl (joins p.set_type)
      (λ e l. ask (q.word k.Of) ∷ l n.type ∷ []) d b h (λ e l m. (asked (q.word k.Of) refl e, (m.meets n.type tt, tt))) ts e

  object_reads : (ts : List Lexeme) → begins k.Object ts ≡ true → Reads n.type d ts (object_at b ts)
  unfolding object_at
  object_reads ts e = opens_at Held p.object_type k.Object (q.mark k.Object) refl refl refl refl refl (part n.ancestor ∷ part n.object_part ∷ []) refl (joins p.object_type)
      (λ e l. ancestor_at e ∷ l n.object_part ∷ []) d b h (λ e l m. ((λ us. ancestor_with e us (begins k.Open us) refl), (m.meets n.object_part tt, tt))) ts e

  structured_by_kind : (x : Lexeme) (ts : List Lexeme) (y : Kind) → kind_of x ≡ y → Reads n.structured d (x ∷ ts) (structured_by (structured_start (Some y)) b (x ∷ ts))
  unfolding structured_by
  structured_by_kind x ts k.Array e = array_reads (x ∷ ts) (rw e refl)
  structured_by_kind x ts k.Record e = record_reads (x ∷ ts) (rw e refl)
  structured_by_kind x ts k.Set e = set_reads (x ∷ ts) (rw e refl)
  structured_by_kind x ts y e = none n.structured d (x ∷ ts) (at_kind n.structured x y _ e refl)

  structured_reads : (ts : List Lexeme) → Reads n.structured d ts (structured_at b ts)
  unfolding structured_by
  structured_reads [] = none n.structured d [] refl
  structured_reads (x ∷ ts) = structured_by_kind x ts (kind_of x) refl

  packed_with : (ts : List Lexeme) (c : Bool) → begins k.File ts ≡ c → Reads n.packed_type d ts (packed_by c b ts)
  unfolding packed_by
  packed_with ts true e = left_at p.packed_file k.File refl refl refl refl d ts e
  packed_with ts false e = plain p.packed_structured d ts (absent n.packed_type k.File (Some p.packed_structured) refl no_file ts e) refl refl refl (structured_at b ∷ []) (structured_reads, tt)

  type_by_kind : (x : Lexeme) (ts : List Lexeme) (y : Kind) → kind_of x ≡ y → Reads n.type d (x ∷ ts) (type_by (type_start (Some y)) d b (x ∷ ts))
  unfolding type_by
  type_by_kind x ts k.Caret e = caret_type_reads d x e ts
  type_by_kind x ts k.String e = string_reads d (x ∷ ts) (rw e refl)
  type_by_kind x ts k.Open e = enumeration_reads d (x ∷ ts) (rw e refl)
  type_by_kind x ts k.Procedure e = procedural_reads d (x ∷ ts) (rw e refl)
  type_by_kind x ts k.Function e = functional_reads d (x ∷ ts) (rw e refl)
  type_by_kind x ts k.Object e = object_reads (x ∷ ts) (rw e refl)
  type_by_kind x ts k.Packed e = plain p.packed_type d (x ∷ ts) (at_kind n.type x k.Packed _ e refl) refl refl refl (ask (q.mark k.Packed) ∷ packed_at b ∷ []) (asked (q.mark k.Packed) refl d, ((λ us. packed_with us (begins k.File us) refl), tt))
  type_by_kind x ts k.Array e = plain p.structured_type d (x ∷ ts) (at_kind n.type x k.Array _ e refl) refl refl refl (structured_at b ∷ []) (structured_reads, tt)
  type_by_kind x ts k.Record e = plain p.structured_type d (x ∷ ts) (at_kind n.type x k.Record _ e refl) refl refl refl (structured_at b ∷ []) (structured_reads, tt)
  type_by_kind x ts k.Set e = plain p.structured_type d (x ∷ ts) (at_kind n.type x k.Set _ e refl) refl refl refl (structured_at b ∷ []) (structured_reads, tt)
  type_by_kind x ts k.File e = left_at p.file_type k.File refl refl refl refl d (x ∷ ts) (rw e refl)
  type_by_kind x ts k.Letter e = named_type_reads d x k.Letter e refl ts
  type_by_kind x ts k.Absolute e = named_type_reads d x k.Absolute e refl ts
  type_by_kind x ts k.External e = named_type_reads d x k.External e refl ts
  type_by_kind x ts k.Forward e = named_type_reads d x k.Forward e refl ts
  type_by_kind x ts k.Interrupt e = named_type_reads d x k.Interrupt e refl ts
  type_by_kind x ts k.Name e = named_type_reads d x k.Name e refl ts
  type_by_kind x ts y e = range_reads d x ts y e refl refl

  pub types_read : (ts : List Lexeme) → Reads n.type d ts (type_at d b ts)
  unfolding type_by
  types_read [] = range_at_end d
  types_read (x ∷ ts) = type_by_kind x ts (kind_of x) refl

  index_types_end : (ts : List Lexeme) → begins k.Comma ts ≡ false → Reads n.more_index_types d ts (Ok (of p.no_index_types [], ts))
  index_types_end ts e = empty p.no_index_types d ts (absent n.more_index_types k.Comma (Some p.no_index_types) refl no_comma ts e) refl refl refl refl

  more_index_types_reads : (ts : List Lexeme) → Reads n.more_index_types d ts (more_index_types_at d b ts)
  more_index_types_reads ts = list_reads k.Comma p.no_index_types p.next_index_type (part n.type) d (type_at d b) types_read refl (joins p.next_index_type) refl refl refl refl index_types_end (length ts) ts (omega arith)

  index_types_with : (ts : List Lexeme) (c : Bool) → begins k.OpenBracket ts ≡ c → Reads n.index_types d ts (index_types_by c b ts)
  unfolding index_types_by
  index_types_with ts true e = opens_at Held p.index_types k.OpenBracket (q.word k.OpenBracket) refl refl refl refl refl (part n.type ∷ part n.more_index_types ∷ token (q.word k.CloseBracket) ∷ []) refl (joins p.index_types)
      (λ e l. l n.type ∷ l n.more_index_types ∷ ask (q.word k.CloseBracket) ∷ []) d b h (λ e l m. (m.meets n.type tt, (m.meets n.more_index_types tt, (asked (q.word k.CloseBracket) refl e, tt)))) ts e
  index_types_with ts false e = not_begun p.index_types k.OpenBracket (q.word k.OpenBracket) (part n.type ∷ part n.more_index_types ∷ token (q.word k.CloseBracket) ∷ []) (λ y. refl) refl (at_all n.index_types (Some p.index_types) refl (λ y. refl)) d ts e

  fields_with : (ts : List Lexeme) (b1 c : Bool) → begins_name ts ≡ b1 → begins k.Case ts ≡ c → Reads n.fields d ts (fields_by b1 c (type_at d b) ts)
  unfolding fields_by
  fields_with ts true c e f = groups_reads p.fields p.next_fields d (type_at d b) fields_end_at types_read n.fields_end refl (joins p.fields) refl refl refl refl (joins p.next_fields) refl refl refl refl named_fields refl (fields_end_reads d) ts e
  fields_with ts false true e f = left_at p.variants k.Case refl refl refl refl d ts f
  fields_with ts false false e f = empty p.no_fields d ts (no_fields ts e f) refl refl refl refl

  object_part_with : (ts : List Lexeme) (c : Bool) → begins_name ts ≡ c → Reads n.object_part d ts (object_part_by c d (type_at d b) ts)
  unfolding object_part_by
  object_part_with ts true e = groups_reads p.object_fields p.next_object_part d (type_at d b) (object_end_at d) types_read n.object_fields_end refl (joins p.object_fields) refl refl refl refl (joins p.next_object_part) refl refl refl refl (λ us f. object_chosen us true f) refl (object_end_reads d) ts e
  object_part_with ts false e = methods_end_reads d ts e

  -- each part that is held
  pub parts_read : (m : Part) → Held m → (ts : List Lexeme) → Reads m d ts (type_parts d b m ts)
  parts_read n.type i ts = types_read ts
  parts_read n.more_index_types i ts = more_index_types_reads ts
  parts_read n.index_types i ts = index_types_with ts (begins k.OpenBracket ts) refl
  parts_read n.fields i ts = fields_with ts (begins_name ts) (begins k.Case ts) refl refl
  parts_read n.object_part i ts = object_part_with ts (begins_name ts) refl
  parts_read m i ts = absurd i

-- the readers within each depth
pub typed_reads : (d : ℕ) → AreRead Held d (typed_inside d)
unfolding typed_inside
typed_reads zero = tt
typed_reads (suc d) = record { depth = refl; meets = parts_read d (typed_inside d) (typed_reads d) }

pub type_reads : (d : ℕ) (ts : List Lexeme) → Reads n.type d ts (type_at d (typed_inside d) ts)
type_reads d ts = types_read d (typed_inside d) (typed_reads d) ts
