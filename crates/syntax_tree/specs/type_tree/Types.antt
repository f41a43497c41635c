-- What the grammar makes of a type.
use Rattle.std.specs.Prelude.{Bool, true, false, List, [], ◌∷◌, Option, Some, None}
use Rattle.std.proofs.Common.{Box, Global}
use Rattle.pascal_grammar.specs.Productions as p
use Rattle.ll1_grammar.specs.Grammar.{nil}
use Rattle.syntax_tree.specs.declared.expression.SimpleExpression.{SimpleExpression}
use Rattle.syntax_tree.specs.declared.identifier.Identifier.{Identifier}
use Rattle.syntax_tree.specs.Expressions.{Parsed, of, word, mark_at, name_of, of_simple}
use Rattle.syntax_tree.specs.declared.type_tree.parameter.Method.{Method}
use Rattle.syntax_tree.specs.declared.type_tree.types.TypeDenoter.{TypeDenoter, Row_of-FieldGroup, end_of-FieldGroup, more_of-FieldGroup}
use Rattle.syntax_tree.specs.declared.type_tree.types.TypeDenoter.TheVariants as t
use Rattle.syntax_tree.specs.declared.type_tree.types.StructuredType.{StructuredType, Row_of-TypeDenoter, end_of-TypeDenoter, more_of-TypeDenoter}
use Rattle.syntax_tree.specs.declared.type_tree.types.StructuredType.TheVariants as s
use Rattle.syntax_tree.specs.declared.type_tree.types.FieldGroup.{FieldGroup}
use Rattle.syntax_tree.specs.declared.type_tree.types.FieldGroup.TheVariants as f
use Rattle.syntax_tree.specs.declared.type_tree.types.PointerTarget.{PointerTarget}
use Rattle.syntax_tree.specs.declared.type_tree.types.PointerTarget.TheVariants as target
use Rattle.syntax_tree.specs.type_tree.Parameters.{identifiers_of, result_type_of, parameters_of, methods_of}
use Rattle.syntax_tree.specs.type_tree.Regrouped.{range_of}

abbrev pub simple_of : SimpleExpression → Parsed
simple_of i = of_simple i (of p.no_terms [])

abbrev pub pointer_target_of : PointerTarget → Parsed
pointer_target_of (target.Letter i) = of p.letter_target (name_of i ∷ of p.only_letter [] ∷ [])
pointer_target_of (target.Long i) = of p.long_target (name_of i ∷ [])

abbrev pub length_of : Option (Box SimpleExpression Global) → Parsed
length_of None = of p.unsized []
length_of (Some i) = of p.sized (word ∷ simple_of i.value ∷ word ∷ [])

abbrev pub ancestor_of : Option Identifier → Parsed
ancestor_of None = of p.no_ancestor []
ancestor_of (Some i) = of p.ancestor (word ∷ name_of i ∷ word ∷ [])

abbrev pub methods_end : List Method → Parsed
methods_end all = of p.object_methods (methods_of all ∷ word ∷ [])

-- behind the last fields of an object: methods stand only behind a semicolon
abbrev pub last_object_part : Bool → List Method → Parsed
last_object_part true all = of p.next_object_part (word ∷ methods_end all ∷ [])
last_object_part false [] = of p.object_end (word ∷ [])
last_object_part false (m ∷ all) = nil

-- behind the last fields of a record
abbrev pub last_record_part : Bool → Parsed
last_record_part true = of p.next_fields (word ∷ of p.no_fields [] ∷ [])
last_record_part false = of p.last_fields []

abbrev mutual
  pub of_type : TypeDenoter → Parsed
  of_type (t.Name i) = of p.type_name (name_of i ∷ of p.only_name [] ∷ [])
  of_type (t.Range i j) = range_of (simple_of i.value) (word ∷ simple_of j.value ∷ [])
  of_type (t.Enumeration here names) = of p.enumeration_type (mark_at here ∷ identifiers_of names.items ∷ word ∷ [])
  of_type (t.Pointer here x) = of p.caret_type (mark_at here ∷ pointer_target_of x ∷ [])
  of_type (t.String here n) = of p.string_type (mark_at here ∷ length_of n ∷ [])
  of_type (t.Procedure here all) = of p.procedural_type (mark_at here ∷ parameters_of all.items ∷ [])
  of_type (t.Function here all r) = of p.functional_type (mark_at here ∷ parameters_of all.items ∷ word ∷ result_type_of r ∷ [])
  of_type (t.Object' here a shape fields b methods) = of p.object_type (mark_at here ∷ ancestor_of a ∷ of_object fields b methods.items ∷ [])
  of_type (t.Packed here x) = of p.packed_type (mark_at here ∷ of p.packed_structured (of_structured x ∷ []) ∷ [])
  of_type (t.Structured x) = of p.structured_type (of_structured x ∷ [])

  pub of_structured : StructuredType → Parsed
  of_structured (s.Array' here shape all q x) = of p.array_type (mark_at here ∷ of_indexes all ∷ word ∷ of_type x ∷ [])
  of_structured (s.Record' here shape fields b) = of p.record_type (mark_at here ∷ of_fields fields b ∷ word ∷ [])
  of_structured (s.Set' here q x) = of p.set_type (mark_at here ∷ word ∷ of_type x ∷ [])

  -- no index types at all are spelled by nothing
  pub of_indexes : {n : _} → Row_of-TypeDenoter n → Parsed
  of_indexes end_of-TypeDenoter = of p.index_types (word ∷ nil ∷ nil ∷ word ∷ [])
  of_indexes (more_of-TypeDenoter x all) = of p.index_types (word ∷ of_type x ∷ more_indexes all ∷ word ∷ [])

  pub more_indexes : {n : _} → Row_of-TypeDenoter n → Parsed
  more_indexes end_of-TypeDenoter = of p.no_index_types []
  more_indexes (more_of-TypeDenoter x all) = of p.next_index_type (word ∷ of_type x ∷ more_indexes all ∷ [])

  pub of_fields : {n : _} → Row_of-FieldGroup n → Bool → Parsed
  of_fields end_of-FieldGroup b = of p.no_fields []
  of_fields (more_of-FieldGroup (f.Fields names x) all) b = of p.fields (identifiers_of names.items ∷ word ∷ of_type x ∷ more_fields all b ∷ [])

  pub more_fields : {n : _} → Row_of-FieldGroup n → Bool → Parsed
  more_fields end_of-FieldGroup b = last_record_part b
  more_fields (more_of-FieldGroup (f.Fields names x) all) b = of p.next_fields (word ∷ of p.fields (identifiers_of names.items ∷ word ∷ of_type x ∷ more_fields all b ∷ []) ∷ [])

  pub of_object : {n : _} → Row_of-FieldGroup n → Bool → List Method → Parsed
  of_object end_of-FieldGroup b methods = methods_end methods
  of_object (more_of-FieldGroup (f.Fields names x) all) b methods = of p.object_fields (identifiers_of names.items ∷ word ∷ of_type x ∷ more_object all b methods ∷ [])

  pub more_object : {n : _} → Row_of-FieldGroup n → Bool → List Method → Parsed
  more_object end_of-FieldGroup b methods = last_object_part b methods
  more_object (more_of-FieldGroup (f.Fields names x) all) b methods = of p.next_object_part (word ∷ of p.object_fields (identifiers_of names.items ∷ word ∷ of_type x ∷ more_object all b methods ∷ []) ∷ [])

-- ---- the same over lists, and what comes behind them

abbrev pub next_index_types : List TypeDenoter → Parsed → Parsed
next_index_types [] more = more
next_index_types (x ∷ all) more = of p.next_index_type (word ∷ of_type x ∷ next_index_types all more ∷ [])

-- the first index type, and those behind it
abbrev pub index_type_list : List TypeDenoter → Parsed → Parsed × Parsed
index_type_list [] more = (nil, nil)
index_type_list (x ∷ all) more = (of_type x, next_index_types all more)
