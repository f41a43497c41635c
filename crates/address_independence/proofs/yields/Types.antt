-- Headers and types are read back.
use Rattle.std.proofs.Common.{◌≡◌, Bool, true, false, List, [], ◌∷◌, map, Option, Some, None, Box, Global, refl, ◌∙◌}
use Rattle.tp_check_decl.specs.pascal_grammar.declared.lexeme.Position.{Position}
use Rattle.tp_check_decl.specs.pascal_grammar.Productions as p
use Rattle.tp_check_decl.specs.syntax_tree.declared.expression.SimpleExpression.{SimpleExpression}
use Rattle.tp_check_decl.specs.syntax_tree.declared.identifier.Identifier.{Identifier}
use Rattle.tp_check_decl.specs.syntax_tree.Expressions.{of}
use Rattle.tp_check_decl.specs.syntax_tree.declared.type_tree.parameter.NamedType.{NamedType}
use Rattle.tp_check_decl.specs.syntax_tree.declared.type_tree.parameter.NamedType.TheVariants as n
use Rattle.tp_check_decl.specs.syntax_tree.declared.type_tree.parameter.ParameterGroup.{ParameterGroup}
use Rattle.tp_check_decl.specs.syntax_tree.declared.type_tree.parameter.ParameterGroup.TheVariants as g
use Rattle.tp_check_decl.specs.syntax_tree.declared.type_tree.parameter.MethodHeader.{MethodHeader}
use Rattle.tp_check_decl.specs.syntax_tree.declared.type_tree.parameter.MethodHeader.TheVariants as m
use Rattle.tp_check_decl.specs.syntax_tree.declared.type_tree.parameter.Method.{Method}
use Rattle.tp_check_decl.specs.syntax_tree.declared.type_tree.types.TypeDenoter.{TypeDenoter, Row_of-FieldGroup, end_of-FieldGroup, more_of-FieldGroup}
use Rattle.tp_check_decl.specs.syntax_tree.declared.type_tree.types.TypeDenoter.TheVariants as t
use Rattle.tp_check_decl.specs.syntax_tree.declared.type_tree.types.StructuredType.{StructuredType, Row_of-TypeDenoter, end_of-TypeDenoter, more_of-TypeDenoter}
use Rattle.tp_check_decl.specs.syntax_tree.declared.type_tree.types.StructuredType.TheVariants as s
use Rattle.tp_check_decl.specs.syntax_tree.declared.type_tree.types.FieldGroup.TheVariants as f
use Rattle.tp_check_decl.specs.syntax_tree.declared.type_tree.types.PointerTarget.{PointerTarget}
use Rattle.tp_check_decl.specs.syntax_tree.declared.type_tree.types.PointerTarget.TheVariants as target
use Rattle.tp_check_decl.specs.syntax_tree.type_tree.Parameters.{next_identifiers, identifiers_of, parameter_type_of, result_type_of, result_of, of_group, next_groups, parameters_of, method_header_of, virtual_of, methods_of}
use Rattle.tp_check_decl.specs.syntax_tree.type_tree.Types.{simple_of, pointer_target_of, length_of, ancestor_of, of_type, of_structured, of_indexes, more_indexes, of_fields, more_fields, of_object, more_object}
use Rattle.tp_check_decl.specs.ll1_grammar.whole_trees.Whole.{IsWhole}
use Rattle.address_independence.specs.yields.Written as w
use Rattle.address_independence.specs.yields.Reading.{meant}
use Rattle.address_independence.specs.yields.Trees.{group_in, groups_in, method_heading, method_in, pointer_in, string_in, structured_position, type_in, structured_in, types_in, fields_in}
use Rattle.address_independence.proofs.yields.Expressions.{no_terms, simple_read}
use Rattle.address_independence.proofs.yields.Shapes.{is_simple}
use Rattle.address_independence.proofs.yields.Regrouped.{range_regrouped, range_whole}

-- ---- names and parameters

next_names_read : (all : List Identifier) → (meant (next_identifiers all (of p.no_identifiers []))).names ≡ all
next_names_read [] = refl
next_names_read (one ∷ all) = λ i. one ∷ next_names_read all i

pub names_read : (all : List Identifier) → (meant (identifiers_of all)).names ≡ all
names_read [] = refl
names_read (one ∷ all) = λ i. one ∷ next_names_read all i

parameter_type_read : (one : NamedType) → (meant (parameter_type_of one)).named ≡ one
parameter_type_read (n.Name i) = refl
parameter_type_read (n.String here) = refl

result_type_read : (one : NamedType) → (meant (result_type_of one)).named ≡ one
result_type_read (n.Name i) = refl
result_type_read (n.String here) = refl

pub result_read : (one : Option NamedType) → (meant (result_of one)).result ≡ one
result_read None = refl
result_read (Some one) = λ i. Some (result_type_read one i)

group_read : (one : ParameterGroup) → (meant (of_group one)).group ≡ group_in one
group_read (g.Variable here names of_type) = λ i. record { by_ref = true; names = names_read names.items i; of_type = parameter_type_read of_type i }
group_read (g.Value names of_type) = λ i. record { by_ref = false; names = names_read names.items i; of_type = parameter_type_read of_type i }

next_groups_read : (all : List ParameterGroup) → (meant (next_groups all (of p.no_groups []))).groups ≡ groups_in all
next_groups_read [] = refl
next_groups_read (one ∷ all) = λ i. group_read one i ∷ next_groups_read all i

pub parameters_read : (all : List ParameterGroup) → (meant (parameters_of all)).groups ≡ groups_in all
parameters_read [] = refl
parameters_read (one ∷ all) = λ i. group_read one i ∷ next_groups_read all i

-- ---- methods

abbrev pub heading : w.Sort → Position → Identifier → List w.Group → Option NamedType → w.Heading
heading sort here name groups result = record { sort = sort; position = here; name = name; groups = groups; result = result }

method_heading_read : (one : MethodHeader) → (meant (method_header_of one)).heading ≡ method_heading one
method_heading_read (m.Procedure here name groups) = λ i. heading w.procedure here name (parameters_read groups.items i) None
method_heading_read (m.Function here name groups result) = λ i. heading w.function here name (parameters_read groups.items i) (result_read result i)
method_heading_read (m.Constructor here name groups) = λ i. heading w.constructor here name (parameters_read groups.items i) None
method_heading_read (m.Destructor here name groups) = λ i. heading w.destructor here name (parameters_read groups.items i) None

virtual_read : (one : Bool) → (meant (virtual_of one)).is_virtual ≡ one
virtual_read true = refl
virtual_read false = refl

methods_read : (all : List Method) → (meant (methods_of all)).methods ≡ map method_in all
methods_read [] = refl
methods_read (one ∷ all) = λ i. record { heading = method_heading_read one.header i; is_virtual = virtual_read one.is_virtual i } ∷ methods_read all i

-- ---- parts of types

pointer_read : (one : PointerTarget) (here : Position) → (meant (pointer_target_of one)).of_caret here ≡ pointer_in one
pointer_read (target.Letter i) here = refl
pointer_read (target.Long i) here = refl

string_read : (one : Option (Box SimpleExpression Global)) (here : Position) → IsWhole (length_of one) → (meant (length_of one)).of_caret here ≡ string_in here.place one
string_read None here h = refl
string_read (Some size) here h = λ i. w.sized here.place (simple_read size.value no_terms h.1.0 i)

ancestor_read : (one : Option Identifier) → (meant (ancestor_of one)).ancestor ≡ one
ancestor_read None = refl
ancestor_read (Some one) = refl

position_read : (one : StructuredType) → (meant (of_structured one)).position ≡ structured_position one
position_read (s.Array' here shape all q x) = refl
position_read (s.Record' here shape fields b) = refl
position_read (s.Set' here q x) = refl

-- the methods of an object, behind its fields
last_methods_read : {n : _} (all : Row_of-FieldGroup n) (b : Bool) (methods : List Method) → IsWhole (more_object all b methods) → (meant (more_object all b methods)).methods ≡ map method_in methods
last_methods_read end_of-FieldGroup true methods h = methods_read methods
last_methods_read end_of-FieldGroup false [] h = refl
last_methods_read end_of-FieldGroup false (m ∷ all) h = absurd h
last_methods_read (more_of-FieldGroup (f.Fields names x) all) b methods h = last_methods_read all b methods h.1.0.1.1.1.0

object_methods_read : {n : _} (all : Row_of-FieldGroup n) (b : Bool) (methods : List Method) → IsWhole (of_object all b methods) → (meant (of_object all b methods)).methods ≡ map method_in methods
object_methods_read end_of-FieldGroup b methods h = methods_read methods
object_methods_read (more_of-FieldGroup (f.Fields names x) all) b methods h = last_methods_read all b methods h.1.1.1.0

-- ---- types

mutual
  pub type_read : (one : TypeDenoter) → IsWhole (of_type one) → (meant (of_type one)).denoter ≡ type_in one
  type_read (t.Name i) h = refl
  type_read (t.Range low high) h =
      let shape = is_simple low.value in
      let whole = range_whole (simple_of low.value) (simple_of high.value) shape h in
      range_regrouped (simple_of low.value) (simple_of high.value) shape h ∙ λ i. w.range (simple_read low.value no_terms whole.0 i) (simple_read high.value no_terms whole.1 i)
  type_read (t.Enumeration here names) h = λ i. w.enumeration here.place (names_read names.items i)
  type_read (t.Pointer here one) h = pointer_read one here
  type_read (t.String here size) h = string_read size here h.1.0
  type_read (t.Procedure here all) h = λ i. w.procedural here.place (parameters_read all.items i)
  type_read (t.Function here all result) h = λ i. w.functional here.place (parameters_read all.items i) (result_type_read result i)
  type_read (t.Object' here ancestor shape all b methods) h = λ i. w.object here.place (ancestor_read ancestor i) (object_fields_read all b methods.items h.1.1.0 i) (object_methods_read all b methods.items h.1.1.0 i)
  type_read (t.Packed here one) h = structured_read one here h.1.0.0
  type_read (t.Structured one) h = (λ i. (meant (of_structured one)).of_caret (position_read one i)) ∙ structured_read one (structured_position one) h.0

  structured_read : (one : StructuredType) (here : Position) → IsWhole (of_structured one) → (meant (of_structured one)).of_caret here ≡ structured_in here.place one
  structured_read (s.Array' at shape all q x) here h = λ i. w.array here.place (indexes_read all h.1.0 i) (type_read x h.1.1.1.0 i)
  structured_read (s.Record' at shape all b) here h = λ i. w.record_of here.place (fields_read all b h.1.0 i)
  structured_read (s.Set' at q x) here h = λ i. w.set here.place (type_read x h.1.1.0 i)

  indexes_read : {n : _} (all : Row_of-TypeDenoter n) → IsWhole (of_indexes all) → (meant (of_indexes all)).denoters ≡ types_in all
  indexes_read end_of-TypeDenoter h = absurd h.1.0
  indexes_read (more_of-TypeDenoter x all) h = λ i. w.and_denoter (type_read x h.1.0 i) (more_indexes_read all h.1.1.0 i)

  more_indexes_read : {n : _} (all : Row_of-TypeDenoter n) → IsWhole (more_indexes all) → (meant (more_indexes all)).denoters ≡ types_in all
  more_indexes_read end_of-TypeDenoter h = refl
  more_indexes_read (more_of-TypeDenoter x all) h = λ i. w.and_denoter (type_read x h.1.0 i) (more_indexes_read all h.1.1.0 i)

  fields_read : {n : _} (all : Row_of-FieldGroup n) (b : Bool) → IsWhole (of_fields all b) → (meant (of_fields all b)).fields ≡ fields_in all
  fields_read end_of-FieldGroup b h = refl
  fields_read (more_of-FieldGroup (f.Fields names x) all) b h = λ i. w.and_fields (names_read names.items i) (type_read x h.1.1.0 i) (more_fields_read all b h.1.1.1.0 i)

  more_fields_read : {n : _} (all : Row_of-FieldGroup n) (b : Bool) → IsWhole (more_fields all b) → (meant (more_fields all b)).fields ≡ fields_in all
  more_fields_read end_of-FieldGroup true h = refl
  more_fields_read end_of-FieldGroup false h = refl
  more_fields_read (more_of-FieldGroup (f.Fields names x) all) b h = λ i. w.and_fields (names_read names.items i) (type_read x h.1.0.1.1.0 i) (more_fields_read all b h.1.0.1.1.1.0 i)

  object_fields_read : {n : _} (all : Row_of-FieldGroup n) (b : Bool) (methods : List Method) → IsWhole (of_object all b methods) → (meant (of_object all b methods)).fields ≡ fields_in all
  object_fields_read end_of-FieldGroup b methods h = refl
  object_fields_read (more_of-FieldGroup (f.Fields names x) all) b methods h = λ i. w.and_fields (names_read names.items i) (type_read x h.1.1.0 i) (last_fields_read all b methods h.1.1.1.0 i)

  last_fields_read : {n : _} (all : Row_of-FieldGroup n) (b : Bool) (methods : List Method) → IsWhole (more_object all b methods) → (meant (more_object all b methods)).fields ≡ fields_in all
  last_fields_read end_of-FieldGroup true methods h = refl
  last_fields_read end_of-FieldGroup false [] h = refl
  last_fields_read end_of-FieldGroup false (m ∷ rest) h = absurd h
  last_fields_read (more_of-FieldGroup (f.Fields names x) all) b methods h = λ i. w.and_fields (names_read names.items i) (type_read x h.1.0.1.1.0 i) (last_fields_read all b methods h.1.0.1.1.1.0 i)
