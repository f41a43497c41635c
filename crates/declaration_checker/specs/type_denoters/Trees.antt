-- Types as they are written, without where nodes lie in memory.
use Rattle.std.specs.Prelude.{List, [], ◌∷◌, Option, Some, None}
use Rattle.std.proofs.Common.{Box, Global}
use Rattle.type_layout.specs.declared.texts.Place.{Place}
use Rattle.syntax_tree.specs.declared.expression.SimpleExpression.{SimpleExpression}
use Rattle.syntax_tree.specs.declared.identifier.Identifier.{Identifier}
use Rattle.syntax_tree.specs.expression_tree.Trees.{Tree, view_simple}
use Rattle.syntax_tree.specs.declared.type_tree.parameter.Method.{Method}
use Rattle.syntax_tree.specs.declared.type_tree.parameter.NamedType.{NamedType}
use Rattle.syntax_tree.specs.declared.type_tree.parameter.ParameterGroup.{ParameterGroup}
use Rattle.syntax_tree.specs.declared.type_tree.types.TypeDenoter.{TypeDenoter, Row_of-FieldGroup, end_of-FieldGroup, more_of-FieldGroup}
use Rattle.syntax_tree.specs.declared.type_tree.types.TypeDenoter.TheVariants as t
use Rattle.syntax_tree.specs.declared.type_tree.types.StructuredType.{StructuredType, Row_of-TypeDenoter, end_of-TypeDenoter, more_of-TypeDenoter}
use Rattle.syntax_tree.specs.declared.type_tree.types.StructuredType.TheVariants as s
use Rattle.syntax_tree.specs.declared.type_tree.types.FieldGroup.{FieldGroup}
use Rattle.syntax_tree.specs.declared.type_tree.types.FieldGroup.TheVariants as f
use Rattle.syntax_tree.specs.declared.type_tree.types.PointerTarget.{PointerTarget}
use Rattle.syntax_tree.specs.declared.type_tree.types.PointerTarget.TheVariants as target

mutual
  -- Each with the place of its first lexeme, which may be `packed`. A name and a pointer's target stand at their own places.
  pub data Denoter : Type 0 where
    named : Identifier → Denoter
    range : Tree → Tree → Denoter
    enumeration : Place → List Identifier → Denoter
    pointer : Identifier → Denoter
    string : Denoter
    sized : Place → Tree → Denoter
    procedure : Place → List ParameterGroup → Denoter
    function : Place → List ParameterGroup → NamedType → Denoter
    object : Place → Option Identifier → Fields → List Method → Denoter
    array : Place → Denoters → Denoter → Denoter
    record_of : Place → Fields → Denoter
    set : Place → Denoter → Denoter

  -- the types of indexes
  pub data Denoters : Type 0 where
    no_denoters : Denoters
    and_denoter : Denoter → Denoters → Denoters

  -- groups of fields
  pub data Fields : Type 0 where
    no_fields : Fields
    and_fields : List Identifier → Denoter → Fields → Fields

abbrev pub view_target : PointerTarget → Identifier
view_target (target.Letter i) = i
view_target (target.Long i) = i

abbrev pub view_string : Place → Option (Box SimpleExpression Global) → Denoter
view_string place None = string
view_string place (Some size) = sized place (view_simple size.value)

abbrev pub structured_place : StructuredType → Place
structured_place (s.Array' here shape indexes p element) = here.place
structured_place (s.Record' here shape fields semicolon) = here.place
structured_place (s.Set' here p element) = here.place

abbrev mutual
  pub view_denoter : TypeDenoter → Denoter
  view_denoter (t.Name i) = named i
  view_denoter (t.Range low high) = range (view_simple low.value) (view_simple high.value)
  view_denoter (t.Enumeration here names) = enumeration here.place names.items
  view_denoter (t.Pointer here one) = pointer (view_target one)
  view_denoter (t.String here size) = view_string here.place size
  view_denoter (t.Procedure here groups) = procedure here.place groups.items
  view_denoter (t.Function here groups result) = function here.place groups.items result
  view_denoter (t.Object' here ancestor shape fields semicolon methods) = object here.place ancestor (view_field_row fields) methods.items
  view_denoter (t.Packed here one) = view_structured here.place one
  view_denoter (t.Structured one) = view_structured (structured_place one) one

  -- what is structured and begins at a place
  pub view_structured : Place → StructuredType → Denoter
  view_structured place (s.Array' here shape indexes p element) = array place (view_denoter_row indexes) (view_denoter element)
  view_structured place (s.Record' here shape fields semicolon) = record_of place (view_field_row fields)
  view_structured place (s.Set' here p element) = set place (view_denoter element)

  pub view_denoter_row : {n : _} → Row_of-TypeDenoter n → Denoters
  view_denoter_row end_of-TypeDenoter = no_denoters
  view_denoter_row (more_of-TypeDenoter one rest) = and_denoter (view_denoter one) (view_denoter_row rest)

  pub view_field_row : {n : _} → Row_of-FieldGroup n → Fields
  view_field_row end_of-FieldGroup = no_fields
  view_field_row (more_of-FieldGroup (f.Fields names one) rest) = and_fields names.items (view_denoter one) (view_field_row rest)

-- the types of a list
abbrev pub view_denoters : List TypeDenoter → Denoters
view_denoters [] = no_denoters
view_denoters (one ∷ rest) = and_denoter (view_denoter one) (view_denoters rest)

abbrev pub with_group : FieldGroup → Fields → Fields
with_group (f.Fields names one) rest = and_fields names.items (view_denoter one) rest

-- the groups of a list
abbrev pub view_groups : List FieldGroup → Fields
view_groups [] = no_fields
view_groups (one ∷ rest) = with_group one (view_groups rest)
