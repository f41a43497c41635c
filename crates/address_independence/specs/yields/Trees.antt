-- What is written in the trees of a source.
use Rattle.std.specs.Prelude.{true, false, List, [], ◌∷◌, map, take, drop, Option, Some, None}
use Rattle.std.specs.Option.{option_map}
use Rattle.std.proofs.Common.{Box, Global}
use Rattle.tp_check_decl.specs.pascal_grammar.declared.lexeme.Position.{Position}
use Rattle.tp_check_decl.specs.type_layout.declared.texts.Place.{Place}
use Rattle.tp_check_decl.specs.syntax_tree.declared.expression.SimpleExpression.{SimpleExpression}
use Rattle.tp_check_decl.specs.syntax_tree.declared.statement.CompoundStatement.{CompoundStatement}
use Rattle.tp_check_decl.specs.syntax_tree.declared.type_tree.parameter.ParameterGroup.{ParameterGroup}
use Rattle.tp_check_decl.specs.syntax_tree.declared.type_tree.parameter.ParameterGroup.TheVariants as g
use Rattle.tp_check_decl.specs.syntax_tree.declared.type_tree.parameter.MethodHeader.{MethodHeader}
use Rattle.tp_check_decl.specs.syntax_tree.declared.type_tree.parameter.MethodHeader.TheVariants as m
use Rattle.tp_check_decl.specs.syntax_tree.declared.type_tree.parameter.Method.{Method}
use Rattle.tp_check_decl.specs.syntax_tree.declared.type_tree.types.TypeDenoter.{TypeDenoter, Row_of-FieldGroup, end_of-FieldGroup, more_of-FieldGroup}
use Rattle.tp_check_decl.specs.syntax_tree.declared.type_tree.types.TypeDenoter.TheVariants as t
use Rattle.tp_check_decl.specs.syntax_tree.declared.type_tree.types.StructuredType.{StructuredType, Row_of-TypeDenoter, end_of-TypeDenoter, more_of-TypeDenoter}
use Rattle.tp_check_decl.specs.syntax_tree.declared.type_tree.types.StructuredType.TheVariants as s
use Rattle.tp_check_decl.specs.syntax_tree.declared.type_tree.types.FieldGroup.TheVariants as f
use Rattle.tp_check_decl.specs.syntax_tree.declared.type_tree.types.PointerTarget.{PointerTarget}
use Rattle.tp_check_decl.specs.syntax_tree.declared.type_tree.types.PointerTarget.TheVariants as target
use Rattle.tp_check_decl.specs.syntax_tree.declared.type_tree.initializer.Initializer.{Initializer, Row_of-Initializer, end_of-Initializer, more_of-Initializer, Row_of-FieldValue, end_of-FieldValue, more_of-FieldValue}
use Rattle.tp_check_decl.specs.syntax_tree.declared.type_tree.initializer.Initializer.TheVariants as i
use Rattle.tp_check_decl.specs.syntax_tree.declared.type_tree.initializer.FieldValue.TheVariants as fv
use Rattle.tp_check_decl.specs.syntax_tree.declared.source_tree.declaration.ConstantDeclaration.{ConstantDeclaration}
use Rattle.tp_check_decl.specs.syntax_tree.declared.source_tree.declaration.ConstantDeclaration.TheVariants as c
use Rattle.tp_check_decl.specs.syntax_tree.declared.source_tree.declaration.TypeDeclaration.{TypeDeclaration}
use Rattle.tp_check_decl.specs.syntax_tree.declared.source_tree.declaration.VariableDeclaration.{VariableDeclaration}
use Rattle.tp_check_decl.specs.syntax_tree.declared.source_tree.declaration.DeclarationPart.{DeclarationPart}
use Rattle.tp_check_decl.specs.syntax_tree.declared.source_tree.declaration.DeclarationPart.TheVariants as part
use Rattle.tp_check_decl.specs.syntax_tree.declared.source_tree.declaration.RoutineHeader.{RoutineHeader}
use Rattle.tp_check_decl.specs.syntax_tree.declared.source_tree.declaration.RoutineHeader.TheVariants as h
use Rattle.tp_check_decl.specs.syntax_tree.declared.source_tree.declaration.Routine.{Routine, Row_of-Declaration, end_of-Declaration, more_of-Declaration}
use Rattle.tp_check_decl.specs.syntax_tree.declared.source_tree.declaration.Routine.TheVariants as r
use Rattle.tp_check_decl.specs.syntax_tree.declared.source_tree.declaration.Declaration.{Declaration}
use Rattle.tp_check_decl.specs.syntax_tree.declared.source_tree.declaration.Declaration.TheVariants as d
use Rattle.tp_check_decl.specs.syntax_tree.declared.source_tree.source.InterfaceDeclaration.{InterfaceDeclaration}
use Rattle.tp_check_decl.specs.syntax_tree.declared.source_tree.source.InterfaceDeclaration.TheVariants as id
use Rattle.tp_check_decl.specs.syntax_tree.declared.source_tree.source.Tree.{Tree}
use Rattle.tp_check_decl.specs.syntax_tree.declared.source_tree.source.Tree.TheVariants as tree
use Rattle.tp_check_decl.specs.syntax_tree.expression_tree.Trees.{view_simple}
use Rattle.tp_check_decl.specs.syntax_tree.statement_tree.Trees.{view_statements}
use Rattle.address_independence.specs.yields.Written as w

-- ---- headers

abbrev pub group_in : ParameterGroup → w.Group
group_in (g.Variable here names of_type) = record { by_ref = true; names = names.items; of_type = of_type }
group_in (g.Value names of_type) = record { by_ref = false; names = names.items; of_type = of_type }

abbrev pub groups_in : List ParameterGroup → List w.Group
groups_in all = map group_in all

abbrev pub heading_in : RoutineHeader → w.Heading
heading_in (h.Procedure here name groups) = record { sort = w.procedure; position = here; name = name; groups = groups_in groups.items; result = None }
heading_in (h.Function here name groups result) = record { sort = w.function; position = here; name = name; groups = groups_in groups.items; result = result }

abbrev pub method_heading : MethodHeader → w.Heading
method_heading (m.Procedure here name groups) = record { sort = w.procedure; position = here; name = name; groups = groups_in groups.items; result = None }
method_heading (m.Function here name groups result) = record { sort = w.function; position = here; name = name; groups = groups_in groups.items; result = result }
method_heading (m.Constructor here name groups) = record { sort = w.constructor; position = here; name = name; groups = groups_in groups.items; result = None }
method_heading (m.Destructor here name groups) = record { sort = w.destructor; position = here; name = name; groups = groups_in groups.items; result = None }

abbrev pub method_in : Method → w.Method
method_in one = record { heading = method_heading one.header; is_virtual = one.is_virtual }

-- ---- types

abbrev pub pointer_in : PointerTarget → w.Denoter
pointer_in (target.Letter i) = w.pointer i
pointer_in (target.Long i) = w.pointer i

abbrev pub string_in : Place → Option (Box SimpleExpression Global) → w.Denoter
string_in place None = w.string
string_in place (Some size) = w.sized place (view_simple size.value)

abbrev pub structured_position : StructuredType → Position
structured_position (s.Array' here shape indexes q element) = here
structured_position (s.Record' here shape fields semicolon) = here
structured_position (s.Set' here q element) = here

abbrev mutual
  pub type_in : TypeDenoter → w.Denoter
  type_in (t.Name i) = w.named i
  type_in (t.Range low high) = w.range (view_simple low.value) (view_simple high.value)
  type_in (t.Enumeration here names) = w.enumeration here.place names.items
  type_in (t.Pointer here one) = pointer_in one
  type_in (t.String here size) = string_in here.place size
  type_in (t.Procedure here groups) = w.procedural here.place (groups_in groups.items)
  type_in (t.Function here groups result) = w.functional here.place (groups_in groups.items) result
  type_in (t.Object' here ancestor shape fields semicolon methods) = w.object here.place ancestor (fields_in fields) (map method_in methods.items)
  type_in (t.Packed here one) = structured_in here.place one
  type_in (t.Structured one) = structured_in (structured_position one).place one

  -- what is structured and begins at a place
  pub structured_in : Place → StructuredType → w.Denoter
  structured_in place (s.Array' here shape indexes q element) = w.array place (types_in indexes) (type_in element)
  structured_in place (s.Record' here shape fields semicolon) = w.record_of place (fields_in fields)
  structured_in place (s.Set' here q element) = w.set place (type_in element)

  pub types_in : {n : _} → Row_of-TypeDenoter n → w.Denoters
  types_in end_of-TypeDenoter = w.no_denoters
  types_in (more_of-TypeDenoter one rest) = w.and_denoter (type_in one) (types_in rest)

  pub fields_in : {n : _} → Row_of-FieldGroup n → w.Fields
  fields_in end_of-FieldGroup = w.no_fields
  fields_in (more_of-FieldGroup (f.Fields names one) rest) = w.and_fields names.items (type_in one) (fields_in rest)

-- ---- first values

abbrev mutual
  pub initial_in : Initializer → w.Initial
  initial_in (i.Value one) = w.value (view_simple one)
  initial_in (i.List' here shape all) = w.list here.place (initials_in all)
  initial_in (i.Record' here shape all) = w.fields here.place (named_in all)

  pub initials_in : {n : _} → Row_of-Initializer n → w.Initials
  initials_in end_of-Initializer = w.no_initials
  initials_in (more_of-Initializer one rest) = w.and_initial (initial_in one) (initials_in rest)

  pub named_in : {n : _} → Row_of-FieldValue n → w.Named
  named_in end_of-FieldValue = w.no_named
  named_in (more_of-FieldValue (fv.Field name one) rest) = w.and_named name (initial_in one) (named_in rest)

-- ---- declarations

abbrev pub constant_in : ConstantDeclaration → w.Constant
constant_in (c.Plain name one) = w.plain name (view_simple one)
constant_in (c.Typed name denoter first) = w.typed name (type_in denoter) (initial_in first)

abbrev pub type_named : TypeDeclaration → w.NamedDenoter
type_named one = record { name = one.name; denoter = type_in one.denoter }

abbrev pub variables_in : VariableDeclaration → w.Variables
variables_in one = record { names = one.names.items; denoter = type_in one.denoter }

abbrev pub part_in : DeclarationPart → w.Part
part_in (part.Constants here all) = w.constants (map constant_in all.items)
part_in (part.Types here all) = w.types (map type_named all.items)
part_in (part.Variables here all) = w.variables (map variables_in all.items)

abbrev pub body_in : CompoundStatement → w.Body
body_in one = record { position = one.position; tasks = view_statements one.statements.items }

abbrev mutual
  pub work_in : Routine → w.Work
  work_in (r.Forward x) = w.forward (heading_in x)
  work_in (r.Plain' x shape all body) = w.routine (heading_in x) (works_in all) (body_in body)
  work_in (r.Method' x owner shape all body) = w.method (method_heading x) owner (works_in all) (body_in body)

  -- a declaration, and those behind it
  pub with_declaration : Declaration → w.Works → w.Works
  with_declaration (d.Part x) rest = w.and_part (part_in x) rest
  with_declaration (d.Routine x) rest = w.and_work (work_in x) rest

  pub works_in : {n : _} → Row_of-Declaration n → w.Works
  works_in end_of-Declaration = w.no_works
  works_in (more_of-Declaration x rest) = with_declaration x (works_in rest)

abbrev pub declarations_in : List Declaration → w.Works
declarations_in [] = w.no_works
declarations_in (x ∷ rest) = with_declaration x (declarations_in rest)

-- ---- sources

abbrev pub shown_in : InterfaceDeclaration → w.Shown
shown_in (id.Part x) = w.part (part_in x)
shown_in (id.Header x) = w.heading (heading_in x)

abbrev pub source_in : Tree → w.Source
source_in (tree.Program heading uses all body) = w.program uses.items (declarations_in all.items) (body_in body)
source_in (tree.Unit here name uses n interface all body) =
    w.unit here name (take n uses.items) (drop n uses.items) (map shown_in interface.items) (declarations_in all.items) (option_map body_in body)
