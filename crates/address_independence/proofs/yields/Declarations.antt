-- Declarations and sources are read back.
use Rattle.std.proofs.Common.{◌≡◌, List, [], ◌∷◌, map, take, drop, Option, Some, None, refl, sym, subst, ◌∙◌}
use Rattle.std.specs.Option.{option_map}
use Rattle.tp_check_decl.specs.pascal_grammar.Productions as p
use Rattle.tp_check_decl.specs.syntax_tree.declared.identifier.Identifier.{Identifier}
use Rattle.tp_check_decl.specs.syntax_tree.declared.statement.CompoundStatement.{CompoundStatement}
use Rattle.tp_check_decl.specs.syntax_tree.Expressions.{Parsed, of}
use Rattle.tp_check_decl.specs.syntax_tree.declared.type_tree.parameter.MethodHeader.{MethodHeader}
use Rattle.tp_check_decl.specs.syntax_tree.declared.type_tree.parameter.MethodHeader.TheVariants as m
use Rattle.tp_check_decl.specs.syntax_tree.declared.source_tree.declaration.ConstantDeclaration.{ConstantDeclaration}
use Rattle.tp_check_decl.specs.syntax_tree.declared.source_tree.declaration.ConstantDeclaration.TheVariants as c
use Rattle.tp_check_decl.specs.syntax_tree.declared.source_tree.declaration.TypeDeclaration.{TypeDeclaration}
use Rattle.tp_check_decl.specs.syntax_tree.declared.source_tree.declaration.VariableDeclaration.{VariableDeclaration}
use Rattle.tp_check_decl.specs.syntax_tree.declared.source_tree.declaration.DeclarationPart.{DeclarationPart}
use Rattle.tp_check_decl.specs.syntax_tree.declared.source_tree.declaration.DeclarationPart.TheVariants as part
use Rattle.tp_check_decl.specs.syntax_tree.declared.source_tree.declaration.RoutineHeader.{RoutineHeader}
use Rattle.tp_check_decl.specs.syntax_tree.declared.source_tree.declaration.RoutineHeader.TheVariants as h
use Rattle.tp_check_decl.specs.syntax_tree.declared.source_tree.declaration.Routine.{Routine, Row_of-Declaration, end_of-Declaration, more_of-Declaration}
use Rattle.tp_check_decl.specs.syntax_tree.declared.source_tree.declaration.Routine.TheVariants as r
use Rattle.tp_check_decl.specs.syntax_tree.declared.source_tree.declaration.Declaration.{Declaration}
use Rattle.tp_check_decl.specs.syntax_tree.declared.source_tree.declaration.Declaration.TheVariants as d
use Rattle.tp_check_decl.specs.syntax_tree.declared.source_tree.source.InterfaceDeclaration.{InterfaceDeclaration}
use Rattle.tp_check_decl.specs.syntax_tree.declared.source_tree.source.InterfaceDeclaration.TheVariants as id
use Rattle.tp_check_decl.specs.syntax_tree.declared.source_tree.source.Tree.{Tree}
use Rattle.tp_check_decl.specs.syntax_tree.declared.source_tree.source.Tree.TheVariants as t
use Rattle.tp_check_decl.specs.syntax_tree.source_tree.Declarations.{of_constant, of_type_declaration, of_variable, next_items, constants_of, types_of, variables_of, in_block, in_interface, of_part, of_header, routine_of, method_of, of_routine, of_declaration, of_declarations, declarations_of}
use Rattle.tp_check_decl.specs.syntax_tree.source_tree.Sources.{interface_of, uses_clause, unit_body_of, of_tree}
use Rattle.tp_check_decl.specs.ll1_grammar.whole_trees.Whole.{IsWhole}
use Rattle.address_independence.specs.yields.Written as w
use Rattle.address_independence.specs.yields.Reading.{meant}
use Rattle.address_independence.specs.yields.Trees.{heading_in, method_heading, constant_in, type_named, variables_in, part_in, body_in, work_in, with_declaration, works_in, declarations_in, shown_in, source_in}
use Rattle.address_independence.proofs.yields.Expressions.{no_terms, simple_read}
use Rattle.address_independence.proofs.yields.Statements.{body_read}
use Rattle.address_independence.proofs.yields.Types.{names_read, result_read, parameters_read, heading, type_read}
use Rattle.address_independence.proofs.yields.Initializers.{initial_read}

-- ---- constants

constant_read : (one : ConstantDeclaration) → IsWhole (of_constant one) → (meant (of_constant one)).constant ≡ constant_in one
constant_read (c.Plain name x) h = λ i. w.plain name (simple_read x no_terms h.1.0.1.0 i)
constant_read (c.Typed name denoter x) h = λ i. w.typed name (type_read denoter h.1.0.1.0 i) (initial_read x h.1.0.1.1.1.0 i)

next_constants_read : (all : List ConstantDeclaration) → IsWhole (next_items of_constant p.next_constant all (of p.no_constants []))
    → (meant (next_items of_constant p.next_constant all (of p.no_constants []))).constants ≡ map constant_in all
next_constants_read [] h = refl
next_constants_read (one ∷ all) h = λ i. constant_read one h.0 i ∷ next_constants_read all h.1.0 i

constants_read : (all : List ConstantDeclaration) → IsWhole (constants_of all).0 → IsWhole (constants_of all).1
    → (meant (constants_of all).0).constant ∷ (meant (constants_of all).1).constants ≡ map constant_in all
constants_read [] h k = absurd h
constants_read (one ∷ all) h k = λ i. constant_read one h i ∷ next_constants_read all k i

-- ---- types

type_named_read : (one : TypeDeclaration) → IsWhole (of_type_declaration one) → (meant (of_type_declaration one)).type_named ≡ type_named one
type_named_read one h = λ i. record { name = one.name; denoter = type_read one.denoter h.1.1.0 i }

next_types_read : (all : List TypeDeclaration) → IsWhole (next_items of_type_declaration p.next_type all (of p.no_types []))
    → (meant (next_items of_type_declaration p.next_type all (of p.no_types []))).types ≡ map type_named all
next_types_read [] h = refl
next_types_read (one ∷ all) h = λ i. type_named_read one h.0 i ∷ next_types_read all h.1.0 i

types_read : (all : List TypeDeclaration) → IsWhole (types_of all).0 → IsWhole (types_of all).1
    → (meant (types_of all).0).type_named ∷ (meant (types_of all).1).types ≡ map type_named all
types_read [] h k = absurd h
types_read (one ∷ all) h k = λ i. type_named_read one h i ∷ next_types_read all k i

-- ---- variables

variable_read : (one : VariableDeclaration) → IsWhole (of_variable one) → (meant (of_variable one)).variable ≡ variables_in one
variable_read one h = λ i. record { names = names_read one.names.items i; denoter = type_read one.denoter h.1.1.0 i }

next_variables_read : (all : List VariableDeclaration) → IsWhole (next_items of_variable p.next_variable all (of p.no_variables []))
    → (meant (next_items of_variable p.next_variable all (of p.no_variables []))).variables ≡ map variables_in all
next_variables_read [] h = refl
next_variables_read (one ∷ all) h = λ i. variable_read one h.0 i ∷ next_variables_read all h.1.0 i

variables_read : (all : List VariableDeclaration) → IsWhole (variables_of all).0 → IsWhole (variables_of all).1
    → (meant (variables_of all).0).variable ∷ (meant (variables_of all).1).variables ≡ map variables_in all
variables_read [] h k = absurd h
variables_read (one ∷ all) h k = λ i. variable_read one h i ∷ next_variables_read all k i

-- ---- parts

block_part_read : (one : DeclarationPart) (more : Parsed) → IsWhole (of_part in_block one more) → (meant (of_part in_block one more)).works ≡ w.and_part (part_in one) (meant more).works
block_part_read (part.Constants here all) more h = λ i. w.and_part (w.constants (constants_read all.items h.1.0 h.1.1.0 i)) (meant more).works
block_part_read (part.Types here all) more h = λ i. w.and_part (w.types (types_read all.items h.1.0 h.1.1.0 i)) (meant more).works
block_part_read (part.Variables here all) more h = λ i. w.and_part (w.variables (variables_read all.items h.1.0 h.1.1.0 i)) (meant more).works

behind_block_part : (one : DeclarationPart) (more : Parsed) → IsWhole (of_part in_block one more) → IsWhole more
behind_block_part (part.Constants here all) more h = h.1.1.1.0
behind_block_part (part.Types here all) more h = h.1.1.1.0
behind_block_part (part.Variables here all) more h = h.1.1.1.0

shown_part_read : (one : DeclarationPart) (more : Parsed) → IsWhole (of_part in_interface one more) → (meant (of_part in_interface one more)).shown ≡ w.part (part_in one) ∷ (meant more).shown
shown_part_read (part.Constants here all) more h = λ i. w.part (w.constants (constants_read all.items h.1.0 h.1.1.0 i)) ∷ (meant more).shown
shown_part_read (part.Types here all) more h = λ i. w.part (w.types (types_read all.items h.1.0 h.1.1.0 i)) ∷ (meant more).shown
shown_part_read (part.Variables here all) more h = λ i. w.part (w.variables (variables_read all.items h.1.0 h.1.1.0 i)) ∷ (meant more).shown

behind_shown_part : (one : DeclarationPart) (more : Parsed) → IsWhole (of_part in_interface one more) → IsWhole more
behind_shown_part (part.Constants here all) more h = h.1.1.1.0
behind_shown_part (part.Types here all) more h = h.1.1.1.0
behind_shown_part (part.Variables here all) more h = h.1.1.1.0

-- ---- headers

header_read : (one : RoutineHeader) → (meant (of_header one)).heading ≡ heading_in one
header_read (h.Procedure here name groups) = λ i. heading w.procedure here name (parameters_read groups.items i) None
header_read (h.Function here name groups result) = λ i. heading w.function here name (parameters_read groups.items i) (result_read result i)

routine_of_read : (one : RoutineHeader) (body : Parsed) → (meant (routine_of one body)).work ≡ (meant body).worked (heading_in one)
routine_of_read (h.Procedure here name groups) body = λ i. (meant body).worked (heading w.procedure here name (parameters_read groups.items i) None)
routine_of_read (h.Function here name groups result) body = λ i. (meant body).worked (heading w.function here name (parameters_read groups.items i) (result_read result i))

behind_routine : (one : RoutineHeader) (body : Parsed) → IsWhole (routine_of one body) → IsWhole body
behind_routine (h.Procedure here name groups) body k = k.1.1.0.1.1.0
behind_routine (h.Function here name groups result) body k = k.1.1.0.1.1.1.0

abbrev as_method : Identifier → Parsed → w.Heading → w.Work
as_method owner block x = w.method x owner (meant block).works (meant block).body

method_of_read : (one : MethodHeader) (owner : Identifier) (block : Parsed) → (meant (method_of one owner block)).work ≡ as_method owner block (method_heading one)
method_of_read (m.Procedure here name groups) owner block = λ i. as_method owner block (heading w.procedure here name (parameters_read groups.items i) None)
method_of_read (m.Function here name groups result) owner block = λ i. as_method owner block (heading w.function here name (parameters_read groups.items i) (result_read result i))
method_of_read (m.Constructor here name groups) owner block = λ i. as_method owner block (heading w.constructor here name (parameters_read groups.items i) None)
method_of_read (m.Destructor here name groups) owner block = λ i. as_method owner block (heading w.destructor here name (parameters_read groups.items i) None)

behind_method : (one : MethodHeader) (owner : Identifier) (block : Parsed) → IsWhole (method_of one owner block) → IsWhole block
behind_method (m.Procedure here name groups) owner block k = k.1.1.0.1.1.1.1.0
behind_method (m.Function here name groups result) owner block k = k.1.1.0.1.1.1.1.1.0
behind_method (m.Constructor here name groups) owner block k = k.1.1.1.1.1.1.0
behind_method (m.Destructor here name groups) owner block k = k.1.1.1.1.1.1.0

-- ---- routines

mutual
  work_read : (one : Routine) → IsWhole (of_routine one) → (meant (of_routine one)).work ≡ work_in one
  work_read (r.Forward x) h = routine_of_read x _
  work_read (r.Plain' x shape all body) h =
      let whole = (behind_routine x _ h).0 in
      routine_of_read x _ ∙ λ i. w.routine (heading_in x) (works_read all whole.0 i) (body_read body whole.1.0 i)
  work_read (r.Method' x owner shape all body) h =
      let whole = behind_method x owner _ h in
      method_of_read x owner _ ∙ λ i. w.method (method_heading x) owner (works_read all whole.0 i) (body_read body whole.1.0 i)

  declaration_read : (one : Declaration) (more : Parsed) → IsWhole (of_declaration one more) → (meant (of_declaration one more)).works ≡ with_declaration one (meant more).works
  declaration_read (d.Part x) more h = block_part_read x more h
  declaration_read (d.Routine x) more h = λ i. w.and_work (work_read x h.0 i) (meant more).works

  works_read : {n : _} (all : Row_of-Declaration n) → IsWhole (of_declarations all) → (meant (of_declarations all)).works ≡ works_in all
  works_read end_of-Declaration h = refl
  works_read (more_of-Declaration x all) h = declaration_read x (of_declarations all) h ∙ λ i. with_declaration x (works_read all (behind_declaration x (of_declarations all) h) i)

  behind_declaration : (one : Declaration) (more : Parsed) → IsWhole (of_declaration one more) → IsWhole more
  behind_declaration (d.Part x) more h = behind_block_part x more h
  behind_declaration (d.Routine x) more h = h.1.0

declarations_read : (all : List Declaration) → IsWhole (declarations_of all) → (meant (declarations_of all)).works ≡ declarations_in all
declarations_read [] h = refl
declarations_read (one ∷ all) h = declaration_read one (declarations_of all) h ∙ λ i. with_declaration one (declarations_read all (behind_declaration one (declarations_of all) h) i)

-- ---- sources

interface_read : (all : List InterfaceDeclaration) → IsWhole (interface_of all) → (meant (interface_of all)).shown ≡ map shown_in all
interface_read [] h = refl
interface_read (id.Part x ∷ all) h = shown_part_read x (interface_of all) h ∙ λ i. w.part (part_in x) ∷ interface_read all (behind_shown_part x (interface_of all) h) i
interface_read (id.Header x ∷ all) h = λ i. w.heading (header_read x i) ∷ interface_read all h.1.1.1.0 i

uses_read : (all : List Identifier) → (meant (uses_clause all)).names ≡ all
uses_read [] = refl
uses_read (one ∷ all) = names_read (one ∷ all)

initial_body_read : (one : Option CompoundStatement) → IsWhole (unit_body_of one) → (meant (unit_body_of one)).initial ≡ option_map body_in one
initial_body_read None h = refl
initial_body_read (Some one) h = λ i. Some (body_read one h.0 i)

pub source_read : (one : Tree) → IsWhole (of_tree one) → (meant (of_tree one)).source ≡ source_in one
source_read (t.Program head uses all body) h = λ i. w.program (uses_read uses.items i) (declarations_read all.items h.1.1.0 i) (body_read body h.1.1.1.0 i)
source_read (t.Unit here name uses n interface all body) h =
    let behind = h.1.1.1.1.1 in
    λ i. w.unit here name (uses_read (take n uses.items) i) (uses_read (drop n uses.items) i) (interface_read interface.items behind.0 i) (declarations_read all.items behind.1.1.1.0 i) (initial_body_read body behind.1.1.1.1.0 i)

-- sources that are spelled alike are written alike
pub source_alike : (x y : Tree) → IsWhole (of_tree x) → of_tree x ≡ of_tree y → source_in x ≡ source_in y
source_alike x y h e = sym (source_read x h) ∙ (λ i. (meant (e i)).source) ∙ source_read y (subst (λ (z : Parsed). IsWhole z) e h)
