-- What the grammar makes of declarations.
use Rattle.std.specs.Prelude.{List, [], ◌∷◌}
use Rattle.pascal_grammar.specs.Productions.{Production}
use Rattle.pascal_grammar.specs.Productions as p
use Rattle.ll1_grammar.specs.Grammar.{nil}
use Rattle.syntax_tree.specs.declared.identifier.Identifier.{Identifier}
use Rattle.syntax_tree.specs.declared.statement.CompoundStatement.{CompoundStatement}
use Rattle.syntax_tree.specs.Expressions.{Parsed, of, word, mark_at, name_of}
use Rattle.syntax_tree.specs.Statements.{simple_of, compound_of}
use Rattle.syntax_tree.specs.declared.type_tree.parameter.MethodHeader.{MethodHeader}
use Rattle.syntax_tree.specs.declared.type_tree.parameter.MethodHeader.TheVariants as m
use Rattle.syntax_tree.specs.type_tree.Types.{of_type}
use Rattle.syntax_tree.specs.type_tree.Initializers.{of_initializer}
use Rattle.syntax_tree.specs.type_tree.Parameters.{identifiers_of, parameters_of, result_of}
use Rattle.syntax_tree.specs.declared.source_tree.declaration.ConstantDeclaration.{ConstantDeclaration}
use Rattle.syntax_tree.specs.declared.source_tree.declaration.ConstantDeclaration.TheVariants as c
use Rattle.syntax_tree.specs.declared.source_tree.declaration.TypeDeclaration.{TypeDeclaration}
use Rattle.syntax_tree.specs.declared.source_tree.declaration.VariableDeclaration.{VariableDeclaration}
use Rattle.syntax_tree.specs.declared.source_tree.declaration.DeclarationPart.{DeclarationPart}
use Rattle.syntax_tree.specs.declared.source_tree.declaration.DeclarationPart.TheVariants as part
use Rattle.syntax_tree.specs.declared.source_tree.declaration.RoutineHeader.{RoutineHeader}
use Rattle.syntax_tree.specs.declared.source_tree.declaration.RoutineHeader.TheVariants as h
use Rattle.syntax_tree.specs.declared.source_tree.declaration.Block.{Block}
use Rattle.syntax_tree.specs.declared.source_tree.declaration.Routine.{Routine, Row_of-Declaration, end_of-Declaration, more_of-Declaration}
use Rattle.syntax_tree.specs.declared.source_tree.declaration.Routine.TheVariants as r
use Rattle.syntax_tree.specs.declared.source_tree.declaration.Declaration.{Declaration}
use Rattle.syntax_tree.specs.declared.source_tree.declaration.Declaration.TheVariants as d

-- ---- constants, types and variables

abbrev pub of_constant : ConstantDeclaration → Parsed
of_constant (c.Plain name i) = of p.constant (name_of name ∷ of p.plain_constant (word ∷ simple_of i ∷ word ∷ []) ∷ [])
of_constant (c.Typed name t i) = of p.constant (name_of name ∷ of p.typed_constant (word ∷ of_type t ∷ word ∷ of_initializer i ∷ word ∷ []) ∷ [])

abbrev pub of_type_declaration : TypeDeclaration → Parsed
of_type_declaration x = of p.type_declaration (name_of x.name ∷ word ∷ of_type x.denoter ∷ word ∷ [])

abbrev pub of_variable : VariableDeclaration → Parsed
of_variable x = of p.variable (identifiers_of x.names.items ∷ word ∷ of_type x.denoter ∷ of p.no_address [] ∷ word ∷ [])

-- items behind the first, each in the production q, and what comes behind them
abbrev pub next_items : {X : Type 0} → (X → Parsed) → Production → List X → Parsed → Parsed
next_items view q [] more = more
next_items view q (x ∷ all) more = of q (view x ∷ next_items view q all more ∷ [])

-- the first item, and those behind it; none at all are spelled by nothing
abbrev pub items_with : {X : Type 0} → (X → Parsed) → Production → List X → Parsed → Parsed × Parsed
items_with view q [] more = (nil, nil)
items_with view q (x ∷ all) more = (view x, next_items view q all more)

abbrev pub constants_of : List ConstantDeclaration → Parsed × Parsed
constants_of all = items_with of_constant p.next_constant all (of p.no_constants [])

abbrev pub types_of : List TypeDeclaration → Parsed × Parsed
types_of all = items_with of_type_declaration p.next_type all (of p.no_types [])

abbrev pub variables_of : List VariableDeclaration → Parsed × Parsed
variables_of all = items_with of_variable p.next_variable all (of p.no_variables [])

-- The productions of a word with what it declares, in front of more declarations: in a block, or in an interface part.
pub record Words : Type 0 where
  pub constants : Production
  pub types : Production
  pub variables : Production

abbrev pub in_block : Words
in_block = record { constants = p.constants; types = p.types; variables = p.variables }

abbrev pub in_interface : Words
in_interface = record { constants = p.interface_constants; types = p.interface_types; variables = p.interface_variables }

-- a word, the first item and those behind it, and what comes behind these
abbrev pub words_of : Production → Parsed → Parsed × Parsed → Parsed → Parsed
words_of q here items more = of q (here ∷ items.0 ∷ items.1 ∷ more ∷ [])

abbrev pub of_part : Words → DeclarationPart → Parsed → Parsed
of_part w (part.Constants here all) more = words_of w.constants (mark_at here) (constants_of all.items) more
of_part w (part.Types here all) more = words_of w.types (mark_at here) (types_of all.items) more
of_part w (part.Variables here all) more = words_of w.variables (mark_at here) (variables_of all.items) more

-- ---- routines

abbrev pub of_header : RoutineHeader → Parsed
of_header (h.Procedure here name all) = of p.procedure_header (mark_at here ∷ name_of name ∷ parameters_of all.items ∷ [])
of_header (h.Function here name all x) = of p.function_header (mark_at here ∷ name_of name ∷ parameters_of all.items ∷ result_of x ∷ [])

-- a routine that is no method, from its header and what stands behind the header's semicolon
abbrev pub routine_of : RoutineHeader → Parsed → Parsed
routine_of (h.Procedure here name all) body = of p.procedure (mark_at here ∷ name_of name ∷ of p.plain_procedure (parameters_of all.items ∷ word ∷ body ∷ []) ∷ [])
routine_of (h.Function here name all x) body = of p.function (mark_at here ∷ name_of name ∷ of p.plain_function (parameters_of all.items ∷ result_of x ∷ word ∷ body ∷ []) ∷ [])

-- a method, from its header, the name of its object type, and its block
abbrev pub method_of : MethodHeader → Identifier → Parsed → Parsed
method_of (m.Procedure here name all) owner block = of p.procedure (mark_at here ∷ name_of owner ∷ of p.procedure_method (word ∷ name_of name ∷ parameters_of all.items ∷ word ∷ block ∷ word ∷ []) ∷ [])
method_of (m.Function here name all x) owner block = of p.function (mark_at here ∷ name_of owner ∷ of p.function_method (word ∷ name_of name ∷ parameters_of all.items ∷ result_of x ∷ word ∷ block ∷ word ∷ []) ∷ [])
method_of (m.Constructor here name all) owner block = of p.constructor (mark_at here ∷ name_of owner ∷ word ∷ name_of name ∷ parameters_of all.items ∷ word ∷ block ∷ word ∷ [])
method_of (m.Destructor here name all) owner block = of p.destructor (mark_at here ∷ name_of owner ∷ word ∷ name_of name ∷ parameters_of all.items ∷ word ∷ block ∷ word ∷ [])

abbrev pub block_with : Parsed → CompoundStatement → Parsed
block_with declarations x = of p.block (declarations ∷ compound_of x ∷ [])

abbrev mutual
  pub of_routine : Routine → Parsed
  of_routine (r.Forward x) = routine_of x (of p.forward (word ∷ word ∷ []))
  of_routine (r.Plain' x shape all body) = routine_of x (of p.own_block (block_with (of_declarations all) body ∷ word ∷ []))
  of_routine (r.Method' x owner shape all body) = method_of x owner (block_with (of_declarations all) body)

  -- a declaration, and what comes behind it
  pub of_declaration : Declaration → Parsed → Parsed
  of_declaration (d.Part x) more = of_part in_block x more
  of_declaration (d.Routine x) more = of p.routines (of_routine x ∷ more ∷ [])

  pub of_declarations : {n : _} → Row_of-Declaration n → Parsed
  of_declarations end_of-Declaration = of p.no_declarations []
  of_declarations (more_of-Declaration x all) = of_declaration x (of_declarations all)

-- ---- the same over lists

abbrev pub declarations_with : List Declaration → Parsed → Parsed
declarations_with [] more = more
declarations_with (x ∷ all) more = of_declaration x (declarations_with all more)

abbrev pub declarations_of : List Declaration → Parsed
declarations_of all = declarations_with all (of p.no_declarations [])

abbrev pub block_of : Block → Parsed
block_of x = block_with (declarations_of x.declarations.items) x.body
