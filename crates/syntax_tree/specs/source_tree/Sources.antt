-- What the grammar makes of a source, and the units that it uses.
use Rattle.std.specs.Prelude.{ℕ, List, [], ◌∷◌, length, take, drop, Option, Some, None}
use Rattle.pascal_grammar.specs.Productions as p
use Rattle.syntax_tree.specs.declared.identifier.Identifier.{Identifier}
use Rattle.syntax_tree.specs.declared.statement.CompoundStatement.{CompoundStatement}
use Rattle.syntax_tree.specs.Expressions.{Parsed, of, word, mark_at, name_of}
use Rattle.syntax_tree.specs.Statements.{compound_of}
use Rattle.syntax_tree.specs.type_tree.Parameters.{identifiers_of}
use Rattle.syntax_tree.specs.source_tree.Declarations.{of_part, in_interface, of_header, declarations_of}
use Rattle.syntax_tree.specs.declared.source_tree.source.InterfaceDeclaration.{InterfaceDeclaration}
use Rattle.syntax_tree.specs.declared.source_tree.source.InterfaceDeclaration.TheVariants as i
use Rattle.syntax_tree.specs.declared.source_tree.source.ProgramHeading.{ProgramHeading}
use Rattle.syntax_tree.specs.declared.source_tree.source.Tree.{Tree}
use Rattle.syntax_tree.specs.declared.source_tree.source.Tree.TheVariants as t

-- a declaration of an interface part, and what comes behind it
abbrev pub of_interface : InterfaceDeclaration → Parsed → Parsed
of_interface (i.Part x) more = of_part in_interface x more
of_interface (i.Header x) more = of p.interface_header (of_header x ∷ word ∷ of p.no_directive [] ∷ more ∷ [])

abbrev pub interface_with : List InterfaceDeclaration → Parsed → Parsed
interface_with [] more = more
interface_with (x ∷ all) more = of_interface x (interface_with all more)

abbrev pub interface_of : List InterfaceDeclaration → Parsed
interface_of all = interface_with all (of p.no_interface [])

-- no names are no clause
abbrev pub uses_clause : List Identifier → Parsed
uses_clause [] = of p.no_uses []
uses_clause (x ∷ all) = of p.uses_clause (word ∷ identifiers_of (x ∷ all) ∷ word ∷ [])

-- no names are no parentheses
abbrev pub files_of : List Identifier → Parsed
files_of [] = of p.no_files []
files_of (x ∷ all) = of p.files (word ∷ identifiers_of (x ∷ all) ∷ word ∷ [])

abbrev pub heading_of : Option ProgramHeading → Parsed
heading_of None = of p.headless []
heading_of (Some x) = of p.headed (mark_at x.position ∷ name_of x.name ∷ files_of x.files.items ∷ word ∷ [])

abbrev pub unit_body_of : Option CompoundStatement → Parsed
unit_body_of None = of p.no_body (word ∷ [])
unit_body_of (Some x) = of p.initialization (compound_of x ∷ [])

abbrev pub of_tree : Tree → Parsed
of_tree (t.Program heading uses all body) = of p.program (heading_of heading ∷ uses_clause uses.items ∷ declarations_of all.items ∷ compound_of body ∷ word ∷ [])
of_tree (t.Unit here name uses n interface all body) = of p.unit (mark_at here ∷ name_of name ∷ word ∷ word ∷ uses_clause (take n uses.items) ∷ interface_of interface.items ∷ word ∷ uses_clause (drop n uses.items) ∷ declarations_of all.items ∷ unit_body_of body ∷ word ∷ [])

-- ---- used units

abbrev pub used : Tree → List Identifier
used (t.Program heading uses all body) = uses.items
used (t.Unit here name uses n interface all body) = uses.items

-- how many of them the interface part names
abbrev pub used_in_interface : Tree → ℕ
used_in_interface (t.Program heading uses all body) = length uses.items
used_in_interface (t.Unit here name uses n interface all body) = n
