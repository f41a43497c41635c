-- Declarations of types add types, and names of types and of values.
use Rattle.std.specs.Prelude.{ℕ, List, Option}
use Rattle.bodies_well_formed.specs.syntax_tree.declared.source_tree.declaration.TypeDeclaration.{TypeDeclaration}
use Rattle.bodies_well_formed.specs.scopes.Environment.{Environment}
use Rattle.imported_types_agree.specs.declaration_checker.type_denoters.Trees.{Denoter}
use Rattle.imported_types_agree.specs.declaration_checker.type_denoters.Additions.{Denoted}
use Rattle.imported_types_agree.specs.declaration_checker.type_denoters.Denoters.{Ground, judged}
use Rattle.imported_types_agree.specs.declaration_checker.type_parts.Parts.{type_part}
use Rattle.declarations_well_formed.specs.names.Declaring.{Declares}

-- a type as it is written
abbrev pub TypeLaw : Type 0
TypeLaw = (on : Ground) (g : Environment) (one : Denoter) (made : Denoted) → (judged on g one).holds made → Declares g made.scope

-- a part of type declarations
abbrev pub PartLaw : Type 0
PartLaw = (unit : List ℕ) (next : Option ℕ) (g : Environment) (all : List TypeDeclaration) (h : Environment) → (type_part unit next g all).holds h → Declares g h
