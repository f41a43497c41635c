-- Parts of type declarations.
use Rattle.std.specs.Prelude.{ℕ, ◌+◌, List, [], ◌∷◌, Option, Some, None, length}
use Rattle.syntax_tree.specs.declared.source_tree.declaration.TypeDeclaration.{TypeDeclaration}
use Rattle.syntax_tree.specs.declared.type_tree.types.TypeDenoter.{TypeDenoter}
use Rattle.syntax_tree.specs.declared.type_tree.types.TypeDenoter.TheVariants as t
use Rattle.scopes.specs.declared.entries.Entry.TheVariants as entry
use Rattle.scopes.specs.Members.{narrow}
use Rattle.scopes.specs.Environment.{Environment}
use Rattle.typing_rules.specs.Judgements.{Judgement, makes, part}
use Rattle.declaration_checker.specs.type_denoters.Trees.{view_denoter, view_field_row}
use Rattle.declaration_checker.specs.type_denoters.Additions.{Denoted, entered}
use Rattle.declaration_checker.specs.type_denoters.Denoters.{Ground, ground, judged}
use Rattle.declaration_checker.specs.type_parts.Promised.{promises}
use Rattle.declaration_checker.specs.type_parts.Objects.{object_allowed}

-- the type of a declaration, which alone may be an object type
abbrev pub whole : Ground → Option ℕ → List ℕ → Environment → TypeDenoter → Judgement Denoted
whole on next name g (t.Object' here ancestor shape fields semicolon methods) = object_allowed on next name g here.place ancestor (view_field_row fields) methods.items
whole on next name g one = judged on g (view_denoter one)

-- a declaration, whose name is then known
abbrev pub type_declared : Ground → Option ℕ → Environment → TypeDeclaration → Judgement Environment
type_declared on next g one =
    part (whole on next one.name.name g one.denoter) (λ made. entered made.scope one.name.position.place one.name.name (entry.Ty made.ty))

abbrev pub method_count : TypeDenoter → ℕ
method_count (t.Object' here ancestor shape fields semicolon methods) = length methods.items
method_count one = 0

-- the number of the next routine behind a declaration
abbrev pub next_routine : Option ℕ → TypeDenoter → Option ℕ
next_routine None one = None
next_routine (Some number) one = Some (narrow (number + method_count one))

abbrev pub types_declared : Ground → Option ℕ → Environment → List TypeDeclaration → Judgement Environment
types_declared on next g [] = makes g
types_declared on next g (one ∷ rest) = part (type_declared on next g one) (λ h. types_declared on (next_routine next one.denoter) h rest)

-- A part of type declarations of a unit. Object types stand in it where a number for the next routine is given. Pointers see all
-- names of the part.
unfoldable pub type_part : List ℕ → Option ℕ → Environment → List TypeDeclaration → Judgement Environment
type_part unit next g all = types_declared (ground unit (promises g all)) next g all
