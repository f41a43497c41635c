-- Parts of declarations add names of what they declare.
use Rattle.std.specs.Prelude.{ℕ, List, Option}
use Rattle.bodies_well_formed.specs.syntax_tree.declared.source_tree.declaration.DeclarationPart.{DeclarationPart}
use Rattle.imported_types_agree.specs.declaration_checker.declared.declarations.homes.Home.{Home}
use Rattle.imported_types_agree.specs.declaration_checker.declarations.Progress.{Progress}
use Rattle.imported_types_agree.specs.declaration_checker.declarations.Parts.{part_declared}
use Rattle.declarations_well_formed.specs.parts.Declaring.{Adds}

abbrev pub PartLaw : Type 0
PartLaw = (unit : List ℕ) (home : Home) (next : Option ℕ) (p q : Progress) (one : DeclarationPart) → (part_declared unit home next p one).holds q → Adds home p q
