-- Literals of constants, as sources spell them.
use Rattle.std.specs.Prelude.{List, [], ◌∷◌}
use Rattle.bodies_well_formed.specs.syntax_tree.expression_tree.Trees.{view_simple}
use Rattle.bodies_well_formed.specs.syntax_tree.declared.source_tree.declaration.ConstantDeclaration.{ConstantDeclaration}
use Rattle.bodies_well_formed.specs.syntax_tree.declared.source_tree.declaration.ConstantDeclaration.TheVariants as constant
use Rattle.bodies_well_formed.specs.syntax_tree.declared.source_tree.declaration.DeclarationPart.{DeclarationPart}
use Rattle.bodies_well_formed.specs.syntax_tree.declared.source_tree.declaration.DeclarationPart.TheVariants as part_of
use Rattle.bodies_well_formed.specs.expressions.Literals.{AreLiterals}

-- those of each constant that has no type of its own; what a typed one begins with is kept as bytes
abbrev pub AreWritten : List ConstantDeclaration → Type 0
AreWritten [] = Unit {0}
AreWritten (constant.Plain one value ∷ rest) = AreLiterals (view_simple value) × AreWritten rest
AreWritten (constant.Typed one denoter first ∷ rest) = AreWritten rest

abbrev pub HasLiterals : DeclarationPart → Type 0
HasLiterals (part_of.Constants here all) = AreWritten all.items
HasLiterals _ = Unit {0}
