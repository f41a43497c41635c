-- Parts of declarations.
use Rattle.std.specs.Prelude.{ℕ, List, Option}
use Rattle.syntax_tree.specs.declared.source_tree.declaration.DeclarationPart.{DeclarationPart}
use Rattle.syntax_tree.specs.declared.source_tree.declaration.DeclarationPart.TheVariants as part_of
use Rattle.typing_rules.specs.Judgements.{Judgement}
use Rattle.declaration_checker.specs.type_parts.Parts.{type_part}
use Rattle.declaration_checker.specs.declared.declarations.homes.Home.{Home}
use Rattle.declaration_checker.specs.declarations.Progress.{Progress}
use Rattle.declaration_checker.specs.declarations.Constants.{naming, constants_declared}
use Rattle.declaration_checker.specs.declarations.Variables.{variables_declared}

-- Constants, types or variables of a block. Object types stand among the types where a number for the unit's next routine is given.
unfoldable pub part_declared : List ℕ → Home → Option ℕ → Progress → DeclarationPart → Judgement Progress
part_declared unit home next p (part_of.Constants here all) = constants_declared unit p all.items
part_declared unit home next p (part_of.Types here all) = naming p (type_part unit next p.scope all.items)
part_declared unit home next p (part_of.Variables here all) = variables_declared unit home p all.items
