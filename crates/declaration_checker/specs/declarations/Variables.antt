-- Variables.
use Rattle.std.specs.Prelude.{ℕ, List, [], ◌∷◌}
use Rattle.type_layout.specs.declared.definitions.TypeId.{TypeId}
use Rattle.syntax_tree.specs.declared.identifier.Identifier.{Identifier}
use Rattle.syntax_tree.specs.declared.source_tree.declaration.VariableDeclaration.{VariableDeclaration}
use Rattle.scopes.specs.declared.entries.Entry.{Entry}
use Rattle.scopes.specs.declared.entries.Entry.TheVariants as entry
use Rattle.typing_rules.specs.Judgements.{Judgement, makes, part}
use Rattle.declaration_checker.specs.type_denoters.Trees.{view_denoter}
use Rattle.declaration_checker.specs.type_denoters.Additions.{entered}
use Rattle.declaration_checker.specs.type_denoters.Denoters.{ground, judged}
use Rattle.declaration_checker.specs.declared.declarations.homes.Home.{Home}
use Rattle.declaration_checker.specs.declarations.Progress.{Progress, knowing, level_of, number_behind, with_variable}

-- what the name of the next variable means
abbrev pub variable_entry : Home → TypeId → Progress → Entry
variable_entry home ty p = entry.Var 0 (level_of home) (number_behind home p.globals p.locals) ty

abbrev pub variable_declared : Home → TypeId → Progress → Identifier → Judgement Progress
variable_declared home ty p one =
    part (entered p.scope one.position.place one.name (variable_entry home ty p)) (λ g. makes (with_variable home ty (knowing p g)))

-- variables of one type
abbrev pub names_declared : Home → TypeId → Progress → List Identifier → Judgement Progress
names_declared home ty p [] = makes p
names_declared home ty p (one ∷ rest) = part (variable_declared home ty p one) (λ q. names_declared home ty q rest)

-- Names behind which a type stands, which is put into the table once. It is no part of type declarations: what a pointer points
-- to is visible before.
abbrev pub group_declared : List ℕ → Home → Progress → VariableDeclaration → Judgement Progress
group_declared unit home p one =
    part (judged (ground unit []) p.scope (view_denoter one.denoter)) (λ made. names_declared home made.ty (knowing p made.scope) one.names.items)

abbrev pub variables_declared : List ℕ → Home → Progress → List VariableDeclaration → Judgement Progress
variables_declared unit home p [] = makes p
variables_declared unit home p (one ∷ rest) = part (group_declared unit home p one) (λ q. variables_declared unit home q rest)
