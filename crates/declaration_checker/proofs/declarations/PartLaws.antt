-- Parts of declarations are judged lawfully.
use Rattle.std.proofs.Common.{ℕ, List, [], ◌∷◌, ◌++◌, Option}
use Rattle.type_layout.specs.declared.definitions.TypeId.{TypeId}
use Rattle.syntax_tree.specs.declared.identifier.Identifier.{Identifier}
use Rattle.syntax_tree.specs.declared.source_tree.declaration.ConstantDeclaration.{ConstantDeclaration}
use Rattle.syntax_tree.specs.declared.source_tree.declaration.ConstantDeclaration.TheVariants as c
use Rattle.syntax_tree.specs.declared.source_tree.declaration.VariableDeclaration.{VariableDeclaration}
use Rattle.syntax_tree.specs.declared.source_tree.declaration.DeclarationPart.{DeclarationPart}
use Rattle.syntax_tree.specs.declared.source_tree.declaration.DeclarationPart.TheVariants as part_of
use Rattle.syntax_tree.specs.expression_tree.Trees.{Tree, view_simple}
use Rattle.scopes.specs.declared.entries.Entry.TheVariants as entry
use Rattle.scopes.specs.Environment.{Environment}
use Rattle.typing_rules.specs.Judgements.{Judgement, makes, part}
use Rattle.typing_rules.specs.Laws.{Lawful}
use Rattle.typing_rules.proofs.JudgementLaws.{lawful_makes, lawful_part}
use Rattle.constant_checker.specs.constant_expressions.Constants.{judged}
use Rattle.constant_checker.proofs.constant_expressions.ConstantLaws as constants
use Rattle.declaration_checker.specs.type_denoters.Trees.{Denoter, view_denoter}
use Rattle.declaration_checker.specs.type_denoters.Additions.{entered}
use Rattle.declaration_checker.specs.type_denoters.Denoters as types
use Rattle.declaration_checker.specs.type_denoters.Denoters.{ground}
use Rattle.declaration_checker.proofs.type_denoters.DenoterLaws.{lawful_entered}
use Rattle.declaration_checker.proofs.type_denoters.DenoterLaws as denoters
use Rattle.constant_checker.specs.typed_constants.Trees.{Initial, view_initializer}
use Rattle.constant_checker.specs.typed_constants.Initializers.{first_value}
use Rattle.constant_checker.proofs.typed_constants.InitializerLaws as first_values
use Rattle.declaration_checker.specs.type_parts.Parts.{type_part}
use Rattle.declaration_checker.proofs.type_parts.PartLaws.{lawful_part_of}
use Rattle.declaration_checker.specs.declared.declarations.homes.Home.{Home}
use Rattle.declaration_checker.specs.declarations.Progress.{Progress, progress, knowing, beginning, with_variable}
use Rattle.declaration_checker.specs.declarations.Constants.{plain_constant, static_entry, static_declared, typed_constant, naming, constant_declared, constants_declared}
use Rattle.declaration_checker.specs.declarations.Variables.{variable_entry, variable_declared, names_declared, group_declared, variables_declared}
use Rattle.declaration_checker.specs.declarations.Parts.{part_declared}

-- ---- constants

lawful_plain : (g : Environment) (one : Identifier) (value : Tree) → Lawful (plain_constant g one value)
lawful_plain g one value =
    lawful_part (judged g value) (λ c. entered g one.position.place one.name (entry.Const c.ty c.value)) (constants.lawful g value)
    (λ c. lawful_entered g one.position.place one.name (entry.Const c.ty c.value))

lawful_naming : (p : Progress) (j : Judgement Environment) → Lawful j → Lawful (naming p j)
lawful_naming p j l = lawful_part j (λ g. makes (knowing p g)) l (λ g. lawful_makes (knowing p g))

lawful_static : (p : Progress) (ty : TypeId) (one : Identifier) (bytes : List ℕ) → Lawful (static_declared p ty one bytes)
lawful_static p ty one bytes =
    lawful_part (entered p.scope one.position.place one.name (static_entry ty p)) (λ g. makes (progress g (p.globals ++ beginning ty bytes ∷ []) p.locals))
    (lawful_entered p.scope one.position.place one.name (static_entry ty p)) (λ g. lawful_makes (progress g (p.globals ++ beginning ty bytes ∷ []) p.locals))

lawful_typed : (unit : List ℕ) (p : Progress) (one : Identifier) (denoter : Denoter) (first : Initial) → Lawful (typed_constant unit p one denoter first)
lawful_typed unit p one denoter first =
    lawful_part (types.judged (ground unit []) p.scope denoter)
    (λ made. part (first_value made.scope one.position.place made.ty first) (λ bytes. static_declared (knowing p made.scope) made.ty one bytes))
    (denoters.lawful (ground unit []) p.scope denoter)
    (λ made. lawful_part (first_value made.scope one.position.place made.ty first) (λ bytes. static_declared (knowing p made.scope) made.ty one bytes)
    (first_values.lawful made.scope one.position.place made.ty first) (λ bytes. lawful_static (knowing p made.scope) made.ty one bytes))

lawful_constant : (unit : List ℕ) (p : Progress) (one : ConstantDeclaration) → Lawful (constant_declared unit p one)
lawful_constant unit p (c.Plain one value) = lawful_naming p (plain_constant p.scope one (view_simple value)) (lawful_plain p.scope one (view_simple value))
lawful_constant unit p (c.Typed one denoter first) = lawful_typed unit p one (view_denoter denoter) (view_initializer first)

lawful_constants : (unit : List ℕ) (p : Progress) (all : List ConstantDeclaration) → Lawful (constants_declared unit p all)
lawful_constants unit p [] = lawful_makes p
lawful_constants unit p (one ∷ rest) =
    lawful_part (constant_declared unit p one) (λ q. constants_declared unit q rest) (lawful_constant unit p one) (λ q. lawful_constants unit q rest)

-- ---- variables

module _ (home : Home) (ty : TypeId) where
  lawful_variable : (p : Progress) (one : Identifier) → Lawful (variable_declared home ty p one)
  lawful_variable p one =
      lawful_part (entered p.scope one.position.place one.name (variable_entry home ty p)) (λ g. makes (with_variable home ty (knowing p g)))
      (lawful_entered p.scope one.position.place one.name (variable_entry home ty p)) (λ g. lawful_makes (with_variable home ty (knowing p g)))

  lawful_names : (p : Progress) (all : List Identifier) → Lawful (names_declared home ty p all)
  lawful_names p [] = lawful_makes p
  lawful_names p (one ∷ rest) =
      lawful_part (variable_declared home ty p one) (λ q. names_declared home ty q rest) (lawful_variable p one) (λ q. lawful_names q rest)

module _ (unit : List ℕ) (home : Home) where
  lawful_group : (p : Progress) (one : VariableDeclaration) → Lawful (group_declared unit home p one)
  lawful_group p one =
      lawful_part (types.judged (ground unit []) p.scope (view_denoter one.denoter)) (λ made. names_declared home made.ty (knowing p made.scope) one.names.items)
      (denoters.lawful (ground unit []) p.scope (view_denoter one.denoter)) (λ made. lawful_names home made.ty (knowing p made.scope) one.names.items)

  lawful_variables : (p : Progress) (all : List VariableDeclaration) → Lawful (variables_declared unit home p all)
  lawful_variables p [] = lawful_makes p
  lawful_variables p (one ∷ rest) =
      lawful_part (group_declared unit home p one) (λ q. variables_declared unit home q rest) (lawful_group p one) (λ q. lawful_variables q rest)

-- ---- parts

pub lawful_declared : (unit : List ℕ) (home : Home) (next : Option ℕ) (p : Progress) (one : DeclarationPart) → Lawful (part_declared unit home next p one)
unfolding part_declared
lawful_declared unit home next p (part_of.Constants here all) = lawful_constants unit p all.items
lawful_declared unit home next p (part_of.Types here all) = lawful_naming p (type_part unit next p.scope all.items) (lawful_part_of unit next p.scope all.items)
lawful_declared unit home next p (part_of.Variables here all) = lawful_variables unit home p all.items
