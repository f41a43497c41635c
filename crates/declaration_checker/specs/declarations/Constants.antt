-- Constants, and variables that begin with a value.
use Rattle.std.specs.Prelude.{ℕ, List, [], ◌∷◌, ◌++◌}
use Rattle.type_layout.specs.declared.definitions.TypeId.{TypeId}
use Rattle.syntax_tree.specs.declared.identifier.Identifier.{Identifier}
use Rattle.syntax_tree.specs.declared.source_tree.declaration.ConstantDeclaration.{ConstantDeclaration}
use Rattle.syntax_tree.specs.declared.source_tree.declaration.ConstantDeclaration.TheVariants as c
use Rattle.syntax_tree.specs.expression_tree.Trees.{Tree, view_simple}
use Rattle.scopes.specs.declared.entries.Entry.{Entry}
use Rattle.scopes.specs.declared.entries.Entry.TheVariants as entry
use Rattle.scopes.specs.Environment.{Environment}
use Rattle.typing_rules.specs.Judgements.{Judgement, makes, part}
use Rattle.constant_checker.specs.constant_expressions.Constants.{judged}
use Rattle.declaration_checker.specs.type_denoters.Trees.{Denoter, view_denoter}
use Rattle.declaration_checker.specs.type_denoters.Additions.{entered}
use Rattle.declaration_checker.specs.type_denoters.Denoters as types
use Rattle.declaration_checker.specs.type_denoters.Denoters.{ground}
use Rattle.constant_checker.specs.typed_constants.Trees.{Initial, view_initializer}
use Rattle.constant_checker.specs.typed_constants.Initializers.{first_value}
use Rattle.declaration_checker.specs.declared.declarations.homes.Home.TheVariants as home
use Rattle.declaration_checker.specs.declarations.Progress.{Progress, progress, knowing, number_behind, beginning}

-- a name for the value of a constant expression, in which it isn't known yet
abbrev pub plain_constant : Environment → Identifier → Tree → Judgement Environment
plain_constant g one value = part (judged g value) (λ c. entered g one.position.place one.name (entry.Const c.ty c.value))

-- what the name of the unit's next variable means
abbrev pub static_entry : TypeId → Progress → Entry
static_entry ty p = entry.Var 0 0 (number_behind home.Unit p.globals p.locals) ty

-- the unit's next variable, which begins with these bytes
abbrev pub static_declared : Progress → TypeId → Identifier → List ℕ → Judgement Progress
static_declared p ty one bytes =
    part (entered p.scope one.position.place one.name (static_entry ty p)) (λ g. makes (progress g (p.globals ++ beginning ty bytes ∷ []) p.locals))

-- A typed constant is a variable of the unit, also where a routine declares it: it keeps what it holds from call to call. Its name
-- isn't known yet in its type and its first value.
abbrev pub typed_constant : List ℕ → Progress → Identifier → Denoter → Initial → Judgement Progress
typed_constant unit p one denoter first =
    part (types.judged (ground unit []) p.scope denoter)
    (λ made. part (first_value made.scope one.position.place made.ty first) (λ bytes. static_declared (knowing p made.scope) made.ty one bytes))

-- what adds names and types alone
abbrev pub naming : Progress → Judgement Environment → Judgement Progress
naming p j = part j (λ g. makes (knowing p g))

abbrev pub constant_declared : List ℕ → Progress → ConstantDeclaration → Judgement Progress
constant_declared unit p (c.Plain one value) = naming p (plain_constant p.scope one (view_simple value))
constant_declared unit p (c.Typed one denoter first) = typed_constant unit p one (view_denoter denoter) (view_initializer first)

abbrev pub constants_declared : List ℕ → Progress → List ConstantDeclaration → Judgement Progress
constants_declared unit p [] = makes p
constants_declared unit p (one ∷ rest) = part (constant_declared unit p one) (λ q. constants_declared unit q rest)
