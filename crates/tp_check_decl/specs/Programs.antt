-- Programs.
use Rattle.std.specs.Prelude.{◌≡◌, ℕ, Bool, true, not, ◌||◌, List, [], Option, Some, None}
use Rattle.type_layout.specs.declared.texts.Place.{Place}
use Rattle.syntax_tree.specs.declared.identifier.Identifier.{Identifier}
use Rattle.syntax_tree.specs.declared.statement.CompoundStatement.{CompoundStatement}
use Rattle.tp_lexer.specs.declared.source_directives.collected.Directives.{Directives}
use Rattle.scopes.specs.declared.entries.BlockKind.TheVariants.{Part}
use Rattle.scopes.specs.Environment.{Environment, with_block}
use Rattle.typing_rules.specs.declared.faults.Rule.TheVariants as rules
use Rattle.typing_rules.specs.Faults.{broken}
use Rattle.typing_rules.specs.Judgements.{Judgement, makes, rule, part}
use Rattle.typing_rules.specs.Selectors.{asking}
use Rattle.declaration_checker.specs.declared.declarations.homes.Home.TheVariants as home
use Rattle.tp_check_decl.specs.declared.routines.drafts.Site.{Site}
use Rattle.tp_check_decl.specs.routines.Trees.{Works}
use Rattle.tp_check_decl.specs.routines.Drafts.{Drafted, stage}
use Rattle.tp_check_decl.specs.routines.Blocks.{all_judged}
use Rattle.tp_check_decl.specs.Units.{Whole}
use Rattle.tp_check_decl.specs.Fronts.{is_system, is_overlay, front_judged}
use Rattle.tp_check_decl.specs.Endings.{ended}

-- the unit's own block
abbrev pub unit_site : Site
unit_site = record { home = home.Unit; outer = None }

abbrev pub empty_draft : Environment → Drafted
empty_draft g = record { scope = with_block g Part; globals = []; routines = [] }

abbrev pub is_free : List ℕ → Bool
is_free file = not (is_system file || is_overlay file)

-- the file of a program has the name of no predeclared unit, which is told where the program begins
abbrev pub named_freely : List ℕ → Option Place → Judgement (Unit {0})
named_freely file None = makes tt
named_freely file (Some place) = rule (broken place rules.SourceName) (is_free file) (is_free file ≡ true) tt

-- what a program declares
unfoldable pub declarations_judged : List ℕ → Environment → Works → Judgement Drafted
declarations_judged name g all = part (all_judged name unit_site (stage (empty_draft g) []) all) (λ s. makes s.draft)

-- A program shows nothing.
abbrev pub program_judged : List ℕ → Directives → Environment → List Identifier → Works → CompoundStatement → Judgement Whole
program_judged name says g uses all body =
    asking (named_freely name says.first) (part (front_judged says uses) (λ front.
    part (declarations_judged name g all) (λ d. ended name front [] (Some body) d)))
