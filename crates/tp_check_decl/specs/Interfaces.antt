-- Interface parts, and units.
use Rattle.std.specs.Prelude.{◌≡◌, ℕ, Bool, true, not, ◌&&◌, ◌||◌, List, [], ◌∷◌, ◌++◌, Option, Some, None, drop}
use Rattle.type_layout.specs.Words.{same_bytes}
use Rattle.syntax_tree.specs.declared.identifier.Identifier.{Identifier}
use Rattle.syntax_tree.specs.declared.statement.CompoundStatement.{CompoundStatement}
use Rattle.syntax_tree.specs.declared.source_tree.source.InterfaceDeclaration.{InterfaceDeclaration}
use Rattle.syntax_tree.specs.declared.source_tree.source.InterfaceDeclaration.TheVariants as i
use Rattle.tp_lexer.specs.declared.source_directives.collected.Directives.{Directives}
use Rattle.typed_tree.specs.declared.units.Item.{Item}
use Rattle.typed_tree.specs.declared.units.Item.TheVariants as item
use Rattle.scopes.specs.declared.entries.Entry.{Entry}
use Rattle.scopes.specs.declared.entries.Entry.TheVariants as entry
use Rattle.scopes.specs.Symbols.{SymbolList}
use Rattle.scopes.specs.Environment.{Environment, own_symbols}
use Rattle.unit_interface.specs.declared.interfaces.Interface.{Interface}
use Rattle.unit_interface.specs.Resolve.{with_use}
use Rattle.unit_interface.specs.Fitting.{use_fits}
use Rattle.typing_rules.specs.declared.faults.Rule.TheVariants as rules
use Rattle.typing_rules.specs.Faults.{broken}
use Rattle.typing_rules.specs.Judgements.{Judgement, makes, rule, part}
use Rattle.typing_rules.specs.Selectors.{asking}
use Rattle.tp_check_decl.specs.routines.Trees.{Works}
use Rattle.tp_check_decl.specs.routines.Drafts.{Drafted, knowing, Stage, stage}
use Rattle.tp_check_decl.specs.routines.Headings.{heading}
use Rattle.tp_check_decl.specs.routines.Blocks.{part_judged, all_judged}
use Rattle.tp_check_decl.specs.declared.fronts.Front.{Front}
use Rattle.tp_check_decl.specs.Units.{Whole}
use Rattle.tp_check_decl.specs.Fronts.{is_system, is_overlay, front_judged}
use Rattle.tp_check_decl.specs.Endings.{ended}
use Rattle.tp_check_decl.specs.Programs.{unit_site, empty_draft}

-- ---- what a unit shows

-- what a name of the unit's block is to those that use the unit
abbrev pub item_of : List ℕ → Entry → List Item
item_of name (entry.Const ty value) = item.Const name ty value ∷ []
item_of name (entry.Ty ty) = item.Ty name ty ∷ []
item_of name (entry.Var unit level number ty) = item.Var name ty number ∷ []
item_of name (entry.Code routine level header far) = item.Code name header routine.number ∷ []
item_of name (entry.Std number) = []

abbrev pub items_in : SymbolList → List Item
items_in [] = []
items_in (one ∷ rest) = item_of one.0 one.1 ++ items_in rest

abbrev pub items_by : Option SymbolList → List Item
items_by None = []
items_by (Some symbols) = items_in symbols

-- the names of the innermost block in order of declaration
abbrev pub items_of : Environment → List Item
items_of g = items_by (own_symbols g)

-- ---- interface parts

-- Routines of an interface part are far.
abbrev pub declared : List ℕ → Stage → InterfaceDeclaration → Judgement Stage
declared unit s (i.Part one) = part_judged unit unit_site s one
declared unit s (i.Header one) = part (heading true unit_site s.draft one) (λ d. makes (stage d s.locals))

abbrev pub all_declared : List ℕ → Stage → List InterfaceDeclaration → Judgement Stage
all_declared unit s [] = makes s
all_declared unit s (one ∷ rest) = part (declared unit s one) (λ t. all_declared unit t rest)

-- A unit behind its interface part.
unfoldable pub interface_judged : List ℕ → Environment → List InterfaceDeclaration → Judgement Drafted
interface_judged name g all = part (all_declared name (stage (empty_draft g) []) all) (λ s. makes s.draft)

-- ---- what stands in front of a unit

abbrev pub is_name_of : List ℕ → List ℕ → Bool
is_name_of file name = same_bytes name file && not (is_system name || is_overlay name)

-- a unit has the name of its file, which is none of the predeclared units'
abbrev pub named_so : List ℕ → Identifier → Judgement (Unit {0})
named_so file own = rule (broken own.position.place rules.SourceName) (is_name_of file own.name) (is_name_of file own.name ≡ true) tt

-- a unit's name, its used units, and what its directives say
unfoldable pub unit_front : List ℕ → Directives → Identifier → List Identifier → Judgement Front
unit_front name says own uses = asking (named_so name own) (front_judged says uses)

-- ---- the units that the implementation part uses

-- A further used unit comes into the scope behind the interface part, where the types that it shows fit those that are there. A type
-- of the unit itself that comes back is the one that the unit has declared, by its number.
abbrev pub further_used : List Interface → Environment → Identifier → Judgement Environment
further_used have g one =
    rule (broken one.position.place rules.UnitNamed) (use_fits have g one.name) (use_fits have g one.name ≡ true) (with_use have g one.name)

abbrev pub all_used : List Interface → Environment → List Identifier → Judgement Environment
all_used have g [] = makes g
all_used have g (one ∷ rest) = part (further_used have g one) (λ h. all_used have h rest)

-- ---- units

-- The implementation part is in the block of the interface part, and sees all used units.
abbrev pub implemented : List ℕ → Front → List Item → Works → Option CompoundStatement → Drafted → Judgement Whole
implemented name front items all body d = part (all_judged name unit_site (stage d []) all) (λ s. ended name front items body s.draft)

-- a unit over what is known by the first of its used units, which its interface part names, and by these interfaces of the others
abbrev pub unit_judged : List ℕ → Directives → Environment → List Interface → Identifier → List Identifier → ℕ → List InterfaceDeclaration → Works → Option CompoundStatement → Judgement Whole
unit_judged name says g have own uses outer interface all body =
    part (unit_front name says own uses) (λ front.
    part (interface_judged name g interface) (λ d.
    part (all_used have d.scope (drop outer uses)) (λ h. implemented name front (items_of d.scope) all body (knowing d h))))
