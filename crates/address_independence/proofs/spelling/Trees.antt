-- Sources are judged by what is written in them, so alike where they are spelled alike.
use Rattle.std.proofs.Common.{◌≡◌, ℕ, true, List, [], ◌∷◌, ◌++◌, map, drop, Option, Some, None, refl, sym, ◌∙◌}
use Rattle.std.proofs.Math.Path.{transport}
use Rattle.std.specs.Option.{option_map}
use Rattle.std.proofs.lemmas.List.{take-append-drop}
use Rattle.tp_check_decl.specs.syntax_tree.declared.identifier.Identifier.{Identifier}
use Rattle.tp_check_decl.specs.syntax_tree.declared.statement.CompoundStatement.{CompoundStatement}
use Rattle.tp_check_decl.specs.syntax_tree.declared.source_tree.declaration.Declaration.{Declaration}
use Rattle.tp_check_decl.specs.syntax_tree.declared.source_tree.source.InterfaceDeclaration.{InterfaceDeclaration}
use Rattle.tp_check_decl.specs.syntax_tree.declared.source_tree.source.InterfaceDeclaration.TheVariants as i
use Rattle.tp_check_decl.specs.syntax_tree.declared.source_tree.source.Tree.{Tree}
use Rattle.tp_check_decl.specs.syntax_tree.declared.source_tree.source.Tree.TheVariants as t
use Rattle.tp_check_decl.specs.syntax_tree.source_tree.Sources.{of_tree}
use Rattle.tp_check_decl.specs.tp_lexer.declared.source_directives.collected.Directives.{Directives}
use Rattle.tp_check_decl.specs.typed_tree.declared.units.Item.{Item}
use Rattle.tp_check_decl.specs.scopes.Environment.{Environment}
use Rattle.tp_check_decl.specs.unit_interface.declared.interfaces.Interface.{Interface}
use Rattle.tp_check_decl.specs.typing_rules.Judgements.{Judgement, makes, part, parts}
use Rattle.tp_check_decl.specs.typing_rules.Selectors.{asking}
use Rattle.tp_check_decl.specs.tp_check_stmt.Typed.{blocked, listed}
use Rattle.tp_check_decl.specs.routines.Trees.{view_declarations}
use Rattle.tp_check_decl.specs.routines.Drafts.{Drafted, knowing, Stage, stage}
use Rattle.tp_check_decl.specs.Units.{Finished, Whole, main_part, whole}
use Rattle.tp_check_decl.specs.Limits.{within_limit}
use Rattle.tp_check_decl.specs.Fronts.{front_judged}
use Rattle.tp_check_decl.specs.Endings as endings
use Rattle.tp_check_decl.specs.Endings.{all_finished, with_main}
use Rattle.tp_check_decl.specs.Programs as programs
use Rattle.tp_check_decl.specs.Programs.{unit_site, empty_draft, named_freely}
use Rattle.tp_check_decl.specs.Interfaces as interfaces
use Rattle.tp_check_decl.specs.Interfaces.{items_of, unit_front, all_used}
use Rattle.tp_check_decl.specs.Checked as checked
use Rattle.tp_check_decl.specs.Shown as shown
use Rattle.tp_check_decl.specs.Shown.{nothing_shown}
use Rattle.tp_check_decl.specs.ll1_grammar.whole_trees.Whole.{IsWhole}
use Rattle.address_independence.specs.yields.Written as w
use Rattle.address_independence.specs.yields.Trees.{body_in, declarations_in, shown_in, source_in}
use Rattle.address_independence.proofs.yields.Declarations.{source_alike}
use Rattle.address_independence.specs.spelling.Laws.{TypedAlike, ShownAlike}
use Rattle.address_independence.proofs.spelling.Headings.{heading, heading_is}
use Rattle.address_independence.proofs.spelling.Works.{part_judged, part_judged_is, all_judged, declarations_are}

-- ---- the end of a unit

abbrev main_judged : List ℕ → Environment → w.Body → Judgement Finished
main_judged name g body =
    part (blocked (listed g body.tasks)) (λ typed. asking (within_limit g.types.types body.position.place (main_part name typed)) (makes (main_part name typed)))

-- a unit of what was read and of its routines, without a main or initialisation part or with one
abbrev ended : (Drafted → List Finished → Whole) → (Drafted → List Finished → Finished → Whole) → List ℕ → Option w.Body → Drafted → Judgement Whole
ended without within name None d = part (all_finished d.scope.types.types d.routines) (λ all. makes (without d all))
ended without within name (Some body) d =
    parts (all_finished d.scope.types.types d.routines) (main_judged name d.scope body) (λ all main. makes (within d all main))

main_is : (name : List ℕ) (g : Environment) (body : CompoundStatement) → endings.main_judged name g body ≡ main_judged name g (body_in body)
unfolding endings.main_judged
main_is name g body = refl

ended_is : (name : List ℕ) (front : _) (items : List Item) (body : Option CompoundStatement) (d : Drafted)
    → endings.ended name front items body d
    ≡ ended (λ e all. whole name front e.scope items e.globals all None) (λ e all main. with_main name front items e all main) name (option_map body_in body) d
ended_is name front items None d = refl
ended_is name front items (Some body) d =
    λ j. parts (all_finished d.scope.types.types d.routines) (main_is name d.scope body j) (λ all main. makes (with_main name front items d all main))

-- ---- declarations

abbrev declarations_judged : List ℕ → Environment → w.Works → Judgement Drafted
declarations_judged name g all = part (all_judged name unit_site (stage (empty_draft g) []) all) (λ s. makes s.draft)

declarations_is : (name : List ℕ) (g : Environment) (all : List Declaration) → programs.declarations_judged name g (view_declarations all) ≡ declarations_judged name g (declarations_in all)
unfolding programs.declarations_judged
declarations_is name g all = λ j. part (declarations_are all name unit_site (stage (empty_draft g) []) j) (λ s. makes s.draft)

-- ---- interface parts

abbrev declared : List ℕ → Stage → w.Shown → Judgement Stage
declared unit s (w.part one) = part_judged unit unit_site s one
declared unit s (w.heading one) = part (heading true unit_site s.draft one) (λ d. makes (stage d s.locals))

abbrev all_declared : List ℕ → Stage → List w.Shown → Judgement Stage
all_declared unit s [] = makes s
all_declared unit s (one ∷ rest) = part (declared unit s one) (λ t. all_declared unit t rest)

abbrev interface_judged : List ℕ → Environment → List w.Shown → Judgement Drafted
interface_judged name g all = part (all_declared name (stage (empty_draft g) []) all) (λ s. makes s.draft)

declared_is : (unit : List ℕ) (s : Stage) (one : InterfaceDeclaration) → interfaces.declared unit s one ≡ declared unit s (shown_in one)
declared_is unit s (i.Part one) = part_judged_is unit unit_site s one
declared_is unit s (i.Header one) = λ j. part (heading_is true unit_site s.draft one j) (λ d. makes (stage d s.locals))

all_declared_is : (all : List InterfaceDeclaration) (unit : List ℕ) (s : Stage) → interfaces.all_declared unit s all ≡ all_declared unit s (map shown_in all)
all_declared_is [] unit s = refl
all_declared_is (one ∷ rest) unit s = λ j. part (declared_is unit s one j) (λ t. all_declared_is rest unit t j)

interface_is : (name : List ℕ) (g : Environment) (all : List InterfaceDeclaration) → interfaces.interface_judged name g all ≡ interface_judged name g (map shown_in all)
unfolding interfaces.interface_judged
interface_is name g all = λ j. part (all_declared_is all name (stage (empty_draft g) []) j) (λ s. makes s.draft)

-- ---- sources

abbrev program_judged : List ℕ → Directives → Environment → List Identifier → w.Works → w.Body → Judgement Whole
program_judged name says g uses all body =
    asking (named_freely name says.first) (part (front_judged says uses) (λ front.
    part (declarations_judged name g all) (λ d.
    ended (λ e all. whole name front e.scope [] e.globals all None) (λ e all main. with_main name front [] e all main) name (Some body) d)))

abbrev implemented : (Drafted → List Finished → Whole) → (Drafted → List Finished → Finished → Whole) → List ℕ → w.Works → Option w.Body → Drafted → Judgement Whole
implemented without within name all body d = part (all_judged name unit_site (stage d []) all) (λ s. ended without within name body s.draft)

-- over all used units, and those of the implementation part
abbrev unit_judged : List ℕ → Directives → Environment → List Interface → Identifier → List Identifier → List Identifier → List w.Shown → w.Works → Option w.Body → Judgement Whole
unit_judged name says g have own uses inner interface all body =
    part (unit_front name says own uses) (λ front.
    part (interface_judged name g interface) (λ d.
    part (all_used have d.scope inner) (λ h.
    implemented (λ e all. whole name front e.scope (items_of d.scope) e.globals all None) (λ e all main. with_main name front (items_of d.scope) e all main) name all body (knowing d h))))

abbrev judged : List ℕ → Directives → Environment → List Interface → w.Source → Judgement Whole
judged name says g have (w.program uses all body) = program_judged name says g uses all body
judged name says g have (w.unit here own outer inner interface all body) = unit_judged name says g have own (outer ++ inner) inner interface all body

implemented_is : (name : List ℕ) (front : _) (items : List Item) (all : List Declaration) (body : Option CompoundStatement) (d : Drafted)
    → interfaces.implemented name front items (view_declarations all) body d
    ≡ implemented (λ e rest. whole name front e.scope items e.globals rest None) (λ e rest main. with_main name front items e rest main) name (declarations_in all) (option_map body_in body) d
implemented_is name front items all body d =
    λ j. part (declarations_are all name unit_site (stage d []) j) (λ s. ended_is name front items body s.draft j)

judged_is : (name : List ℕ) (says : Directives) (g : Environment) (have : List Interface) (one : Tree) → checked.judged name says g have one ≡ judged name says g have (source_in one)
judged_is name says g have (t.Program heading uses all body) =
    λ j. asking (named_freely name says.first) (part (front_judged says uses.items) (λ front.
    part (declarations_is name g all.items j) (λ d. ended_is name front [] (Some body) d j)))
judged_is name says g have (t.Unit here own uses outer interface all body) =
    let split = sym (take-append-drop outer uses.items) in
    λ j. part (unit_front name says own (split j)) (λ front.
    part (interface_is name g interface.items j) (λ d.
    part (all_used have d.scope (drop outer uses.items)) (λ h. implemented_is name front (items_of d.scope) all.items body (knowing d h) j)))

pub judged_alike : (name : List ℕ) (says : Directives) (g : Environment) (have : List Interface) (x y : Tree) → IsWhole (of_tree x) → of_tree x ≡ of_tree y
    → checked.judged name says g have x ≡ checked.judged name says g have y
judged_alike name says g have x y whole same =
    judged_is name says g have x ∙ (λ j. judged name says g have (source_alike x y whole same j)) ∙ sym (judged_is name says g have y)

-- ---- what is shown

abbrev outline : List ℕ → Directives → Environment → Identifier → List Identifier → List w.Shown → Judgement Whole
outline name says g own uses interface =
    part (unit_front name says own uses) (λ front.
    part (interface_judged name g interface) (λ d. makes (whole name front d.scope (items_of d.scope) d.globals [] None)))

abbrev outlined : List ℕ → Directives → Environment → w.Source → Judgement Whole
outlined name says g (w.program uses all body) = nothing_shown name says g uses
outlined name says g (w.unit here own outer inner interface all body) = outline name says g own (outer ++ inner) interface

outlined_is : (name : List ℕ) (says : Directives) (g : Environment) (one : Tree) → shown.outlined name says g one ≡ outlined name says g (source_in one)
outlined_is name says g (t.Program heading uses all body) = refl
outlined_is name says g (t.Unit here own uses outer interface all body) =
    let split = sym (take-append-drop outer uses.items) in
    λ j. part (unit_front name says own (split j)) (λ front.
    part (interface_is name g interface.items j) (λ d. makes (whole name front d.scope (items_of d.scope) d.globals [] None)))

pub outlined_alike : (name : List ℕ) (says : Directives) (g : Environment) (x y : Tree) → IsWhole (of_tree x) → of_tree x ≡ of_tree y
    → shown.outlined name says g x ≡ shown.outlined name says g y
outlined_alike name says g x y whole same =
    outlined_is name says g x ∙ (λ j. outlined name says g (source_alike x y whole same j)) ∙ sym (outlined_is name says g y)

-- ---- both as relations

pub typed_alike : (name : List ℕ) (says : Directives) (g : Environment) (have : List Interface) (x y : Tree) → IsWhole (of_tree x) → of_tree x ≡ of_tree y → TypedAlike name says g have x y
typed_alike name says g have x y whole same =
    let alike = judged_alike name says g have x y whole same in
    record {
      typed = λ unit h. transport (λ j. (alike j).holds unit) h;
      fails = λ fault h. transport (λ j. (alike j).fails fault) h;
    }

pub shown_alike : (name : List ℕ) (says : Directives) (g : Environment) (x y : Tree) → IsWhole (of_tree x) → of_tree x ≡ of_tree y → ShownAlike name says g x y
shown_alike name says g x y whole same =
    let alike = outlined_alike name says g x y whole same in
    record {
      shown = λ interface h. record { unit = h.unit; holds = transport (λ j. (alike j).holds h.unit) h.holds; shows = h.shows };
      fails = λ fault h. transport (λ j. (alike j).fails fault) h;
    }
