-- Sources are judged lawfully.
use Rattle.std.proofs.Common.{◌≡◌, ℕ, ◌≤◌, nat_le, true, false, not, List, [], ◌∷◌, ◌++◌, Option, Some, None, drop}
use Rattle.std.proofs.lemmas.Bool.{leb-true, le-leb}
use Rattle.type_layout.specs.declared.definitions.TypeDef.{TypeDef}
use Rattle.type_layout.specs.declared.texts.Place.{Place}
use Rattle.syntax_tree.specs.declared.identifier.Identifier.{Identifier}
use Rattle.syntax_tree.specs.declared.statement.CompoundStatement.{CompoundStatement}
use Rattle.tp_lexer.specs.declared.source_directives.collected.Overlaid.{Overlaid}
use Rattle.tp_lexer.specs.declared.source_directives.collected.Directives.{Directives}
use Rattle.syntax_tree.specs.declared.source_tree.source.InterfaceDeclaration.{InterfaceDeclaration}
use Rattle.syntax_tree.specs.declared.source_tree.source.InterfaceDeclaration.TheVariants as i
use Rattle.syntax_tree.specs.declared.source_tree.source.Tree.{Tree}
use Rattle.syntax_tree.specs.declared.source_tree.source.Tree.TheVariants as t
use Rattle.typed_tree.specs.declared.units.Item.{Item}
use Rattle.scopes.specs.Environment.{Environment}
use Rattle.unit_interface.specs.declared.interfaces.Interface.{Interface}
use Rattle.unit_interface.specs.Resolve.{with_use}
use Rattle.unit_interface.specs.Fitting.{use_fits}
use Rattle.typing_rules.specs.declared.faults.Rule.TheVariants as rules
use Rattle.typing_rules.specs.Faults.{broken, too_large}
use Rattle.typing_rules.specs.Judgements.{Judgement, makes, part}
use Rattle.typing_rules.specs.Selectors.{asking}
use Rattle.typing_rules.specs.Laws.{Lawful}
use Rattle.typing_rules.proofs.JudgementLaws.{lawful_makes, lawful_refuses, lawful_rule, lawful_part, lawful_parts}
use Rattle.declaration_checker.proofs.headers.HeaderLaws.{tells_not}
use Rattle.tp_check_decl.specs.declared.routines.drafts.Announced.{Announced}
use Rattle.tp_check_decl.specs.routines.Trees.{Works, view_declarations}
use Rattle.tp_check_decl.specs.routines.Drafts.{Drafted, knowing, Done, Numbered, Stage, stage}
use Rattle.tp_check_decl.specs.routines.Headings.{heading}
use Rattle.tp_check_decl.specs.routines.Insides.{statements_of}
use Rattle.tp_check_decl.specs.routines.Blocks.{all_judged}
use Rattle.tp_check_decl.proofs.routines.RoutineLaws.{lawful_heading, lawful_statements, lawful_part_of, lawful_all}
use Rattle.tp_check_decl.specs.declared.fronts.Front.{Front}
use Rattle.tp_check_decl.specs.Units.{Finished, finished, main_part, whole}
use Rattle.tp_check_decl.specs.Limits.{own_bytes, within_limit}
use Rattle.tp_check_decl.specs.Fronts.{is_taken, is_new_use, uses_onto, may_overlay, is_overlaid_use, with_new, overlaid_onto, front, front_judged}
use Rattle.tp_check_decl.specs.Endings.{finished_by, all_finished, main_judged, with_main, ended}
use Rattle.tp_check_decl.specs.Programs.{unit_site, empty_draft, is_free, named_freely, declarations_judged, program_judged}
use Rattle.tp_check_decl.specs.Interfaces.{items_of, declared, all_declared, interface_judged, is_name_of, named_so, unit_front, further_used, all_used, implemented, unit_judged}
use Rattle.tp_check_decl.specs.Shown.{outline, nothing_shown, outlined}
use Rattle.tp_check_decl.specs.Checked.{judged}

lawful_asking : {C : Type 0} (j : Judgement (Unit {0})) (k : Judgement C) → Lawful j → Lawful k → Lawful (asking j k)
lawful_asking j k l m = lawful_part j (λ u. k) l (λ u. m)

-- ---- what stands in front

lawful_new : (before : List (List ℕ)) (one : Identifier) → Lawful (is_new_use before one)
lawful_new before one = lawful_rule (broken one.position.place rules.UnitUsed) (not (is_taken before one.name)) (is_taken before one.name ≡ false) tt (tells_not (is_taken before one.name))

lawful_uses : (before : List (List ℕ)) (all : List Identifier) → Lawful (uses_onto before all)
lawful_uses before [] = lawful_makes before
lawful_uses before (one ∷ rest) =
    lawful_asking (is_new_use before one) (uses_onto (before ++ one.name ∷ []) rest) (lawful_new before one) (lawful_uses (before ++ one.name ∷ []) rest)

lawful_overlaid_use : (uses : List (List ℕ)) (one : Overlaid) → Lawful (is_overlaid_use uses one)
lawful_overlaid_use uses one = lawful_rule (broken one.place rules.UnitNamed) (may_overlay uses one.name) (may_overlay uses one.name ≡ true) tt (λ e. e, λ e. e)

lawful_overlaid : (uses before : List (List ℕ)) (all : List Overlaid) → Lawful (overlaid_onto uses before all)
lawful_overlaid uses before [] = lawful_makes before
lawful_overlaid uses before (one ∷ rest) =
    lawful_asking (is_overlaid_use uses one) (overlaid_onto uses (with_new before one.name) rest) (lawful_overlaid_use uses one) (lawful_overlaid uses (with_new before one.name) rest)

lawful_front : (says : Directives) (all : List Identifier) → Lawful (front_judged says all)
unfolding front_judged
lawful_front says all =
    lawful_part (uses_onto [] all) (λ uses. part (overlaid_onto uses [] says.overlaid) (λ overlaid. makes (front says uses overlaid))) (lawful_uses [] all)
    (λ uses. lawful_part (overlaid_onto uses [] says.overlaid) (λ overlaid. makes (front says uses overlaid)) (lawful_overlaid uses [] says.overlaid)
    (λ overlaid. lawful_makes (front says uses overlaid)))

-- ---- routines

lawful_limit : (types : List TypeDef) (place : Place) (one : Finished) → Lawful (within_limit types place one)
lawful_limit types place one =
    lawful_rule (too_large place (own_bytes types one)) (nat_le (own_bytes types one) 65000) (own_bytes types one ≤ 65000) tt
    (leb-true (own_bytes types one) 65000, le-leb (own_bytes types one) 65000)

lawful_finished : (types : List TypeDef) (first : Announced) (met : Option Done) → Lawful (finished_by types first met)
lawful_finished types first None = lawful_refuses (broken first.place rules.Bodies)
lawful_finished types first (Some done) =
    lawful_asking (within_limit types done.place (finished first done)) (makes (finished first done)) (lawful_limit types done.place (finished first done)) (lawful_makes (finished first done))

lawful_all_finished : (types : List TypeDef) (all : List Numbered) → Lawful (all_finished types all)
lawful_all_finished types [] = lawful_makes []
lawful_all_finished types (one ∷ rest) =
    lawful_parts (finished_by types one.first one.done) (all_finished types rest) (λ f fs. makes (f ∷ fs)) (lawful_finished types one.first one.done) (lawful_all_finished types rest)
    (λ f fs. lawful_makes (f ∷ fs))

lawful_main : (name : List ℕ) (g : Environment) (body : CompoundStatement) → Lawful (main_judged name g body)
unfolding main_judged
lawful_main name g body =
    lawful_part (statements_of g body) (λ typed. asking (within_limit g.types.types body.position.place (main_part name typed)) (makes (main_part name typed))) (lawful_statements g body)
    (λ typed. lawful_asking (within_limit g.types.types body.position.place (main_part name typed)) (makes (main_part name typed))
    (lawful_limit g.types.types body.position.place (main_part name typed)) (lawful_makes (main_part name typed)))

lawful_ended : (name : List ℕ) (front : Front) (items : List Item) (body : Option CompoundStatement) (d : Drafted) → Lawful (ended name front items body d)
lawful_ended name front items None d =
    lawful_part (all_finished d.scope.types.types d.routines) (λ all. makes (whole name front d.scope items d.globals all None)) (lawful_all_finished d.scope.types.types d.routines)
    (λ all. lawful_makes (whole name front d.scope items d.globals all None))
lawful_ended name front items (Some body) d =
    lawful_parts (all_finished d.scope.types.types d.routines) (main_judged name d.scope body) (λ all main. makes (with_main name front items d all main))
    (lawful_all_finished d.scope.types.types d.routines) (lawful_main name d.scope body) (λ all main. lawful_makes (with_main name front items d all main))

-- ---- programs

lawful_freely : (file : List ℕ) (first : Option Place) → Lawful (named_freely file first)
lawful_freely file None = lawful_makes tt
lawful_freely file (Some place) = lawful_rule (broken place rules.SourceName) (is_free file) (is_free file ≡ true) tt (λ e. e, λ e. e)

lawful_declarations : (name : List ℕ) (g : Environment) (all : Works) → Lawful (declarations_judged name g all)
unfolding declarations_judged
lawful_declarations name g all =
    lawful_part (all_judged name unit_site (stage (empty_draft g) []) all) (λ s. makes s.draft) (lawful_all name unit_site (stage (empty_draft g) []) all) (λ s. lawful_makes s.draft)

lawful_program : (name : List ℕ) (says : Directives) (g : Environment) (uses : List Identifier) (all : Works) (body : CompoundStatement) → Lawful (program_judged name says g uses all body)
lawful_program name says g uses all body =
    lawful_asking (named_freely name says.first) (part (front_judged says uses) (λ front. part (declarations_judged name g all) (λ d. ended name front [] (Some body) d)))
    (lawful_freely name says.first)
    (lawful_part (front_judged says uses) (λ front. part (declarations_judged name g all) (λ d. ended name front [] (Some body) d)) (lawful_front says uses)
    (λ front. lawful_part (declarations_judged name g all) (λ d. ended name front [] (Some body) d) (lawful_declarations name g all)
    (λ d. lawful_ended name front [] (Some body) d)))

-- ---- units

lawful_declared : (unit : List ℕ) (s : Stage) (one : InterfaceDeclaration) → Lawful (declared unit s one)
lawful_declared unit s (i.Part one) = lawful_part_of unit unit_site s one
lawful_declared unit s (i.Header one) =
    lawful_part (heading true unit_site s.draft one) (λ d. makes (stage d s.locals)) (lawful_heading true unit_site s.draft one) (λ d. lawful_makes (stage d s.locals))

lawful_all_declared : (unit : List ℕ) (s : Stage) (all : List InterfaceDeclaration) → Lawful (all_declared unit s all)
lawful_all_declared unit s [] = lawful_makes s
lawful_all_declared unit s (one ∷ rest) =
    lawful_part (declared unit s one) (λ t. all_declared unit t rest) (lawful_declared unit s one) (λ t. lawful_all_declared unit t rest)

lawful_interface : (name : List ℕ) (g : Environment) (all : List InterfaceDeclaration) → Lawful (interface_judged name g all)
unfolding interface_judged
lawful_interface name g all =
    lawful_part (all_declared name (stage (empty_draft g) []) all) (λ s. makes s.draft) (lawful_all_declared name (stage (empty_draft g) []) all) (λ s. lawful_makes s.draft)

lawful_named : (file : List ℕ) (own : Identifier) → Lawful (named_so file own)
lawful_named file own = lawful_rule (broken own.position.place rules.SourceName) (is_name_of file own.name) (is_name_of file own.name ≡ true) tt (λ e. e, λ e. e)

lawful_unit_front : (name : List ℕ) (says : Directives) (own : Identifier) (uses : List Identifier) → Lawful (unit_front name says own uses)
unfolding unit_front
lawful_unit_front name says own uses = lawful_asking (named_so name own) (front_judged says uses) (lawful_named name own) (lawful_front says uses)

lawful_further : (have : List Interface) (g : Environment) (one : Identifier) → Lawful (further_used have g one)
lawful_further have g one =
    lawful_rule (broken one.position.place rules.UnitNamed) (use_fits have g one.name) (use_fits have g one.name ≡ true) (with_use have g one.name) (λ e. e, λ e. e)

lawful_all_used : (have : List Interface) (g : Environment) (uses : List Identifier) → Lawful (all_used have g uses)
lawful_all_used have g [] = lawful_makes g
lawful_all_used have g (one ∷ rest) = lawful_part (further_used have g one) (λ h. all_used have h rest) (lawful_further have g one) (λ h. lawful_all_used have h rest)

lawful_implemented : (name : List ℕ) (front : Front) (items : List Item) (all : Works) (body : Option CompoundStatement) (d : Drafted) → Lawful (implemented name front items all body d)
lawful_implemented name front items all body d =
    lawful_part (all_judged name unit_site (stage d []) all) (λ s. ended name front items body s.draft) (lawful_all name unit_site (stage d []) all)
    (λ s. lawful_ended name front items body s.draft)

lawful_unit : (name : List ℕ) (says : Directives) (g : Environment) (have : List Interface) (own : Identifier) (uses : List Identifier) (outer : ℕ) (interface : List InterfaceDeclaration) (all : Works)
    (body : Option CompoundStatement) → Lawful (unit_judged name says g have own uses outer interface all body)
lawful_unit name says g have own uses outer interface all body =
    let further = drop outer uses in
    lawful_part (unit_front name says own uses)
    (λ front. part (interface_judged name g interface) (λ d. part (all_used have d.scope further) (λ h. implemented name front (items_of d.scope) all body (knowing d h))))
    (lawful_unit_front name says own uses)
    (λ front. lawful_part (interface_judged name g interface) (λ d. part (all_used have d.scope further) (λ h. implemented name front (items_of d.scope) all body (knowing d h)))
    (lawful_interface name g interface)
    (λ d. lawful_part (all_used have d.scope further) (λ h. implemented name front (items_of d.scope) all body (knowing d h)) (lawful_all_used have d.scope further)
    (λ h. lawful_implemented name front (items_of d.scope) all body (knowing d h))))

pub lawful : (name : List ℕ) (says : Directives) (g : Environment) (have : List Interface) (tree : Tree) → Lawful (judged name says g have tree)
lawful name says g have (t.Program heading uses all body) = lawful_program name says g uses.items (view_declarations all.items) body
lawful name says g have (t.Unit here own uses outer interface all body) = lawful_unit name says g have own uses.items outer interface.items (view_declarations all.items) body

-- ---- what sources show

lawful_outline : (name : List ℕ) (says : Directives) (g : Environment) (own : Identifier) (uses : List Identifier) (interface : List InterfaceDeclaration)
    → Lawful (outline name says g own uses interface)
lawful_outline name says g own uses interface =
    lawful_part (unit_front name says own uses) (λ front. part (interface_judged name g interface) (λ d. makes (whole name front d.scope (items_of d.scope) d.globals [] None)))
    (lawful_unit_front name says own uses)
    (λ front. lawful_part (interface_judged name g interface) (λ d. makes (whole name front d.scope (items_of d.scope) d.globals [] None)) (lawful_interface name g interface)
    (λ d. lawful_makes (whole name front d.scope (items_of d.scope) d.globals [] None)))

lawful_nothing : (name : List ℕ) (says : Directives) (g : Environment) (uses : List Identifier) → Lawful (nothing_shown name says g uses)
lawful_nothing name says g uses =
    lawful_part (front_judged says uses) (λ front. makes (whole name front g [] [] [] None)) (lawful_front says uses) (λ front. lawful_makes (whole name front g [] [] [] None))

pub lawful_outlined : (name : List ℕ) (says : Directives) (g : Environment) (tree : Tree) → Lawful (outlined name says g tree)
lawful_outlined name says g (t.Program heading uses all body) = lawful_nothing name says g uses.items
lawful_outlined name says g (t.Unit here own uses outer interface all body) = lawful_outline name says g own uses.items interface.items
