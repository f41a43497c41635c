-- Parts of declarations keep what is known.
use Rattle.std.proofs.Common.{◌≡◌, ℕ, ◌<◌, ◌≤◌, List, [], ◌∷◌, ◌++◌, length, refl, sym, subst, ap, arith, append-nil}
use Rattle.std.specs.Prelude.{◌^◌}
use Rattle.declarations_well_formed.specs.type_layout.declared.definitions.TypeId.{TypeId}
use Rattle.declarations_well_formed.specs.type_layout.declared.definitions.TypeDef.{TypeDef}
use Rattle.declarations_well_formed.specs.syntax_tree.declared.source_tree.declaration.TypeDeclaration.{TypeDeclaration}
use Rattle.declarations_well_formed.specs.syntax_tree.declared.source_tree.declaration.DeclarationPart.{DeclarationPart}
use Rattle.declarations_well_formed.specs.syntax_tree.declared.source_tree.declaration.DeclarationPart.TheVariants as part_of
use Rattle.declarations_well_formed.specs.scopes.declared.searches.OpenBlock.{OpenBlock}
use Rattle.declarations_well_formed.specs.scopes.Members.{narrow}
use Rattle.declarations_well_formed.specs.scopes.Environment.{Environment}
use Rattle.declarations_well_formed.specs.declaration_checker.type_denoters.Denoters.{ground}
use Rattle.declarations_well_formed.specs.declaration_checker.type_parts.Promised.{promises}
use Rattle.declarations_well_formed.specs.declaration_checker.type_parts.Parts.{type_part}
use Rattle.declarations_well_formed.specs.declaration_checker.declared.declarations.homes.Home.{Home}
use Rattle.declarations_well_formed.specs.declaration_checker.declared.declarations.homes.Home.TheVariants as home
use Rattle.declarations_well_formed.specs.declaration_checker.declarations.Progress.{Progress}
use Rattle.declarations_well_formed.specs.declaration_checker.declarations.Parts.{part_declared}
use Rattle.declarations_well_formed.specs.tp_check_decl.routines.Drafts.{Numbered, Drafted, Stage, stage, progress_of, next_number, next_for}
use Rattle.declarations_well_formed.specs.tp_check_decl.routines.Methods.{of_part, of_declarations}
use Rattle.declarations_well_formed.specs.tp_check_decl.routines.Blocks.{part_judged}
use Rattle.declarations_well_formed.specs.tables_closed.constants.Bounds.{IsWellScopedEnvironment}
use Rattle.declarations_well_formed.proofs.tables_closed_proofs.routines.Declaring.{declared_stays}
use Rattle.units_well_formed.specs.routines.Reading.{scope_of, IsBottom, with_inner}
use Rattle.units_well_formed.specs.routines.Rooms.{HasRoom}
use Rattle.units_well_formed.specs.routines.Laws.{StaysRead, PartsKeep}
use Rattle.units_well_formed.proofs.routines.Kept.{part_locals}
use Rattle.declarations_well_formed.specs.tables.Laws.{HasPredeclared}
use Rattle.declarations_well_formed.specs.values.Laws.{ValueLaw}
use Rattle.units_well_formed.proofs.parts.Closed.{known_closed}
use Rattle.units_well_formed.proofs.parts.Awaiting.{Awaits, plain_awaits}
use Rattle.units_well_formed.proofs.parts.Objects.{types_await, plain_types}
use Rattle.units_well_formed.proofs.parts.Rows.{part_rows, constants_plain_part, variables_plain_part}
use Rattle.units_well_formed.proofs.parts.Joined.{grows, joined}

-- ---- the routines that a part leaves to come

types_awaited : (unit : List ℕ) (where_at : Home) (number : ℕ) (g h : Environment) (all : List TypeDeclaration) → 1 ≤ length g.blocks → (type_part unit (next_for where_at (narrow number)) g all).holds h
    → Awaits unit number g h (of_declarations h all)
unfolding type_part
types_awaited unit home.Unit number g h all some k =
    types_await (ground unit (promises g all)) number (narrow number) g all h h [] refl k some (λ name one e. e) (sym (append-nil h.types.types))
types_awaited unit (home.Routine level first) number g h all some k =
    let it = plain_types (ground unit (promises g all)) g all h h k in
    subst (λ (news : List Numbered). Awaits unit number g h news) (sym it.1) (plain_awaits unit number g h it.0)

part_awaited : (unit : List ℕ) (where_at : Home) (number : ℕ) (p q : Progress) (one : DeclarationPart) → 1 ≤ length p.scope.blocks → IsWellScopedEnvironment p.scope
    → (part_declared unit where_at (next_for where_at (narrow number)) p one).holds q → Awaits unit number p.scope q.scope (of_part q.scope one)
unfolding part_declared
part_awaited unit where_at number p q (part_of.Constants here all) some closed k = plain_awaits unit number p.scope q.scope (constants_plain_part unit p all.items q k)
part_awaited unit where_at number p q (part_of.Types here all) some closed k =
    let same : q.scope ≡ k.part = ap (λ (x : Progress). x.scope) k.made in
    subst (λ (h : Environment). Awaits unit number p.scope h (of_declarations h all.items)) (sym same) (types_awaited unit where_at number p.scope k.part all.items some k.holds)
part_awaited unit where_at number p q (part_of.Variables here all) some closed k = plain_awaits unit number p.scope q.scope (variables_plain_part unit where_at p all.items q k closed)

some_block : (blocks : List OpenBlock) (count : ℕ) → IsBottom blocks count → 1 ≤ length blocks
some_block blocks count h =
    let whole : length blocks ≡ length (h.first ∷ h.rest) = ap (λ (b : List OpenBlock). length b) h.is in
    omega (arith, whole)

-- ---- parts

pub part_keeps : ValueLaw → (unit : List ℕ) → PartsKeep unit
unfolding part_judged
part_keeps values unit site s t one frames at literals small room h =
    let q : Progress = h.part in
    let p : Progress = progress_of s in
    let news : List Numbered = of_part q.scope one in
    let after : Drafted = record { scope = q.scope; globals = q.globals; routines = s.draft.routines ++ news } in
    let draft_is : t.draft ≡ after = ap (λ (x : Stage). x.draft) h.made in
    let locals_are : t.locals ≡ q.locals = ap (λ (x : Stage). x.locals) h.made in
    let fits = subst (λ (d : Drafted). HasRoom d) draft_is room in
    let closed = known_closed s.draft.scope (scope_of s.draft (with_inner s.locals frames)) at.read.known at.read.table in
    let some = some_block s.draft.scope.blocks _ at.read.bottom in
    let begins : HasPredeclared s.draft.scope.types.types = subst (λ (types : List TypeDef). HasPredeclared types) at.read.known.has.types at.read.known.sound.begins in
    let gives = values unit site.home (next_for site.home (next_number s.draft)) p q one h.holds some begins closed at.read.values literals fits.types in
    let rows = part_rows unit site.home (next_for site.home (next_number s.draft)) p q one h.holds closed fits.types in
    let awaits = part_awaited unit site.home (length s.draft.routines) p q one some closed h.holds in
    let count = part_locals unit site s t one h in
    let few : length q.locals < 2 ^ 31 = subst (λ (l : List TypeId). length l < 2 ^ 31) locals_are (omega (arith, count, small)) in
    let ordered = (declared_stays unit site.home (next_for site.home (next_number s.draft)) p one q h.holds).ordered at.read.table.ordered in
    let whole : StaysRead s (stage after q.locals) frames = (joined unit site s frames at q news gives rows awaits fits few ordered, grows unit site s frames at q news gives rows awaits fits few ordered) in
    subst (λ (x : Stage). StaysRead s x frames) (sym h.made) whole
