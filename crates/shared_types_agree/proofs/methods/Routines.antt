-- What a block declares leaves a unit whose methods have their routines.
use Rattle.std.proofs.Common.{◌≡◌, ℕ, suc, ◌≤◌, false, List, [], ◌∷◌, ◌++◌, length, refl, sym, ap, subst, append-nil}
use Rattle.unit_references.specs.type_layout.declared.definitions.TypeId.{TypeId}
use Rattle.units_well_formed.specs.syntax_tree.declared.identifier.Identifier.{Identifier}
use Rattle.units_well_formed.specs.syntax_tree.declared.source_tree.declaration.TypeDeclaration.{TypeDeclaration}
use Rattle.units_well_formed.specs.syntax_tree.declared.source_tree.declaration.VariableDeclaration.{VariableDeclaration}
use Rattle.units_well_formed.specs.syntax_tree.declared.source_tree.declaration.DeclarationPart.{DeclarationPart}
use Rattle.units_well_formed.specs.syntax_tree.declared.source_tree.declaration.DeclarationPart.TheVariants as part_of
use Rattle.units_well_formed.specs.scopes.declared.entries.Entry.{Entry}
use Rattle.units_well_formed.specs.scopes.declared.entries.Entry.TheVariants as entry
use Rattle.units_well_formed.specs.scopes.Symbols.{SymbolList}
use Rattle.units_well_formed.specs.scopes.Members.{narrow}
use Rattle.units_well_formed.specs.scopes.Environment.{Environment}
use Rattle.units_well_formed.specs.declaration_checker.type_denoters.Trees.{view_denoter}
use Rattle.units_well_formed.specs.declaration_checker.type_denoters.Denoters.{ground}
use Rattle.units_well_formed.specs.declaration_checker.type_parts.Objects.{header_place}
use Rattle.units_well_formed.specs.declaration_checker.type_parts.Promised.{promises}
use Rattle.units_well_formed.specs.declaration_checker.type_parts.Parts.{type_part}
use Rattle.units_well_formed.specs.declaration_checker.declared.declarations.homes.Home.{Home}
use Rattle.units_well_formed.specs.declaration_checker.declared.declarations.homes.Home.TheVariants as home
use Rattle.units_well_formed.specs.declaration_checker.declarations.Progress.{Progress, knowing as with_scope}
use Rattle.units_well_formed.specs.declaration_checker.declarations.Variables.{variable_declared, names_declared, group_declared, variables_declared}
use Rattle.units_well_formed.specs.declaration_checker.declarations.Parts.{part_declared}
use Rattle.units_well_formed.specs.tp_check_decl.declared.routines.drafts.Site.{Site}
use Rattle.units_well_formed.specs.tp_check_decl.routines.Trees.{Work, Works, forward, plain, method, no_works, and_part, and_work}
use Rattle.units_well_formed.specs.tp_check_decl.routines.Drafts.{Numbered, Drafted, knowing, Stage, stage, progress_of, next_number, next_for}
use Rattle.units_well_formed.specs.tp_check_decl.routines.Headings.{begins}
use Rattle.units_well_formed.specs.tp_check_decl.routines.Methods.{of_part, of_declarations}
use Rattle.units_well_formed.specs.tp_check_decl.routines.Insides.{site_in}
use Rattle.units_well_formed.specs.tp_check_decl.routines.Blocks.{part_judged, judged, all_judged}
use Rattle.units_well_formed.specs.units.Below.{open_in, EachOf}
use Rattle.units_well_formed.specs.declarations_well_formed.names.Declaring.{typing, with_names}
use Rattle.units_well_formed.specs.declarations_well_formed.parts.Declaring.{IsDeclaredIn, AreDeclaredIn}
use Rattle.units_well_formed.proofs.declarations_well_formed_proofs.parts.Parts.{part_adds}
use Rattle.units_well_formed.proofs.units.Below.{AddsPlain, none_added, plain_then, plain_at, entered_plain, type_plain, Awaits, plain_awaits, types_await, plain_types, constants_plain_part, names_each, names_bottom}
use Rattle.shared_types_agree.proofs.methods.Numbered.{awaits_on}
use Rattle.shared_types_agree.proofs.methods.Drafts.{IsFew, AreOpen, some_open, IsReading, reading_at, heading_read, opened_read, method_read, inside_read, ended_read}

-- ---- variables have no object types of their own

same_progress : (g : Environment) (p q : Progress) → q ≡ p → AddsPlain g p.scope → AddsPlain g q.scope
same_progress g p q is a = plain_at g p.scope q.scope (ap (λ (x : Progress). x.scope) is) a

variable_plain : (where_at : Home) (ty : TypeId) (p : Progress) (one : Identifier) (q : Progress) → (variable_declared where_at ty p one).holds q → AddsPlain p.scope q.scope
variable_plain home.Unit ty p one q e = same_progress p.scope _ q e.made (entered_plain p.scope _ _ _ e.part e.holds)
variable_plain (home.Routine level first) ty p one q e = same_progress p.scope _ q e.made (entered_plain p.scope _ _ _ e.part e.holds)

names_plain : (where_at : Home) (ty : TypeId) (p : Progress) (all : List Identifier) (q : Progress) → (names_declared where_at ty p all).holds q → AddsPlain p.scope q.scope
names_plain where_at ty p [] q e = same_progress p.scope p q e (none_added p.scope p.scope refl)
names_plain where_at ty p (one ∷ rest) q e = plain_then p.scope e.part.scope q.scope (variable_plain where_at ty p one e.part e.holds) (names_plain where_at ty e.part rest q e.made)

group_plain : (unit : List ℕ) (where_at : Home) (p : Progress) (one : VariableDeclaration) (q : Progress) → (group_declared unit where_at p one).holds q → AddsPlain p.scope q.scope
group_plain unit where_at p one q e =
    plain_then p.scope e.part.scope q.scope (type_plain (view_denoter one.denoter) (ground unit []) p.scope e.part e.holds)
    (names_plain where_at e.part.ty (with_scope p e.part.scope) one.names.items q e.made)

variables_plain : (unit : List ℕ) (where_at : Home) (p : Progress) (all : List VariableDeclaration) (q : Progress) → (variables_declared unit where_at p all).holds q → AddsPlain p.scope q.scope
variables_plain unit where_at p [] q e = same_progress p.scope p q e (none_added p.scope p.scope refl)
variables_plain unit where_at p (one ∷ rest) q e = plain_then p.scope e.part.scope q.scope (group_plain unit where_at p one e.part e.holds) (variables_plain unit where_at e.part rest q e.made)

-- ---- the routines that a part leaves to come

types_awaited : (unit : List ℕ) (where_at : Home) (number : ℕ) (g h : Environment) (all : List TypeDeclaration) → 1 ≤ length g.blocks → (type_part unit (next_for where_at (narrow number)) g all).holds h
    → Awaits unit number g h (of_declarations h all)
unfolding type_part
types_awaited unit home.Unit number g h all some e = types_await (ground unit (promises g all)) number (narrow number) g all h h [] refl e some (λ name one is. is) (sym (append-nil h.types.types))
types_awaited unit (home.Routine level first) number g h all some e =
    let it = plain_types (ground unit (promises g all)) g all h h e in
    subst (λ (news : List Numbered). Awaits unit number g h news) (sym it.1) (plain_awaits unit number g h it.0)

part_awaited : (unit : List ℕ) (where_at : Home) (number : ℕ) (p q : Progress) (one : DeclarationPart) → 1 ≤ length p.scope.blocks → (part_declared unit where_at (next_for where_at (narrow number)) p one).holds q
    → Awaits unit number p.scope q.scope (of_part q.scope one)
unfolding part_declared
part_awaited unit where_at number p q (part_of.Constants here all) some e = plain_awaits unit number p.scope q.scope (constants_plain_part unit p all.items q e)
part_awaited unit where_at number p q (part_of.Types here all) some e =
    let same : q.scope ≡ e.part = ap (λ (x : Progress). x.scope) e.made in
    subst (λ (h : Environment). Awaits unit number p.scope h (of_declarations h all.items)) (sym same) (types_awaited unit where_at number p.scope e.part all.items some e.holds)
part_awaited unit where_at number p q (part_of.Variables here all) some e = plain_awaits unit number p.scope q.scope (variables_plain unit where_at p all.items q e)

-- no name of a part means a routine
entry_few : (around : List ℕ) (where_at : Home) (q : Progress) (one : Entry) → IsDeclaredIn where_at q one → IsFew around one
entry_few around where_at q (entry.Code routine level header far) h = absurd h
entry_few around where_at q (entry.Const ty value) h = tt
entry_few around where_at q (entry.Ty ty) h = tt
entry_few around where_at q (entry.Var unit level number ty) h = tt
entry_few around where_at q (entry.Std number) h = tt

names_few : (around : List ℕ) (where_at : Home) (q : Progress) (names : SymbolList) → AreDeclaredIn where_at q names → EachOf (IsFew around) names
names_few around where_at q [] h = tt
names_few around where_at q (one ∷ rest) h = (entry_few around where_at q one.1 h.0, names_few around where_at q rest h.1)

-- ---- declarations

pub part_read : (unit : List ℕ) (count : ℕ) (site : Site) (s : Stage) (one : DeclarationPart) (made : Stage) → (part_judged unit site s one).holds made → IsReading unit count s.draft → IsReading unit count made.draft
unfolding part_judged
part_read unit count site s one made e r =
    let p : Progress = progress_of s in
    let q : Progress = e.part in
    let news : List Numbered = of_part q.scope one in
    let after : Drafted = record { scope = q.scope; globals = q.globals; routines = s.draft.routines ++ news } in
    let some = some_open s.draft.scope.blocks count r.opened in
    let awaits = part_awaited unit site.home (length s.draft.routines) p q one some e.holds in
    let adds = part_adds unit site.home (next_for site.home (next_number s.draft)) p q one e.holds in
    let base : Environment = typing s.draft.scope q.scope.types in
    let opened : AreOpen count (with_names base adds.names).blocks = record {
      names = names_each IsFew base adds.names r.opened.names (names_few (open_in base) site.home q adds.names adds.known);
      bottom = names_bottom base adds.names count r.opened.bottom;
    } in
    let whole : IsReading unit count after = record {
      have = awaits_on unit s.draft.scope q.scope s.draft.routines news awaits r.have;
      opened = subst (λ (g : Environment). AreOpen count g.blocks) (sym adds.whole) opened;
    } in
    reading_at unit count after made.draft (ap (λ (x : Stage). x.draft) e.made) whole

pub same_stage : (unit : List ℕ) (count : ℕ) (s made : Stage) → made ≡ s → IsReading unit count s.draft → IsReading unit count made.draft
same_stage unit count s made is r = reading_at unit count s.draft made.draft (ap (λ (x : Stage). x.draft) is) r

module _ (unit : List ℕ) where
  mutual
    routine_read : (count : ℕ) (site : Site) (d : Drafted) (work : Work) (made : Drafted) → (judged unit site d work).holds made → IsReading unit count d → IsReading unit count made
    routine_read count site d (forward one) made e r = heading_read unit count false site d one made e r
    routine_read count site d (plain one all body) made e r =
        let o = e.part in
        let inner = site_in site o.begun in
        let in_it = e.made in
        let rest = in_it.made in
        let opened = opened_read unit count d r site one o e.holds in
        let begun = inside_read unit count inner (begins one).place o in_it.part in_it.holds opened.read in
        let read = all_read (suc count) inner (stage (knowing o.draft in_it.part) []) all rest.part rest.holds begun in
        ended_read unit count inner o.begun.number (begins one).place body rest.part made opened.few rest.made read
    routine_read count site d (method one owner all body) made e r =
        let o = e.part in
        let inner = site_in site o.begun in
        let in_it = e.made in
        let rest = in_it.made in
        let opened = method_read unit count d r site one owner o e.holds in
        let begun = inside_read unit count inner (header_place one) o in_it.part in_it.holds opened.read in
        let read = all_read (suc count) inner (stage (knowing o.draft in_it.part) []) all rest.part rest.holds begun in
        ended_read unit count inner o.begun.number (header_place one) body rest.part made opened.few rest.made read

    pub all_read : (count : ℕ) (site : Site) (s : Stage) (all : Works) (made : Stage) → (all_judged unit site s all).holds made → IsReading unit count s.draft → IsReading unit count made.draft
    all_read count site s no_works made e r = same_stage unit count s made e r
    all_read count site s (and_part one rest) made e r = all_read count site e.part rest made e.made (part_read unit count site s one e.part e.holds r)
    all_read count site s (and_work one rest) made e r = all_read count site (stage e.part s.locals) rest made e.made (routine_read count site s.draft one e.part e.holds r)
