-- What a block declares keeps what stays with each type of the unit.
use Rattle.std.proofs.Common.{◌≡◌, refl, ℕ, ◌+◌, Bool, false, List, [], ◌∷◌, length, Option, Some, None, ap}
use Rattle.unit_references.specs.type_layout.declared.definitions.TypeId.{TypeId}
use Rattle.unit_references.specs.type_layout.declared.definitions.Param.{Param}
use Rattle.unit_references.specs.type_layout.declared.definitions.Header.{Header}
use Rattle.unit_references.specs.type_layout.declared.definitions.Method.{Method}
use Rattle.unit_references.specs.type_layout.declared.texts.Place.{Place}
use Rattle.units_well_formed.specs.syntax_tree.declared.identifier.Identifier.{Identifier}
use Rattle.units_well_formed.specs.syntax_tree.declared.statement.CompoundStatement.{CompoundStatement}
use Rattle.units_well_formed.specs.syntax_tree.declared.type_tree.parameter.MethodHeader.{MethodHeader}
use Rattle.units_well_formed.specs.syntax_tree.declared.source_tree.declaration.ConstantDeclaration.{ConstantDeclaration}
use Rattle.units_well_formed.specs.syntax_tree.declared.source_tree.declaration.ConstantDeclaration.TheVariants as c
use Rattle.units_well_formed.specs.syntax_tree.declared.source_tree.declaration.VariableDeclaration.{VariableDeclaration}
use Rattle.units_well_formed.specs.syntax_tree.declared.source_tree.declaration.DeclarationPart.{DeclarationPart}
use Rattle.units_well_formed.specs.syntax_tree.declared.source_tree.declaration.DeclarationPart.TheVariants as part_of
use Rattle.units_well_formed.specs.syntax_tree.declared.source_tree.declaration.RoutineHeader.{RoutineHeader}
use Rattle.units_well_formed.specs.scopes.declared.entries.BlockKind.TheVariants.{Routine}
use Rattle.units_well_formed.specs.scopes.Members.{narrow}
use Rattle.units_well_formed.specs.scopes.Environment.{Environment, with_block}
use Rattle.unit_references.specs.typed_tree.type_fits.Fits.{definition}
use Rattle.units_well_formed.specs.declaration_checker.type_parts.Objects.{name_of as method_name, header_place}
use Rattle.units_well_formed.specs.declaration_checker.type_denoters.Trees.{view_denoter}
use Rattle.units_well_formed.specs.declaration_checker.type_denoters.Denoters.{ground}
use Rattle.units_well_formed.specs.declaration_checker.declared.declarations.homes.Home.{Home}
use Rattle.units_well_formed.specs.declaration_checker.declared.declarations.homes.Home.TheVariants as home_of
use Rattle.units_well_formed.specs.declaration_checker.declarations.Progress.{Progress, knowing as with_scope}
use Rattle.units_well_formed.specs.declaration_checker.declarations.Constants.{constant_declared, constants_declared}
use Rattle.units_well_formed.specs.declaration_checker.declarations.Variables.{variable_declared, names_declared, group_declared, variables_declared}
use Rattle.units_well_formed.specs.declaration_checker.declarations.Parts.{part_declared}
use Rattle.units_well_formed.specs.tp_check_decl.declared.routines.drafts.Site.{Site}
use Rattle.units_well_formed.specs.tp_check_decl.routines.Trees.{Work, Works, forward, plain, method, no_works, and_part, and_work}
use Rattle.units_well_formed.specs.tp_check_decl.routines.Drafts.{Drafted, knowing, next_number, Stage, stage, progress_of, next_for, depth_of}
use Rattle.units_well_formed.specs.tp_check_decl.routines.Headings.{name_of, begins, awaited_of, Opened, announced, heading, opened_by, opened_of}
use Rattle.units_well_formed.specs.tp_check_decl.routines.Methods.{own_method, method_opened_by, method_opened}
use Rattle.units_well_formed.specs.tp_check_decl.routines.Insides.{site_in, self_entered, params_entered, inside, ended}
use Rattle.units_well_formed.specs.tp_check_decl.routines.Blocks.{part_judged, judged, all_judged}
use Rattle.shared_types_agree.proofs.programs.Keeping.{KeepsTo, unchanged, same_table, next}
use Rattle.shared_types_agree.proofs.programs.Types.{entered_keeps, type_keeps, part_keeps}

-- ---- constants and variables

same_progress : (unit : List ℕ) (g : Environment) (one other : Progress) → one ≡ other → KeepsTo unit g other.scope → KeepsTo unit g one.scope
same_progress unit g one other e grows = same_table unit g other.scope one.scope (ap (λ (p : Progress). p.scope) e) grows

constant_keeps : (unit : List ℕ) (p : Progress) (one : ConstantDeclaration) (q : Progress) → (constant_declared unit p one).holds q → KeepsTo unit p.scope q.scope
constant_keeps unit p (c.Plain one value) q e =
    same_progress unit p.scope q _ e.made (entered_keeps unit p.scope _ _ _ e.part e.holds.made)
constant_keeps unit p (c.Typed one denoter first) q e =
    let made = e.part in
    let last = e.made.made in
    next unit p.scope made.scope q.scope (type_keeps (ground unit []) p.scope (view_denoter denoter) made e.holds)
    (same_progress unit made.scope q _ last.made (entered_keeps unit made.scope _ _ _ last.part last.holds))

constants_keep : (unit : List ℕ) (p : Progress) (all : List ConstantDeclaration) (q : Progress) → (constants_declared unit p all).holds q → KeepsTo unit p.scope q.scope
constants_keep unit p [] q e = same_progress unit p.scope q p e (unchanged unit p.scope _ refl)
constants_keep unit p (one ∷ rest) q e = next unit p.scope e.part.scope q.scope (constant_keeps unit p one e.part e.holds) (constants_keep unit e.part rest q e.made)

variable_keeps : (unit : List ℕ) (home : Home) (ty : TypeId) (p : Progress) (one : Identifier) (q : Progress) → (variable_declared home ty p one).holds q → KeepsTo unit p.scope q.scope
variable_keeps unit home_of.Unit ty p one q e = same_progress unit p.scope q _ e.made (entered_keeps unit p.scope _ _ _ e.part e.holds)
variable_keeps unit (home_of.Routine level first) ty p one q e = same_progress unit p.scope q _ e.made (entered_keeps unit p.scope _ _ _ e.part e.holds)

names_keep : (unit : List ℕ) (home : Home) (ty : TypeId) (p : Progress) (all : List Identifier) (q : Progress) → (names_declared home ty p all).holds q → KeepsTo unit p.scope q.scope
names_keep unit home ty p [] q e = same_progress unit p.scope q p e (unchanged unit p.scope _ refl)
names_keep unit home ty p (one ∷ rest) q e = next unit p.scope e.part.scope q.scope (variable_keeps unit home ty p one e.part e.holds) (names_keep unit home ty e.part rest q e.made)

group_keeps : (unit : List ℕ) (home : Home) (p : Progress) (one : VariableDeclaration) (q : Progress) → (group_declared unit home p one).holds q → KeepsTo unit p.scope q.scope
group_keeps unit home p one q e =
    next unit p.scope e.part.scope q.scope (type_keeps (ground unit []) p.scope (view_denoter one.denoter) e.part e.holds)
    (names_keep unit home e.part.ty (with_scope p e.part.scope) one.names.items q e.made)

variables_keep : (unit : List ℕ) (home : Home) (p : Progress) (all : List VariableDeclaration) (q : Progress) → (variables_declared unit home p all).holds q → KeepsTo unit p.scope q.scope
variables_keep unit home p [] q e = same_progress unit p.scope q p e (unchanged unit p.scope _ refl)
variables_keep unit home p (one ∷ rest) q e = next unit p.scope e.part.scope q.scope (group_keeps unit home p one e.part e.holds) (variables_keep unit home e.part rest q e.made)

declared_keeps : (unit : List ℕ) (home : Home) (next_one : Option ℕ) (p : Progress) (one : DeclarationPart) (q : Progress) → (part_declared unit home next_one p one).holds q → KeepsTo unit p.scope q.scope
unfolding part_declared
declared_keeps unit home next_one p (part_of.Constants here all) q e = constants_keep unit p all.items q e
declared_keeps unit home next_one p (part_of.Types here all) q e = same_progress unit p.scope q _ e.made (part_keeps unit next_one p.scope all.items e.part e.holds)
declared_keeps unit home next_one p (part_of.Variables here all) q e = variables_keep unit home p all.items q e

-- ---- routines

pub same_draft : (unit : List ℕ) (g : Environment) (one other : Drafted) → one ≡ other → KeepsTo unit g other.scope → KeepsTo unit g one.scope
same_draft unit g one other e grows = same_table unit g other.scope one.scope (ap (λ (d : Drafted). d.scope) e) grows

same_opened : (unit : List ℕ) (g : Environment) (one other : Opened) → one ≡ other → KeepsTo unit g other.draft.scope → KeepsTo unit g one.draft.scope
same_opened unit g one other e grows = same_table unit g other.draft.scope one.draft.scope (ap (λ (o : Opened). o.draft.scope) e) grows

pub same_stage : (unit : List ℕ) (g : Environment) (one other : Stage) → one ≡ other → KeepsTo unit g other.draft.scope → KeepsTo unit g one.draft.scope
same_stage unit g one other e grows = same_table unit g other.draft.scope one.draft.scope (ap (λ (s : Stage). s.draft.scope) e) grows

announced_keeps : (unit : List ℕ) (far : Bool) (site : Site) (d : Drafted) (one : RoutineHeader) (header : Header) (made : Drafted) → (announced far site d one header).holds made → KeepsTo unit d.scope made.scope
announced_keeps unit far site d one header made e = same_draft unit d.scope made _ e.made (entered_keeps unit d.scope _ _ _ e.part e.holds)

pub heading_keeps : (unit : List ℕ) (far : Bool) (site : Site) (d : Drafted) (one : RoutineHeader) (made : Drafted) → (heading far site d one).holds made → KeepsTo unit d.scope made.scope
unfolding heading
heading_keeps unit far site d one made e = announced_keeps unit far site d one e.part made e.made

opened_by_keeps : (unit : List ℕ) (site : Site) (d : Drafted) (one : RoutineHeader) (found : _) (made : Opened) → (opened_by site d one found).holds made → KeepsTo unit d.scope made.draft.scope
opened_by_keeps unit site d one (Some first) made e = same_opened unit d.scope made _ e.made (unchanged unit d.scope _ refl)
opened_by_keeps unit site d one None made e =
    let last = e.made in
    same_opened unit d.scope made _ last.made (announced_keeps unit false site d one e.part last.part last.holds)

opened_keeps : (unit : List ℕ) (site : Site) (d : Drafted) (one : RoutineHeader) (made : Opened) → (opened_of site d one).holds made → KeepsTo unit d.scope made.draft.scope
unfolding opened_of
opened_keeps unit site d one made e = opened_by_keeps unit site d one (awaited_of d (name_of one).name) made e

method_by_keeps : (unit : List ℕ) (site : Site) (d : Drafted) (one : MethodHeader) (ty : TypeId) (found : Option Method) (made : Opened) → (method_opened_by site d one ty found).holds made → KeepsTo unit d.scope made.draft.scope
method_by_keeps unit site d one ty None made e = absurd e
method_by_keeps unit site d one ty (Some found) made e = same_opened unit d.scope made _ e.made.made.made (unchanged unit d.scope _ refl)

method_keeps : (unit : List ℕ) (site : Site) (d : Drafted) (one : MethodHeader) (owner : Identifier) (made : Opened) → (method_opened site d one owner).holds made → KeepsTo unit d.scope made.draft.scope
unfolding method_opened
method_keeps unit site d one owner made e = method_by_keeps unit site d one e.part (own_method (definition d.scope.types.types e.part) (method_name one).name) made e.made

self_keeps : (unit : List ℕ) (level : ℕ) (place : Place) (number : ℕ) (owner : Option TypeId) (g h : Environment) → (self_entered level place number owner g).holds h → KeepsTo unit g h
self_keeps unit level place number None g h e = same_table unit g g h e (unchanged unit g _ refl)
self_keeps unit level place number (Some ty) g h e = entered_keeps unit g _ _ _ h e

params_keep : (unit : List ℕ) (level : ℕ) (place : Place) (number : ℕ) (g : Environment) (params : List Param) (h : Environment) → (params_entered level place number g params).holds h → KeepsTo unit g h
params_keep unit level place number g [] h e = same_table unit g g h e (unchanged unit g _ refl)
params_keep unit level place number g (one ∷ rest) h e = next unit g e.part h (entered_keeps unit g _ _ _ e.part e.holds) (params_keep unit level place (narrow (number + 1)) e.part rest h e.made)

inside_keeps : (unit : List ℕ) (inner : Site) (place : Place) (b : _) (g h : Environment) → (inside inner place b g).holds h → KeepsTo unit g h
inside_keeps unit inner place b g h e =
    let block = with_block g (Routine b.number b.owner) in
    next unit g e.part h
    (next unit g block e.part (unchanged unit g block refl) (self_keeps unit (depth_of inner) place (narrow (length b.header.params)) b.owner block e.part e.holds))
    (params_keep unit (depth_of inner) place 0 e.part b.header.params h e.made)

ended_keeps : (unit : List ℕ) (inner : Site) (number : ℕ) (place : Place) (body : CompoundStatement) (s : Stage) (made : Drafted) → (ended inner number place body s).holds made → KeepsTo unit s.draft.scope made.scope
ended_keeps unit inner number place body s made e = same_draft unit s.draft.scope made _ e.made.made.made (unchanged unit s.draft.scope _ refl)

pub part_of_keeps : (unit : List ℕ) (site : Site) (s : Stage) (one : DeclarationPart) (made : Stage) → (part_judged unit site s one).holds made → KeepsTo unit s.draft.scope made.draft.scope
unfolding part_judged
part_of_keeps unit site s one made e =
    same_stage unit s.draft.scope made _ e.made (declared_keeps unit site.home (next_for site.home (next_number s.draft)) (progress_of s) one e.part e.holds)

module _ (unit : List ℕ) where
  mutual
    routine_keeps : (site : Site) (d : Drafted) (work : Work) (made : Drafted) → (judged unit site d work).holds made → KeepsTo unit d.scope made.scope
    routine_keeps site d (forward one) made e = heading_keeps unit false site d one made e
    routine_keeps site d (plain one all body) made e =
        let o = e.part in
        let inner = site_in site o.begun in
        let in_it = e.made in
        let rest = in_it.made in
        next unit d.scope o.draft.scope made.scope (opened_keeps unit site d one o e.holds)
        (next unit o.draft.scope in_it.part made.scope (inside_keeps unit inner (begins one).place o.begun o.draft.scope in_it.part in_it.holds)
        (next unit in_it.part rest.part.draft.scope made.scope (all_keep inner (stage (knowing o.draft in_it.part) []) all rest.part rest.holds)
        (ended_keeps unit inner o.begun.number (begins one).place body rest.part made rest.made)))
    routine_keeps site d (method one owner all body) made e =
        let o = e.part in
        let inner = site_in site o.begun in
        let in_it = e.made in
        let rest = in_it.made in
        next unit d.scope o.draft.scope made.scope (method_keeps unit site d one owner o e.holds)
        (next unit o.draft.scope in_it.part made.scope (inside_keeps unit inner (header_place one) o.begun o.draft.scope in_it.part in_it.holds)
        (next unit in_it.part rest.part.draft.scope made.scope (all_keep inner (stage (knowing o.draft in_it.part) []) all rest.part rest.holds)
        (ended_keeps unit inner o.begun.number (header_place one) body rest.part made rest.made)))

    pub all_keep : (site : Site) (s : Stage) (all : Works) (made : Stage) → (all_judged unit site s all).holds made → KeepsTo unit s.draft.scope made.draft.scope
    all_keep site s no_works made e = same_stage unit s.draft.scope made s e (unchanged unit s.draft.scope _ refl)
    all_keep site s (and_part one rest) made e =
        next unit s.draft.scope e.part.draft.scope made.draft.scope (part_of_keeps unit site s one e.part e.holds) (all_keep site e.part rest made e.made)
    all_keep site s (and_work one rest) made e =
        next unit s.draft.scope e.part.scope made.draft.scope (routine_keeps site s.draft one e.part e.holds) (all_keep site (stage e.part s.locals) rest made e.made)
