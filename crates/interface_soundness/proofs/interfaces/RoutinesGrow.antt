-- What a block declares only adds types of the unit to the table.
use Rattle.std.proofs.Common.{◌≡◌, refl, ℕ, ◌+◌, Bool, false, List, [], ◌∷◌, length, Option, Some, None, ap}
use Rattle.front_end.specs.type_layout.declared.definitions.TypeId.{TypeId}
use Rattle.front_end.specs.type_layout.declared.definitions.Param.{Param}
use Rattle.front_end.specs.type_layout.declared.definitions.Header.{Header}
use Rattle.front_end.specs.type_layout.declared.definitions.Method.{Method}
use Rattle.front_end.specs.type_layout.declared.texts.Place.{Place}
use Rattle.front_end.specs.syntax_tree.declared.identifier.Identifier.{Identifier}
use Rattle.front_end.specs.syntax_tree.declared.statement.CompoundStatement.{CompoundStatement}
use Rattle.front_end.specs.syntax_tree.declared.type_tree.parameter.MethodHeader.{MethodHeader}
use Rattle.front_end.specs.syntax_tree.declared.source_tree.declaration.ConstantDeclaration.{ConstantDeclaration}
use Rattle.front_end.specs.syntax_tree.declared.source_tree.declaration.ConstantDeclaration.TheVariants as c
use Rattle.front_end.specs.syntax_tree.declared.source_tree.declaration.VariableDeclaration.{VariableDeclaration}
use Rattle.front_end.specs.syntax_tree.declared.source_tree.declaration.DeclarationPart.{DeclarationPart}
use Rattle.front_end.specs.syntax_tree.declared.source_tree.declaration.DeclarationPart.TheVariants as part_of
use Rattle.front_end.specs.syntax_tree.declared.source_tree.declaration.RoutineHeader.{RoutineHeader}
use Rattle.front_end.specs.scopes.declared.entries.BlockKind.TheVariants.{Routine}
use Rattle.front_end.specs.scopes.Members.{narrow}
use Rattle.front_end.specs.scopes.Environment.{Environment, with_block}
use Rattle.front_end.specs.typed_tree.type_fits.Fits.{definition}
use Rattle.front_end.specs.declaration_checker.type_parts.Objects.{name_of as method_name, header_place}
use Rattle.front_end.specs.declaration_checker.type_denoters.Trees.{view_denoter}
use Rattle.front_end.specs.declaration_checker.type_denoters.Denoters.{ground}
use Rattle.front_end.specs.declaration_checker.declared.declarations.homes.Home.{Home}
use Rattle.front_end.specs.declaration_checker.declared.declarations.homes.Home.TheVariants as home_of
use Rattle.front_end.specs.declaration_checker.declarations.Progress.{Progress, knowing as with_scope}
use Rattle.front_end.specs.declaration_checker.declarations.Constants.{constant_declared, constants_declared}
use Rattle.front_end.specs.declaration_checker.declarations.Variables.{variable_declared, names_declared, group_declared, variables_declared}
use Rattle.front_end.specs.declaration_checker.declarations.Parts.{part_declared}
use Rattle.front_end.specs.tp_check_decl.declared.routines.drafts.Site.{Site}
use Rattle.front_end.specs.tp_check_decl.routines.Trees.{Work, Works, forward, plain, method, no_works, and_part, and_work}
use Rattle.front_end.specs.tp_check_decl.routines.Drafts.{Drafted, knowing, next_number, Stage, stage, progress_of, next_for, depth_of}
use Rattle.front_end.specs.tp_check_decl.routines.Headings.{name_of, begins, awaited_of, Opened, announced, heading, opened_by, opened_of}
use Rattle.front_end.specs.tp_check_decl.routines.Methods.{own_method, method_opened_by, method_opened}
use Rattle.front_end.specs.tp_check_decl.routines.Insides.{site_in, self_entered, params_entered, inside, ended}
use Rattle.front_end.specs.tp_check_decl.routines.Blocks.{part_judged, judged, all_judged}
use Rattle.interface_soundness.proofs.interfaces.Growing.{GrowsTo, unchanged, same_table, next}
use Rattle.interface_soundness.proofs.interfaces.TypesGrow.{entered_grows, type_grows, part_grows}

-- ---- constants and variables

same_progress : (unit : List ℕ) (g : Environment) (one other : Progress) → one ≡ other → GrowsTo unit g other.scope → GrowsTo unit g one.scope
same_progress unit g one other e grows = same_table unit g other.scope one.scope (ap (λ (p : Progress). p.scope) e) grows

constant_grows : (unit : List ℕ) (p : Progress) (one : ConstantDeclaration) (q : Progress) → (constant_declared unit p one).holds q → GrowsTo unit p.scope q.scope
constant_grows unit p (c.Plain one value) q e =
    same_progress unit p.scope q _ e.made (entered_grows unit p.scope _ _ _ e.part e.holds.made)
constant_grows unit p (c.Typed one denoter first) q e =
    let made = e.part in
    let last = e.made.made in
    next unit p.scope made.scope q.scope (type_grows (ground unit []) p.scope (view_denoter denoter) made e.holds)
    (same_progress unit made.scope q _ last.made (entered_grows unit made.scope _ _ _ last.part last.holds))

constants_grow : (unit : List ℕ) (p : Progress) (all : List ConstantDeclaration) (q : Progress) → (constants_declared unit p all).holds q → GrowsTo unit p.scope q.scope
constants_grow unit p [] q e = same_progress unit p.scope q p e (unchanged unit p.scope _ refl refl)
constants_grow unit p (one ∷ rest) q e = next unit p.scope e.part.scope q.scope (constant_grows unit p one e.part e.holds) (constants_grow unit e.part rest q e.made)

variable_grows : (unit : List ℕ) (home : Home) (ty : TypeId) (p : Progress) (one : Identifier) (q : Progress) → (variable_declared home ty p one).holds q → GrowsTo unit p.scope q.scope
variable_grows unit home_of.Unit ty p one q e = same_progress unit p.scope q _ e.made (entered_grows unit p.scope _ _ _ e.part e.holds)
variable_grows unit (home_of.Routine level first) ty p one q e = same_progress unit p.scope q _ e.made (entered_grows unit p.scope _ _ _ e.part e.holds)

names_grow : (unit : List ℕ) (home : Home) (ty : TypeId) (p : Progress) (all : List Identifier) (q : Progress) → (names_declared home ty p all).holds q → GrowsTo unit p.scope q.scope
names_grow unit home ty p [] q e = same_progress unit p.scope q p e (unchanged unit p.scope _ refl refl)
names_grow unit home ty p (one ∷ rest) q e = next unit p.scope e.part.scope q.scope (variable_grows unit home ty p one e.part e.holds) (names_grow unit home ty e.part rest q e.made)

group_grows : (unit : List ℕ) (home : Home) (p : Progress) (one : VariableDeclaration) (q : Progress) → (group_declared unit home p one).holds q → GrowsTo unit p.scope q.scope
group_grows unit home p one q e =
    next unit p.scope e.part.scope q.scope (type_grows (ground unit []) p.scope (view_denoter one.denoter) e.part e.holds)
    (names_grow unit home e.part.ty (with_scope p e.part.scope) one.names.items q e.made)

variables_grow : (unit : List ℕ) (home : Home) (p : Progress) (all : List VariableDeclaration) (q : Progress) → (variables_declared unit home p all).holds q → GrowsTo unit p.scope q.scope
variables_grow unit home p [] q e = same_progress unit p.scope q p e (unchanged unit p.scope _ refl refl)
variables_grow unit home p (one ∷ rest) q e = next unit p.scope e.part.scope q.scope (group_grows unit home p one e.part e.holds) (variables_grow unit home e.part rest q e.made)

declared_grows : (unit : List ℕ) (home : Home) (next_one : Option ℕ) (p : Progress) (one : DeclarationPart) (q : Progress) → (part_declared unit home next_one p one).holds q → GrowsTo unit p.scope q.scope
unfolding part_declared
declared_grows unit home next_one p (part_of.Constants here all) q e = constants_grow unit p all.items q e
declared_grows unit home next_one p (part_of.Types here all) q e = same_progress unit p.scope q _ e.made (part_grows unit next_one p.scope all.items e.part e.holds)
declared_grows unit home next_one p (part_of.Variables here all) q e = variables_grow unit home p all.items q e

-- ---- routines

pub same_draft : (unit : List ℕ) (g : Environment) (one other : Drafted) → one ≡ other → GrowsTo unit g other.scope → GrowsTo unit g one.scope
same_draft unit g one other e grows = same_table unit g other.scope one.scope (ap (λ (d : Drafted). d.scope) e) grows

same_opened : (unit : List ℕ) (g : Environment) (one other : Opened) → one ≡ other → GrowsTo unit g other.draft.scope → GrowsTo unit g one.draft.scope
same_opened unit g one other e grows = same_table unit g other.draft.scope one.draft.scope (ap (λ (o : Opened). o.draft.scope) e) grows

pub same_stage : (unit : List ℕ) (g : Environment) (one other : Stage) → one ≡ other → GrowsTo unit g other.draft.scope → GrowsTo unit g one.draft.scope
same_stage unit g one other e grows = same_table unit g other.draft.scope one.draft.scope (ap (λ (s : Stage). s.draft.scope) e) grows

announced_grows : (unit : List ℕ) (far : Bool) (site : Site) (d : Drafted) (one : RoutineHeader) (header : Header) (made : Drafted) → (announced far site d one header).holds made → GrowsTo unit d.scope made.scope
announced_grows unit far site d one header made e = same_draft unit d.scope made _ e.made (entered_grows unit d.scope _ _ _ e.part e.holds)

pub heading_grows : (unit : List ℕ) (far : Bool) (site : Site) (d : Drafted) (one : RoutineHeader) (made : Drafted) → (heading far site d one).holds made → GrowsTo unit d.scope made.scope
unfolding heading
heading_grows unit far site d one made e = announced_grows unit far site d one e.part made e.made

opened_by_grows : (unit : List ℕ) (site : Site) (d : Drafted) (one : RoutineHeader) (found : _) (made : Opened) → (opened_by site d one found).holds made → GrowsTo unit d.scope made.draft.scope
opened_by_grows unit site d one (Some first) made e = same_opened unit d.scope made _ e.made (unchanged unit d.scope _ refl refl)
opened_by_grows unit site d one None made e =
    let last = e.made in
    same_opened unit d.scope made _ last.made (announced_grows unit false site d one e.part last.part last.holds)

opened_grows : (unit : List ℕ) (site : Site) (d : Drafted) (one : RoutineHeader) (made : Opened) → (opened_of site d one).holds made → GrowsTo unit d.scope made.draft.scope
unfolding opened_of
opened_grows unit site d one made e = opened_by_grows unit site d one (awaited_of d (name_of one).name) made e

method_by_grows : (unit : List ℕ) (site : Site) (d : Drafted) (one : MethodHeader) (ty : TypeId) (found : Option Method) (made : Opened) → (method_opened_by site d one ty found).holds made → GrowsTo unit d.scope made.draft.scope
method_by_grows unit site d one ty None made e = absurd e
method_by_grows unit site d one ty (Some found) made e = same_opened unit d.scope made _ e.made.made.made (unchanged unit d.scope _ refl refl)

method_grows : (unit : List ℕ) (site : Site) (d : Drafted) (one : MethodHeader) (owner : Identifier) (made : Opened) → (method_opened site d one owner).holds made → GrowsTo unit d.scope made.draft.scope
unfolding method_opened
method_grows unit site d one owner made e = method_by_grows unit site d one e.part (own_method (definition d.scope.types.types e.part) (method_name one).name) made e.made

self_grows : (unit : List ℕ) (level : ℕ) (place : Place) (number : ℕ) (owner : Option TypeId) (g h : Environment) → (self_entered level place number owner g).holds h → GrowsTo unit g h
self_grows unit level place number None g h e = same_table unit g g h e (unchanged unit g _ refl refl)
self_grows unit level place number (Some ty) g h e = entered_grows unit g _ _ _ h e

params_grow : (unit : List ℕ) (level : ℕ) (place : Place) (number : ℕ) (g : Environment) (params : List Param) (h : Environment) → (params_entered level place number g params).holds h → GrowsTo unit g h
params_grow unit level place number g [] h e = same_table unit g g h e (unchanged unit g _ refl refl)
params_grow unit level place number g (one ∷ rest) h e = next unit g e.part h (entered_grows unit g _ _ _ e.part e.holds) (params_grow unit level place (narrow (number + 1)) e.part rest h e.made)

inside_grows : (unit : List ℕ) (inner : Site) (place : Place) (b : _) (g h : Environment) → (inside inner place b g).holds h → GrowsTo unit g h
inside_grows unit inner place b g h e =
    let block = with_block g (Routine b.number b.owner) in
    next unit g e.part h
    (next unit g block e.part (unchanged unit g block refl refl) (self_grows unit (depth_of inner) place (narrow (length b.header.params)) b.owner block e.part e.holds))
    (params_grow unit (depth_of inner) place 0 e.part b.header.params h e.made)

ended_grows : (unit : List ℕ) (inner : Site) (number : ℕ) (place : Place) (body : CompoundStatement) (s : Stage) (made : Drafted) → (ended inner number place body s).holds made → GrowsTo unit s.draft.scope made.scope
ended_grows unit inner number place body s made e = same_draft unit s.draft.scope made _ e.made.made.made (unchanged unit s.draft.scope _ refl refl)

pub part_of_grows : (unit : List ℕ) (site : Site) (s : Stage) (one : DeclarationPart) (made : Stage) → (part_judged unit site s one).holds made → GrowsTo unit s.draft.scope made.draft.scope
unfolding part_judged
part_of_grows unit site s one made e =
    same_stage unit s.draft.scope made _ e.made (declared_grows unit site.home (next_for site.home (next_number s.draft)) (progress_of s) one e.part e.holds)

module _ (unit : List ℕ) where
  mutual
    routine_grows : (site : Site) (d : Drafted) (work : Work) (made : Drafted) → (judged unit site d work).holds made → GrowsTo unit d.scope made.scope
    routine_grows site d (forward one) made e = heading_grows unit false site d one made e
    routine_grows site d (plain one all body) made e =
        let o = e.part in
        let inner = site_in site o.begun in
        let in_it = e.made in
        let rest = in_it.made in
        next unit d.scope o.draft.scope made.scope (opened_grows unit site d one o e.holds)
        (next unit o.draft.scope in_it.part made.scope (inside_grows unit inner (begins one).place o.begun o.draft.scope in_it.part in_it.holds)
        (next unit in_it.part rest.part.draft.scope made.scope (all_grow inner (stage (knowing o.draft in_it.part) []) all rest.part rest.holds)
        (ended_grows unit inner o.begun.number (begins one).place body rest.part made rest.made)))
    routine_grows site d (method one owner all body) made e =
        let o = e.part in
        let inner = site_in site o.begun in
        let in_it = e.made in
        let rest = in_it.made in
        next unit d.scope o.draft.scope made.scope (method_grows unit site d one owner o e.holds)
        (next unit o.draft.scope in_it.part made.scope (inside_grows unit inner (header_place one) o.begun o.draft.scope in_it.part in_it.holds)
        (next unit in_it.part rest.part.draft.scope made.scope (all_grow inner (stage (knowing o.draft in_it.part) []) all rest.part rest.holds)
        (ended_grows unit inner o.begun.number (header_place one) body rest.part made rest.made)))

    pub all_grow : (site : Site) (s : Stage) (all : Works) (made : Stage) → (all_judged unit site s all).holds made → GrowsTo unit s.draft.scope made.draft.scope
    all_grow site s no_works made e = same_stage unit s.draft.scope made s e (unchanged unit s.draft.scope _ refl refl)
    all_grow site s (and_part one rest) made e =
        next unit s.draft.scope e.part.draft.scope made.draft.scope (part_of_grows unit site s one e.part e.holds) (all_grow site e.part rest made e.made)
    all_grow site s (and_work one rest) made e =
        next unit s.draft.scope e.part.scope made.draft.scope (routine_grows site s.draft one e.part e.holds) (all_grow site (stage e.part s.locals) rest made e.made)
