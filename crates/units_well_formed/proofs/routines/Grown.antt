-- What declarations leave of a unit is there behind them, and what the last part keeps within bounds each part before it keeps.
use Rattle.std.proofs.Common.{◌≡◌, ℕ, ◌+◌, Bool, false, List, [], ◌∷◌, ◌++◌, length, Option, Some, None, refl, sym, subst, ap, ◌∙◌, arith, length-append, append-nil, append_assoc}
use Rattle.declarations_well_formed.specs.type_layout.declared.definitions.TypeId.{TypeId}
use Rattle.declarations_well_formed.specs.type_layout.declared.definitions.Param.{Param}
use Rattle.declarations_well_formed.specs.type_layout.declared.definitions.Header.{Header}
use Rattle.declarations_well_formed.specs.type_layout.declared.definitions.Method.{Method}
use Rattle.declarations_well_formed.specs.type_layout.declared.definitions.TypeDef.{TypeDef}
use Rattle.declarations_well_formed.specs.type_layout.declared.texts.Place.{Place}
use Rattle.declarations_well_formed.specs.type_layout.Table.{Table}
use Rattle.declarations_well_formed.specs.typed_tree.declared.units.Global.{Global}
use Rattle.declarations_well_formed.specs.typed_tree.Statements.{Statement}
use Rattle.declarations_well_formed.specs.syntax_tree.declared.identifier.Identifier.{Identifier}
use Rattle.declarations_well_formed.specs.syntax_tree.declared.statement.CompoundStatement.{CompoundStatement}
use Rattle.declarations_well_formed.specs.syntax_tree.declared.type_tree.parameter.MethodHeader.{MethodHeader}
use Rattle.declarations_well_formed.specs.syntax_tree.declared.source_tree.declaration.DeclarationPart.{DeclarationPart}
use Rattle.declarations_well_formed.specs.syntax_tree.declared.source_tree.declaration.RoutineHeader.{RoutineHeader}
use Rattle.declarations_well_formed.specs.typed_tree.type_fits.Fits.{definition}
use Rattle.declarations_well_formed.specs.scopes.declared.entries.Entry.{Entry}
use Rattle.declarations_well_formed.specs.scopes.declared.entries.BlockKind.TheVariants as block
use Rattle.declarations_well_formed.specs.scopes.Symbols.{SymbolList}
use Rattle.declarations_well_formed.specs.scopes.Members.{narrow}
use Rattle.declarations_well_formed.specs.scopes.Environment.{Environment, with_name, with_block}
use Rattle.declarations_well_formed.specs.typing_rules.Judgements.{Judgement}
use Rattle.declarations_well_formed.specs.declaration_checker.type_denoters.Additions.{entered}
use Rattle.declarations_well_formed.specs.declaration_checker.type_parts.Objects as objects
use Rattle.declarations_well_formed.specs.names.Declaring.{typing, with_names}
use Rattle.declarations_well_formed.proofs.parts.Parts.{part_adds}
use Rattle.declarations_well_formed.specs.tp_check_decl.declared.routines.drafts.Site.{Site}
use Rattle.declarations_well_formed.specs.tp_check_decl.routines.Trees.{Work, Works, forward, plain, method, no_works, and_part, and_work}
use Rattle.declarations_well_formed.specs.tp_check_decl.routines.Drafts.{Numbered, Drafted, Stage, stage, knowing, next_number, next_for, progress_of, depth_of, finishing}
use Rattle.declarations_well_formed.specs.tp_check_decl.routines.Headings.{begins, name_of, announced_by, announced, heading, awaited_of, Opened, opened_by, opened_of}
use Rattle.declarations_well_formed.specs.tp_check_decl.routines.Insides.{site_in, self_entered, params_entered, inside, done, closed}
use Rattle.declarations_well_formed.specs.tp_check_decl.routines.Methods.{of_part, own_method, method_opened_by, method_opened}
use Rattle.declarations_well_formed.specs.tp_check_decl.routines.Blocks.{part_judged, block_judged, judged, all_judged}
use Rattle.declarations_well_formed.specs.tables.Laws.{IsFit}
use Rattle.declarations_well_formed.proofs.tables.Fits.{fit_front}
use Rattle.units_well_formed.specs.routines.Rooms.{HasRoom, Grows}
use Rattle.units_well_formed.proofs.routines.Lists.{finished_length}
use Rattle.units_well_formed.proofs.routines.Entered.{entered_is}

-- ---- one after the other

pub grows_itself : (d : Drafted) → Grows d d
grows_itself d = record { units = refl; used = refl; types = ([], sym (append-nil d.scope.types.types)); globals = ([], sym (append-nil d.globals)); routines = omega arith }

pub grows_on : (d e f : Drafted) → Grows d e → Grows e f → Grows d f
grows_on d e f h k = record {
  units = k.units ∙ h.units;
  used = k.used ∙ h.used;
  types = (h.types.0 ++ k.types.0, k.types.1 ∙ ap (λ (types : List TypeDef). types ++ k.types.0) h.types.1 ∙ append_assoc d.scope.types.types h.types.0 k.types.0);
  globals = (h.globals.0 ++ k.globals.0, k.globals.1 ∙ ap (λ (all : List Global). all ++ k.globals.0) h.globals.1 ∙ append_assoc d.globals h.globals.0 k.globals.0);
  routines = (let a = h.routines in let b = k.routines in omega (arith, a, b));
}

pub room_before : (d e : Drafted) → Grows d e → HasRoom e → HasRoom d
room_before d e g h =
    let globals : length e.globals ≡ length d.globals + length g.globals.0 = ap (λ (all : List Global). length all) g.globals.1 ∙ length-append d.globals g.globals.0 in
    record {
      routines = (let a = g.routines in let b = h.routines in omega (arith, a, b));
      globals = (let b = h.globals in omega (arith, globals, b));
      types = fit_front d.scope.types.types g.types.0 (subst (λ (types : List TypeDef). IsFit types) g.types.1 h.types);
    }

grows_at : (d e f : Drafted) → f ≡ e → Grows d e → Grows d f
grows_at d e f is h = subst (λ (x : Drafted). Grows d x) (sym is) h

-- ---- names and blocks

-- neither types nor units, nor used units besides
pub record Keeps (g h : Environment) : Type 0 where
  pub table : h.types ≡ g.types
  pub units : h.units ≡ g.units
  pub used : h.used ≡ g.used

keeps_on : (g h k : Environment) → Keeps g h → Keeps h k → Keeps g k
keeps_on g h k a b = record { table = b.table ∙ a.table; units = b.units ∙ a.units; used = b.used ∙ a.used }

keeps_at : (g h k : Environment) → k ≡ h → Keeps g h → Keeps g k
keeps_at g h k is a = subst (λ (x : Environment). Keeps g x) (sym is) a

entered_keeps : (g : Environment) (place : Place) (name : List ℕ) (one : Entry) (h : Environment) → (entered g place name one).holds h → Keeps g h
entered_keeps g place name one h k = keeps_at g (with_name g name one) h (entered_is g place name one h k) (record { table = refl; units = refl; used = refl })

self_keeps : (level : ℕ) (place : Place) (number : ℕ) (owner : Option TypeId) (g h : Environment) → (self_entered level place number owner g).holds h → Keeps g h
self_keeps level place number None g h k = keeps_at g g h k (record { table = refl; units = refl; used = refl })
self_keeps level place number (Some ty) g h k = entered_keeps g _ _ _ h k

params_keep : (level : ℕ) (place : Place) (number : ℕ) (g : Environment) (params : List Param) (h : Environment) → (params_entered level place number g params).holds h → Keeps g h
params_keep level place number g [] h k = keeps_at g g h k (record { table = refl; units = refl; used = refl })
params_keep level place number g (one ∷ rest) h k = keeps_on g k.part h (entered_keeps g _ _ _ k.part k.holds) (params_keep level place (narrow (number + 1)) k.part rest h k.made)

pub inside_keeps : (inner : Site) (place : Place) (b : _) (g h : Environment) → (inside inner place b g).holds h → Keeps g h
inside_keeps inner place b g h k =
    let opened : Environment = with_block g (block.Routine b.number b.owner) in
    keeps_on g k.part h
    (keeps_on g opened k.part (record { table = refl; units = refl; used = refl }) (self_keeps (depth_of inner) place (narrow (length b.header.params)) b.owner opened k.part k.holds))
    (params_keep (depth_of inner) place 0 k.part b.header.params h k.made)

pub keeps_grows : (d : Drafted) (g : Environment) → Keeps d.scope g → Grows d (knowing d g)
keeps_grows d g k = record {
  units = k.units;
  used = k.used;
  types = ([], ap (λ (table : Table). table.types) k.table ∙ sym (append-nil d.scope.types.types));
  globals = ([], sym (append-nil d.globals));
  routines = omega arith;
}

-- ---- headers

announced_grows : (far : Bool) (site : Site) (d : Drafted) (one : RoutineHeader) (header : Header) (e : Drafted) → (announced far site d one header).holds e → Grows d e
announced_grows far site d one header e h =
    let keeps = entered_keeps d.scope _ _ _ h.part h.holds in
    let new : Numbered = record { first = announced_by far site one header; done = None } in
    let count : length (d.routines ++ new ∷ []) ≡ length d.routines + 1 = length-append d.routines (new ∷ []) in
    grows_at d _ e h.made (record {
      units = keeps.units;
      used = keeps.used;
      types = ([], ap (λ (table : Table). table.types) keeps.table ∙ sym (append-nil d.scope.types.types));
      globals = ([], sym (append-nil d.globals));
      routines = omega (arith, count);
    })

pub heading_grows : (far : Bool) (site : Site) (d : Drafted) (one : RoutineHeader) (e : Drafted) → (heading far site d one).holds e → Grows d e
unfolding heading
heading_grows far site d one e h = announced_grows far site d one h.part e h.made

by_grows : (site : Site) (d : Drafted) (one : RoutineHeader) (a : Option _) (o : Opened) → (opened_by site d one a).holds o → Grows d o.draft
by_grows site d one None o h =
    let inner = h.made in
    grows_at d inner.part o.draft (ap (λ (x : Opened). x.draft) inner.made) (announced_grows false site d one h.part inner.part inner.holds)
by_grows site d one (Some first) o h = grows_at d d o.draft (ap (λ (x : Opened). x.draft) h.made) (grows_itself d)

pub opened_grows : (site : Site) (d : Drafted) (one : RoutineHeader) (o : Opened) → (opened_of site d one).holds o → Grows d o.draft
unfolding opened_of
opened_grows site d one o h = by_grows site d one (awaited_of d (name_of one).name) o h

method_by_grows : (site : Site) (d : Drafted) (one : MethodHeader) (ty : TypeId) (m : Option Method) (o : Opened) → (method_opened_by site d one ty m).holds o → Grows d o.draft
method_by_grows site d one ty None o h = absurd h
method_by_grows site d one ty (Some found) o h =
    let last = h.made.made in
    grows_at d d o.draft (ap (λ (x : Opened). x.draft) last.made) (grows_itself d)

pub method_grows : (site : Site) (d : Drafted) (one : MethodHeader) (owner : Identifier) (o : Opened) → (method_opened site d one owner).holds o → Grows d o.draft
unfolding method_opened
method_grows site d one owner o h = method_by_grows site d one h.part (own_method (definition d.scope.types.types h.part) (objects.name_of one).name) o h.made

-- ---- blocks

pub closed_grows : (s : Stage) (e : Drafted) (number : ℕ) (place : Place) (typed : Statement) → e ≡ closed number place s typed → Grows s.draft e
closed_grows s e number place typed is =
    let count : length (finishing number (done place s.locals typed) s.draft.routines) ≡ length s.draft.routines = finished_length s.draft.routines number (done place s.locals typed) in
    grows_at s.draft (closed number place s typed) e is (record {
      units = refl;
      used = refl;
      types = ([], sym (append-nil s.draft.scope.types.types));
      globals = ([], sym (append-nil s.draft.globals));
      routines = omega (arith, count);
    })

-- what is asked of the declarations of a block
abbrev pub DeclaredGrow : (Site → Stage → Judgement Stage) → Type 0
DeclaredGrow declared = (inner : Site) (s t : Stage) → (declared inner s).holds t → Grows s.draft t.draft

pub block_grows : (site : Site) (place : Place) (o : Opened) (body : CompoundStatement) (declared : Site → Stage → Judgement Stage) → DeclaredGrow declared
    → (e : Drafted) → (block_judged site place o body declared).holds e → Grows o.draft e
block_grows site place o body declared more e h =
    let read = h.made in
    let end = read.made.made in
    let first = keeps_grows o.draft h.part (inside_keeps (site_in site o.begun) place o.begun o.draft.scope h.part h.holds) in
    let inner = more _ _ read.part read.holds in
    let last = closed_grows read.part e o.begun.number place end.part end.made.made in
    grows_on o.draft (knowing o.draft h.part) e first (grows_on (knowing o.draft h.part) read.part.draft e inner last)

names_keep : (g : Environment) (names : SymbolList) → Keeps g (with_names g names)
names_keep g [] = record { table = refl; units = refl; used = refl }
names_keep g (one ∷ rest) = let it = names_keep (with_name g one.0 one.1) rest in record { table = it.table; units = it.units; used = it.used }

pub part_grows : (unit : List ℕ) (site : Site) (s t : Stage) (one : DeclarationPart) → (part_judged unit site s one).holds t → Grows s.draft t.draft
unfolding part_judged
part_grows unit site s t one h =
    let a = part_adds unit site.home (next_for site.home (next_number s.draft)) (progress_of s) h.part one h.holds in
    let these : List Numbered = of_part h.part.scope one in
    let count : length (s.draft.routines ++ these) ≡ length s.draft.routines + length these = length-append s.draft.routines these in
    let named = names_keep (typing s.draft.scope h.part.scope.types) a.names in
    grows_at s.draft _ t.draft (ap (λ (x : Stage). x.draft) h.made) (record {
      units = ap (λ (g : Environment). g.units) a.whole ∙ named.units;
      used = ap (λ (g : Environment). g.used) a.whole ∙ named.used;
      types = a.types;
      globals = a.globals;
      routines = omega (arith, count);
    })

mutual
  pub judged_grows : (work : Work) (unit : List ℕ) (site : Site) (d e : Drafted) → (judged unit site d work).holds e → Grows d e
  judged_grows (forward one) unit site d e h = heading_grows false site d one e h
  judged_grows (plain one all body) unit site d e h =
      let first = opened_grows site d one h.part h.holds in
      let rest = block_grows site (begins one).place h.part body (λ inner s. all_judged unit inner s all) (λ inner s t k. all_grow all unit inner s t k) e h.made in
      grows_on d h.part.draft e first rest
  judged_grows (method one owner all body) unit site d e h =
      let first = method_grows site d one owner h.part h.holds in
      let rest = block_grows site (objects.header_place one) h.part body (λ inner s. all_judged unit inner s all) (λ inner s t k. all_grow all unit inner s t k) e h.made in
      grows_on d h.part.draft e first rest

  pub all_grow : (all : Works) (unit : List ℕ) (site : Site) (s t : Stage) → (all_judged unit site s all).holds t → Grows s.draft t.draft
  all_grow no_works unit site s t h = grows_at s.draft s.draft t.draft (ap (λ (x : Stage). x.draft) h) (grows_itself s.draft)
  all_grow (and_part one rest) unit site s t h = grows_on s.draft h.part.draft t.draft (part_grows unit site s h.part one h.holds) (all_grow rest unit site h.part t h.made)
  all_grow (and_work one rest) unit site s t h = grows_on s.draft h.part t.draft (judged_grows one unit site s.draft h.part h.holds) (all_grow rest unit site (stage h.part s.locals) t h.made)
