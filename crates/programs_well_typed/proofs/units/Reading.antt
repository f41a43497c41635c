-- What is known of the variables and routines of a unit stays so while its declarations are read.
use Rattle.std.proofs.Common.{◌≡◌, ◌∙◌, ◌⊎◌, inl, inr, ℕ, ◌+◌, ◌≤◌, zero, suc, Bool, true, false, cond, List, [], ◌∷◌, ◌++◌, length, Option, Some, None, refl, sym, ap, subst, arith, length-append, append-nil}
use Rattle.shared_types_agree.specs.type_layout.declared.definitions.TypeId.{TypeId}
use Rattle.shared_types_agree.specs.type_layout.declared.definitions.Param.{Param}
use Rattle.shared_types_agree.specs.type_layout.declared.definitions.Header.{Header}
use Rattle.shared_types_agree.specs.type_layout.declared.definitions.Method.{Method}
use Rattle.shared_types_agree.specs.type_layout.declared.definitions.TypeDef.{TypeDef}
use Rattle.shared_types_agree.specs.type_layout.declared.texts.Place.{Place}
use Rattle.shared_types_agree.specs.type_layout.Table.{Table}
use Rattle.shared_types_agree.specs.syntax_tree.declared.identifier.Identifier.{Identifier}
use Rattle.shared_types_agree.specs.syntax_tree.declared.statement.CompoundStatement.{CompoundStatement}
use Rattle.shared_types_agree.specs.syntax_tree.declared.type_tree.parameter.MethodHeader.{MethodHeader}
use Rattle.shared_types_agree.specs.syntax_tree.declared.source_tree.declaration.DeclarationPart.{DeclarationPart}
use Rattle.shared_types_agree.specs.syntax_tree.declared.source_tree.declaration.DeclarationPart.TheVariants as part_of
use Rattle.shared_types_agree.specs.syntax_tree.declared.source_tree.declaration.RoutineHeader.{RoutineHeader}
use Rattle.shared_types_agree.specs.syntax_tree.declared.source_tree.source.InterfaceDeclaration.{InterfaceDeclaration}
use Rattle.shared_types_agree.specs.syntax_tree.declared.source_tree.source.InterfaceDeclaration.TheVariants as i
use Rattle.shared_types_agree.specs.typed_tree.type_fits.Fits.{definition}
use Rattle.shared_types_agree.specs.scopes.declared.entries.Entry.{Entry}
use Rattle.shared_types_agree.specs.scopes.declared.entries.BlockKind.TheVariants as block
use Rattle.shared_types_agree.specs.scopes.declared.searches.OpenBlock.{OpenBlock}
use Rattle.shared_types_agree.specs.scopes.Symbols.{SymbolList}
use Rattle.shared_types_agree.specs.scopes.Members.{narrow}
use Rattle.shared_types_agree.specs.scopes.Environment.{Environment, outer, with_name, with_block}
use Rattle.shared_types_agree.specs.unit_interface.declared.interfaces.Interface.{Interface}
use Rattle.shared_types_agree.specs.unit_interface.Resolve.{is_overlay, interface_named, with_overlay, with_found, with_use}
use Rattle.shared_types_agree.specs.typing_rules.Judgements.{Judgement}
use Rattle.shared_types_agree.specs.declaration_checker.type_denoters.Additions.{entered}
use Rattle.shared_types_agree.specs.declaration_checker.type_parts.Objects as objects
use Rattle.shared_types_agree.specs.declaration_checker.declared.declarations.homes.Home.{Home}
use Rattle.shared_types_agree.specs.declaration_checker.declarations.Progress.{Progress}
use Rattle.shared_types_agree.specs.declaration_checker.declarations.Parts.{part_declared}
use Rattle.shared_types_agree.specs.tp_check_decl.declared.routines.drafts.Site.{Site}
use Rattle.shared_types_agree.specs.tp_check_decl.routines.Trees.{Work, Works, forward, plain, method, no_works, and_part, and_work}
use Rattle.shared_types_agree.specs.tp_check_decl.routines.Drafts.{Done, Numbered, Drafted, Stage, stage, knowing, next_number, next_for, progress_of, depth_of, finishing}
use Rattle.shared_types_agree.specs.tp_check_decl.routines.Headings.{begins, name_of, announced_by, announced, heading, awaited_of, Opened, opened_by, opened_of}
use Rattle.shared_types_agree.specs.tp_check_decl.routines.Insides.{site_in, self_entered, params_entered, inside, done, closed}
use Rattle.shared_types_agree.specs.tp_check_decl.routines.Methods.{of_part, own_method, method_opened_by, method_opened}
use Rattle.shared_types_agree.specs.tp_check_decl.routines.Blocks.{part_judged, block_judged, judged, all_judged}
use Rattle.shared_types_agree.specs.units_well_formed.units.Below.{declared, all_declared, all_used, unit_site, empty_draft}
use Rattle.shared_types_agree.specs.tp_check_decl.Interfaces.{interface_judged}
use Rattle.shared_types_agree.specs.tp_check_decl.Programs.{declarations_judged}
use Rattle.shared_types_agree.proofs.tables_closed_proofs.types.Own.{same_count}
use Rattle.shared_types_agree.proofs.tables_closed_proofs.types.Reading.{is_entered}
use Rattle.shared_types_agree.specs.declarations_well_formed.names.Declaring.{typing, with_names}
use Rattle.shared_types_agree.proofs.declarations_well_formed_proofs.parts.Parts.{part_adds}
use Rattle.shared_types_agree.proofs.units_well_formed_proofs.units.Below.{Ends, ends, outer_end}
use Rattle.shared_types_agree.proofs.units_well_formed_proofs.units.Used.{all_used_grow}
use Rattle.programs_well_typed.proofs.units.Each.{Each, each_on, each_as}
use Rattle.programs_well_typed.proofs.units.Objects.{IsSoundSlot, slot_more, types_sound}
use Rattle.programs_well_typed.proofs.units.Firsts.{BeginsPlain, firsts_more, part_firsts}

-- ---- what is known of a unit while it is read

pub record IsSound (d : Drafted) : Type 0 where
  pub firsts : Each (BeginsPlain d.scope.types.types) d.globals
  pub slots : Each (IsSoundSlot d.scope.types.types) d.routines

-- From one draft to another it stays, where a block is open; and as many blocks are open.
pub record Goes (d e : Drafted) : Type 0 where
  pub sound : 1 ≤ length d.scope.blocks → IsSound d → IsSound e
  pub blocks : length e.scope.blocks ≡ length d.scope.blocks

goes_on : (d e f : Drafted) → Goes d e → Goes e f → Goes d f
goes_on d e f h k = record {
  sound = λ some s. k.sound (let same = h.blocks in omega (arith, same, some)) (h.sound some s);
  blocks = k.blocks ∙ h.blocks;
}

goes_at : (d e f : Drafted) → f ≡ e → Goes d e → Goes d f
goes_at d e f is h = subst (λ (x : Drafted). Goes d x) (sym is) h

goes_itself : (d : Drafted) → Goes d d
goes_itself d = record { sound = λ some s. s; blocks = refl }

sound_with : (d : Drafted) (g : Environment) (back : List TypeDef) → g.types.types ≡ d.scope.types.types ++ back → IsSound d → IsSound (knowing d g)
sound_with d g back e s = record {
  firsts = subst (λ (types : List TypeDef). Each (BeginsPlain types) d.globals) (sym e) (firsts_more d.scope.types.types back d.globals s.firsts);
  slots = subst (λ (types : List TypeDef). Each (IsSoundSlot types) d.routines) (sym e)
      (each_as (IsSoundSlot d.scope.types.types) (IsSoundSlot (d.scope.types.types ++ back)) (λ one k. slot_more d.scope.types.types back one k) d.routines s.slots);
}

-- ---- names

-- the same table, and so many blocks are open
pub record Names (g h : Environment) (count : ℕ) : Type 0 where
  pub table : h.types ≡ g.types
  pub blocks : length h.blocks ≡ count

names_at : (g h k : Environment) (count : ℕ) → k ≡ h → Names g h count → Names g k count
names_at g h k count is n = subst (λ (x : Environment). Names g x count) (sym is) n

entered_names : (g : Environment) (place : Place) (name : List ℕ) (one : Entry) (h : Environment) → (entered g place name one).holds h → Names g h (length g.blocks)
entered_names g place name one h k = names_at g (with_name g name one) h (length g.blocks) (is_entered g place name one h k).is (record { table = refl; blocks = same_count g.blocks name one })

names_on : (g h k : Environment) (count : ℕ) → Names g h count → Names h k (length h.blocks) → Names g k count
names_on g h k count a b = record { table = b.table ∙ a.table; blocks = b.blocks ∙ a.blocks }

self_names : (level : ℕ) (place : Place) (number : ℕ) (owner : Option TypeId) (g h : Environment) → (self_entered level place number owner g).holds h → Names g h (length g.blocks)
self_names level place number None g h k = names_at g g h (length g.blocks) k (record { table = refl; blocks = refl })
self_names level place number (Some ty) g h k = entered_names g _ _ _ h k

params_names : (level : ℕ) (place : Place) (number : ℕ) (g : Environment) (params : List Param) (h : Environment) → (params_entered level place number g params).holds h → Names g h (length g.blocks)
params_names level place number g [] h k = names_at g g h (length g.blocks) k (record { table = refl; blocks = refl })
params_names level place number g (one ∷ rest) h k =
    names_on g k.part h (length g.blocks) (entered_names g _ _ _ k.part k.holds) (params_names level place (narrow (number + 1)) k.part rest h k.made)

-- inside a routine one more block is open
inside_names : (inner : Site) (place : Place) (b : _) (g h : Environment) → (inside inner place b g).holds h → Names g h (length g.blocks + 1)
inside_names inner place b g h k =
    let opened : Environment = with_block g (block.Routine b.number b.owner) in
    let count : length opened.blocks ≡ length g.blocks + 1 = length-append g.blocks _ in
    let first = self_names (depth_of inner) place (narrow (length b.header.params)) b.owner opened k.part k.holds in
    names_on g k.part h (length g.blocks + 1) (record { table = first.table; blocks = first.blocks ∙ count }) (params_names (depth_of inner) place 0 k.part b.header.params h k.made)

sound_names : (d : Drafted) (g : Environment) (count : ℕ) → Names d.scope g count → IsSound d → IsSound (knowing d g)
sound_names d g count n s = sound_with d g [] (ap (λ (table : Table). table.types) n.table ∙ sym (append-nil d.scope.types.types)) s

-- ---- headers

announced_slot : (types : List TypeDef) (far : Bool) (site : Site) (one : RoutineHeader) (header : Header) (done_there : Option Done) → IsSoundSlot types (record { first = announced_by far site one header; done = done_there })
announced_slot types far site one header done_there = record { method = λ some. (let bad : false ≡ true = some in cc); class = λ made. tt }

announced_goes : (far : Bool) (site : Site) (d : Drafted) (one : RoutineHeader) (header : Header) (e : Drafted) → (announced far site d one header).holds e → Goes d e
announced_goes far site d one header e h =
    let n = entered_names d.scope _ _ _ h.part h.holds in
    let new : Numbered = record { first = announced_by far site one header; done = None } in
    goes_at d _ e h.made (record {
      sound = λ some s.
          let k = sound_names d h.part (length d.scope.blocks) n s in
          record { firsts = k.firsts; slots = each_on (IsSoundSlot h.part.types.types) d.routines (new ∷ []) k.slots (announced_slot h.part.types.types far site one header None, tt) };
      blocks = n.blocks;
    })

heading_goes : (far : Bool) (site : Site) (d : Drafted) (one : RoutineHeader) (e : Drafted) → (heading far site d one).holds e → Goes d e
unfolding heading
heading_goes far site d one e h = announced_goes far site d one h.part e h.made

by_goes : (site : Site) (d : Drafted) (one : RoutineHeader) (a : Option _) (o : Opened) → (opened_by site d one a).holds o → Goes d o.draft
by_goes site d one None o h =
    let inner = h.made in
    goes_at d inner.part o.draft (ap (λ (x : Opened). x.draft) inner.made) (announced_goes false site d one h.part inner.part inner.holds)
by_goes site d one (Some first) o h = goes_at d d o.draft (ap (λ (x : Opened). x.draft) h.made) (goes_itself d)

opened_goes : (site : Site) (d : Drafted) (one : RoutineHeader) (o : Opened) → (opened_of site d one).holds o → Goes d o.draft
unfolding opened_of
opened_goes site d one o h = by_goes site d one (awaited_of d (name_of one).name) o h

method_by_goes : (site : Site) (d : Drafted) (one : MethodHeader) (ty : TypeId) (m : Option Method) (o : Opened) → (method_opened_by site d one ty m).holds o → Goes d o.draft
method_by_goes site d one ty None o h = absurd h
method_by_goes site d one ty (Some found) o h = goes_at d d o.draft (ap (λ (x : Opened). x.draft) h.made.made.made) (goes_itself d)

method_goes : (site : Site) (d : Drafted) (one : MethodHeader) (owner : Identifier) (o : Opened) → (method_opened site d one owner).holds o → Goes d o.draft
unfolding method_opened
method_goes site d one owner o h = method_by_goes site d one h.part (own_method (definition d.scope.types.types h.part) (objects.name_of one).name) o h.made

-- ---- blocks

outer_count : (blocks : List OpenBlock) (count : ℕ) → length blocks ≡ count + 1 → length (outer blocks) ≡ count
outer_count blocks count e = by (ends blocks)
  where
    by : (blocks ≡ []) ⊎ Ends blocks → length (outer blocks) ≡ count
    by (inl none) =
        let no : length blocks ≡ 0 = ap (λ (b : List OpenBlock). length b) none in
        absurd (omega (arith, no, e))
    by (inr k) =
        let whole : length blocks ≡ length k.rest + 1 = ap (λ (b : List OpenBlock). length b) k.is ∙ length-append k.rest (k.last ∷ []) in
        let rest : length (outer blocks) ≡ length k.rest = ap (λ (b : List OpenBlock). length (outer b)) k.is ∙ ap (λ (b : List OpenBlock). length b) (outer_end k.rest k.last) in
        omega (arith, whole, rest, e)

-- a routine gets its block
finished_slots : (types : List TypeDef) (number : ℕ) (made : Done) (all : List Numbered) → Each (IsSoundSlot types) all → Each (IsSoundSlot types) (finishing number made all)
finished_slots types number made [] h = tt
finished_slots types zero made (one ∷ rest) h = (record { method = h.0.method; class = h.0.class }, h.1)
finished_slots types (suc number) made (one ∷ rest) h = (h.0, finished_slots types number made rest h.1)

-- what is asked of the declarations of a block
abbrev DeclaredGo : (Site → Stage → Judgement Stage) → Type 0
DeclaredGo declared = (inner : Site) (s t : Stage) → (declared inner s).holds t → Goes s.draft t.draft

block_goes : (site : Site) (place : Place) (o : Opened) (body : CompoundStatement) (declared : Site → Stage → Judgement Stage) → DeclaredGo declared
    → (e : Drafted) → (block_judged site place o body declared).holds e → Goes o.draft e
block_goes site place o body declared more e h =
    let n = inside_names (site_in site o.begun) place o.begun o.draft.scope h.part h.holds in
    let read = h.made in
    let s : Stage = read.part in
    let end = read.made.made in
    let inner : Goes (knowing o.draft h.part) s.draft = more _ _ s read.holds in
    let count : length s.draft.scope.blocks ≡ length o.draft.scope.blocks + 1 = inner.blocks ∙ n.blocks in
    goes_at o.draft (closed o.begun.number place s end.part) e end.made.made (record {
      sound = λ some k.
          let first = sound_names o.draft h.part (length o.draft.scope.blocks + 1) n k in
          let last = inner.sound (let one_more = n.blocks in omega (arith, one_more)) first in
          record { firsts = last.firsts; slots = finished_slots s.draft.scope.types.types o.begun.number (done place s.locals end.part) s.draft.routines last.slots };
      blocks = outer_count s.draft.scope.blocks (length o.draft.scope.blocks) count;
    })

-- ---- parts of declarations

names_count : (names : SymbolList) (g : Environment) → length (with_names g names).blocks ≡ length g.blocks
names_count [] g = refl
names_count (one ∷ rest) g = names_count rest (with_name g one.0 one.1) ∙ same_count g.blocks one.0 one.1

part_slots : (unit : List ℕ) (where_at : Home) (number : ℕ) (p q : Progress) (one : DeclarationPart) → 1 ≤ length p.scope.blocks → (part_declared unit where_at (next_for where_at (narrow number)) p one).holds q
    → Each (IsSoundSlot q.scope.types.types) (of_part q.scope one)
unfolding part_declared
part_slots unit where_at number p q (part_of.Constants here all) some k = tt
part_slots unit where_at number p q (part_of.Types here all) some k =
    let same : q.scope ≡ k.part = ap (λ (x : Progress). x.scope) k.made in
    subst (λ (h : Environment). Each (IsSoundSlot h.types.types) (of_part h (part_of.Types here all))) (sym same) (types_sound unit where_at number p.scope k.part all.items some k.holds)
part_slots unit where_at number p q (part_of.Variables here all) some k = tt

part_goes : (unit : List ℕ) (site : Site) (s t : Stage) (one : DeclarationPart) → (part_judged unit site s one).holds t → Goes s.draft t.draft
unfolding part_judged
part_goes unit site s t one h =
    let p : Progress = progress_of s in
    let q : Progress = h.part in
    let a = part_adds unit site.home (next_for site.home (next_number s.draft)) p q one h.holds in
    goes_at s.draft _ t.draft (ap (λ (x : Stage). x.draft) h.made) (record {
      sound = λ some k.
          let old = sound_with s.draft q.scope a.types.0 a.types.1 k in
          record {
            firsts = part_firsts unit site.home (next_for site.home (next_number s.draft)) p one q h.holds k.firsts;
            slots = each_on (IsSoundSlot q.scope.types.types) s.draft.routines (of_part q.scope one) old.slots (part_slots unit site.home (length s.draft.routines) p q one some h.holds);
          };
      blocks = ap (λ (g : Environment). length g.blocks) a.whole ∙ names_count a.names (typing s.draft.scope q.scope.types);
    })

-- ---- routines and declarations

mutual
  judged_goes : (work : Work) (unit : List ℕ) (site : Site) (d e : Drafted) → (judged unit site d work).holds e → Goes d e
  judged_goes (forward one) unit site d e h = heading_goes false site d one e h
  judged_goes (plain one all body) unit site d e h =
      let rest = block_goes site (begins one).place h.part body (λ inner s. all_judged unit inner s all) (λ inner s t k. all_go all unit inner s t k) e h.made in
      goes_on d h.part.draft e (opened_goes site d one h.part h.holds) rest
  judged_goes (method one owner all body) unit site d e h =
      let rest = block_goes site (objects.header_place one) h.part body (λ inner s. all_judged unit inner s all) (λ inner s t k. all_go all unit inner s t k) e h.made in
      goes_on d h.part.draft e (method_goes site d one owner h.part h.holds) rest

  all_go : (all : Works) (unit : List ℕ) (site : Site) (s t : Stage) → (all_judged unit site s all).holds t → Goes s.draft t.draft
  all_go no_works unit site s t h = goes_at s.draft s.draft t.draft (ap (λ (x : Stage). x.draft) h) (goes_itself s.draft)
  all_go (and_part one rest) unit site s t h = goes_on s.draft h.part.draft t.draft (part_goes unit site s h.part one h.holds) (all_go rest unit site h.part t h.made)
  all_go (and_work one rest) unit site s t h = goes_on s.draft h.part t.draft (judged_goes one unit site s.draft h.part h.holds) (all_go rest unit site (stage h.part s.locals) t h.made)

declared_goes : (unit : List ℕ) (s t : Stage) (one : InterfaceDeclaration) → (declared unit s one).holds t → Goes s.draft t.draft
declared_goes unit s t (i.Part one) h = part_goes unit unit_site s t one h
declared_goes unit s t (i.Header one) h = goes_at s.draft h.part t.draft (ap (λ (x : Stage). x.draft) h.made) (heading_goes true unit_site s.draft one h.part h.holds)

declared_go : (unit : List ℕ) (s t : Stage) (all : List InterfaceDeclaration) → (all_declared unit s all).holds t → Goes s.draft t.draft
declared_go unit s t [] h = goes_at s.draft s.draft t.draft (ap (λ (x : Stage). x.draft) h) (goes_itself s.draft)
declared_go unit s t (one ∷ rest) h = goes_on s.draft h.part.draft t.draft (declared_goes unit s h.part one h.holds) (declared_go unit h.part t rest h.made)

-- ---- from the first block on

-- what is known of a unit in whose block its declarations stand
pub record IsOpen (d : Drafted) : Type 0 where
  pub sound : IsSound d
  pub some : 1 ≤ length d.scope.blocks

open_on : (d e : Drafted) → Goes d e → IsOpen d → IsOpen e
open_on d e g h = record { sound = g.sound h.some h.sound; some = (let same = g.blocks in let some = h.some in omega (arith, same, some)) }

open_first : (g : Environment) → IsOpen (empty_draft g)
open_first g = record {
  sound = record { firsts = tt; slots = tt };
  some = (let count : length (empty_draft g).scope.blocks ≡ length g.blocks + 1 = length-append g.blocks _ in omega (arith, count));
}

pub interface_open : (name : List ℕ) (g : Environment) (all : List InterfaceDeclaration) (d : Drafted) → (interface_judged name g all).holds d → IsOpen d
unfolding interface_judged
interface_open name g all d k =
    subst (λ (x : Drafted). IsOpen x) (sym k.made) (open_on (empty_draft g) k.part.draft (declared_go name (stage (empty_draft g) []) k.part all k.holds) (open_first g))

pub program_open : (name : List ℕ) (g : Environment) (all : Works) (d : Drafted) → (declarations_judged name g all).holds d → IsOpen d
unfolding declarations_judged
program_open name g all d k =
    subst (λ (x : Drafted). IsOpen x) (sym k.made) (open_on (empty_draft g) k.part.draft (all_go all name unit_site (stage (empty_draft g) []) k.part k.holds) (open_first g))

pub implemented_open : (name : List ℕ) (d : Drafted) (all : Works) (s : Stage) → (all_judged name unit_site (stage d []) all).holds s → IsOpen d → IsOpen s.draft
implemented_open name d all s k h = open_on d s.draft (all_go all name unit_site (stage d []) s k) h

-- further used units open no block
use_count : (have : List Interface) (g : Environment) (word : List ℕ) → length (with_use have g word).blocks ≡ length g.blocks
use_count have g word = by (is_overlay word) (interface_named have word)
  where
    by : (b : Bool) (found : Option Interface) → length (cond b (with_overlay g) (with_found g found)).blocks ≡ length g.blocks
    by true found = refl
    by false None = refl
    by false (Some interface) = refl

used_count : (have : List Interface) (g : Environment) (all : List Identifier) (h : Environment) → (all_used have g all).holds h → length h.blocks ≡ length g.blocks
used_count have g [] h k = ap (λ (x : Environment). length x.blocks) k
used_count have g (one ∷ rest) h k = used_count have k.part rest h k.made ∙ ap (λ (x : Environment). length x.blocks) k.holds.made ∙ use_count have g one.name

pub used_open : (have : List Interface) (d : Drafted) (all : List Identifier) (h : Environment) → (all_used have d.scope all).holds h → IsOpen d → IsOpen (knowing d h)
used_open have d all h k o =
    let more = all_used_grow have d.scope all h k in
    record { sound = sound_with d h more.0 more.1 o.sound; some = (let same = used_count have d.scope all h k in let some = o.some in omega (arith, same, some)) }
