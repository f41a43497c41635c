-- Bounds stay bounds behind routines.
use Rattle.std.proofs.Common.{◌≡◌, ℕ, ◌+◌, ◌<◌, Bool, true, false, cond, List, [], ◌∷◌, length, Option, Some, None, sym, ap, subst}
use Rattle.std.specs.Prelude.{◌==◌, ◌&&◌, slice_get}
use Rattle.tp_check_decl.specs.type_layout.declared.definitions.TypeId.{TypeId}
use Rattle.tp_check_decl.specs.type_layout.declared.definitions.Param.{Param}
use Rattle.tp_check_decl.specs.type_layout.declared.definitions.Kind.{Kind}
use Rattle.tp_check_decl.specs.type_layout.declared.definitions.Kind.TheVariants as kind
use Rattle.tp_check_decl.specs.type_layout.declared.definitions.Header.{Header}
use Rattle.tp_check_decl.specs.type_layout.declared.definitions.Method.{Method}
use Rattle.tp_check_decl.specs.type_layout.declared.texts.Place.{Place}
use Rattle.tp_check_decl.specs.syntax_tree.declared.identifier.Identifier.{Identifier}
use Rattle.tp_check_decl.specs.syntax_tree.declared.statement.CompoundStatement.{CompoundStatement}
use Rattle.tp_check_decl.specs.syntax_tree.declared.type_tree.parameter.MethodHeader.{MethodHeader}
use Rattle.tp_check_decl.specs.syntax_tree.declared.source_tree.declaration.DeclarationPart.{DeclarationPart}
use Rattle.tp_check_decl.specs.syntax_tree.declared.source_tree.declaration.RoutineHeader.{RoutineHeader}
use Rattle.tp_check_decl.specs.syntax_tree.declared.source_tree.declaration.RoutineHeader.TheVariants as h
use Rattle.tp_check_decl.specs.scopes.declared.entries.Entry.TheVariants as entry
use Rattle.tp_check_decl.specs.scopes.declared.entries.BlockKind.TheVariants.{Routine}
use Rattle.tp_check_decl.specs.scopes.Members.{narrow}
use Rattle.tp_check_decl.specs.scopes.Environment.{Environment, Meaning, named, find, block_count, with_block}
use Rattle.tp_check_decl.specs.unit_interface.Exports.{in_option, in_params, in_header}
use Rattle.tp_check_decl.specs.typed_tree.type_fits.Fits.{definition}
use Rattle.tp_check_decl.specs.typing_rules.Judgements.{Judgement}
use Rattle.tp_check_decl.specs.declaration_checker.headers.Headers.{procedure_header, function_header, method_header}
use Rattle.tp_check_decl.specs.declaration_checker.type_parts.Objects.{name_of as method_name, header_place}
use Rattle.tp_check_decl.specs.declared.routines.drafts.Site.{Site}
use Rattle.tp_check_decl.specs.routines.Trees.{Work, Works, forward, plain, method, no_works, and_part, and_work}
use Rattle.tp_check_decl.specs.routines.Drafts.{Numbered, Drafted, knowing, next_number, Stage, stage, progress_of, next_for, depth_of}
use Rattle.tp_check_decl.specs.routines.Headings.{name_of, begins, announced, heading, is_left, awaited, awaited_by, awaited_of, is_bare, kind_repeated, whole_repeated, half_repeated, repeated, begun, with_params, Opened, opened, opened_by, opened_of}
use Rattle.tp_check_decl.specs.routines.Methods.{groups_of, lacks_result, header_repeated, own_method, method_opened_by, method_opened}
use Rattle.tp_check_decl.specs.routines.Insides.{site_in, self_entered, params_entered, inside, ended}
use Rattle.tp_check_decl.specs.routines.Blocks.{part_judged, judged, all_judged}
use Rattle.tables_closed.specs.constants.Bounds.{AreBelow, IsBoundOf}
use Rattle.tables_closed.proofs.constants.Below.{below_first, either_way}
use Rattle.tables_closed.proofs.constants.Names.{OfMeaning, of_found}
use Rattle.tables_closed.proofs.constants.Headers.{type_bounded, procedure_bounded, function_bounded, routine_bounded, method_bounded}
use Rattle.tables_closed.proofs.routines.Staying.{Stays, Nothing, stays, stay_at, stay_for, stay_then, stay_on, stay_entered, stay_opened, stay_closed}
use Rattle.tables_closed.proofs.routines.Declaring.{declared_stays}

-- ---- headers that announce a routine

pub draft_stays : (asked : ℕ → Type 0) (g : Environment) (one made : Drafted) → made ≡ one → Stays asked g one.scope → Stays asked g made.scope
draft_stays asked g one made e s = stay_at asked g one.scope made.scope (ap (λ (d : Drafted). d.scope) e) s

pub stage_stays : (asked : ℕ → Type 0) (g : Environment) (one made : Stage) → made ≡ one → Stays asked g one.draft.scope → Stays asked g made.draft.scope
stage_stays asked g one made e s = stay_at asked g one.draft.scope made.draft.scope (ap (λ (d : Stage). d.draft.scope) e) s

announced_stays : (far : Bool) (site : Site) (d : Drafted) (one : RoutineHeader) (header : Header) (made : Drafted) → (announced far site d one header).holds made
    → Stays (λ n. AreBelow n (in_header header)) d.scope made.scope
announced_stays far site d one header made e =
    draft_stays (λ n. AreBelow n (in_header header)) d.scope _ made e.made (stay_entered d.scope (name_of one).position.place (name_of one).name _ e.part e.holds)

pub heading_stays : (far : Bool) (site : Site) (d : Drafted) (one : RoutineHeader) (made : Drafted) → (heading far site d one).holds made → Stays Nothing d.scope made.scope
unfolding heading
heading_stays far site d one made e =
    stay_for (λ n. AreBelow n (in_header e.part)) Nothing d.scope made.scope (announced_stays far site d one e.part made e.made)
    (λ n b l a. routine_bounded n d.scope b one e.part e.holds)

-- ---- headers behind which the block of an earlier one stands

-- what is said of what an option has
abbrev OfSome : {A : Type 0} → Option A → (A → Type 0) → Type 0
OfSome None P = Unit {0}
OfSome (Some one) P = P one

awaited_below : (n count : ℕ) (routines : List Numbered) (one : Option Meaning) → OfMeaning n one → OfSome (awaited_by count routines one) (λ first. AreBelow n (in_header first.header))
awaited_below n count routines (Some (named block (entry.Code routine level header far))) b =
    chosen (block + 1 == count && (routine.unit == 0 && is_left (slice_get routines routine.number)))
  where
    chosen : (test : Bool) → OfSome (cond test (Some (awaited routine.number header)) None) (λ first. AreBelow n (in_header first.header))
    chosen true = b
    chosen false = tt
awaited_below n count routines one b = tt

same_params : (n : ℕ) (one made : List Param) → made ≡ one → AreBelow n (in_params one) → AreBelow n (in_params made)
same_params n one made e b = subst (λ (x : List Param). AreBelow n (in_params x)) (sym e) b

module _ (n : ℕ) (place : Place) (first : Header) where
  whole_below : (j : Judgement Header) (params : List Param) → ((header : Header) → j.holds header → AreBelow n (in_header header)) → (whole_repeated place first j).holds params → AreBelow n (in_params params)
  whole_below j params p e = same_params n e.part.params params e.made.made (below_first n (in_params e.part.params) (in_option e.part.result) (p e.part e.holds))

  either_below : (b : Bool) (kind : Kind) (j : Judgement Header) (params : List Param) → AreBelow n (in_params first.params) → ((header : Header) → j.holds header → AreBelow n (in_header header))
      → (cond b ((kind_repeated place kind first).holds params) ((whole_repeated place first j).holds params)) → AreBelow n (in_params params)
  either_below true kind j params f p e = same_params n first.params params e.made f
  either_below false kind j params f p e = whole_below j params p e

  kind_below : (b : Bool) (kind : Kind) (j : Judgement Header) (params : List Param) → AreBelow n (in_params first.params)
      → (cond b ((kind_repeated place kind first).holds params) ((half_repeated place j).holds params)) → AreBelow n (in_params params)
  kind_below true kind j params f e = same_params n first.params params e.made f
  kind_below false kind j params f e = absurd e.made

repeated_below : (n : ℕ) (g : Environment) → IsBoundOf n g → (first : Header) (one : RoutineHeader) (params : List Param) → AreBelow n (in_params first.params) → (repeated g first one).holds params
    → AreBelow n (in_params params)
repeated_below n g b first (h.Procedure here name groups) params f e =
    either_below n here.place first (is_bare groups.items) kind.Procedure (procedure_header g false here.place kind.Procedure groups.items) params f
    (λ header held. procedure_bounded n g b false here.place kind.Procedure groups.items header held) e
repeated_below n g b first (h.Function here name groups None) params f e =
    kind_below n here.place first (is_bare groups.items) kind.Function (procedure_header g false here.place kind.Procedure groups.items) params f e
repeated_below n g b first (h.Function here name groups (Some result)) params f e =
    whole_below n here.place first (function_header g false here.place groups.items (Some result)) params
    (λ header held. function_bounded n g b false here.place groups.items (Some result) header held) e

-- a routine whose block follows: its parameters, and the object type of a method, are below the bounds
record IsOpened (d : Drafted) (made : Opened) : Type 0 where
  stays : Stays Nothing d.scope made.draft.scope
  params : (n : ℕ) → IsBoundOf n d.scope → AreBelow n (in_params made.begun.header.params)
  owner : (n : ℕ) → IsBoundOf n d.scope → AreBelow n (in_option made.begun.owner)

opened_at : (d : Drafted) (one made : Opened) → made ≡ one → IsOpened d one → IsOpened d made
opened_at d one made e o = let P : Opened → Type 0 = λ x. IsOpened d x in subst P (sym e) o

opened_by_is : (site : Site) (d : Drafted) (one : RoutineHeader) (found : _) (made : Opened) → (opened_by site d one found).holds made
    → ((n : ℕ) → IsBoundOf n d.scope → OfSome found (λ first. AreBelow n (in_header first.header))) → IsOpened d made
opened_by_is site d one (Some first) made e known =
    opened_at d (opened (begun first.number (with_params first.header e.part) None) d) made e.made (record {
      stays = stays Nothing d.scope;
      params = λ n b. repeated_below n d.scope b first.header one e.part (below_first n (in_params first.header.params) (in_option first.header.result) (known n b)) e.holds;
      owner = λ n b. tt;
    })
opened_by_is site d one None made e known =
    let header = e.part in
    let last = e.made in
    opened_at d (opened (begun (next_number d) header None) last.part) made last.made (record {
      stays = stay_for (λ n. AreBelow n (in_header header)) Nothing d.scope last.part.scope (announced_stays false site d one header last.part last.holds)
          (λ n b l a. routine_bounded n d.scope b one header e.holds);
      params = λ n b. below_first n (in_params header.params) (in_option header.result) (routine_bounded n d.scope b one header e.holds);
      owner = λ n b. tt;
    })

opened_is : (site : Site) (d : Drafted) (one : RoutineHeader) (made : Opened) → (opened_of site d one).holds made → IsOpened d made
unfolding opened_of awaited_of
opened_is site d one made e =
    opened_by_is site d one (awaited_by (block_count d.scope) d.routines (find d.scope (name_of one).name)) made e
    (λ n b. awaited_below n (block_count d.scope) d.routines (find d.scope (name_of one).name) (of_found n d.scope (name_of one).name b))

-- ---- methods

method_params : (n : ℕ) (g : Environment) → IsBoundOf n g → (first : Header) (one : MethodHeader) (params : List Param) → (header_repeated g first one).holds params → AreBelow n (in_params params)
method_params n g b first one params e =
    either_way (lacks_result one) (half_repeated (header_place one) (procedure_header g true (header_place one) kind.Procedure (groups_of one)))
    (whole_repeated (header_place one) first (method_header g one)) params (AreBelow n (in_params params)) (λ held. absurd held.made)
    (λ held. whole_below n (header_place one) first (method_header g one) params (λ header is. method_bounded n g b one header is) held) e

method_by_is : (site : Site) (d : Drafted) (one : MethodHeader) (ty : TypeId) (found : Option Method) (made : Opened) → ((n : ℕ) → IsBoundOf n d.scope → ty.0 < n)
    → (method_opened_by site d one ty found).holds made → IsOpened d made
method_by_is site d one ty None made low e = absurd e
method_by_is site d one ty (Some found) made low e =
    let b = e.made in
    opened_at d (opened (begun found.routine.number (with_params found.header b.part) (Some ty)) d) made b.made.made (record {
      stays = stays Nothing d.scope;
      params = λ n bound. method_params n d.scope bound found.header one b.part b.holds;
      owner = λ n bound. (low n bound, tt);
    })

method_is : (site : Site) (d : Drafted) (one : MethodHeader) (owner : Identifier) (made : Opened) → (method_opened site d one owner).holds made → IsOpened d made
unfolding method_opened
method_is site d one owner made e =
    method_by_is site d one e.part (own_method (definition d.scope.types.types e.part) (method_name one).name) made
    (λ n b. type_bounded n d.scope b owner.position.place owner.name e.part e.holds) e.made

-- ---- blocks

self_stays : (level : ℕ) (place : Place) (number : ℕ) (owner : Option TypeId) (g made : Environment) → (self_entered level place number owner g).holds made
    → Stays (λ n. AreBelow n (in_option owner)) g made
self_stays level place number None g made e = stay_at _ g g made e (stays _ g)
self_stays level place number (Some ty) g made e = stay_entered g place _ _ made e

params_stay : (level : ℕ) (place : Place) (number : ℕ) (g : Environment) (params : List Param) (made : Environment) → (params_entered level place number g params).holds made
    → Stays (λ n. AreBelow n (in_params params)) g made
params_stay level place number g [] made e = stay_at _ g g made e (stays _ g)
params_stay level place number g (one ∷ rest) made e =
    let var = entry.Var 0 level number one.ty in
    stay_then (λ n. AreBelow n (one.ty.0 ∷ [])) (λ n. AreBelow n (in_params rest)) (λ n. AreBelow n (in_params (one ∷ rest))) g e.part made
    (stay_entered g place one.name var e.part e.holds) (params_stay level place (narrow (number + 1)) e.part rest made e.made)
    (λ n b l a. (a.0, tt)) (λ n b m l a. a.1)

inside_stays : (inner : Site) (place : Place) (b : _) (g made : Environment) → (inside inner place b g).holds made
    → Stays (λ n. AreBelow n (in_option b.owner) × AreBelow n (in_params b.header.params)) g made
inside_stays inner place b g made e =
    let block = with_block g (Routine b.number b.owner) in
    let self = self_stays (depth_of inner) place (narrow (length b.header.params)) b.owner block e.part e.holds in
    let params = params_stay (depth_of inner) place 0 e.part b.header.params made e.made in
    let both : ℕ → Type 0 = λ n. AreBelow n (in_option b.owner) × AreBelow n (in_params b.header.params) in
    stay_then both (λ n. AreBelow n (in_params b.header.params)) both g e.part made
    (stay_then Nothing (λ n. AreBelow n (in_option b.owner)) both g block e.part (stay_opened Nothing g (Routine b.number b.owner)) self (λ n k l a. tt) (λ n k m l a. a.0)) params
    (λ n k l a. a) (λ n k m l a. a.1)

ended_stays : (inner : Site) (number : ℕ) (place : Place) (body : CompoundStatement) (s : Stage) (made : Drafted) → (ended inner number place body s).holds made → Stays Nothing s.draft.scope made.scope
ended_stays inner number place body s made e = draft_stays Nothing s.draft.scope _ made e.made.made.made (stay_closed Nothing s.draft.scope)

pub part_of_stays : (unit : List ℕ) (site : Site) (s : Stage) (one : DeclarationPart) (made : Stage) → (part_judged unit site s one).holds made → Stays Nothing s.draft.scope made.draft.scope
unfolding part_judged
part_of_stays unit site s one made e =
    stage_stays Nothing s.draft.scope _ made e.made (declared_stays unit site.home (next_for site.home (next_number s.draft)) (progress_of s) one e.part e.holds)

-- the block behind a header that was read
block_stays : (d : Drafted) (o : Opened) (inner : Site) (place : Place) (in_it : Environment) (last : Stage) (body : CompoundStatement) (made : Drafted) → IsOpened d o
    → (inside inner place o.begun o.draft.scope).holds in_it → Stays Nothing in_it last.draft.scope → (ended inner o.begun.number place body last).holds made → Stays Nothing d.scope made.scope
block_stays d o inner place in_it last body made is e rest end =
    let both : ℕ → Type 0 = λ n. AreBelow n (in_option o.begun.owner) × AreBelow n (in_params o.begun.header.params) in
    let first : Stays Nothing d.scope in_it =
    stay_then Nothing both Nothing d.scope o.draft.scope in_it is.stays (inside_stays inner place o.begun o.draft.scope in_it e) (λ n b l a. tt) (λ n b m l a. (is.owner n b, is.params n b)) in
    stay_on d.scope in_it made.scope first (stay_on in_it last.draft.scope made.scope rest (ended_stays inner o.begun.number place body last made end))

module _ (unit : List ℕ) where
  mutual
    routine_stays : (site : Site) (d : Drafted) (work : Work) (made : Drafted) → (judged unit site d work).holds made → Stays Nothing d.scope made.scope
    routine_stays site d (forward one) made e = heading_stays false site d one made e
    routine_stays site d (plain one all body) made e =
        let o = e.part in
        let inner = site_in site o.begun in
        let in_it = e.made in
        let rest = in_it.made in
        block_stays d o inner (begins one).place in_it.part rest.part body made (opened_is site d one o e.holds) in_it.holds
        (all_stay inner (stage (knowing o.draft in_it.part) []) all rest.part rest.holds) rest.made
    routine_stays site d (method one owner all body) made e =
        let o = e.part in
        let inner = site_in site o.begun in
        let in_it = e.made in
        let rest = in_it.made in
        block_stays d o inner (header_place one) in_it.part rest.part body made (method_is site d one owner o e.holds) in_it.holds
        (all_stay inner (stage (knowing o.draft in_it.part) []) all rest.part rest.holds) rest.made

    pub all_stay : (site : Site) (s : Stage) (all : Works) (made : Stage) → (all_judged unit site s all).holds made → Stays Nothing s.draft.scope made.draft.scope
    all_stay site s no_works made e = stage_stays Nothing s.draft.scope s made e (stays Nothing s.draft.scope)
    all_stay site s (and_part one rest) made e =
        stay_on s.draft.scope e.part.draft.scope made.draft.scope (part_of_stays unit site s one e.part e.holds) (all_stay site e.part rest made e.made)
    all_stay site s (and_work one rest) made e =
        stay_on s.draft.scope e.part.scope made.draft.scope (routine_stays site s.draft one e.part e.holds) (all_stay site (stage e.part s.locals) rest made e.made)
