-- Routines of a block are well formed, by recursion over what is declared inside them.
use Rattle.std.proofs.Common.{◌≡◌, ℕ, ◌+◌, ◌<◌, ◌≤◌, false, List, [], ◌∷◌, length, Option, Some, sym, subst, ap, ◌∙◌, arith, length-append}
use Rattle.std.specs.Prelude.{slice_get, ◌^◌}
use Rattle.declarations_well_formed.specs.type_layout.declared.definitions.TypeId.{TypeId}
use Rattle.declarations_well_formed.specs.type_layout.declared.definitions.Header.{Header}
use Rattle.declarations_well_formed.specs.syntax_tree.declared.identifier.Identifier.{Identifier}
use Rattle.declarations_well_formed.specs.syntax_tree.declared.source_tree.declaration.ConstantDeclaration.{ConstantDeclaration}
use Rattle.declarations_well_formed.specs.syntax_tree.declared.source_tree.declaration.ConstantDeclaration.TheVariants as constant
use Rattle.declarations_well_formed.specs.syntax_tree.declared.source_tree.declaration.VariableDeclaration.{VariableDeclaration}
use Rattle.declarations_well_formed.specs.syntax_tree.declared.source_tree.declaration.DeclarationPart.{DeclarationPart}
use Rattle.declarations_well_formed.specs.syntax_tree.declared.source_tree.declaration.DeclarationPart.TheVariants as part_of
use Rattle.declarations_well_formed.specs.typed_tree.declared.units.Routine.{Routine}
use Rattle.declarations_well_formed.specs.typed_tree.type_fits.Routines.{listed}
use Rattle.declarations_well_formed.specs.well_formed.Scopes.{Scope}
use Rattle.declarations_well_formed.specs.declaration_checker.type_parts.Objects as objects
use Rattle.declarations_well_formed.specs.declaration_checker.declared.declarations.homes.Home.{Home}
use Rattle.declarations_well_formed.specs.declaration_checker.declared.declarations.homes.Home.TheVariants as home
use Rattle.declarations_well_formed.specs.declaration_checker.declarations.Progress.{Progress, knowing}
use Rattle.declarations_well_formed.specs.declaration_checker.declarations.Constants.{constant_declared, constants_declared}
use Rattle.declarations_well_formed.specs.declaration_checker.declarations.Variables.{variable_declared, names_declared, variables_declared}
use Rattle.declarations_well_formed.specs.declaration_checker.declarations.Parts.{part_declared}
use Rattle.declarations_well_formed.specs.tp_check_decl.declared.routines.drafts.Site.{Site}
use Rattle.declarations_well_formed.specs.tp_check_decl.routines.Trees.{Work, Works, forward, plain, method, no_works, and_part, and_work}
use Rattle.declarations_well_formed.specs.tp_check_decl.routines.Drafts.{Drafted, Stage, stage, progress_of, next_number, next_for}
use Rattle.declarations_well_formed.specs.tp_check_decl.routines.Headings.{begins}
use Rattle.declarations_well_formed.specs.tp_check_decl.routines.Blocks.{part_judged, judged, all_judged}
use Rattle.declarations_well_formed.specs.bodies_well_formed.other_units.Growing.{Extends}
use Rattle.units_well_formed.specs.routines.Reading.{Frame, scope_of, numbers_of, IsRead, IsSite, variables_before, IsBehind, with_inner, IsStage}
use Rattle.units_well_formed.specs.routines.Rooms.{HasRoom, Grows}
use Rattle.units_well_formed.specs.routines.Trees.{names_in, variables_of, variables_in, HasBodies, HaveBodies}
use Rattle.units_well_formed.specs.routines.Laws.{StaysRead, PartsKeep}
use Rattle.units_well_formed.proofs.routines.Steps.{extends_itself, extends_on}
use Rattle.units_well_formed.proofs.routines.Grown.{room_before, opened_grows, method_grows, block_grows, part_grows, judged_grows, all_grow}
use Rattle.units_well_formed.proofs.routines.Opened.{heading_read, plain_opened, method_is_opened}
use Rattle.units_well_formed.proofs.routines.Blocks.{block_kept}

-- ---- how many variables a part declares in a block

same_locals : (p q : Progress) → q ≡ p → (n : ℕ) → length q.locals ≤ length p.locals + n
same_locals p q is n =
    let same : length q.locals ≡ length p.locals = ap (λ (x : Progress). length x.locals) is in
    omega (arith, same)

constant_locals : (unit : List ℕ) (p : Progress) (one : ConstantDeclaration) (q : Progress) → (constant_declared unit p one).holds q → length q.locals ≤ length p.locals
constant_locals unit p (constant.Plain one value) q h =
    let same : length q.locals ≡ length p.locals = ap (λ (x : Progress). length x.locals) h.made in
    omega (arith, same)
constant_locals unit p (constant.Typed one denoter first) q h =
    let same : length q.locals ≡ length p.locals = ap (λ (x : Progress). length x.locals) h.made.made.made in
    omega (arith, same)

constants_locals : (unit : List ℕ) (p : Progress) (all : List ConstantDeclaration) (q : Progress) → (constants_declared unit p all).holds q → length q.locals ≤ length p.locals
constants_locals unit p [] q h =
    let same : length q.locals ≡ length p.locals = ap (λ (x : Progress). length x.locals) h in
    omega (arith, same)
constants_locals unit p (one ∷ rest) q h =
    let first = constant_locals unit p one h.part h.holds in
    let others = constants_locals unit h.part rest q h.made in
    omega (arith, first, others)

variable_locals : (where_at : Home) (ty : TypeId) (p : Progress) (one : Identifier) (q : Progress) → (variable_declared where_at ty p one).holds q → length q.locals ≤ length p.locals + 1
variable_locals home.Unit ty p one q h =
    let same : length q.locals ≡ length p.locals = ap (λ (x : Progress). length x.locals) h.made in
    omega (arith, same)
variable_locals (home.Routine level first) ty p one q h =
    let same : length q.locals ≡ length p.locals + 1 = ap (λ (x : Progress). length x.locals) h.made ∙ length-append p.locals (ty ∷ []) in
    omega (arith, same)

names_locals : (where_at : Home) (ty : TypeId) (p : Progress) (all : List Identifier) (q : Progress) → (names_declared where_at ty p all).holds q → length q.locals ≤ length p.locals + length all
names_locals where_at ty p [] q h = same_locals p q h 0
names_locals where_at ty p (one ∷ rest) q h =
    let first = variable_locals where_at ty p one h.part h.holds in
    let others = names_locals where_at ty h.part rest q h.made in
    omega (arith, first, others)

groups_locals : (unit : List ℕ) (where_at : Home) (p : Progress) (all : List VariableDeclaration) (q : Progress) → (variables_declared unit where_at p all).holds q → length q.locals ≤ length p.locals + names_in all
groups_locals unit where_at p [] q h = same_locals p q h 0
groups_locals unit where_at p (one ∷ rest) q h =
    let group = h.holds in
    let first = names_locals where_at group.part.ty (knowing p group.part.scope) one.names.items h.part group.made in
    let others = groups_locals unit where_at h.part rest q h.made in
    put (length p.locals) (length h.part.locals) (length q.locals) (length one.names.items) (names_in rest) first others
  where
    put : (a b c n m : ℕ) → b ≤ a + n → c ≤ b + m → c ≤ a + (n + m)
    put a b c n m e f = omega (arith, e, f)

declared_locals : (unit : List ℕ) (where_at : Home) (next : Option ℕ) (p q : Progress) (one : DeclarationPart) → (part_declared unit where_at next p one).holds q → length q.locals ≤ length p.locals + variables_of one
unfolding part_declared
declared_locals unit where_at next p q (part_of.Constants here all) h =
    let less = constants_locals unit p all.items q h in
    omega (arith, less)
declared_locals unit where_at next p q (part_of.Types here all) h =
    let same : length q.locals ≡ length p.locals = ap (λ (x : Progress). length x.locals) h.made in
    omega (arith, same)
declared_locals unit where_at next p q (part_of.Variables here all) h = groups_locals unit where_at p all.items q h

pub part_locals : (unit : List ℕ) (site : Site) (s t : Stage) (one : DeclarationPart) → (part_judged unit site s one).holds t → length t.locals ≤ length s.locals + variables_of one
unfolding part_judged
part_locals unit site s t one h =
    let same : length t.locals ≡ length h.part.locals = ap (λ (x : Stage). length x.locals) h.made in
    let less = declared_locals unit site.home (next_for site.home (next_number s.draft)) (progress_of s) h.part one h.holds in
    omega (arith, same, less)

-- ---- where blocks stand

variables_same : (one other : Routine) → one.header ≡ other.header → one.owner ≡ other.owner → variables_before one ≡ variables_before other
variables_same one other header owner =
    ap (λ (x : Header). length x.params + (length (listed one.owner) + length (listed x.result))) header
    ∙ ap (λ (o : Option TypeId). length other.header.params + (length (listed o) + length (listed other.header.result))) owner

pub behind_kept : (where_at : Home) (s t : Scope) (around : List ℕ) → Extends s t → IsBehind where_at s.routines around → IsBehind where_at t.routines around
behind_kept home.Unit s t around e h = tt
behind_kept (home.Routine level first) s t [] e h = absurd h
behind_kept (home.Routine level first) s t (number ∷ around) e h =
    let it = e.routines number h.0 h.1 in
    (it.0, it.1, h.2 ∙ variables_same h.0 it.0 it.2.same.header it.2.same.owner)

inner_site : (site : Site) (locals : List TypeId) (frames : List Frame) → IsSite site frames → IsSite site (with_inner locals frames)
inner_site site locals [] h = h
inner_site site locals (one ∷ frames) h = record { level = h.level; outer = h.outer }

-- behind a part, or a routine
pub stage_kept : (unit : List ℕ) (site : Site) (s t : Stage) (frames : List Frame) → IsStage unit site s frames → Grows s.draft t.draft → StaysRead s t frames → IsStage unit site t frames
stage_kept unit site s t frames at g r = record {
  stands = at.stands;
  named = ap (λ (names : List (List ℕ)). slice_get names 0) g.units ∙ at.named;
  behind = behind_kept site.home (scope_of s.draft (with_inner s.locals frames)) (scope_of t.draft (with_inner t.locals frames)) (numbers_of frames) r.1 at.behind;
  read = r.0;
}

named_on : (unit : List ℕ) (d e : Drafted) → Grows d e → slice_get d.scope.units 0 ≡ Some unit → slice_get e.scope.units 0 ≡ Some unit
named_on unit d e g is = ap (λ (names : List (List ℕ)). slice_get names 0) g.units ∙ is

-- ---- routines and declarations

mutual
  pub judged_kept : (work : Work) (unit : List ℕ) → PartsKeep unit → (site : Site) (d e : Drafted) (frames : List Frame) → IsSite site frames → slice_get d.scope.units 0 ≡ Some unit → HasBodies work → IsRead d frames
      → HasRoom e → (judged unit site d work).holds e → IsRead e frames × Extends (scope_of d frames) (scope_of e frames)
  judged_kept (forward one) unit keeps site d e frames at named l r few h = heading_read d frames r site at false one e few.routines h
  judged_kept (plain one all body) unit keeps site d e frames at named l r few h =
      let more = block_grows site (begins one).place h.part body (λ inner s. all_judged unit inner s all) (λ inner s t k. all_grow all unit inner s t k) e h.made in
      let room = room_before h.part.draft e more few in
      let opened = plain_opened d frames r site at one h.part room.routines h.holds in
      block_kept unit d frames site at h.part opened (named_on unit d h.part.draft (opened_grows site d one h.part h.holds) named) (begins one).place body l.2 (variables_in all) l.1 (λ inner s. all_judged unit inner s all)
      (λ inner s t these there small fits k. all_kept all unit keeps inner s t these there l.0 small fits k) e few h.made
  judged_kept (method one owner all body) unit keeps site d e frames at named l r few h =
      let opened = method_is_opened d frames r site at one owner h.part h.holds in
      block_kept unit d frames site at h.part opened (named_on unit d h.part.draft (method_grows site d one owner h.part h.holds) named) (objects.header_place one) body l.2 (variables_in all) l.1
      (λ inner s. all_judged unit inner s all) (λ inner s t these there small fits k. all_kept all unit keeps inner s t these there l.0 small fits k) e few h.made

  pub all_kept : (all : Works) (unit : List ℕ) → PartsKeep unit → (site : Site) (s t : Stage) (frames : List Frame) → IsStage unit site s frames → HaveBodies all → length s.locals + variables_in all < 2 ^ 31
      → HasRoom t.draft → (all_judged unit site s all).holds t → StaysRead s t frames
  all_kept no_works unit keeps site s t frames at l small few h = subst (λ (x : Stage). StaysRead s x frames) (sym h) (at.read, extends_itself (scope_of s.draft (with_inner s.locals frames)))
  all_kept (and_part one rest) unit keeps site s t frames at l small few h =
      let room = room_before h.part.draft t.draft (all_grow rest unit site h.part t h.made) few in
      let sum : length s.locals + (variables_of one + variables_in rest) < 2 ^ 31 = small in
      let here : length s.locals + variables_of one < 2 ^ 31 = omega (arith, sum) in
      let first = keeps site s h.part one frames at l.0 here room h.holds in
      let count = part_locals unit site s h.part one h.holds in
      let left : length h.part.locals + variables_in rest < 2 ^ 31 = omega (arith, sum, count) in
      let others = all_kept rest unit keeps site h.part t frames (stage_kept unit site s h.part frames at (part_grows unit site s h.part one h.holds) first) l.1 left few h.made in
      (others.0, extends_on (scope_of s.draft (with_inner s.locals frames)) (scope_of h.part.draft (with_inner h.part.locals frames)) (scope_of t.draft (with_inner t.locals frames)) first.1 others.1)
  all_kept (and_work one rest) unit keeps site s t frames at l small few h =
      let room = room_before h.part t.draft (all_grow rest unit site (stage h.part s.locals) t h.made) few in
      let first = judged_kept one unit keeps site s.draft h.part (with_inner s.locals frames) (inner_site site s.locals frames at.stands) at.named l.0 at.read room h.holds in
      let next = stage_kept unit site s (stage h.part s.locals) frames at (judged_grows one unit site s.draft h.part h.holds) first in
      let others = all_kept rest unit keeps site (stage h.part s.locals) t frames next l.1 small few h.made in
      (others.0, extends_on (scope_of s.draft (with_inner s.locals frames)) (scope_of h.part (with_inner s.locals frames)) (scope_of t.draft (with_inner t.locals frames)) first.1 others.1)
