-- From the scope before the first block to what a source has declared.
use Rattle.std.proofs.Common.{◌≡◌, ℕ, zero, suc, ◌+◌, ◌<◌, true, List, [], ◌∷◌, ◌++◌, length, Some, refl, sym, subst, ap, ◌∙◌, arith}
use Rattle.std.specs.Prelude.{◌^◌, slice_get}
use Rattle.declarations_well_formed.specs.syntax_tree.declared.identifier.Identifier.{Identifier}
use Rattle.declarations_well_formed.specs.syntax_tree.declared.source_tree.source.InterfaceDeclaration.{InterfaceDeclaration}
use Rattle.declarations_well_formed.specs.syntax_tree.declared.source_tree.source.InterfaceDeclaration.TheVariants as i
use Rattle.declarations_well_formed.specs.scopes.declared.entries.BlockKind.TheVariants as block
use Rattle.declarations_well_formed.specs.scopes.declared.searches.OpenBlock.{OpenBlock}
use Rattle.declarations_well_formed.specs.scopes.Environment.{Environment}
use Rattle.declarations_well_formed.specs.unit_interface.declared.interfaces.Interface.{Interface}
use Rattle.declarations_well_formed.specs.tp_check_decl.routines.Trees.{Works}
use Rattle.declarations_well_formed.specs.tp_check_decl.routines.Drafts.{Drafted, knowing, Stage, stage}
use Rattle.declarations_well_formed.specs.tp_check_decl.routines.Blocks.{all_judged}
use Rattle.declarations_well_formed.specs.tp_check_decl.Interfaces.{declared, all_declared, interface_judged, all_used}
use Rattle.declarations_well_formed.specs.tp_check_decl.Programs.{unit_site, empty_draft, declarations_judged}
use Rattle.units_well_formed.specs.parts.Below.{open_from, EachIn, Extends, scope_of, IsOwn, IsRead, IsStage, HasRoom, Grows, variables_of, variables_in, StaysRead, PartsKeep}
use Rattle.units_well_formed.proofs.parts.Below.{opened_known, opened_values, extends_itself, extends_on, grows_itself, grows_on, room_before, heading_grows, part_grows, all_grow, heading_read, part_locals, stage_kept, all_kept}
use Rattle.units_well_formed.proofs.units.Used.{all_used_grow, room_types}
use Rattle.units_well_formed.specs.units.Begun.{IsBegun, UsesKeep, HaveLiterals, interface_variables, IsBlock, IsInterface}

nothing_at : {A : Type 0} → (number : ℕ) (one : A) → slice_get [] number ≡ Some one → ⊥
nothing_at zero one e = let bad : ⊥ = cc in bad
nothing_at (suc number) one e = let bad : ⊥ = cc in bad

-- nothing was read yet
begun_read : (name : List ℕ) (g : Environment) → IsBegun name g → IsRead (empty_draft g) []
begun_read name g h =
    let part : OpenBlock = record { kind = block.Part; symbols = [] } in
    let alone : g.blocks ++ part ∷ [] ≡ part ∷ [] = ap (λ (b : List OpenBlock). b ++ part ∷ []) h.none in
    record {
      known = opened_known g _ block.Part h.known tt h.known.nested h.known.few;
      around = ap (λ (b : List OpenBlock). open_from [] b) alone;
      bottom = record { first = part; rest = []; is = alone; part = refl; several = refl };
      locals = tt;
      own = subst (λ (b : List OpenBlock). EachIn (IsOwn []) [] b) (sym alone) (tt, tt);
      values = opened_values g block.Part h.values;
      table = h.table;
      globals = λ number one e. absurd (nothing_at number one e);
      methods = λ number place one ty method e owned is same. absurd (nothing_at number one e);
      announced = λ number one e. absurd (nothing_at number one e);
      blocks = λ number one done e has. absurd (nothing_at number one e);
    }

unit_stage : (name : List ℕ) (s : Stage) → IsRead s.draft [] → slice_get s.draft.scope.units 0 ≡ Some name → IsStage name unit_site s []
unit_stage name s read named = record { stands = record { level = refl; outer = refl }; named = named; behind = tt; read = read }

pub begun_stage : (name : List ℕ) (g : Environment) → IsBegun name g → IsStage name unit_site (stage (empty_draft g) []) []
begun_stage name g h = unit_stage name (stage (empty_draft g) []) (begun_read name g h) h.named

-- ---- blocks

-- what a part of a source leaves
pub record IsLeft (name : List ℕ) (d e : Drafted) : Type 0 where
  pub read : IsRead e []
  pub since : Extends (scope_of d []) (scope_of e [])
  pub named : slice_get e.scope.units 0 ≡ Some name

module _ (name : List ℕ) (keeps : PartsKeep name) where
  pub block_left : (d e : Drafted) (all : Works) → IsRead d [] → slice_get d.scope.units 0 ≡ Some name → IsBlock all → (s : Stage) → s.draft ≡ e → HasRoom e
      → (all_judged name unit_site (stage d []) all).holds s → IsLeft name d e
  block_left d e all read named block s is room k =
      let fits : HasRoom s.draft = subst (λ (x : Drafted). HasRoom x) (sym is) room in
      let small : 0 + variables_in all < 2 ^ 31 = (let few = block.few in omega (arith, few)) in
      let it = all_kept all name keeps unit_site (stage d []) s [] (unit_stage name (stage d []) read named) block.bodies small fits k in
      let grows = all_grow all name unit_site (stage d []) s k in
      subst (λ (x : Drafted). IsLeft name d x) is (record { read = it.0; since = it.1; named = ap (λ (names : List (List ℕ)). slice_get names 0) grows.units ∙ named })

  -- ---- interface parts

  declared_grows : (s t : Stage) (one : InterfaceDeclaration) → (declared name s one).holds t → Grows s.draft t.draft
  declared_grows s t (i.Part one) k = part_grows name unit_site s t one k
  declared_grows s t (i.Header one) k = subst (λ (x : Stage). Grows s.draft x.draft) (sym k.made) (heading_grows true unit_site s.draft one k.part k.holds)

  pub all_grows : (all : List InterfaceDeclaration) (s t : Stage) → (all_declared name s all).holds t → Grows s.draft t.draft
  all_grows [] s t k = subst (λ (x : Stage). Grows s.draft x.draft) (sym k) (grows_itself s.draft)
  all_grows (one ∷ rest) s t k = grows_on s.draft k.part.draft t.draft (declared_grows s k.part one k.holds) (all_grows rest k.part t k.made)

  interface_kept : (all : List InterfaceDeclaration) (s t : Stage) → IsStage name unit_site s [] → HaveLiterals all → length s.locals + interface_variables all < 2 ^ 31 → HasRoom t.draft → (all_declared name s all).holds t
      → StaysRead s t []
  interface_kept [] s t at l small room k = subst (λ (x : Stage). StaysRead s x []) (sym k) (at.read, extends_itself (scope_of s.draft []))
  interface_kept (i.Part one ∷ rest) s t at l small room k =
      let fits = room_before k.part.draft t.draft (all_grows rest k.part t k.made) room in
      let sum : length s.locals + (variables_of one + interface_variables rest) < 2 ^ 31 = small in
      let here : length s.locals + variables_of one < 2 ^ 31 = omega (arith, sum) in
      let first = keeps unit_site s k.part one [] at l.0 here fits k.holds in
      let count = part_locals name unit_site s k.part one k.holds in
      let left : length k.part.locals + interface_variables rest < 2 ^ 31 = omega (arith, sum, count) in
      let others = interface_kept rest k.part t (stage_kept name unit_site s k.part [] at (part_grows name unit_site s k.part one k.holds) first) l.1 left room k.made in
      (others.0, extends_on (scope_of s.draft []) (scope_of k.part.draft []) (scope_of t.draft []) first.1 others.1)
  interface_kept (i.Header one ∷ rest) s t at l small room k =
      let head = k.holds in
      let fits = room_before k.part.draft t.draft (all_grows rest k.part t k.made) room in
      let next : k.part ≡ stage head.part s.locals = head.made in
      let room_head : HasRoom head.part = subst (λ (x : Stage). HasRoom x.draft) next fits in
      let step = heading_read s.draft [] at.read unit_site at.stands true one head.part room_head.routines head.holds in
      let first : StaysRead s k.part [] = subst (λ (x : Stage). StaysRead s x []) (sym next) step in
      let count : length k.part.locals ≡ length s.locals = ap (λ (x : Stage). length x.locals) next in
      let bound : length s.locals + interface_variables rest < 2 ^ 31 = small in
      let left : length k.part.locals + interface_variables rest < 2 ^ 31 = omega (arith, bound, count) in
      let others = interface_kept rest k.part t (stage_kept name unit_site s k.part [] at (declared_grows s k.part (i.Header one) head) first) l left room k.made in
      (others.0, extends_on (scope_of s.draft []) (scope_of k.part.draft []) (scope_of t.draft []) first.1 others.1)

  pub interface_left : (g : Environment) (e : Drafted) (all : List InterfaceDeclaration) → IsBegun name g → IsInterface all → HasRoom e → (interface_judged name g all).holds e → IsLeft name (empty_draft g) e
  unfolding interface_judged
  interface_left g e all begun inside room k =
      let s : Stage = k.part in
      let fits : HasRoom s.draft = subst (λ (x : Drafted). HasRoom x) k.made room in
      let small : 0 + interface_variables all < 2 ^ 31 = (let few = inside.few in omega (arith, few)) in
      let it = interface_kept all (stage (empty_draft g) []) s (begun_stage name g begun) inside.literals small fits k.holds in
      let grows = all_grows all (stage (empty_draft g) []) s k.holds in
      subst (λ (x : Drafted). IsLeft name (empty_draft g) x) (sym k.made) (record { read = it.0; since = it.1; named = ap (λ (names : List (List ℕ)). slice_get names 0) grows.units ∙ begun.named })

  pub program_left : (g : Environment) (e : Drafted) (all : Works) → IsBegun name g → IsBlock all → HasRoom e → (declarations_judged name g all).holds e → IsLeft name (empty_draft g) e
  unfolding declarations_judged
  program_left g e all begun block room k = block_left (empty_draft g) e all (begun_read name g begun) begun.named block k.part (sym k.made) room k.holds

  -- ---- further used units

  pub uses_left : (have : List Interface) (d : Drafted) (h : Environment) (all : List Identifier) → UsesKeep have d all → IsRead d [] → slice_get d.scope.units 0 ≡ Some name → (all_used have d.scope all).holds h
      → HasRoom (knowing d h) → IsLeft name d (knowing d h)
  uses_left have d h [] uses read named k room =
      let whole : knowing d h ≡ d = ap (λ (x : Environment). knowing d x) k in
      subst (λ (x : Drafted). IsLeft name d x) (sym whole) (record { read = read; since = extends_itself (scope_of d []); named = named })
  uses_left have d h (one ∷ rest) uses read named k room =
      let more = all_used_grow have k.part rest h k.made in
      let fits = room_types (knowing d k.part) (knowing d h) more.0 more.1 refl refl room in
      let both = uses k.part k.holds fits in
      let step = both.0 in
      let others = uses_left have (knowing d k.part) h rest both.1 step.read (step.named ∙ named) k.made room in
      record { read = others.read; since = extends_on (scope_of d []) (scope_of (knowing d k.part) []) (scope_of (knowing d h) []) step.since others.since; named = others.named }
