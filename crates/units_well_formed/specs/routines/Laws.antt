-- Routines that a block declares are well formed, where what parts of declarations add is.
use Rattle.std.specs.Prelude.{◌≡◌, ℕ, ◌+◌, ◌<◌, ◌^◌, List, length, Some, slice_get}
use Rattle.declarations_well_formed.specs.syntax_tree.declared.source_tree.declaration.DeclarationPart.{DeclarationPart}
use Rattle.declarations_well_formed.specs.tp_check_decl.declared.routines.drafts.Site.{Site}
use Rattle.declarations_well_formed.specs.tp_check_decl.routines.Trees.{Work, Works}
use Rattle.declarations_well_formed.specs.tp_check_decl.routines.Drafts.{Drafted, Stage}
use Rattle.declarations_well_formed.specs.tp_check_decl.routines.Blocks.{part_judged, judged, all_judged}
use Rattle.declarations_well_formed.specs.bodies_well_formed.other_units.Growing.{Extends}
use Rattle.declarations_well_formed.specs.values.Literals.{HasLiterals}
use Rattle.units_well_formed.specs.routines.Reading.{Frame, scope_of, IsRead, IsSite, with_inner, IsStage}
use Rattle.units_well_formed.specs.routines.Rooms.{HasRoom}
use Rattle.units_well_formed.specs.routines.Trees.{variables_of, variables_in, HasBodies, HaveBodies}

-- what is well formed, as far as it was read, stays so as a block goes on
abbrev pub StaysRead : Stage → Stage → List Frame → Type 0
StaysRead s t frames = IsRead t.draft (with_inner t.locals frames) × Extends (scope_of s.draft (with_inner s.locals frames)) (scope_of t.draft (with_inner t.locals frames))

-- constants, types and variables leave a unit that is well formed as far as it was read
abbrev pub PartsKeep : List ℕ → Type 0
PartsKeep unit =
    (site : Site) (s t : Stage) (one : DeclarationPart) (frames : List Frame) → IsStage unit site s frames → HasLiterals one → length s.locals + variables_of one < 2 ^ 31 → HasRoom t.draft
    → (part_judged unit site s one).holds t → StaysRead s t frames

-- so do routines, with their blocks and without
pub record RoutinesKeep (unit : List ℕ) : Type 0 where
  pub routine : (site : Site) (d e : Drafted) (work : Work) (frames : List Frame) → IsSite site frames → slice_get d.scope.units 0 ≡ Some unit → HasBodies work → IsRead d frames → HasRoom e
      → (judged unit site d work).holds e → IsRead e frames × Extends (scope_of d frames) (scope_of e frames)
  pub declarations : (site : Site) (s t : Stage) (all : Works) (frames : List Frame) → IsStage unit site s frames → HaveBodies all → length s.locals + variables_in all < 2 ^ 31 → HasRoom t.draft
      → (all_judged unit site s all).holds t → StaysRead s t frames

abbrev pub RoutineLaw : Type 0
RoutineLaw = (unit : List ℕ) → PartsKeep unit → RoutinesKeep unit
