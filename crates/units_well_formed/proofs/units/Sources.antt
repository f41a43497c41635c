-- Checked sources are well-formed units.
use Rattle.std.proofs.Common.{◌≡◌, ℕ, ◌+◌, ◌<◌, List, [], ◌∷◌, length, map, Option, Some, None, refl, subst, ap, ◌∙◌, arith, length-append}
use Rattle.std.specs.Prelude.{◌^◌, drop, slice_get}
use Rattle.std.proofs.lemmas.List.{length-map}
use Rattle.std.proofs.lemmas.List.Elements.{All-nil}
use Rattle.declarations_well_formed.specs.type_layout.Table.{Table}
use Rattle.declarations_well_formed.specs.syntax_tree.declared.identifier.Identifier.{Identifier}
use Rattle.declarations_well_formed.specs.syntax_tree.declared.statement.CompoundStatement.{CompoundStatement}
use Rattle.declarations_well_formed.specs.tp_lexer.declared.source_directives.collected.Directives.{Directives}
use Rattle.declarations_well_formed.specs.syntax_tree.declared.source_tree.source.InterfaceDeclaration.{InterfaceDeclaration}
use Rattle.declarations_well_formed.specs.syntax_tree.declared.source_tree.source.Tree.TheVariants as t
use Rattle.declarations_well_formed.specs.typed_tree.declared.units.Global.{Global}
use Rattle.declarations_well_formed.specs.typed_tree.declared.units.Item.{Item}
use Rattle.declarations_well_formed.specs.typed_tree.declared.units.Unit as typed
use Rattle.declarations_well_formed.specs.well_formed.WellFormed.{IsItem}
use Rattle.declarations_well_formed.specs.scopes.Environment.{Environment}
use Rattle.declarations_well_formed.specs.unit_interface.declared.interfaces.Interface.{Interface}
use Rattle.declarations_well_formed.specs.unit_interface.Resolve.{resolved}
use Rattle.declarations_well_formed.specs.tp_check_decl.routines.Trees.{Works, view_declarations}
use Rattle.declarations_well_formed.specs.tp_check_decl.routines.Drafts.{Drafted, knowing, Stage, stage}
use Rattle.declarations_well_formed.specs.tp_check_decl.Units.{Whole, view_routine, view_unit}
use Rattle.declarations_well_formed.specs.tp_check_decl.Endings.{ended}
use Rattle.declarations_well_formed.specs.tp_check_decl.Programs.{program_judged}
use Rattle.declarations_well_formed.specs.tp_check_decl.Interfaces.{items_of, interface_judged, unit_judged}
use Rattle.declarations_well_formed.specs.well_formed.weakening.Laws.{StatementsStay}
use Rattle.declarations_well_formed.specs.tables.Laws.{IsFit}
use Rattle.units_well_formed.specs.parts.Below.{scope_of, IsRead, HasRoom, PartsKeep}
use Rattle.units_well_formed.specs.parts.Laws.{PartLaw}
use Rattle.declarations_well_formed.specs.constants.Laws.{StayConstants}
use Rattle.units_well_formed.proofs.parts.Below.{extends_on, room_before, all_grow}
use Rattle.declarations_well_formed.specs.tp_check_decl.Programs.{unit_site}
use Rattle.units_well_formed.specs.units.Begun.{IsBegun, UsesKeep, IsKeptPart, IsBlock, IsInterface, IsRoomy}
use Rattle.units_well_formed.specs.units.Laws.{IsFormedIn, SourceLaw, BareLaw}
use Rattle.units_well_formed.proofs.units.Uses.{bare_begun, bare_keep}
use Rattle.units_well_formed.proofs.units.Begun.{block_left, interface_left, program_left, uses_left}
use Rattle.units_well_formed.proofs.units.Finished.{count_all}
use Rattle.units_well_formed.proofs.units.Used.{all_used_grow, room_types}
use Rattle.units_well_formed.proofs.units.Formed.{items_shown, formed}

-- ---- what a unit keeps within bounds its draft keeps

ended_room : (name : List ℕ) (front : _) (items : List Item) (body : Option CompoundStatement) (d : Drafted) (unit : typed.Unit) → (ended name front items body d).holds (view_unit unit) → IsRoomy unit → HasRoom d
ended_room name front items None d unit h room =
    let count = count_all d.scope.types.types d.routines h.part h.holds in
    let same : length (map view_routine unit.routines) ≡ length h.part = ap (λ (w : Whole). length w.routines) h.made in
    let views = length-map unit.routines view_routine in
    record {
      routines = (let few = room.routines in omega (arith, count, same, views, few));
      globals = subst (λ (gs : List Global). length gs < 2 ^ 32) (ap (λ (w : Whole). w.globals) h.made) room.globals;
      types = subst (λ (table : Table). IsFit table.types) (ap (λ (w : Whole). w.types) h.made) room.types;
    }
ended_room name front items (Some body) d unit h room =
    let count = count_all d.scope.types.types d.routines h.left h.left_holds in
    let same : length (map view_routine unit.routines) ≡ length h.left + 1 = ap (λ (w : Whole). length w.routines) h.made ∙ length-append h.left (h.right ∷ []) in
    let views = length-map unit.routines view_routine in
    record {
      routines = (let few = room.routines in omega (arith, count, same, views, few));
      globals = subst (λ (gs : List Global). length gs < 2 ^ 32) (ap (λ (w : Whole). w.globals) h.made) room.globals;
      types = subst (λ (table : Table). IsFit table.types) (ap (λ (w : Whole). w.types) h.made) room.types;
    }

module _ (name : List ℕ) (g : Environment) (unit : typed.Unit) (room : IsRoomy unit) where
  -- the draft of a program
  pub program_room : (says : Directives) (uses : List Identifier) (all : Works) (body : CompoundStatement) → (h : (program_judged name says g uses all body).holds (view_unit unit)) → HasRoom h.made.made.part
  program_room says uses all body h = ended_room name h.made.part [] (Some body) h.made.made.part unit h.made.made.made room

  -- that of a unit behind its implementation part, before it, and before the units that this uses
  last_room : (says : Directives) (have : List Interface) (own : Identifier) (uses : List Identifier) (outer : ℕ) (interface : List InterfaceDeclaration) (all : Works) (body : Option CompoundStatement)
      → (h : (unit_judged name says g have own uses outer interface all body).holds (view_unit unit)) → HasRoom h.made.made.made.part.draft
  last_room says have own uses outer interface all body h =
      ended_room name h.part (items_of h.made.part.scope) body h.made.made.made.part.draft unit h.made.made.made.made room

  middle_room : (says : Directives) (have : List Interface) (own : Identifier) (uses : List Identifier) (outer : ℕ) (interface : List InterfaceDeclaration) (all : Works) (body : Option CompoundStatement)
      → (h : (unit_judged name says g have own uses outer interface all body).holds (view_unit unit)) → HasRoom (knowing h.made.part h.made.made.part)
  middle_room says have own uses outer interface all body h =
      let d : Drafted = h.made.part in
      let late : Environment = h.made.made.part in
      let s : Stage = h.made.made.made.part in
      room_before (knowing d late) s.draft (all_grow all name unit_site (stage (knowing d late) []) s h.made.made.made.holds)
      (last_room says have own uses outer interface all body h)

  pub unit_room : (says : Directives) (have : List Interface) (own : Identifier) (uses : List Identifier) (outer : ℕ) (interface : List InterfaceDeclaration) (all : Works) (body : Option CompoundStatement)
      → (h : (unit_judged name says g have own uses outer interface all body).holds (view_unit unit)) → HasRoom h.made.part
  unit_room says have own uses outer interface all body h =
      let d : Drafted = h.made.part in
      let late : Environment = h.made.made.part in
      let more = all_used_grow have d.scope (drop outer uses) late h.made.made.holds in
      room_types d (knowing d late) more.0 more.1 refl refl (middle_room says have own uses outer interface all body h)

module _ (stay : StatementsStay) (name : List ℕ) (g : Environment) (keeps : PartsKeep name) (begun : IsBegun name g) (unit : typed.Unit) (room : IsRoomy unit) where
  program_formed : (says : Directives) (uses : List Identifier) (all : Works) (body : CompoundStatement) → IsBlock all → IsKeptPart (Some body) → (h : (program_judged name says g uses all body).holds (view_unit unit)) → IsFormedIn h.made.made.part.scope unit
  program_formed says uses all body block kept h =
      let front = h.made in
      let declared = front.made in
      let d : Drafted = declared.part in
      let left = program_left name keeps g d all begun block (program_room name g unit room says uses all body h) declared.holds in
      formed stay name d left.read left.named unit room.routines front.part [] (Some body) declared.made kept (λ every behind finish u. All-nil (IsItem unit))

  unit_formed : (says : Directives) (have : List Interface) (own : Identifier) (uses : List Identifier) (outer : ℕ) (interface : List InterfaceDeclaration) (all : Works) (body : Option CompoundStatement)
      → ((d : Drafted) → (interface_judged name g interface).holds d → IsRead d [] → slice_get d.scope.units 0 ≡ Some name → UsesKeep have d (drop outer uses)) → IsInterface interface → IsBlock all → IsKeptPart body
      → (h : (unit_judged name says g have own uses outer interface all body).holds (view_unit unit)) → IsFormedIn h.made.made.made.part.draft.scope unit
  unit_formed says have own uses outer interface all body brings inside block kept h =
      let front = h.made in
      let d : Drafted = front.part in
      let used = front.made in
      let late : Environment = used.part in
      let implementation = used.made in
      let s : Stage = implementation.part in
      let e : Drafted = s.draft in
      let end_room = last_room name g unit room says have own uses outer interface all body h in
      let first = interface_left name keeps g d interface begun inside (unit_room name g unit room says have own uses outer interface all body h) front.holds in
      let second = uses_left name keeps have d late (drop outer uses) (brings d front.holds first.read first.named) first.read first.named used.holds
      (middle_room name g unit room says have own uses outer interface all body h) in
      let third = block_left name keeps (knowing d late) e all second.read second.named block s refl end_room implementation.holds in
      let since = extends_on (scope_of d []) (scope_of (knowing d late) []) (scope_of e []) second.since third.since in
      formed stay name e third.read third.named unit room.routines h.part (items_of d.scope) body implementation.made kept
      (λ every behind finish u. items_shown stay d e first.read third.read since every behind unit finish u)

pub source_formed : StatementsStay → PartLaw → SourceLaw
source_formed stay keeps name says g have (t.Program heading uses all body) unit brings begun source room h =
    program_formed stay name g (keeps name) begun unit room says uses.items (view_declarations all.items) body source.0 source.1 h
source_formed stay keeps name says g have (t.Unit here own uses outer interface all body) unit brings begun source room h =
    unit_formed stay name g (keeps name) begun unit room says have own uses.items outer interface.items (view_declarations all.items) body brings source.0 source.1 source.2 h

pub bare_formed : StatementsStay → PartLaw → StayConstants → BareLaw
bare_formed stay keeps constants name says have uses tree unit other are further source room h =
    source_formed stay keeps name says (resolved have name uses) have tree unit (bare_keep constants name other have (resolved have name uses) tree further) (bare_begun constants name other have uses are) source room h
