-- All units of a program are well formed.
use Rattle.std.proofs.Common.{◌≡◌, ◌⊎◌, ℕ, true, List, [], ◌∷◌, ◌++◌, Option, Some, None, refl, sym, ◌∙◌, subst, nat_eq, eqb-true, inl, inr}
use Rattle.std.specs.Prelude.{slice_get}
use Rattle.std.specs.Option.{option_to_list}
use Rattle.std.specs.List.{All, AllZip, list_any}
use Rattle.std.proofs.lemmas.List.Elements.{All-head, All-tail, All-cons, All-nil}
use Rattle.std.proofs.lemmas.Option.{none-some, slice_get_within, same_Some}
use Rattle.units_well_formed.specs.typed_tree.declared.units.Unit as typed
use Rattle.units_well_formed.specs.well_formed.WellFormed.{IsWellFormed}
use Rattle.interfaces_consistent.specs.source_graph.declared.sources.Source.{Source}
use Rattle.units_well_formed.specs.unit_interface.declared.interfaces.Interface.{Interface}
use Rattle.units_well_formed.specs.unit_interface.Order.{start_order}
use Rattle.units_well_formed.proofs.unit_interface_proofs.CircleLaws.{one_true}
use Rattle.interfaces_consistent.specs.source_graph.source_order.Orders.{all_uses}
use Rattle.interfaces_consistent.proofs.source_graph_proofs.source_order.Reached.{in_order as all_in_order}
use Rattle.interfaces_consistent.specs.front_end.Typed.{sources_at, IsUnitOf}
use Rattle.programs_well_formed.specs.imported_interfaces.Below.{IsSource, IsRoomy}
use Rattle.interfaces_consistent.specs.interface_soundness.programs.Closing.{AreInOrder}
use Rattle.programs_well_formed.specs.programs.Laws.{AreFormed, WholeLaw}
use Rattle.programs_well_formed.proofs.programs.Alone.{at_place}
use Rattle.programs_well_formed.proofs.programs.Names.{IsWritten, kind_named}
use Rattle.programs_well_formed.proofs.programs.Known.{Laws, IsTyped, each_formed}

module _ (have : List Interface) (sources : List Source) where
  -- the places of the sources of some units
  abbrev Are : List ℕ → List typed.Unit → Type 0
  Are places units = AllZip (IsUnitOf have) (sources_at sources places) units

  -- ---- the unit of a source

  unit_head : (place p : ℕ) (places : List ℕ) (s : Source) (found : Option Source) (units : List typed.Unit) → slice_get sources place ≡ Some s → slice_get sources p ≡ found
      → AllZip (IsUnitOf have) (option_to_list found ++ sources_at sources places) units → All IsRoomy units → (place ≡ p) ⊎ (list_any (nat_eq place) places ≡ true)
      → ((us : List typed.Unit) → Are places us → All IsRoomy us → list_any (nat_eq place) places ≡ true → IsTyped have s) → IsTyped have s
  unit_head place p places s None units at is zip room (inl here) more = (let bad : None ≡ Some s = sym is ∙ subst (λ (k : ℕ). slice_get sources k ≡ Some s) here at in absurd (none-some s bad))
  unit_head place p places s None units at is zip room (inr later) more = more units zip room later
  unit_head place p places s (Some t) [] at is zip room among more = absurd zip
  unit_head place p places s (Some t) (unit ∷ units) at is zip room (inl here) more =
      let same : t ≡ s = same_Some t s (sym is ∙ subst (λ (k : ℕ). slice_get sources k ≡ Some s) here at) in
      record { unit = unit; is = subst (λ (x : Source). IsUnitOf have x unit) same zip.0; room = All-head IsRoomy unit units room }
  unit_head place p places s (Some t) (unit ∷ units) at is zip room (inr later) more = more units zip.1 (All-tail IsRoomy unit units room) later

  unit_at : (places : List ℕ) (units : List typed.Unit) (place : ℕ) (s : Source) → Are places units → All IsRoomy units → list_any (nat_eq place) places ≡ true → slice_get sources place ≡ Some s → IsTyped have s
  unit_at [] units place s zip room among at = absurd (cc)
  unit_at (p ∷ places) units place s zip room among at =
      unit_head place p places s (slice_get sources p) units at refl zip room
      (elim (one_true (nat_eq place p) (list_any (nat_eq place) places) among) [ inl here ↦ inl (eqb-true place p here) | inr later ↦ inr later ])
      (λ us z r later. unit_at places us place s z r later at)

  -- ---- all units

  module _ (formed : AreFormed have sources) where
    formed_head : (p : ℕ) (places : List ℕ) (found : Option Source) (units : List typed.Unit) → slice_get sources p ≡ found → AllZip (IsUnitOf have) (option_to_list found ++ sources_at sources places) units → All IsRoomy units
        → ((us : List typed.Unit) → Are places us → All IsRoomy us → All IsWellFormed us) → All IsWellFormed units
    formed_head p places None units is zip room more = more units zip room
    formed_head p places (Some s) [] is zip room more = absurd zip
    formed_head p places (Some s) (unit ∷ units) is zip room more =
        All-cons IsWellFormed unit units (formed p s is unit zip.0 (All-head IsRoomy unit units room)).formed (more units zip.1 (All-tail IsRoomy unit units room))

    all_formed : (places : List ℕ) (units : List typed.Unit) → Are places units → All IsRoomy units → All IsWellFormed units
    all_formed [] [] zip room = All-nil IsWellFormed
    all_formed [] (unit ∷ units) zip room = absurd zip
    all_formed (p ∷ places) units zip room = formed_head p places (slice_get sources p) units refl zip room (λ us z r. all_formed places us z r)

pub whole_formed : Laws → WholeLaw
whole_formed laws held name texts sources gathers program is written room =
    let u = is.units in
    let o : AreInOrder sources u.have = record { held = held; name = name; texts = texts; gathers = gathers; acyclic = u.acyclic; shown = u.interfaces.shown } in
    let places : List ℕ = start_order (all_uses sources) 0 in
    let typed_units = λ (place : ℕ) (s : Source) (at : slice_get sources place ≡ Some s).
    unit_at u.have sources places program.units place s u.typed room (all_in_order held name texts sources gathers place (slice_get_within sources place s at)) at in
    let whole = λ (place : ℕ) (s : Source) (at : slice_get sources place ≡ Some s).
    (let w : IsWritten s = record { named = kind_named sources place s (u.kinds place s at); written = at_place (λ (source : Source). IsSource source.tree) sources place s written at } in w) in
    let each : AreFormed u.have sources = each_formed laws sources u.have o u.interfaces.all whole typed_units in
    (all_formed u.have sources each places program.units u.typed room, each)
