-- All units of a program have sound parts.
use Rattle.std.proofs.Common.{◌≡◌, ℕ, Bool, true, false, not, ◌&&◌, ◌||◌, cond, codes, nat_eq, All, List, [], ◌∷◌, ◌++◌, Option, Some, None, refl}
use Rattle.std.specs.Prelude.{slice_get}
use Rattle.std.specs.Option.{option_to_list}
use Rattle.std.specs.List.{AllZip}
use Rattle.std.proofs.lemmas.List.Elements.{All-nil, All-cons, All-head, All-tail}
use Rattle.shared_types_agree.specs.type_layout.Words.{same_bytes}
use Rattle.shared_types_agree.specs.source_graph.declared.sources.Source.{Source}
use Rattle.shared_types_agree.specs.typed_tree.declared.units.Unit as typed
use Rattle.shared_types_agree.specs.unit_interface.declared.interfaces.Interface.{Interface}
use Rattle.shared_types_agree.specs.unit_interface.Order.{start_order}
use Rattle.shared_types_agree.specs.source_graph.source_order.Orders.{all_uses}
use Rattle.shared_types_agree.specs.front_end.source_interfaces.Kinds.{is_program, is_used, is_reserved, is_of_kind}
use Rattle.shared_types_agree.specs.front_end.source_interfaces.Scopes.{outer_scope}
use Rattle.shared_types_agree.specs.tp_meaning.Programs.{is_overlay}
use Rattle.shared_types_agree.specs.front_end.Typed.{sources_at, IsUnitOf}
use Rattle.shared_types_agree.specs.unit_references.Units.{HasSoundParts}
use Rattle.programs_well_typed.specs.units.Sound.{IsHeld}
use Rattle.programs_well_typed.specs.units.Laws.{ProgramLaw}
use Rattle.programs_well_typed.proofs.units.Units.{unit_sound}

-- ---- names

first_not : (a b : Bool) → (not a && b) ≡ true → a ≡ false
first_not true b e = (let f : false ≡ true = e in cc)
first_not false b e = refl

first_neither : (a b : Bool) → (a || b) ≡ false → a ≡ false
first_neither true b e = (let f : true ≡ false = e in cc)
first_neither false b e = refl

-- no source of a program has the name of the unit Overlay
not_overlay : (sources : List Source) (place : ℕ) (s : Source) → is_of_kind sources place s ≡ true → is_overlay s.name ≡ false
not_overlay sources place s kind =
    first_neither (same_bytes s.name (codes "OVERLAY")) (same_bytes s.name (codes "SYSTEM"))
    (first_not (is_reserved s.name) (cond (nat_eq place 0) (is_program s.tree && not (is_used sources s.name)) (not (is_program s.tree))) kind)

-- ---- units of sources

module _ (have : List Interface) (sources : List Source)
    (each : (place : ℕ) (s : Source) → slice_get sources place ≡ Some s → (unit : typed.Unit) → IsUnitOf have s unit → IsHeld unit → HasSoundParts unit) where
  sound_head : (p : ℕ) (places : List ℕ) (found : Option Source) (units : List typed.Unit) → slice_get sources p ≡ found → AllZip (IsUnitOf have) (option_to_list found ++ sources_at sources places) units → All IsHeld units
      → ((us : List typed.Unit) → AllZip (IsUnitOf have) (sources_at sources places) us → All IsHeld us → All HasSoundParts us) → All HasSoundParts units
  sound_head p places None units is zip held more = more units zip held
  sound_head p places (Some s) [] is zip held more = absurd zip
  sound_head p places (Some s) (unit ∷ units) is zip held more =
      All-cons HasSoundParts unit units (each p s is unit zip.0 (All-head IsHeld unit units held)) (more units zip.1 (All-tail IsHeld unit units held))

  all_sound : (places : List ℕ) (units : List typed.Unit) → AllZip (IsUnitOf have) (sources_at sources places) units → All IsHeld units → All HasSoundParts units
  all_sound [] [] zip held = All-nil HasSoundParts
  all_sound [] (unit ∷ units) zip held = absurd zip
  all_sound (p ∷ places) units zip held = sound_head p places (slice_get sources p) units refl zip held (λ us z h. all_sound places us z h)

pub program_sound : ProgramLaw
program_sound sources program is held =
    let u = is.units in
    all_sound u.have sources
    (λ place s at unit of own. unit_sound s.name s.says (outer_scope u.have s) u.have s.tree unit (not_overlay sources place s (u.kinds place s at)) of.typed own)
    (start_order (all_uses sources) 0) program.units u.typed held
