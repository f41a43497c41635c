-- A far pointer that leads through a stub names one of its entries.
use Rattle.std.proofs.Common.{◌≡◌, ℕ, ◌-◌, ◌/◌, ◌%◌, ◌≤◌, ◌==◌, ◌&&◌, Bool, true, false, List, Option, Some, None, refl, sym, ap, ◌∙◌, arith, eqb-true}
use Rattle.std.specs.Prelude.{if◌then◌else◌, nat_le, slice_get}
use Rattle.std.proofs.lemmas.Bool.Decides.{nat_tests}
use Rattle.std.proofs.lemmas.List.Quantifiers.{position-Some}
use Rattle.std.proofs.lemmas.Option.{get_or_from_slice_get}
use Rattle.overlay_file.specs.Stubs.{entry_offset}
use Rattle.resident_machine.specs.Program.{OverlayCode, Program, Through, image_target, entry_target, target_by, routine_at, entry_number, entry_of, stub_owner, far_target}

pub record IsEntryOf (p : Program) (segment offset overlay routine : ℕ) : Type 0 where
  pub code : OverlayCode
  pub owner : stub_owner p segment ≡ Some overlay
  pub found : slice_get p.overlays overlay ≡ Some code
  pub stub : code.stub ≡ segment
  pub number : ℕ
  pub place : offset ≡ entry_offset number
  pub leads : slice_get code.entries number ≡ Some routine

entry_place : (offset number : ℕ) → entry_number offset ≡ Some number → offset ≡ entry_offset number
entry_place offset number e = by (nat_le 32 offset) refl ((offset - 32) % 5 == 0) refl e
  where
    by : (x : Bool) → nat_le 32 offset ≡ x → (y : Bool) → ((offset - 32) % 5 == 0) ≡ y → (if x && y then Some ((offset - 32) / 5) else None) ≡ Some number → offset ≡ entry_offset number
    by true above true whole e =
        let is : (offset - 32) / 5 ≡ number = cc in
        let none : (offset - 32) % 5 ≡ 0 = eqb-true ((offset - 32) % 5) 0 whole in
        let least : 32 ≤ offset = grind (arith, nat_tests) in
        omega arith
    by true above false whole e = absurd (cc)
    by false above y whole e = absurd (cc)

module _ (p : Program) (segment offset overlay routine : ℕ) where
  on_image : (code : Option (List ℕ)) → image_target code segment offset ≡ Through overlay routine → IsEntryOf p segment offset overlay routine
  on_image None e = absurd (cc)
  on_image (Some code) e = absurd (cc)

  on_routine : (w : ℕ) (o : OverlayCode) (e : ℕ) → stub_owner p segment ≡ Some w → slice_get p.overlays w ≡ Some o → o.stub ≡ segment → offset ≡ entry_offset e → (x : Option ℕ) → slice_get o.entries e ≡ x → entry_target w x ≡ Through overlay routine → IsEntryOf p segment offset overlay routine
  on_routine w o e owner found stub place None there is = absurd (cc)
  on_routine w o e owner found stub place (Some f) there is =
      let number : w ≡ overlay = cc in
      let same : f ≡ routine = cc in
      record { code = o; owner = owner ∙ ap Some number; found = ap (slice_get p.overlays) (sym number) ∙ found; stub = stub; number = e; place = place; leads = there ∙ ap Some same }

  on_entry : (w : ℕ) (o : OverlayCode) → stub_owner p segment ≡ Some w → slice_get p.overlays w ≡ Some o → o.stub ≡ segment → (x : Option ℕ) → entry_number offset ≡ x → entry_target w (entry_of x o.entries) ≡ Through overlay routine → IsEntryOf p segment offset overlay routine
  on_entry w o owner found stub None number is = absurd (cc)
  on_entry w o owner found stub (Some e) number is = on_routine w o e owner found stub (entry_place offset e number) (slice_get o.entries e) refl is

  on_overlay : (w : ℕ) → stub_owner p segment ≡ Some w → (x : Option OverlayCode) → slice_get p.overlays w ≡ x → entry_target w (routine_at x offset) ≡ Through overlay routine → IsEntryOf p segment offset overlay routine
  on_overlay w owner None found is = absurd (cc)
  on_overlay w owner (Some o) found is =
      let test = (position-Some (λ (x : OverlayCode). x.stub == segment) p.overlays w o owner).1 in
      let same : (o.stub == segment) ≡ true = sym (ap (λ (x : OverlayCode). x.stub == segment) (get_or_from_slice_get p.overlays w o o found)) ∙ test in
      on_entry w o owner found (eqb-true o.stub segment same) (entry_number offset) refl is

  by_owner : (x : Option ℕ) → stub_owner p segment ≡ x → target_by p segment offset x ≡ Through overlay routine → IsEntryOf p segment offset overlay routine
  by_owner None owner e = on_image (p.image segment) e
  by_owner (Some w) owner e = on_overlay w owner (slice_get p.overlays w) refl e

  pub leads_through : far_target p segment offset ≡ Through overlay routine → IsEntryOf p segment offset overlay routine
  leads_through e = by_owner (stub_owner p segment) refl e
