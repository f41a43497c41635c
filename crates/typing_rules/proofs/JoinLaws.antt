-- The tests of lines and of joined pointers tell what the rules ask.
use Rattle.std.proofs.Common.{◌≡◌, ◌⊎◌, inl, inr, ℕ, zero, suc, ◌<◌, List, length, Option, Some, None, Decides, ap, arith}
use Rattle.std.proofs.lemmas.Bool.Decides.{Decides-and, Decides-or, Decides-eqb}
use Rattle.type_layout.specs.declared.definitions.TypeId.{TypeId}
use Rattle.type_layout.specs.declared.definitions.TypeDef.{TypeDef}
use Rattle.type_layout.specs.declared.definitions.TypeDef.TheVariants as type
use Rattle.typed_tree.specs.type_fits.Fits.{definition, parent_of, ancestor, IsObject}
use Rattle.scopes.specs.Predeclared.{type_id}
use Rattle.typing_rules.specs.declared.sorts.Sort.{Sort}
use Rattle.typing_rules.specs.declared.sorts.Sort.TheVariants as sort
use Rattle.typing_rules.specs.Joins.{IsReached, reaches, is_object, IsLine, is_line, IsBelowBy, is_below_by, IsBelow, is_below, IsOfType, is_of_type, IsNilFor, is_nil_for, TakesPointer, takes_pointer, ArePointersJoined, are_pointers_joined}
use Rattle.typing_rules.proofs.PlanLaws.{yes, no}

pub tells_type : (ty : TypeId) (own : Option TypeId) → Decides (is_of_type ty own) (IsOfType ty own)
tells_type ty None = no
tells_type ty (Some own) = Decides-eqb ty.0 own.0

pub tells_nil : (s t : Sort) → Decides (is_nil_for s t) (IsNilFor s t)
tells_nil sort.Pointer sort.Nil = yes
tells_nil _ _ = no

module _ (types : List TypeDef) where
  module _ (room : ℕ) (ty above : TypeId) where
    found : (ty.0 ≡ above.0) ⊎ IsReached room types (parent_of (definition types ty)) above → IsReached (suc room) types (Some ty) above
    found (inl e) = record { steps = zero; within = omega arith; leads = ap (λ (n : ℕ). Some (type_id n)) e }
    found (inr h) = record { steps = suc h.steps; within = (let w = h.within in omega arith); leads = h.leads }

    parted : (steps : ℕ) → steps < suc room → ancestor types steps ty ≡ Some above → (ty.0 ≡ above.0) ⊎ IsReached room types (parent_of (definition types ty)) above
    parted zero w l = let e : ty ≡ above = cc in inl (ap (λ (t : TypeId). t.0) e)
    parted (suc steps) w l = inr (record { steps = steps; within = omega arith; leads = l })

  tells_reached : (room : ℕ) (ty : Option TypeId) (above : TypeId) → Decides (reaches room types ty above) (IsReached room types ty above)
  tells_reached zero ty above = (λ e. cc, λ h. let w = h.within in absurd (omega arith))
  tells_reached (suc room) None above = (λ e. cc, λ h. let l = h.leads in cc)
  tells_reached (suc room) (Some ty) above =
      let d = Decides-or _ _ (Decides-eqb ty.0 above.0) (tells_reached room (parent_of (definition types ty)) above) in
      (λ e. found room ty above (d.0 e), λ h. d.1 (parted room ty above h.steps h.within h.leads))

  tells_object : (one : Option TypeDef) → Decides (is_object one) (IsObject one)
  tells_object (Some (type.ObjectOf parent dynamic fields methods)) = yes
  tells_object None = no
  tells_object _ = no

  pub tells_line : (below above : TypeId) → Decides (is_line types below above) (IsLine types below above)
  tells_line below above = Decides-and _ _ (tells_object (definition types below)) (tells_reached (length types) (Some below) above)

  tells_below_by : (ty own : TypeId) (target one : Option TypeDef) → Decides (is_below_by types ty own target one) (IsBelowBy types ty own target one)
  tells_below_by ty own (Some (type.ObjectOf parent dynamic fields methods)) one = tells_line own ty
  tells_below_by ty own (Some (type.PointerTo above)) (Some (type.PointerTo below)) = tells_line below above
  tells_below_by ty own _ _ = no

  pub tells_below : (ty : TypeId) (own : Option TypeId) → Decides (is_below types ty own) (IsBelow types ty own)
  tells_below ty None = no
  tells_below ty (Some own) = tells_below_by ty own (definition types ty) (definition types own)

  tells_taken : (s : Sort) (ty own : Option TypeId) → Decides (takes_pointer types s ty own) (TakesPointer types s ty own)
  tells_taken sort.Pointer (Some ty) own = Decides-or _ _ (tells_type ty own) (tells_below ty own)
  tells_taken _ _ own = no

  pub tells_joined : (s t : Sort) (x y : Option TypeId) → Decides (are_pointers_joined types s t x y) (ArePointersJoined types s t x y)
  tells_joined s t x y = Decides-or _ _ (Decides-or _ _ (tells_nil s t) (tells_nil t s)) (Decides-or _ _ (tells_taken s x y) (tells_taken t y x))
