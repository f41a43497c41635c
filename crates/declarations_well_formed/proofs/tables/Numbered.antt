-- The methods and the slots of types are numbered as they were before further types came.
use Rattle.std.proofs.Common.{◌≡◌, ℕ, zero, suc, ◌<◌, ◌≤◌, List, [], ◌++◌, map, length, Option, Some, None, refl, sym, subst, ap, ◌∙◌, arith}
use Rattle.std.specs.Prelude.{slice_get, ◌^◌}
use Rattle.std.specs.List.{IsDistinct}
use Rattle.std.proofs.lemmas.Option.{slice_get_within}
use Rattle.bodies_well_formed.specs.type_layout.declared.definitions.TypeId.{TypeId}
use Rattle.bodies_well_formed.specs.type_layout.declared.definitions.Method.{Method}
use Rattle.bodies_well_formed.specs.type_layout.declared.definitions.TypeDef.{TypeDef}
use Rattle.bodies_well_formed.specs.type_layout.Words.{same_bytes}
use Rattle.bodies_well_formed.specs.type_layout.Table.{AllDefined}
use Rattle.bodies_well_formed.proofs.type_layout_proofs.Given.{get_or-given_by-front}
use Rattle.bodies_well_formed.proofs.type_layout_proofs.Local.{slice_get-append}
use Rattle.bodies_well_formed.specs.typed_tree.type_fits.Fits.{definition, parent_of}
use Rattle.bodies_well_formed.specs.object_vmt.Members.{Members, no_members, members_rule, members_of, members_in}
use Rattle.bodies_well_formed.specs.object_vmt.Slots.{slots_of}
use Rattle.bodies_well_formed.specs.call_rules.method_rules.Slots.{methods_of, methods_within, methods_in}
use Rattle.bodies_well_formed.proofs.call_rules_proofs.method_rules.LineLaws.{are_lines}
use Rattle.bodies_well_formed.specs.rules_well_formed.virtual_slots.Laws.{IsNumbered}

module _ (front back : List TypeDef) where
  there : (ty : TypeId) (one : TypeDef) → slice_get front ty.0 ≡ Some one → slice_get (front ++ back) ty.0 ≡ Some one
  there ty one e = slice_get-append front back ty.0 (slice_get_within front ty.0 one e) ∙ e

  -- a type of the table has its methods; what is no type of it has none
  own_methods : (P : List Method → Type 0) (ty : TypeId) → P [] → P (methods_of (definition (front ++ back) ty)) → P (methods_of (definition front ty))
  own_methods P ty none h = by (slice_get front ty.0) refl
    where
      by : (d : Option TypeDef) → slice_get front ty.0 ≡ d → P (methods_of d)
      by None e = none
      by (Some one) e = subst (λ (d : Option TypeDef). P (methods_of d)) (there ty one e) h

  nothing_within : (room : ℕ) → methods_within room front None ≡ []
  nothing_within zero = refl
  nothing_within (suc room) = refl

  no_line : (room : ℕ) (class : TypeId) → slice_get front class.0 ≡ None → methods_within room front (Some class) ≡ []
  no_line zero class e = refl
  no_line (suc room) class e =
      ap (λ (d : Option TypeDef). methods_within room front (parent_of d) ++ methods_of d) e ∙ ap (λ (methods : List Method). methods ++ []) (nothing_within room)

  -- and so with its line
  line_methods : AllDefined [] front → AllDefined [] (front ++ back) → (P : List Method → Type 0) (class : TypeId) → P [] → P (methods_in (front ++ back) class) → P (methods_in front class)
  line_methods before whole P class none h = by (slice_get front class.0) refl
    where
      by : (d : Option TypeDef) → slice_get front class.0 ≡ d → P (methods_in front class)
      by None e = subst P (sym (no_line (length front) class e)) none
      by (Some one) e =
          let within : class.0 < length front = slice_get_within front class.0 one e in
          let same : members_in (members_of (front ++ back)) class ≡ members_in (members_of front) class = get_or-given_by-front members_rule front back class.0 no_members within in
          subst P (are_lines (front ++ back) whole class ∙ ap (λ (m : Members). m.methods) same ∙ sym (are_lines front before class)) h

  pub numbered_front : AllDefined [] front → AllDefined [] (front ++ back) → IsNumbered (front ++ back) → IsNumbered front
  unfolding IsDistinct
  numbered_front before whole h = record {
    methods = λ ty. own_methods (λ methods. length methods ≤ 2 ^ 32) ty (omega arith) (h.methods ty);
    once = λ ty. own_methods (λ methods. IsDistinct same_bytes (map (λ (method : Method). method.name) methods)) ty tt (h.once ty);
    slots = λ class. line_methods before whole (λ methods. length (slots_of methods) ≤ 2 ^ 32) class (omega arith) (h.slots class);
  }
