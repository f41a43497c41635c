-- The equations of layouts and offsets, at each type of a well-formed table.
use Rattle.std.proofs.Common.{◌≡◌, ℕ, zero, suc, ◌+◌, List, [], ◌∷◌, ◌++◌, length, Some, refl, arith, sym, ◌∙◌, subst, append_assoc, length-append}
use Rattle.std.specs.List.{slice_get}
use Rattle.type_layout.specs.declared.definitions.TypeId.{TypeId}
use Rattle.type_layout.specs.declared.definitions.TypeDef.{TypeDef}
use Rattle.type_layout.specs.Layouts.{plain, layout_by, layouts_of, layout_at, offsets_by, offsets_of, offsets_at, IsMeasured}
use Rattle.type_layout.specs.Table.{IsDefinedOver, AllDefined}
use Rattle.type_layout.proofs.Given.{get_or-given_by-middle}
use Rattle.type_layout.proofs.Local.{layout_by-front, offsets_by-front}

-- a table round one of its types, which is defined over those before it
pub record Round (types : List TypeDef) (k : ℕ) (one : TypeDef) : Type 0 where
  pub front : List TypeDef
  pub back : List TypeDef
  pub is : types ≡ front ++ one ∷ back
  pub at : length front ≡ k
  pub defined : IsDefinedOver front one

round_from : (before types : List TypeDef) (k : ℕ) (one : TypeDef) → AllDefined before types → slice_get types k ≡ Some one
    → Round (before ++ types) (length before + k) one
round_from before [] k one all found = cc
round_from before (first ∷ rest) zero one all found =
    let same : first ≡ one = cc in
    record {
      front = before;
      back = rest;
      is = rw same refl;
      at = omega arith;
      defined = subst (λ (d : TypeDef). IsDefinedOver before d) same all.0;
    }
round_from before (first ∷ rest) (suc k) one all found =
    let r = round_from (before ++ first ∷ []) rest k one all.1 found in
    record {
      front = r.front;
      back = r.back;
      is = sym (append_assoc before (first ∷ []) rest) ∙ r.is;
      at = omega (arith, r.at, length-append before (first ∷ []));
      defined = r.defined;
    }

pub round : (types : List TypeDef) (k : ℕ) (one : TypeDef) → AllDefined [] types → slice_get types k ≡ Some one → Round types k one
round types k one all found =
    let r = round_from [] types k one all found in
    record { front = r.front; back = r.back; is = r.is; at = omega (arith, r.at); defined = r.defined }

layout-round : (types : List TypeDef) (id : TypeId) (one : TypeDef) → Round types id.0 one → layout_at types id ≡ layout_by types (layouts_of types) one
layout-round types id one r =
    rw (r.is, ← r.at) (get_or-given_by-middle layout_by r.front one r.back (plain 0) ∙ sym (layout_by-front r.front (one ∷ r.back) one r.defined))

offsets-round : (types : List TypeDef) (id : TypeId) (one : TypeDef) → Round types id.0 one → offsets_at types id ≡ offsets_by types (offsets_of types) one
offsets-round types id one r =
    rw (r.is, ← r.at) (get_or-given_by-middle offsets_by r.front one r.back [] ∙ sym (offsets_by-front r.front (one ∷ r.back) one r.defined))

pub is_measured : (types : List TypeDef) → AllDefined [] types → IsMeasured types
is_measured types all = record {
  layouts = λ id one found. layout-round types id one (round types id.0 one all found);
  offsets = λ id one found. offsets-round types id one (round types id.0 one all found);
}
