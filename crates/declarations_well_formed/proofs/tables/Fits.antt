-- What a table keeps within bounds, the types that it had before keep.
use Rattle.std.proofs.Common.{◌≡◌, ℕ, zero, suc, ◌+◌, ◌<◌, ◌≤◌, List, [], ◌∷◌, ◌++◌, length, Option, Some, None, refl, subst, ap, ◌∙◌, arith, length-append}
use Rattle.std.specs.Prelude.{slice_get}
use Rattle.std.proofs.lemmas.Option.{slice_get_within}
use Rattle.bodies_well_formed.specs.type_layout.declared.definitions.TypeId.{TypeId}
use Rattle.bodies_well_formed.specs.type_layout.declared.definitions.TypeDef.{TypeDef}
use Rattle.bodies_well_formed.specs.type_layout.declared.layout.Layout.{Layout}
use Rattle.bodies_well_formed.specs.type_layout.Layouts.{layout_by, layouts_of}
use Rattle.bodies_well_formed.specs.type_layout.Table.{AllDefined}
use Rattle.bodies_well_formed.proofs.type_layout_proofs.Given.{get_or-given_by-front, length-layouts_of}
use Rattle.bodies_well_formed.proofs.type_layout_proofs.Local.{slice_get-append}
use Rattle.bodies_well_formed.specs.scopes.Members.{parent_of, own_fields, fields_within}
use Rattle.declarations_well_formed.specs.tables.Laws.{FrontLaw}
use Rattle.declarations_well_formed.proofs.tables.Numbered.{numbered_front}

defined_front : (before front back : List TypeDef) → AllDefined before (front ++ back) → AllDefined before front
defined_front before [] back h = tt
defined_front before (one ∷ front) back h = (h.0, defined_front (before ++ one ∷ []) front back h.1)

no_fields : (room : ℕ) (types : List TypeDef) → fields_within room types None ≡ 0
no_fields zero types = refl
no_fields (suc room) types = refl

module _ (front back : List TypeDef) where
  -- a line has no fewer fields in the longer table
  more_fields : (room space : ℕ) (o : Option TypeId) → room ≤ space → fields_within room front o ≤ fields_within space (front ++ back) o
  more_fields zero space o h = omega arith
  more_fields (suc room) zero o h = absurd (omega (arith, h))
  more_fields (suc room) (suc space) None h = omega arith
  more_fields (suc room) (suc space) (Some ty) h = by (slice_get front ty.0) refl (λ o. more_fields room space o (omega (arith, h)))
    where
      nothing : (n k a m : ℕ) → n ≡ k + a → k ≡ 0 → a ≡ 0 → n ≤ m
      nothing n k a m e f h = omega (arith, e, f, h)

      put : (n m k a b : ℕ) → n ≡ k + a → m ≡ k + b → a ≤ b → n ≤ m
      put n m k a b e f h = omega (arith, e, f, h)

      by : (d : Option TypeDef) → slice_get front ty.0 ≡ d → ((o : Option TypeId) → fields_within room front o ≤ fields_within space (front ++ back) o)
          → fields_within (suc room) front (Some ty) ≤ fields_within (suc space) (front ++ back) (Some ty)
      by None e rec =
          let less : fields_within (suc room) front (Some ty) ≡ own_fields None + fields_within room front None =
          ap (λ (d : Option TypeDef). own_fields d + fields_within room front (parent_of d)) e in
          let none = no_fields room front in
          nothing (fields_within (suc room) front (Some ty)) (own_fields None) (fields_within room front None) (fields_within (suc space) (front ++ back) (Some ty)) less refl none
      by (Some one) e rec =
          let there : slice_get (front ++ back) ty.0 ≡ Some one = slice_get-append front back ty.0 (slice_get_within front ty.0 one e) ∙ e in
          let less : fields_within (suc room) front (Some ty) ≡ own_fields (Some one) + fields_within room front (parent_of (Some one)) =
          ap (λ (d : Option TypeDef). own_fields d + fields_within room front (parent_of d)) e in
          let more : fields_within (suc space) (front ++ back) (Some ty) ≡ own_fields (Some one) + fields_within space (front ++ back) (parent_of (Some one)) =
          ap (λ (d : Option TypeDef). own_fields d + fields_within space (front ++ back) (parent_of d)) there in
          let inner = rec (parent_of (Some one)) in
          put (fields_within (suc room) front (Some ty)) (fields_within (suc space) (front ++ back) (Some ty)) (own_fields (Some one)) (fields_within room front (parent_of (Some one)))
          (fields_within space (front ++ back) (parent_of (Some one))) less more inner

pub fit_front : FrontLaw
fit_front front back h =
    let count : length (front ++ back) ≡ length front + length back = length-append front back in
    record {
      defined = defined_front [] front back h.defined;
      fits = λ k d low.
          let within : k < length front = (let c = length-layouts_of front in omega (arith, low, c)) in
          let more : k < length (layouts_of (front ++ back)) = (let c = length-layouts_of (front ++ back) in omega (arith, within, c, count)) in
          subst (λ (layout : Layout). layout.size ≤ 65520) (get_or-given_by-front layout_by front back k d within) (h.fits k d more);
      room = (let most = h.room in omega (arith, count, most));
      few = λ ty.
          let less = more_fields front back (length front) (length (front ++ back)) (Some ty) (omega (arith, count)) in
          let most = h.few ty in
          omega (arith, less, most);
      numbered = numbered_front front back (defined_front [] front back h.defined) h.defined h.numbered;
    }
