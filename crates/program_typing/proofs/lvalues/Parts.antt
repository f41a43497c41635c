-- Fields of records and objects, elements of arrays and characters of strings.
use Rattle.std.proofs.Common.{◌≡◌, ℕ, ◌+◌, ◌-◌, ◌<◌, Bool, true, false, List, [], ◌∷◌, ◌++◌, Some, None, refl, sym, ap, subst, ◌∙◌, arith, append-nil}
use Rattle.std.specs.Prelude.{ℤ, pos, ◌-ℤ◌, ◌≤ℤ◌, int_le, unsigned_abs, slice_get, Option, if◌then◌else◌}
use Rattle.std.proofs.lemmas.Bool.{and_parts}
use Rattle.std.proofs.lemmas.Int.{ints}
use Rattle.well_formed.specs.type_layout.declared.definitions.TypeId.{TypeId}
use Rattle.well_formed.specs.type_layout.declared.definitions.Host.{Host}
use Rattle.well_formed.specs.type_layout.declared.definitions.Host.TheVariants as host
use Rattle.well_formed.specs.type_layout.declared.definitions.TypeDef.{TypeDef}
use Rattle.well_formed.specs.type_layout.declared.definitions.TypeDef.TheVariants as type
use Rattle.well_formed.specs.type_layout.Layouts.{bounds_at}
use Rattle.well_formed.specs.type_layout.Storage.{count_between}
use Rattle.well_formed.specs.type_layout.Table.{IsObject}
use Rattle.well_formed.specs.typed_tree.type_fits.Fits.{stored_as, fields_by, field_type, IsChar}
use Rattle.store_typing.specs.tp_meaning.Trees.{Key}
use Rattle.store_typing.specs.tp_meaning.Shapes.{Part, FieldPart, parts_at, field_place}
use Rattle.store_typing.specs.tp_meaning.Programs.{Sort, definition, class_key, beside, char_sort}
use Rattle.store_typing.specs.tp_meaning.Outcomes.{State, give}
use Rattle.store_typing.specs.tp_meaning.Operators.{is_between}
use Rattle.store_typing.specs.tp_meaning.Activations.{Reached, inside}
use Rattle.store_typing.specs.tp_meaning.Expressions.{field_of, field_at, outside, element_between, element_in}
use Rattle.store_typing.specs.types.Declared.{declared, AreAlike}
use Rattle.store_typing.specs.types.Agreement.{IsKnown, AreConsistent}
use Rattle.store_typing.specs.types.Forms.{Form, letter, repeated, line, part_forms, form_beside}
use Rattle.store_typing.specs.types.Laws.{FieldOf, AgreementLaws}
use Rattle.store_typing.proofs.types.Whole.{fields_at, parts_of_record, no_fields_of, element_below}
use Rattle.store_typing.proofs.types.Agreed.{defined, known_within, known_at}
use Rattle.store_typing.proofs.types.SameForms.{whole}
use Rattle.store_typing.proofs.types.Lines.{agreement_laws}
use Rattle.store_typing.specs.stores.Worlds.{World}
use Rattle.store_typing.specs.stores.Places.{form_part, Covers, Same, IsSeenAs, Shared, Letter, Whole, IsAt}
use Rattle.store_typing.proofs.stores.Paths.{repeated_part}
use Rattle.store_typing.proofs.stores.Steps.{same_form, instance_of}
use Rattle.store_typing.proofs.stores.Instances.{lies_inside, part_lies}
use Rattle.program_typing.proofs.lvalues.Fields.{field_part}
use Rattle.program_typing.specs.lvalues.Laws.{Looks, PartLaws}

absent : (l : List TypeId) (number : ℕ) (ty : TypeId) → l ≡ [] → slice_get l number ≡ Some ty → ⊥
absent [] number ty none e = cc
absent (x ∷ l) number ty none e = cc

rising : (m n : ℤ) → int_le m n ≡ true → m ≤ℤ n
rising m n e = grind (arith, ints)

module _ (w : World) (agreed : AreConsistent w.program) where
  no_field : (sort : Sort) (number : ℕ) (ty : TypeId) → IsKnown w.program sort → field_type sort.table.types sort.ty number ≡ Some ty → (one : TypeDef) → definition sort ≡ Some one
      → ((front : List TypeDef) (given : List (List TypeId)) → fields_by front given one ≡ []) → ⊥
  no_field sort number ty ks e one is none =
      absent (fields_at sort.table.types (Some sort.ty)) number ty (no_fields_of sort.table.types (defined w.program agreed sort ks) sort.ty one is none) e

  -- a place of a record or an object: its form is that of its parts, and maybe of more
  record HasParts (sort : Sort) (form : Form) : Type 0 where
    key : Option Key
    more : List Form
    is : form ≡ line (part_forms (form_beside sort.table) key (parts_at sort.table.types sort.ty) ++ more)

  parts_of_place : (sort : Sort) (form : Form) (number : ℕ) (ty : TypeId) → IsKnown w.program sort → field_type sort.table.types sort.ty number ≡ Some ty → Covers w.program sort form
      → (one : TypeDef) → definition sort ≡ Some one → HasParts sort form
  parts_of_place sort form number ty ks e covers (type.ObjectOf p d fields methods) is =
      let one = instance_of w agreed sort form ks (subst IsObject (sym is) tt) covers in
      record { key = class_key one.own; more = one.more; is = one.is }
  parts_of_place sort form number ty ks e covers (type.RecordOf fields) is =
      let parts : List Part = parts_at sort.table.types sort.ty in
      let same = parts_of_record sort.table.types (defined w.program agreed sort ks) sort.ty fields is in
      record {
        key = None;
        more = [];
        is = same_form w agreed sort form (λ o. subst IsObject is o) covers ∙ whole w.program agreed sort (type.RecordOf fields) ks is
            ∙ ap (λ (l : List Part). line (part_forms (form_beside sort.table) None l)) (sym same) ∙ ap line (sym (append-nil (part_forms (form_beside sort.table) None parts)));
      }
  parts_of_place sort form number ty ks e covers (type.Ordinal h low high) is = absurd (no_field sort number ty ks e (type.Ordinal h low high) is (λ f g. refl))
  parts_of_place sort form number ty ks e covers (type.Str max) is = absurd (no_field sort number ty ks e (type.Str max) is (λ f g. refl))
  parts_of_place sort form number ty ks e covers (type.SetOf base) is = absurd (no_field sort number ty ks e (type.SetOf base) is (λ f g. refl))
  parts_of_place sort form number ty ks e covers (type.ArrayOf i x) is = absurd (no_field sort number ty ks e (type.ArrayOf i x) is (λ f g. refl))
  parts_of_place sort form number ty ks e covers (type.PointerTo target) is = absurd (no_field sort number ty ks e (type.PointerTo target) is (λ f g. refl))
  parts_of_place sort form number ty ks e covers (type.Procedural header) is = absurd (no_field sort number ty ks e (type.Procedural header) is (λ f g. refl))

  -- an ordinal has no fields
  ordinal_field : {A : Type 0} (sort : Sort) (number : ℕ) (ty : TypeId) (h : Host) → IsKnown w.program sort → field_type sort.table.types sort.ty number ≡ Some ty → (o : Option TypeDef) → definition sort ≡ o → stored_as o ≡ Some h → A
  ordinal_field sort number ty h ks e (Some (type.Ordinal host low high)) is stored = absurd (no_field sort number ty ks e (type.Ordinal host low high) is (λ f g. refl))
  ordinal_field sort number ty h ks e o is stored = absurd cc

  pub field_place_of : (at : Reached) (seen : Sort) (number : ℕ) (ty : TypeId) (s : State) → IsAt w at seen → field_type seen.table.types seen.ty number ≡ Some ty → IsKnown w.program (beside seen ty)
      → Looks (λ to. IsAt w to (beside seen ty)) s (field_at at number s)
  field_place_of at seen number ty s is e known = by is.same where
    found : (of : IsKnown w.program at.sort) → FieldOf w.program at.sort number (beside seen ty) → Looks (λ to. IsAt w to (beside seen ty)) s (field_at at number s)
    found ko field =
        let place = is.place in
        let parts = parts_of_place at.sort place.form number field.ty ko field.is place.covers ko.one ko.is in
        let n : ℕ = field_place (parts_at at.sort.table.types at.sort.ty) number in
        let lies = part_lies w agreed at.spot at.sort place.form parts.key parts.more n (FieldPart field.ty) parts.is place.lies (field_part at.sort.table.types (defined w.program agreed at.sort ko) at.sort.ty field.ty number field.is) in
        let to : Reached = record { spot = inside at.spot n; sort = beside at.sort field.ty } in
        let done : IsAt w to (beside seen ty) = record { place = record { form = form_beside at.sort.table field.ty; lies = lies; covers = Same refl }; same = Shared field.known known (sym field.same) } in
        subst (λ (o : Option TypeId). Looks (λ to. IsAt w to (beside seen ty)) s (field_of at number o s)) (sym field.is) (refl, done)

    by : IsSeenAs w.program at.sort seen → Looks (λ to. IsAt w to (beside seen ty)) s (field_at at number s)
    by (Shared ko ks same) = let laws : AgreementLaws w.program = agreement_laws w.program agreed in found ko (laws.fields seen at.sort number ty ks ko (sym same) e known)
    by (Letter is ks stored) = ordinal_field seen number ty host.Char ks e (definition seen) refl stored
    by (Whole is ks stored) = ordinal_field seen number ty host.Integer ks e (definition seen) refl stored

  -- ---- elements

  steps_in : (low high z : ℤ) → is_between low high z ≡ true → unsigned_abs (z -ℤ low) < count_between low high
  steps_in low high z e =
      let both = and_parts (int_le low z) (int_le z high) e in
      let least : low ≤ℤ z = rising low z both.0 in
      let most : z ≤ℤ high = rising z high both.1 in
      first_of (omega (arith, ints, least, most), grind (arith, ints))

  letters_in : (max : ℕ) (z : ℤ) → is_between (pos 0) (pos max) z ≡ true → unsigned_abs (z -ℤ pos 0) < max + 1
  letters_in max z e =
      let both = and_parts (int_le (pos 0) z) (int_le z (pos max)) e in
      let least : pos 0 ≤ℤ z = rising (pos 0) z both.0 in
      let most : z ≤ℤ pos max = rising z (pos max) both.1 in
      first_of (omega (arith, ints, least, most), grind (arith, ints))

  between_looks : (P : Reached → Type 0) (at : Reached) (bounds : ℤ × ℤ) (sort : Sort) (checked : Bool) (z : ℤ) (s : State)
      → (is_between bounds.0 bounds.1 z ≡ true → P (record { spot = inside at.spot (unsigned_abs (z -ℤ bounds.0)); sort = sort })) → Looks P s (element_between at bounds sort checked z s)
  between_looks P at bounds sort checked z s is = by (is_between bounds.0 bounds.1 z) refl where
    out : (checked : Bool) → Looks P s (outside checked s)
    out true = tt
    out false = tt

    by : (t : Bool) → is_between bounds.0 bounds.1 z ≡ t → Looks P s ((if t then give (record { spot = inside at.spot (unsigned_abs (z -ℤ bounds.0)); sort = sort }) else outside checked) s)
    by true e = (refl, is e)
    by false e = out checked

  array_alike : (a b : Sort) (one : TypeDef) (index element : TypeId) → AreAlike a.table one b.table (type.ArrayOf index element) → (i : TypeId) × (x : TypeId) × (one ≡ type.ArrayOf i x) × (declared a.table x ≡ declared b.table element)
  array_alike a b (type.ArrayOf i x) index element is = (i, x, refl, is.1)
  array_alike a b (type.Ordinal h low high) index element is = absurd is
  array_alike a b (type.Str max) index element is = absurd is
  array_alike a b (type.SetOf base) index element is = absurd is
  array_alike a b (type.RecordOf fields) index element is = absurd is
  array_alike a b (type.PointerTo target) index element is = absurd is
  array_alike a b (type.ObjectOf p d fields methods) index element is = absurd is
  array_alike a b (type.Procedural header) index element is = absurd is

  string_alike : (a b : Sort) (one : TypeDef) (max : ℕ) → AreAlike a.table one b.table (type.Str max) → one ≡ type.Str max
  string_alike a b (type.Str n) max is = ap (λ (x : ℕ). type.Str x) is
  string_alike a b (type.Ordinal h low high) max is = absurd is
  string_alike a b (type.SetOf base) max is = absurd is
  string_alike a b (type.ArrayOf i x) max is = absurd is
  string_alike a b (type.RecordOf fields) max is = absurd is
  string_alike a b (type.PointerTo target) max is = absurd is
  string_alike a b (type.ObjectOf p d fields methods) max is = absurd is
  string_alike a b (type.Procedural header) max is = absurd is

  other_stored : {A : Type 0} (o : Option TypeDef) (one : TypeDef) (h : Host) → o ≡ Some one → stored_as o ≡ Some h → stored_as (Some one) ≡ None → A
  other_stored o one h e stored none = absurd (never (sym (sym stored ∙ ap stored_as e ∙ none))) where
    never : None ≡ Some h → ⊥
    never e = cc

  pub element_place_of : (at : Reached) (seen : Sort) (index element : TypeId) (checked : Bool) (z : ℤ) (s : State) → IsAt w at seen → definition seen ≡ Some (type.ArrayOf index element)
      → Looks (λ to. IsAt w to (beside seen element)) s (element_in at checked z (definition at.sort) s)
  element_place_of at seen index element checked z s is e = by is.same where
    by : IsSeenAs w.program at.sort seen → Looks (λ to. IsAt w to (beside seen element)) s (element_in at checked z (definition at.sort) s)
    by (Shared ko ks same) =
        let place = is.place in
        let types : List TypeDef = at.sort.table.types in
        let like = array_alike at.sort seen ko.one index element (agreed.alike at.sort seen ko.one (type.ArrayOf index element) ko ks ko.is e same) in
        let here : definition at.sort ≡ Some (type.ArrayOf like.0 like.1) = ko.is ∙ ap (λ (d : TypeDef). Some d) like.2 in
        let bounds : ℤ × ℤ = bounds_at types like.0 in
        let part : Form = form_beside at.sort.table like.1 in
        let form : place.form ≡ repeated (count_between bounds.0 bounds.1) part = same_form w agreed at.sort place.form (λ o. subst IsObject here o) place.covers ∙ whole w.program agreed at.sort (type.ArrayOf like.0 like.1) ko here in
        let less = element_below types (defined w.program agreed at.sort ko) at.sort.ty like.0 like.1 here in
        let known = known_within w.program agreed at.sort like.1 ko (omega (arith, less, known_at w.program agreed at.sort ko)) in
        let less' = element_below seen.table.types (defined w.program agreed seen ks) seen.ty index element e in
        let known' = known_within w.program agreed seen element ks (omega (arith, less', known_at w.program agreed seen ks)) in
        subst (λ (o : Option TypeDef). Looks (λ to. IsAt w to (beside seen element)) s (element_in at checked z o s)) (sym here)
        (between_looks (λ to. IsAt w to (beside seen element)) at bounds (beside at.sort like.1) checked z s (λ inside_bounds.
        let n : ℕ = unsigned_abs (z -ℤ bounds.0) in
        let lies = lies_inside w agreed at.spot place.form part n place.lies
        (subst (λ (f : Form). form_part f (n ∷ []) ≡ Some part) (sym form) (repeated_part (count_between bounds.0 bounds.1) n part (steps_in bounds.0 bounds.1 z inside_bounds))) in
        record { place = record { form = part; lies = lies; covers = Same refl }; same = Shared known known' like.3 }))
    by (Letter is' ks stored) = other_stored (definition seen) (type.ArrayOf index element) host.Char e stored refl
    by (Whole is' ks stored) = other_stored (definition seen) (type.ArrayOf index element) host.Integer e stored refl

  pub character_place_of : (at : Reached) (seen : Sort) (max : ℕ) (ty : TypeId) (checked : Bool) (z : ℤ) (s : State) → IsAt w at seen → definition seen ≡ Some (type.Str max) → IsKnown w.program (beside seen ty)
      → IsChar (definition (beside seen ty)) → Looks (λ to. IsAt w to (beside seen ty)) s (element_in at checked z (definition at.sort) s)
  character_place_of at seen max ty checked z s is e known char = by is.same where
    by : IsSeenAs w.program at.sort seen → Looks (λ to. IsAt w to (beside seen ty)) s (element_in at checked z (definition at.sort) s)
    by (Shared ko ks same) =
        let place = is.place in
        let like = string_alike at.sort seen ko.one max (agreed.alike at.sort seen ko.one (type.Str max) ko ks ko.is e same) in
        let here : definition at.sort ≡ Some (type.Str max) = ko.is ∙ ap (λ (d : TypeDef). Some d) like in
        let form : place.form ≡ repeated (max + 1) letter = same_form w agreed at.sort place.form (λ o. subst IsObject here o) place.covers ∙ whole w.program agreed at.sort (type.Str max) ko here in
        subst (λ (o : Option TypeDef). Looks (λ to. IsAt w to (beside seen ty)) s (element_in at checked z o s)) (sym here)
        (between_looks (λ to. IsAt w to (beside seen ty)) at (pos 0, pos max) char_sort checked z s (λ inside_bounds.
        let n : ℕ = unsigned_abs (z -ℤ pos 0) in
        let small : n < max + 1 = letters_in max z inside_bounds in
        let lies = lies_inside w agreed at.spot place.form letter n place.lies (subst (λ (f : Form). form_part f (n ∷ []) ≡ Some letter) (sym form) (repeated_part (max + 1) n letter small)) in
        record { place = record { form = letter; lies = lies; covers = Same refl }; same = Letter refl known char }))
    by (Letter is' ks stored) = other_stored (definition seen) (type.Str max) host.Char e stored refl
    by (Whole is' ks stored) = other_stored (definition seen) (type.Str max) host.Integer e stored refl

  pub part_laws : PartLaws w
  part_laws = record { field = field_place_of; element = element_place_of; character = character_place_of }
