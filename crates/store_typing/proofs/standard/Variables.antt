-- Numbers and texts in variables.
use Rattle.std.proofs.Common.{◌≡◌, ℕ, suc, ◌+◌, ◌<◌, List, Some, None, refl, sym, ap, subst, ◌∙◌, arith}
use Rattle.std.specs.Prelude.{◌⊎◌, ℤ, pos, All, Option, Ok}
use Rattle.std.proofs.lemmas.Int.{ints}
use Rattle.tp_meaning.specs.type_layout.declared.definitions.Host.{Host}
use Rattle.tp_meaning.specs.type_layout.declared.definitions.Host.TheVariants as host
use Rattle.tp_meaning.specs.type_layout.declared.definitions.TypeDef.{TypeDef}
use Rattle.tp_meaning.specs.type_layout.declared.definitions.TypeDef.TheVariants as type
use Rattle.tp_meaning.specs.type_layout.Storage.{storage_of}
use Rattle.tp_meaning.specs.type_layout.Table.{Table, IsObject}
use Rattle.tp_meaning.specs.typed_tree.type_fits.Fits.{stored_as, IsString, IsPointer, IsStructured}
use Rattle.tp_meaning.specs.Trees.{Value, Ordinal, Text}
use Rattle.tp_meaning.specs.Found.{Found, ◌>>=◌, known}
use Rattle.tp_meaning.specs.Shapes.{kept_as}
use Rattle.tp_meaning.specs.Store.{Store, value_at, number_of, text_at, assigned_over}
use Rattle.tp_meaning.specs.Programs.{Sort, definition}
use Rattle.tp_meaning.specs.Activations.{Reached, number_in, length_as, length_held, assigned}
use Rattle.tp_meaning.specs.Standard.{number_assigned}
use Rattle.store_typing.specs.types.Declared.{AreAlike}
use Rattle.store_typing.specs.types.Agreement.{IsKnown, AreConsistent}
use Rattle.store_typing.specs.types.Forms.{Number, letter, repeated, form_at}
use Rattle.store_typing.proofs.types.Agreed.{lawful}
use Rattle.store_typing.proofs.types.SameForms.{whole}
use Rattle.store_typing.specs.stores.Worlds.{World, IsHeld, HasForm}
use Rattle.store_typing.specs.stores.Places.{IsSeenAs, Shared, Letter, Whole, IsAt, IsText}
use Rattle.store_typing.specs.stores.Stores.{IsTypedStore, Finds}
use Rattle.store_typing.proofs.stores.Paths.{finds_bind, finds_more}
use Rattle.store_typing.proofs.stores.Grown.{grows_itself}
use Rattle.store_typing.proofs.stores.Seen.{seen_form, ordinal_form}
use Rattle.store_typing.proofs.stores.Steps.{as_ordinal, same_form, cell_found, text_found, length_found, put_over, assigns}
use Rattle.store_typing.proofs.stores.Texts.{text_has}
use Rattle.store_typing.proofs.operators.Ranges.{is_held, kept_held}
use Rattle.store_typing.proofs.operators.OperandKinds.{number_at}
use Rattle.store_typing.specs.standard.Laws.{IsTypedLater}

stored_alike : (a b : Table) (one other : TypeDef) → AreAlike a one b other → stored_as (Some one) ≡ stored_as (Some other)
stored_alike a b (type.Ordinal h low high) (type.Ordinal h' low' high') is =
    ap (λ (x : Host). Some (storage_of x low high)) is.0 ∙ ap (λ (x : ℤ). Some (storage_of h' x high)) is.1 ∙ ap (λ (x : ℤ). Some (storage_of h' low' x)) is.2
stored_alike a b (type.Str max) (type.Str max') is = refl
stored_alike a b (type.SetOf base) (type.SetOf base') is = refl
stored_alike a b (type.ArrayOf i e) (type.ArrayOf i' e') is = refl
stored_alike a b (type.RecordOf fields) (type.RecordOf fields') is = refl
stored_alike a b (type.PointerTo target) (type.PointerTo target') is = refl
stored_alike a b (type.ObjectOf p d fields methods) (type.ObjectOf p' d' fields' methods') is = refl
stored_alike a b (type.Procedural header) (type.Procedural header') is = refl
stored_alike a b one other is = absurd is

string_alike : (a b : Table) (one other : TypeDef) → AreAlike a one b other → IsString (Some other) → (max : ℕ) × (one ≡ type.Str max)
string_alike a b (type.Str max) (type.Str max') is s = (max, refl)
string_alike a b one (type.Ordinal h low high) is s = absurd s
string_alike a b one (type.SetOf base) is s = absurd s
string_alike a b one (type.ArrayOf i e) is s = absurd s
string_alike a b one (type.RecordOf fields) is s = absurd s
string_alike a b one (type.PointerTo target) is s = absurd s
string_alike a b one (type.ObjectOf p d fields methods) is s = absurd s
string_alike a b one (type.Procedural header) is s = absurd s
string_alike a b one other is s = absurd is

ordinal_no_object : (o : Option TypeDef) (h : Host) → stored_as o ≡ Some h → IsObject o → ⊥
ordinal_no_object (Some (type.ObjectOf p d fields methods)) h e is = absurd cc
ordinal_no_object (Some (type.Ordinal host low high)) h e is = is
ordinal_no_object (Some (type.Str max)) h e is = is
ordinal_no_object (Some (type.SetOf base)) h e is = is
ordinal_no_object (Some (type.ArrayOf i x)) h e is = is
ordinal_no_object (Some (type.RecordOf fields)) h e is = is
ordinal_no_object (Some (type.PointerTo target)) h e is = is
ordinal_no_object (Some (type.Procedural header)) h e is = is
ordinal_no_object None h e is = is

no_structure : ⊥ ⊎ ⊥ ⊎ ⊥ → ⊥
no_structure is = grind arith

pub ordinal_simple : (o : Option TypeDef) (h : Host) → stored_as o ≡ Some h → IsStructured o → ⊥
ordinal_simple (Some (type.Ordinal host low high)) h e is = no_structure is
ordinal_simple (Some (type.Str max)) h e is = no_structure is
ordinal_simple (Some (type.SetOf base)) h e is = no_structure is
ordinal_simple (Some (type.ArrayOf i x)) h e is = absurd cc
ordinal_simple (Some (type.RecordOf fields)) h e is = absurd cc
ordinal_simple (Some (type.PointerTo target)) h e is = no_structure is
ordinal_simple (Some (type.ObjectOf p d fields methods)) h e is = absurd cc
ordinal_simple (Some (type.Procedural header)) h e is = no_structure is
ordinal_simple None h e is = no_structure is

pub pointer_simple : (o : Option TypeDef) → IsPointer o → IsStructured o → ⊥
pointer_simple (Some (type.PointerTo t)) p is = no_structure is
pointer_simple o p is = absurd p

string_stored : {A : Type 0} (o : Option TypeDef) (h : Host) → IsString o → stored_as o ≡ Some h → A
string_stored (Some (type.Str max)) h s e = absurd cc
string_stored o h s e = absurd s

module _ (w : World) (agreed : AreConsistent w.program) where
  -- what the place's own type says
  stored_at : (at : Reached) (seen : Sort) (h : Host) → IsSeenAs w.program at.sort seen → stored_as (definition seen) ≡ Some h → stored_as (definition at.sort) ≡ Some h
  stored_at at seen h (Shared ko ks same) e =
      ap stored_as ko.is ∙ stored_alike at.sort.table seen.table ko.one ks.one (agreed.alike at.sort seen ko.one ks.one ko ks ko.is ks.is same) ∙ ap stored_as (sym ks.is) ∙ e
  stored_at at seen h (Letter is ks stored) e = ap (λ (s : Sort). stored_as (definition s)) is ∙ sym stored ∙ e
  stored_at at seen h (Whole is ks stored) e = ap (λ (s : Sort). stored_as (definition s)) is ∙ sym stored ∙ e

  object_at : (at : Reached) (seen : Sort) (h : Host) → IsSeenAs w.program at.sort seen → stored_as (definition seen) ≡ Some h → IsObject (definition at.sort) → ⊥
  object_at at seen h same e object = ordinal_no_object (definition at.sort) h (stored_at at seen h same e) object

  seen_known : (one seen : Sort) → IsSeenAs w.program one seen → IsKnown w.program seen
  seen_known one seen (Shared ko ks same) = ks
  seen_known one seen (Letter is ks stored) = ks
  seen_known one seen (Whole is ks stored) = ks

  module _ (store : Store) (typed : IsTypedStore w store) where
    -- the number that an ordinal variable holds
    pub number_found : (at : Reached) (seen : Sort) (h : Host) → IsAt w at seen → stored_as (definition seen) ≡ Some h → Finds (λ z. IsHeld w (Number h) (Ordinal z)) (number_in at store)
    number_found at seen h is e =
        finds_bind (IsHeld w (Number h)) (λ z. IsHeld w (Number h) (Ordinal z)) (value_at store at.spot) number_of
        (cell_found w agreed store typed at.spot at.sort (Number h) is.place (object_at at seen h is.same e) (seen_form w.program agreed at.sort seen is.same ∙ ordinal_form w.program agreed seen (seen_known at.sort seen is.same) h e)) (λ v held.
        let n = number_at w h v held in subst (λ (x : Value). Finds (λ z. IsHeld w (Number h) (Ordinal z)) (number_of x)) (sym n.is) n.held)

    -- a variable keeps the low bytes of a number
    pub number_put : (at : Reached) (seen : Sort) (h : Host) (z : ℤ) → IsAt w at seen → stored_as (definition seen) ≡ Some h → Finds (IsTypedStore w) (number_assigned at z store)
    number_put at seen h z is e =
        subst (λ (o : Option Host). Finds (IsTypedStore w) (known o >>= λ h. assigned at (Ordinal (kept_as h z)) store)) (sym (stored_at at seen h is.same e))
        (assigns w agreed store typed at seen (Ordinal (kept_as h z)) is (ordinal_simple (definition seen) h e) (as_ordinal w seen h (Ordinal (kept_as h z)) (definition seen) e (kept_held h z)))

    -- the text of a string variable
    pub text_in_found : (at : Reached) (seen : Sort) → IsAt w at seen → IsString (definition seen) → Finds IsText (text_at store at.spot)
    text_in_found at seen is s = by is.same where
      by : IsSeenAs w.program at.sort seen → Finds IsText (text_at store at.spot)
      by (Shared ko ks same) =
          let str = string_alike at.sort.table seen.table ko.one ks.one (agreed.alike at.sort seen ko.one ks.one ko ks ko.is ks.is same) (subst IsString ks.is s) in
          text_found w agreed store typed at.spot at.sort str.0 ko is.place (ko.is ∙ ap (λ (d : TypeDef). Some d) str.1)
      by (Letter e ks stored) = string_stored (definition seen) host.Char s stored
      by (Whole e ks stored) = string_stored (definition seen) host.Integer s stored

    -- the length of a string variable
    pub length_held_found : (at : Reached) (seen : Sort) → IsAt w at seen → IsString (definition seen) → Finds (IsHeld w (Number host.Integer)) (length_held at store)
    length_held_found at seen is s = by is.same where
      given : (n : ℕ) → n < 256 → IsHeld w (Number host.Integer) (Ordinal (pos n))
      given n h = is_held host.Integer (pos n) (omega (arith, ints)) (omega (arith, ints, h))

      by : IsSeenAs w.program at.sort seen → Finds (IsHeld w (Number host.Integer)) (length_held at store)
      by (Shared ko ks same) =
          let str = string_alike at.sort.table seen.table ko.one ks.one (agreed.alike at.sort seen ko.one ks.one ko ks ko.is ks.is same) (subst IsString ks.is s) in
          let e : definition at.sort ≡ Some (type.Str str.0) = ko.is ∙ ap (λ (d : TypeDef). Some d) str.1 in
          subst (λ (o : Option TypeDef). Finds (IsHeld w (Number host.Integer)) (length_as o at.spot store >>= λ count. Ok (Ordinal (pos count)))) (sym e)
          (finds_bind (λ (n : ℕ). n < 256) (IsHeld w (Number host.Integer)) (length_as (Some (type.Str str.0)) at.spot store) (λ count. Ok (Ordinal (pos count)))
          (length_found w agreed store typed at.spot at.sort str.0 ko is.place e) given)
      by (Letter e ks stored) = string_stored (definition seen) host.Char s stored
      by (Whole e ks stored) = string_stored (definition seen) host.Integer s stored

    -- a text of any length is cut to the size of the variable
    pub text_put : (at : Reached) (seen : Sort) (bytes : List ℕ) → IsAt w at seen → IsString (definition seen) → All (λ byte. byte < 256) bytes → Finds (IsTypedStore w) (assigned at (Text bytes) store)
    text_put at seen bytes is s each = by is.same where
      by : IsSeenAs w.program at.sort seen → Finds (IsTypedStore w) (assigned at (Text bytes) store)
      by (Shared ko ks same) =
          let str = string_alike at.sort.table seen.table ko.one ks.one (agreed.alike at.sort seen ko.one ks.one ko ks ko.is ks.is same) (subst IsString ks.is s) in
          let here : definition at.sort ≡ Some (type.Str str.0) = ko.is ∙ ap (λ (d : TypeDef). Some d) str.1 in
          let law = lawful w.program agreed at.sort ko in
          let size : str.0 + 1 ≡ suc str.0 = omega arith in
          let form : form_at at.sort ≡ repeated (suc str.0) letter = whole w.program agreed at.sort (type.Str str.0) ko here ∙ ap (λ n. repeated n letter) size in
          put_over w agreed store typed at (repeated (suc str.0) letter) is.place is.place (same_form w agreed at.sort is.place.form (λ o. subst IsObject here o) is.place.covers ∙ form) (Text bytes)
          (λ old has. subst (λ (o : Option TypeDef). Finds (HasForm w (repeated (suc str.0) letter)) (assigned_over at.sort.table.types o old (Text bytes))) (sym here)
          (text_has w str.0 bytes old (law.short at.sort.ty.0 (type.Str str.0) here) each has))
      by (Letter e ks stored) = string_stored (definition seen) host.Char s stored
      by (Whole e ks stored) = string_stored (definition seen) host.Integer s stored

    pub later : (x : Found Store) → Finds (IsTypedStore w) x → Finds (IsTypedLater w) x
    later x is = finds_more (IsTypedStore w) (IsTypedLater w) x (λ s t. record { world = w; grows = grows_itself w; typed = t }) is
