-- Items that are written, and items that are read.
use Rattle.std.proofs.Common.{◌≡◌, ℕ, Bool, List, ◌++◌, Some, None, refl, sym, ap, subst, ◌∙◌, arith}
use Rattle.std.proofs.Common.{inl, inr}
use Rattle.std.specs.Prelude.{ℤ, pos, negsuc, Option, All}
use Rattle.std.proofs.lemmas.Int.{ints}
use Rattle.program_typing.specs.type_layout.declared.definitions.Host.{Host}
use Rattle.program_typing.specs.type_layout.declared.definitions.Host.TheVariants as host
use Rattle.program_typing.specs.type_layout.declared.definitions.TypeDef.{TypeDef}
use Rattle.program_typing.specs.type_layout.declared.definitions.TypeDef.TheVariants as type
use Rattle.program_typing.specs.type_layout.Storage.{storage_of}
use Rattle.program_typing.specs.typed_tree.declared.units.Program.{Program}
use Rattle.program_typing.specs.typed_tree.type_fits.Fits.{stored_as, family_of, IsChar, IsString, IsReadable, IsWritable}
use Rattle.program_typing.specs.common_values.Input.{char_read, string_read, number_read}
use Rattle.program_typing.specs.tp_meaning.Trees.{Value, Ordinal, Text}
use Rattle.program_typing.specs.tp_meaning.Programs.{Sort, definition}
use Rattle.program_typing.specs.tp_meaning.Outcomes.{State, ◌>>=◌, changed, taking}
use Rattle.program_typing.specs.tp_meaning.Activations.{Reached, assigned}
use Rattle.program_typing.specs.tp_meaning.Standard.{ordinal_text, text_of, number_assigned}
use Rattle.program_typing.specs.tp_meaning.Statements.{tested, numeral_or_error, number_taken, char_taken, text_taken, taken_as}
use Rattle.program_typing.specs.store_typing.types.Agreement.{AreConsistent}
use Rattle.program_typing.specs.store_typing.types.Forms.{Number}
use Rattle.program_typing.specs.store_typing.stores.Worlds.{Made, World, IsHeld}
use Rattle.program_typing.specs.store_typing.stores.Places.{IsAt, IsValueBy}
use Rattle.program_typing.specs.store_typing.stores.Stores.{Finds}
use Rattle.program_typing.proofs.store_typing_proofs.stores.Steps.{assigns}
use Rattle.program_typing.proofs.store_typing_proofs.stores.Grown.{grows_by, at_grows}
use Rattle.program_typing.proofs.store_typing_proofs.operators.Ranges.{is_held}
use Rattle.program_typing.proofs.store_typing_proofs.operators.OperandKinds.{ordinal_value}
use Rattle.program_typing.proofs.store_typing_proofs.standard.Variables.{ordinal_simple, number_put, text_put}
use Rattle.program_typing.specs.programs.Outcomes.{IsTypedState, world, Ends}
use Rattle.program_typing.proofs.programs.Ends.{ends_done, ends_changed}
use Rattle.type_soundness.proofs.expressions.Chains.{Kept, chain}
use Rattle.type_soundness.proofs.statements.Flows.{Ended, taking_ends, tested_ends}
use Rattle.type_soundness.proofs.statements.Inputs.{IsByte, char_bytes, string_bytes, number_bytes}

-- ---- the text of a value

enumeration_out : (low high : ℤ) → IsWritable (Some (type.Ordinal host.Enumeration low high)) → ⊥
enumeration_out low high (inl (inl e)) = absurd cc
enumeration_out low high (inl (inr (inl e))) = absurd cc
enumeration_out low high (inl (inr (inr h))) = h
enumeration_out low high (inr e) = absurd cc

-- a Char is no negative number
char_text : (w : World) (z : ℤ) → IsHeld w (Number host.Char) (Ordinal z) → Finds (λ (text : List ℕ). Unit {0}) (ordinal_text host.Char z)
char_text w (pos byte) held = tt
char_text w (negsuc n) held = absurd cc

ordinal_told : (w : World) (h : Host) (low high z : ℤ) → IsWritable (Some (type.Ordinal h low high)) → IsHeld w (Number (storage_of h low high)) (Ordinal z) → Finds (λ (text : List ℕ). Unit {0}) (ordinal_text h z)
ordinal_told w host.ShortInt low high z may held = tt
ordinal_told w host.Byte low high z may held = tt
ordinal_told w host.Integer low high z may held = tt
ordinal_told w host.Word low high z may held = tt
ordinal_told w host.LongInt low high z may held = tt
ordinal_told w host.Boolean low high z may held = tt
ordinal_told w host.Char low high z may held = char_text w z held
ordinal_told w host.Enumeration low high z may held = absurd (enumeration_out low high may)

none_some : (h : Host) → None ≡ Some h → ⊥
none_some h e = cc

-- other types may be neither written nor read
never_written : (o : Option TypeDef) → family_of o ≡ None → stored_as o ≡ None → (IsString o → ⊥) → IsWritable o → ⊥
never_written o f s never (inl (inl e)) = none_some host.LongInt (sym f ∙ e)
never_written o f s never (inl (inr (inl e))) = none_some host.Char (sym s ∙ e)
never_written o f s never (inl (inr (inr h))) = never h
never_written o f s never (inr e) = none_some host.Boolean (sym s ∙ e)

pub text_found : (w : World) (sort : Sort) (o : Option TypeDef) (v : Value) → IsWritable o → IsValueBy w sort o v → Finds (λ (text : List ℕ). Unit {0}) (text_of o v)
text_found w sort (Some (type.Ordinal h low high)) (Ordinal z) may is = ordinal_told w h low high z may is
text_found w sort (Some (type.Str max)) (Text bytes) may is = tt
text_found w sort (Some (type.Ordinal h low high)) v may is = absurd is
text_found w sort (Some (type.Str max)) v may is = absurd is
text_found w sort (Some (type.SetOf base)) v may is = absurd (never_written (Some (type.SetOf base)) refl refl (λ h. h) may)
text_found w sort (Some (type.ArrayOf i x)) v may is = absurd (never_written (Some (type.ArrayOf i x)) refl refl (λ h. h) may)
text_found w sort (Some (type.RecordOf fields)) v may is = absurd (never_written (Some (type.RecordOf fields)) refl refl (λ h. h) may)
text_found w sort (Some (type.PointerTo target)) v may is = absurd (never_written (Some (type.PointerTo target)) refl refl (λ h. h) may)
text_found w sort (Some (type.ObjectOf p d fields methods)) v may is = absurd (never_written (Some (type.ObjectOf p d fields methods)) refl refl (λ h. h) may)
text_found w sort (Some (type.Procedural header)) v may is = absurd (never_written (Some (type.Procedural header)) refl refl (λ h. h) may)
text_found w sort None v may is = absurd is

-- ---- items that are read

module _ (program : Program) (agreed : AreConsistent program) where
  abbrev seen_kept : Reached → Sort → Kept
  seen_kept at seen = record {
    holds = λ made. IsAt (world program made) at seen;
    keep = λ made more h. at_grows (world program made) (world program (made ++ more)) (grows_by (world program made) more) at seen h;
  }

  numeral_ends : (w : World) (o : Option ℤ) (s : State) → IsTypedState w s → Ends w Ended (numeral_or_error o s)
  numeral_ends w None s typed = tt
  numeral_ends w (Some z) s typed = ends_done Ended w z s typed tt

  number_taken_ends : (made : List Made) (checked : Bool) (at : Reached) (seen : Sort) (h : Host) (ty : Option TypeDef) (s : State) → IsAt (world program made) at seen → stored_as (definition seen) ≡ Some h → IsTypedState (world program made) s
      → Ends (world program made) Ended (number_taken checked at ty s)
  number_taken_ends made checked at seen h ty s is e typed =
      chain program (seen_kept at seen) Ended Ended made (taking number_read s) (λ numeral. numeral_or_error numeral >>= λ z. tested checked ty z >>= λ w. changed (number_assigned at w)) is
      (taking_ends (world program made) (λ numeral. Unit {0}) number_read s typed tt (number_bytes s.input typed.input)) (λ made1 numeral s1 is1 typed1 x.
      chain program (seen_kept at seen) Ended Ended made1 (numeral_or_error numeral s1) (λ z. tested checked ty z >>= λ w. changed (number_assigned at w)) is1 (numeral_ends (world program made1) numeral s1 typed1) (λ made2 z s2 is2 typed2 x.
      chain program (seen_kept at seen) Ended Ended made2 (tested checked ty z s2) (λ w. changed (number_assigned at w)) is2 (tested_ends (world program made2) (λ z. Unit {0}) checked ty z s2 typed2 tt) (λ made3 z' s3 is3 typed3 x.
      ends_changed (world program made3) (number_assigned at z') s3 typed3 (number_put (world program made3) agreed s3.store typed3.store at seen h z' is3 e))))

  char_taken_ends : (made : List Made) (at : Reached) (seen : Sort) (s : State) → IsAt (world program made) at seen → IsChar (definition seen) → IsTypedState (world program made) s → Ends (world program made) Ended (char_taken at s)
  char_taken_ends made at seen s is e typed =
      let bytes = char_bytes s.input typed.input in
      chain program (seen_kept at seen) (λ w byte. IsByte byte) Ended made (taking char_read s) (λ byte. changed (assigned at (Ordinal (pos byte)))) is
      (taking_ends (world program made) IsByte char_read s typed bytes.0 bytes.1) (λ made1 byte s1 is1 typed1 small.
      let held : IsHeld (world program made1) (Number host.Char) (Ordinal (pos byte)) = is_held host.Char (pos byte) (omega (arith, ints)) (omega (arith, ints, small)) in
      ends_changed (world program made1) (assigned at (Ordinal (pos byte))) s1 typed1
      (assigns (world program made1) agreed s1.store typed1.store at seen (Ordinal (pos byte)) is1 (ordinal_simple (definition seen) host.Char e) (ordinal_value (world program made1) seen host.Char (pos byte) e held)))

  text_taken_ends : (made : List Made) (at : Reached) (seen : Sort) (size : ℕ) (s : State) → IsAt (world program made) at seen → IsString (definition seen) → IsTypedState (world program made) s → Ends (world program made) Ended (text_taken at size s)
  text_taken_ends made at seen size s is e typed =
      let bytes = string_bytes size s.input typed.input in
      chain program (seen_kept at seen) (λ w text. All IsByte text) Ended made (taking (string_read size) s) (λ text. changed (assigned at (Text text))) is
      (taking_ends (world program made) (All IsByte) (string_read size) s typed bytes.0 bytes.1) (λ made1 text s1 is1 typed1 small.
      ends_changed (world program made1) (assigned at (Text text)) s1 typed1 (text_put (world program made1) agreed s1.store typed1.store at seen text is1 e small))

  module _ (made : List Made) (checked : Bool) (at : Reached) (seen : Sort) (s : State) (is : IsAt (world program made) at seen) (typed : IsTypedState (world program made) s) where
    abbrev Reads : Option TypeDef → Type 0
    Reads o = Ends (world program made) Ended (taken_as checked at o s)

    unreadable : (o : Option TypeDef) → family_of o ≡ None → stored_as o ≡ None → (IsString o → ⊥) → IsReadable o → ⊥
    unreadable o f st never may = never_written o f st never (inl may)

    integer_read : (h : Host) (low high : ℤ) → definition seen ≡ Some (type.Ordinal h low high) → Ends (world program made) Ended (number_taken checked at (Some (type.Ordinal h low high)) s)
    integer_read h low high e = number_taken_ends made checked at seen (storage_of h low high) (Some (type.Ordinal h low high)) s is (ap stored_as e) typed

    ordinal_read : (h : Host) (low high : ℤ) → definition seen ≡ Some (type.Ordinal h low high) → IsReadable (Some (type.Ordinal h low high)) → Reads (Some (type.Ordinal h low high))
    ordinal_read host.ShortInt low high e may = integer_read host.ShortInt low high e
    ordinal_read host.Byte low high e may = integer_read host.Byte low high e
    ordinal_read host.Integer low high e may = integer_read host.Integer low high e
    ordinal_read host.Word low high e may = integer_read host.Word low high e
    ordinal_read host.LongInt low high e may = integer_read host.LongInt low high e
    ordinal_read host.Char low high e may = char_taken_ends made at seen s is (ap stored_as e) typed
    ordinal_read host.Boolean low high e (inl f) = absurd cc
    ordinal_read host.Boolean low high e (inr (inl f)) = absurd cc
    ordinal_read host.Boolean low high e (inr (inr h)) = absurd h
    ordinal_read host.Enumeration low high e may = absurd (enumeration_out low high (inl may))

    read_by : (o : Option TypeDef) → definition seen ≡ o → IsReadable o → Reads o
    read_by (Some (type.Ordinal h low high)) e may = ordinal_read h low high e may
    read_by (Some (type.Str max)) e may = text_taken_ends made at seen max s is (subst IsString (sym e) tt) typed
    read_by (Some (type.SetOf base)) e may = absurd (unreadable (Some (type.SetOf base)) refl refl (λ h. h) may)
    read_by (Some (type.ArrayOf i x)) e may = absurd (unreadable (Some (type.ArrayOf i x)) refl refl (λ h. h) may)
    read_by (Some (type.RecordOf fields)) e may = absurd (unreadable (Some (type.RecordOf fields)) refl refl (λ h. h) may)
    read_by (Some (type.PointerTo target)) e may = absurd (unreadable (Some (type.PointerTo target)) refl refl (λ h. h) may)
    read_by (Some (type.ObjectOf p d fields methods)) e may = absurd (unreadable (Some (type.ObjectOf p d fields methods)) refl refl (λ h. h) may)
    read_by (Some (type.Procedural header)) e may = absurd (unreadable (Some (type.Procedural header)) refl refl (λ h. h) may)
    read_by None e may = absurd (unreadable None refl refl (λ h. h) may)

    -- a place is filled by its type
    pub item_read : IsReadable (definition seen) → Ends (world program made) Ended (taken_as checked at (definition seen) s)
    item_read may = read_by (definition seen) refl may
