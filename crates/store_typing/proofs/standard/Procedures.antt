-- Standard procedures that change a variable.
use Rattle.std.proofs.Common.{◌≡◌, ℕ, zero, suc, ◌+◌, ◌<◌, Bool, true, false, List, [], ◌∷◌, length, Some, None, refl, sym, subst, arith, take, drop, ◌++◌}
use Rattle.std.specs.Prelude.{◌==◌, ◌%◌, ◌/◌, nat_lt, if◌then◌else◌, ℤ, pos, negsuc, ◌+ℤ◌, neg_ℤ, All, Option, replicate}
use Rattle.std.proofs.lemmas.List.Elements.{All-nil, All-cons, All-append, All-take, All-drop, All-replicate}
use Rattle.std.specs.Fmt.{digit_glyph, digits_onto, digits, decimal}
use Rattle.tp_meaning.specs.type_layout.declared.definitions.Host.{Host}
use Rattle.tp_meaning.specs.type_layout.declared.definitions.Host.TheVariants as host
use Rattle.tp_meaning.specs.type_layout.declared.definitions.TypeDef.{TypeDef}
use Rattle.tp_meaning.specs.type_layout.declared.definitions.TypeDef.TheVariants as type
use Rattle.tp_meaning.specs.common_values.Strings.{longest, byte_count, bytes_before, deleted, inserted}
use Rattle.tp_meaning.specs.common_values.Numerals.{val_of}
use Rattle.tp_meaning.specs.common_values.Written.{blank, blanks_due, padded, integer_text}
use Rattle.tp_meaning.specs.typed_tree.Standard as routine
use Rattle.tp_meaning.specs.typed_tree.type_fits.Fits.{stored_as, IsSome, IsInteger, IsString}
use Rattle.tp_meaning.specs.typed_tree.type_fits.Standard.{Integer, Text as TextSlot, IntegerVariable, OrdinalVariable, TextVariable}
use Rattle.tp_meaning.specs.Trees.{Ordinal, Text}
use Rattle.tp_meaning.specs.Found.{Found}
use Rattle.tp_meaning.specs.Shapes.{kept_as}
use Rattle.tp_meaning.specs.Store.{Store, text_at}
use Rattle.tp_meaning.specs.Programs.{Sort, definition}
use Rattle.tp_meaning.specs.Activations.{Reached, assigned, number_in}
use Rattle.tp_meaning.specs.Standard.{Operand, Given, Named, Inc, Dec, Delete, Insert, Str, Val, text_of, field_text, number_assigned, moved, moving, deleting, inserting, text_assigned, telling, value_assigned, valuing}
use Rattle.store_typing.specs.types.Agreement.{AreConsistent}
use Rattle.store_typing.specs.types.Forms.{Number}
use Rattle.store_typing.specs.stores.Worlds.{World, IsHeld}
use Rattle.store_typing.specs.stores.Places.{IsAt, IsText}
use Rattle.store_typing.specs.stores.Stores.{IsTypedStore, Finds}
use Rattle.store_typing.proofs.stores.Paths.{finds_bind}
use Rattle.store_typing.proofs.operators.Stored.{ordinal_if_integer}
use Rattle.store_typing.specs.standard.Operands.{IsOperand}
use Rattle.store_typing.specs.standard.Laws.{IsTypedLater, IsSoundCall}
use Rattle.store_typing.proofs.standard.Arguments.{NumberGiven, integer_given, text_given, integer_named, ordinal_named, text_named}
use Rattle.store_typing.proofs.standard.Variables.{number_found, number_put, text_in_found, text_put, later}

abbrev IsByte : ℕ → Type 0
IsByte byte = byte < 256

-- ---- the text of a number

glyph_small : (n : ℕ) → digit_glyph false (n % 10) < 256
glyph_small n = by (nat_lt (n % 10) 10) where
  by : (t : Bool) → (if t then 48 + n % 10 else 87 + n % 10) < 256
  by true = omega arith
  by false = omega arith

digits_if : (k n : ℕ) (acc : List ℕ) (t : Bool) → All IsByte (digit_glyph false (n % 10) ∷ acc) → All IsByte (digits_onto k 10 false (n / 10) (digit_glyph false (n % 10) ∷ acc))
    → All IsByte (if t then digit_glyph false (n % 10) ∷ acc else digits_onto k 10 false (n / 10) (digit_glyph false (n % 10) ∷ acc))
digits_if k n acc true one more = one
digits_if k n acc false one more = more

digits_small : (k n : ℕ) (acc : List ℕ) → All IsByte acc → All IsByte (digits_onto k 10 false n acc)
digits_small zero n acc each = each
digits_small (suc k) n acc each =
    let here = All-cons IsByte (digit_glyph false (n % 10)) acc (glyph_small n) each in
    digits_if k n acc (n / 10 == 0) here (digits_small k (n / 10) (digit_glyph false (n % 10) ∷ acc) here)

decimal_small : (n : ℕ) → All IsByte (decimal n)
unfolding digits
decimal_small n = digits_small 64 n [] (All-nil IsByte)

integer_small : (z : ℤ) → All IsByte (integer_text z)
integer_small (pos n) = decimal_small n
integer_small (negsuc n) = All-cons IsByte 45 (decimal (suc n)) (omega arith) (decimal_small (suc n))

padded_small : (width : ℤ) (text : List ℕ) → All IsByte text → All IsByte (padded width text)
padded_small width text each = All-append IsByte (replicate (blanks_due width (length text)) blank) text (All-replicate IsByte (blanks_due width (length text)) blank (omega arith)) each

told_integer : (o : Option TypeDef) (z : ℤ) → IsInteger o → Finds (All IsByte) (text_of o (Ordinal z))
told_integer (Some (type.Ordinal host.ShortInt low high)) z is = integer_small z
told_integer (Some (type.Ordinal host.Byte low high)) z is = integer_small z
told_integer (Some (type.Ordinal host.Integer low high)) z is = integer_small z
told_integer (Some (type.Ordinal host.Word low high)) z is = integer_small z
told_integer (Some (type.Ordinal host.LongInt low high)) z is = integer_small z
told_integer (Some (type.Ordinal host.Char low high)) z is = absurd cc
told_integer (Some (type.Ordinal host.Boolean low high)) z is = absurd cc
told_integer (Some (type.Ordinal host.Enumeration low high)) z is = absurd cc
told_integer o z is = absurd cc

integer_type : (w : World) (x : Operand) → IsOperand w Integer x → (n : NumberGiven w x) → IsInteger (definition n.sort)
integer_type w x is n = let fits = subst (IsOperand w Integer) n.is is in fits.0

deleted_small : (text : List ℕ) (place count : ℤ) → IsText text → All IsByte (deleted text place count)
deleted_small text place count is =
    let n : ℕ = bytes_before place in
    All-append IsByte (take n text) (drop (byte_count count) (drop n text)) (All-take IsByte n text is.each) (All-drop IsByte (byte_count count) (drop n text) (All-drop IsByte n text is.each))

three_small : (xs ys zs : List ℕ) → All IsByte xs → All IsByte ys → All IsByte zs → All IsByte (xs ++ ys ++ zs)
three_small xs ys zs p q r = All-append IsByte (xs ++ ys) zs (All-append IsByte xs ys p q) r

inserted_small : (part text : List ℕ) (place : ℤ) → IsText part → IsText text → All IsByte (inserted part text place longest)
inserted_small part text place is_part is =
    let n : ℕ = bytes_before place in
    let whole : List ℕ = take n text ++ part ++ drop n text in
    let each : All IsByte whole = three_small (take n text) part (drop n text) (All-take IsByte n text is.each) is_part.each (All-drop IsByte n text is.each) in
    All-take IsByte longest (take longest whole) (All-take IsByte longest whole each)

module _ (w : World) (agreed : AreConsistent w.program) (store : Store) (typed : IsTypedStore w store) where
  abbrev Keeps : Found Store → Type 0
  Keeps x = Finds (IsTypedStore w) x

  changes : (x : Found Store) → Keeps x → (◌≡◌ {A = Option Sort} None None) × Finds (IsTypedLater w) x
  changes x is = (refl, later w agreed store typed x is)

  -- ---- Inc and Dec

  moved_keeps : (at : Reached) (seen : Sort) (by : ℤ) → IsAt w at seen → IsSome (stored_as (definition seen)) → Keeps (moved at by store)
  moved_keeps at seen by is some = with_host (stored_as (definition seen)) refl some where
    with_host : (s : Option Host) → stored_as (definition seen) ≡ s → IsSome s → Keeps (moved at by store)
    with_host None e some = absurd some
    with_host (Some h) e some =
        finds_bind (λ z. IsHeld w (Number h) (Ordinal z)) (IsTypedStore w) (number_in at store) (λ z. number_assigned at (z +ℤ by) store) (number_found w agreed store typed at seen h is e) (λ z held. number_put w agreed store typed at seen h (z +ℤ by) is e)

  moving_one : (f : ℤ → ℤ) (x : Operand) → IsOperand w OrdinalVariable x → Keeps (moving f (x ∷ []) store)
  moving_one f x is =
      let p = ordinal_named w x is in
      subst (λ (y : Operand). Keeps (moving f (y ∷ []) store)) (sym p.is) (moved_keeps p.at p.seen (f (pos 1)) p.place p.fits)

  moving_by : (f : ℤ → ℤ) (x y : Operand) → IsOperand w OrdinalVariable x → IsOperand w Integer y → Keeps (moving f (x ∷ y ∷ []) store)
  moving_by f x y is_x is_y =
      let p = ordinal_named w x is_x in
      let n = integer_given w y is_y in
      subst (λ (a : Operand). Keeps (moving f (a ∷ y ∷ []) store)) (sym p.is)
      (subst (λ (b : Operand). Keeps (moving f (Named p.at ∷ b ∷ []) store)) (sym n.is) (moved_keeps p.at p.seen (f n.z) p.place p.fits))

  pub inc_call : (x : Operand) → IsOperand w OrdinalVariable x → IsSoundCall w store routine.inc None (x ∷ [])
  inc_call x is = record { one = Inc; is = refl; sound = changes (moving (λ by. by) (x ∷ []) store) (moving_one (λ by. by) x is) }

  pub inc_by_call : (x y : Operand) → IsOperand w OrdinalVariable x → IsOperand w Integer y → IsSoundCall w store routine.inc None (x ∷ y ∷ [])
  inc_by_call x y is_x is_y = record { one = Inc; is = refl; sound = changes (moving (λ by. by) (x ∷ y ∷ []) store) (moving_by (λ by. by) x y is_x is_y) }

  pub dec_call : (x : Operand) → IsOperand w OrdinalVariable x → IsSoundCall w store routine.dec None (x ∷ [])
  dec_call x is = record { one = Dec; is = refl; sound = changes (moving neg_ℤ (x ∷ []) store) (moving_one neg_ℤ x is) }

  pub dec_by_call : (x y : Operand) → IsOperand w OrdinalVariable x → IsOperand w Integer y → IsSoundCall w store routine.dec None (x ∷ y ∷ [])
  dec_by_call x y is_x is_y = record { one = Dec; is = refl; sound = changes (moving neg_ℤ (x ∷ y ∷ []) store) (moving_by neg_ℤ x y is_x is_y) }

  -- ---- Delete and Insert

  pub delete_call : (x y z : Operand) → IsOperand w TextVariable x → IsOperand w Integer y → IsOperand w Integer z → IsSoundCall w store routine.delete None (x ∷ y ∷ z ∷ [])
  delete_call x y z is_x is_y is_z =
      let p = text_named w x is_x in
      let m = integer_given w y is_y in
      let n = integer_given w z is_z in
      let done = finds_bind IsText (IsTypedStore w) (text_at store p.at.spot) (λ text. assigned p.at (Text (deleted text m.z n.z)) store) (text_in_found w agreed store typed p.at p.seen p.place p.fits)
      (λ text is. text_put w agreed store typed p.at p.seen (deleted text m.z n.z) p.place p.fits (deleted_small text m.z n.z is)) in
      record {
        one = Delete;
        is = refl;
        sound = changes (deleting (x ∷ y ∷ z ∷ []) store)
            (subst (λ (a : Operand). Keeps (deleting (a ∷ y ∷ z ∷ []) store)) (sym p.is)
            (subst (λ (b : Operand). Keeps (deleting (Named p.at ∷ b ∷ z ∷ []) store)) (sym m.is)
            (subst (λ (c : Operand). Keeps (deleting (Named p.at ∷ Given m.sort (Ordinal m.z) ∷ c ∷ []) store)) (sym n.is) done)));
      }

  pub insert_call : (x y z : Operand) → IsOperand w TextSlot x → IsOperand w TextVariable y → IsOperand w Integer z → IsSoundCall w store routine.insert None (x ∷ y ∷ z ∷ [])
  insert_call x y z is_x is_y is_z =
      let t = text_given w x is_x in
      let p = text_named w y is_y in
      let n = integer_given w z is_z in
      let done = finds_bind IsText (IsTypedStore w) (text_at store p.at.spot) (λ text. assigned p.at (Text (inserted t.bytes text n.z longest)) store) (text_in_found w agreed store typed p.at p.seen p.place p.fits)
      (λ text is. text_put w agreed store typed p.at p.seen (inserted t.bytes text n.z longest) p.place p.fits (inserted_small t.bytes text n.z t.text is)) in
      record {
        one = Insert;
        is = refl;
        sound = changes (inserting (x ∷ y ∷ z ∷ []) store)
            (subst (λ (a : Operand). Keeps (inserting (a ∷ y ∷ z ∷ []) store)) (sym t.is)
            (subst (λ (b : Operand). Keeps (inserting (Given t.sort (Text t.bytes) ∷ b ∷ z ∷ []) store)) (sym p.is)
            (subst (λ (c : Operand). Keeps (inserting (Given t.sort (Text t.bytes) ∷ Named p.at ∷ c ∷ []) store)) (sym n.is) done)));
      }

  -- ---- Str and Val

  told_keeps : (at : Reached) (seen : Sort) (sort : Sort) (z width : ℤ) → IsAt w at seen → IsString (definition seen) → IsInteger (definition sort) → Keeps (text_assigned at sort (Ordinal z) width store)
  told_keeps at seen sort z width is s integer =
      finds_bind (All IsByte) (IsTypedStore w) (text_of (definition sort) (Ordinal z)) (λ text. assigned at (Text (field_text width text)) store) (told_integer (definition sort) z integer)
      (λ text each. text_put w agreed store typed at seen (field_text width text) is s (padded_small (kept_as host.Integer width) text each))

  pub text_call : (x y : Operand) → IsOperand w Integer x → IsOperand w TextVariable y → IsSoundCall w store routine.str None (x ∷ y ∷ [])
  text_call x y is_x is_y =
      let n = integer_given w x is_x in
      let p = text_named w y is_y in
      let done = told_keeps p.at p.seen n.sort n.z (pos 0) p.place p.fits (integer_type w x is_x n) in
      record {
        one = Str;
        is = refl;
        sound = changes (telling (x ∷ y ∷ []) store)
            (subst (λ (a : Operand). Keeps (telling (a ∷ y ∷ []) store)) (sym n.is) (subst (λ (b : Operand). Keeps (telling (Given n.sort (Ordinal n.z) ∷ b ∷ []) store)) (sym p.is) done));
      }

  pub text_in_call : (x y z : Operand) → IsOperand w Integer x → IsOperand w Integer y → IsOperand w TextVariable z → IsSoundCall w store routine.str None (x ∷ y ∷ z ∷ [])
  text_in_call x y z is_x is_y is_z =
      let n = integer_given w x is_x in
      let m = integer_given w y is_y in
      let p = text_named w z is_z in
      let done = told_keeps p.at p.seen n.sort n.z m.z p.place p.fits (integer_type w x is_x n) in
      record {
        one = Str;
        is = refl;
        sound = changes (telling (x ∷ y ∷ z ∷ []) store)
            (subst (λ (a : Operand). Keeps (telling (a ∷ y ∷ z ∷ []) store)) (sym n.is)
            (subst (λ (b : Operand). Keeps (telling (Given n.sort (Ordinal n.z) ∷ b ∷ z ∷ []) store)) (sym m.is)
            (subst (λ (c : Operand). Keeps (telling (Given n.sort (Ordinal n.z) ∷ Given m.sort (Ordinal m.z) ∷ c ∷ []) store)) (sym p.is) done)));
      }

  valued_keeps : (at code : Reached) (seen other : Sort) (result : ℤ × ℕ) → IsAt w at seen → IsInteger (definition seen) → IsAt w code other → IsInteger (definition other) → Keeps (value_assigned at code result store)
  valued_keeps at code seen other result is i is' i' =
      let h = ordinal_if_integer (definition seen) i in
      let h' = ordinal_if_integer (definition other) i' in
      finds_bind (IsTypedStore w) (IsTypedStore w) (number_assigned at result.0 store) (number_assigned code (pos result.1)) (number_put w agreed store typed at seen h.0 result.0 is h.1)
      (λ after t. number_put w agreed after t code other h'.0 (pos result.1) is' h'.1)

  pub number_call : (x y z : Operand) → IsOperand w TextSlot x → IsOperand w IntegerVariable y → IsOperand w IntegerVariable z → IsSoundCall w store routine.val None (x ∷ y ∷ z ∷ [])
  number_call x y z is_x is_y is_z =
      let t = text_given w x is_x in
      let p = integer_named w y is_y in
      let q = integer_named w z is_z in
      let done = valued_keeps p.at q.at p.seen q.seen (val_of t.bytes) p.place p.fits q.place q.fits in
      record {
        one = Val;
        is = refl;
        sound = changes (valuing (x ∷ y ∷ z ∷ []) store)
            (subst (λ (a : Operand). Keeps (valuing (a ∷ y ∷ z ∷ []) store)) (sym t.is)
            (subst (λ (b : Operand). Keeps (valuing (Given t.sort (Text t.bytes) ∷ b ∷ z ∷ []) store)) (sym p.is)
            (subst (λ (c : Operand). Keeps (valuing (Given t.sort (Text t.bytes) ∷ Named p.at ∷ c ∷ []) store)) (sym q.is) done)));
      }
