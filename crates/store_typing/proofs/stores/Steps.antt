-- Loading, assigning and copying at places.
use Rattle.std.proofs.Common.{◌≡◌, ℕ, suc, ◌+◌, ◌<◌, List, [], ◌∷◌, ◌++◌, Some, None, refl, sym, ap, subst, ◌∙◌, arith}
use Rattle.std.proofs.Common.{inl, inr}
use Rattle.std.specs.Prelude.{◌⊎◌, ℤ, Option, Ok}
use Rattle.std.proofs.lemmas.Option.{same_Some}
use Rattle.tp_meaning.specs.type_layout.declared.definitions.TypeId.{TypeId}
use Rattle.tp_meaning.specs.type_layout.declared.definitions.Host.{Host}
use Rattle.tp_meaning.specs.type_layout.declared.definitions.Host.TheVariants as host
use Rattle.tp_meaning.specs.type_layout.declared.definitions.TypeDef.{TypeDef}
use Rattle.tp_meaning.specs.type_layout.declared.definitions.TypeDef.TheVariants as type
use Rattle.tp_meaning.specs.type_layout.Layouts.{bounds_at}
use Rattle.tp_meaning.specs.type_layout.Storage.{storage_of}
use Rattle.tp_meaning.specs.type_layout.Table.{Table, IsObject}
use Rattle.tp_meaning.specs.typed_tree.type_fits.Fits.{stored_as, IsStructured}
use Rattle.tp_meaning.specs.Trees.{Key, Spot, Value, Ordinal, Text, Elements, Nil, Block, Code, Class, At, Void, Tree, Leaf, Tip, Fork, holding}
use Rattle.tp_meaning.specs.Found.{Found, ◌>>=◌}
use Rattle.tp_meaning.specs.Shapes.{Part, FieldPart, ClassPart, parts_at, new_tree}
use Rattle.tp_meaning.specs.Programs.{Sort, definition, class_key}
use Rattle.tp_meaning.specs.Store.{Store, tree_at, value_in, value_at, text_in, text_at, length_in, length_at, number_of, pointer_of, routine_of, bytes_of, set_over, text_over, assigned_over, fields_over, copied_over, replaced}
use Rattle.tp_meaning.specs.Activations.{Reached, loaded_as, loaded, assigned, copied, passed}
use Rattle.store_typing.specs.types.Declared.{declared, declared_header, AreAlike}
use Rattle.store_typing.specs.types.Agreement.{IsKnown, IsShort, AreConsistent, IsOfLine}
use Rattle.store_typing.specs.types.Forms.{Held, Number, members_between, all_members, Link, Routine, Form, Cell, letter, repeated, line, part_forms, form_of, form_at, form_beside}
use Rattle.store_typing.specs.types.Laws.{AgreementLaws}
use Rattle.store_typing.proofs.types.Agreed.{lawful, defined}
use Rattle.store_typing.proofs.types.Whole.{base_bounds}
use Rattle.store_typing.proofs.stores.Sets.{assigned-lies, held-wide}
use Rattle.store_typing.proofs.types.SameForms.{whole}
use Rattle.store_typing.proofs.types.Lines.{agreement_laws}
use Rattle.store_typing.specs.stores.Worlds.{World, IsHeld, HasForm}
use Rattle.store_typing.specs.stores.Places.{Covers, Same, Heir, IsPlaceOf, IsSeenAs, Shared, Letter, Whole, IsAt, IsText, IsValueBy, IsValueOf}
use Rattle.store_typing.specs.stores.Stores.{IsTypedStore, Finds}
use Rattle.store_typing.proofs.stores.Paths.{finds_bind, finds_more, cell_read}
use Rattle.store_typing.proofs.stores.NewTrees.{new_has}
use Rattle.store_typing.proofs.stores.Kept.{form_found, replaced_keeps}
use Rattle.store_typing.proofs.stores.Seen.{place_seen, value_shared}
use Rattle.store_typing.proofs.stores.Texts.{text_read, length_read, text_has}

not_structured : ⊥ ⊎ ⊥ ⊎ ⊥ → ⊥
not_structured is = grind arith

-- ---- values of each kind

module _ (w : World) where
  ordinal_held : (h : Host) (v : Value) → IsHeld w (Number h) v → Finds (HasForm w (Cell (Number h))) (number_of v >>= λ z. Ok (holding (Ordinal z)))
  ordinal_held h (Ordinal z) is = is
  ordinal_held h v is = absurd is

  set_held : (bounds : ℤ × ℤ) (v : Value) → IsHeld w all_members v → Finds (HasForm w (Cell (members_between bounds))) (set_over bounds v)
  set_held bounds (Elements set) is = assigned-lies bounds.0 bounds.1 set
  set_held bounds v is = absurd is

  pointer_held : (target : Option Key) (v : Value) → IsHeld w (Link target) v → Finds (HasForm w (Cell (Link target))) (pointer_of v >>= λ p. Ok (holding p))
  pointer_held target Nil is = tt
  pointer_held target (Block serial) is = is
  pointer_held target v is = absurd is

  routine_held : (header : _) (v : Value) → IsHeld w (Routine header) v → Finds (HasForm w (Cell (Routine header))) (routine_of v >>= λ routine. Ok (holding (Code routine)))
  routine_held header (Code routine) is = is
  routine_held header v is = absurd is

  text_held : (sort : Sort) (max : ℕ) (old : Tree) (v : Value) → max < 256 → HasForm w (repeated (max + 1) letter) old → IsValueBy w sort (Some (type.Str max)) v
      → Finds (HasForm w (repeated (max + 1) letter)) (bytes_of v >>= λ bytes. text_over bytes old)
  text_held sort max old (Text bytes) short has is =
      let size : suc max ≡ max + 1 = omega arith in
      subst (λ n. Finds (HasForm w (repeated n letter)) (text_over bytes old)) size (text_has w max bytes old short is.each (subst (λ n. HasForm w (repeated n letter) old) (sym size) has))
  text_held sort max old v short has is = absurd is

  -- a value of an ordinal type that is stored so
  pub as_ordinal : (sort : Sort) (h : Host) (v : Value) (o : Option TypeDef) → stored_as o ≡ Some h → IsHeld w (Number h) v → IsValueBy w sort o v
  as_ordinal sort h v (Some (type.Ordinal host low high)) is held = subst (λ (x : Host). IsHeld w (Number x) v) (sym (same_Some (storage_of host low high) h is)) held
  as_ordinal sort h v (Some (type.Str max)) is held = absurd cc
  as_ordinal sort h v (Some (type.SetOf base)) is held = absurd cc
  as_ordinal sort h v (Some (type.ArrayOf i e)) is held = absurd cc
  as_ordinal sort h v (Some (type.RecordOf fields)) is held = absurd cc
  as_ordinal sort h v (Some (type.PointerTo target)) is held = absurd cc
  as_ordinal sort h v (Some (type.ObjectOf p d fields methods)) is held = absurd cc
  as_ordinal sort h v (Some (type.Procedural header)) is held = absurd cc
  as_ordinal sort h v None is held = absurd cc

  pub of_ordinal : (sort : Sort) (h : Host) (v : Value) (o : Option TypeDef) → stored_as o ≡ Some h → IsValueBy w sort o v → IsHeld w (Number h) v
  of_ordinal sort h v (Some (type.Ordinal host low high)) is held = subst (λ (x : Host). IsHeld w (Number x) v) (same_Some (storage_of host low high) h is) held
  of_ordinal sort h v (Some (type.Str max)) is held = absurd cc
  of_ordinal sort h v (Some (type.SetOf base)) is held = absurd cc
  of_ordinal sort h v (Some (type.ArrayOf i e)) is held = absurd cc
  of_ordinal sort h v (Some (type.RecordOf fields)) is held = absurd cc
  of_ordinal sort h v (Some (type.PointerTo target)) is held = absurd cc
  of_ordinal sort h v (Some (type.ObjectOf p d fields methods)) is held = absurd cc
  of_ordinal sort h v (Some (type.Procedural header)) is held = absurd cc
  of_ordinal sort h v None is held = absurd cc

  -- the fields of an instance of an ancestor, which come from another instance
  fields_have : (forms : TypeId → Form) (own other : Option Key) (parts : List Part) (more rest : List Form) (old new : Tree) → HasForm w (line (part_forms forms own parts ++ more)) old
      → HasForm w (line (part_forms forms other parts ++ rest)) new → HasForm w (line (part_forms forms own parts ++ more)) (fields_over parts old new)
  fields_have forms own other [] more rest old new has from = has
  fields_have forms own other (part ∷ parts) more rest (Leaf cell) new has from = absurd has
  fields_have forms own other (part ∷ parts) more rest Tip new has from = absurd has
  fields_have forms own other (part ∷ parts) more rest (Fork old olds) (Leaf cell) has from = absurd from
  fields_have forms own other (part ∷ parts) more rest (Fork old olds) Tip has from = absurd from
  fields_have forms own other (FieldPart ty ∷ parts) more rest (Fork old olds) (Fork new news) has from = (from.0, fields_have forms own other parts more rest olds news has.1 from.1)
  fields_have forms own other (ClassPart ∷ parts) more rest (Fork old olds) (Fork new news) has from = (has.0, fields_have forms own other parts more rest olds news has.1 from.1)

no_ordinal : (o : Option TypeDef) (h : Host) → stored_as o ≡ Some h → IsStructured o → ⊥
no_ordinal (Some (type.Ordinal host low high)) h e structured = not_structured structured
no_ordinal (Some (type.Str max)) h e structured = not_structured structured
no_ordinal (Some (type.SetOf base)) h e structured = not_structured structured
no_ordinal (Some (type.ArrayOf i x)) h e structured = absurd cc
no_ordinal (Some (type.RecordOf fields)) h e structured = absurd cc
no_ordinal (Some (type.PointerTo target)) h e structured = not_structured structured
no_ordinal (Some (type.ObjectOf p d fields methods)) h e structured = absurd cc
no_ordinal (Some (type.Procedural header)) h e structured = not_structured structured
no_ordinal None h e structured = absurd cc

structured_alike : (a b : Table) (one other : TypeDef) → AreAlike a one b other → IsStructured (Some one) → IsStructured (Some other)
structured_alike a b (type.ArrayOf i e) (type.ArrayOf i' e') is h = inl tt
structured_alike a b (type.RecordOf fields) (type.RecordOf fields') is h = inr (inl tt)
structured_alike a b (type.ObjectOf p d fields methods) (type.ObjectOf p' d' fields' methods') is h = inr (inr tt)
structured_alike a b (type.Ordinal host low high) other is h = absurd (not_structured h)
structured_alike a b (type.Str max) other is h = absurd (not_structured h)
structured_alike a b (type.SetOf base) other is h = absurd (not_structured h)
structured_alike a b (type.PointerTo target) other is h = absurd (not_structured h)
structured_alike a b (type.Procedural header) other is h = absurd (not_structured h)
structured_alike a b one other is h = absurd is

module _ (w : World) (agreed : AreConsistent w.program) where
  pub structured_seen : (a b : Sort) → IsKnown w.program a → IsKnown w.program b → class_key a ≡ class_key b → IsStructured (definition a) → IsStructured (definition b)
  structured_seen a b ka kb same h =
      subst IsStructured (sym kb.is) (structured_alike a.table b.table ka.one kb.one (agreed.alike a b ka.one kb.one ka kb ka.is kb.is same) (subst IsStructured ka.is h))

  -- ---- forms of places

  pub same_form : (sort : Sort) (form : Form) → (IsObject (definition sort) → ⊥) → Covers w.program sort form → form ≡ form_at sort
  same_form sort form never (Same same) = same
  same_form sort form never (Heir own ko ks object of is) = absurd (never object)

  -- a place that covers an object type: the class that its own type has, and the parts
  pub record Instance (sort : Sort) (form : Form) : Type 0 where
    pub own : Sort
    pub known : IsKnown w.program own
    pub of : IsOfLine own (class_key sort)
    pub form_is : form ≡ form_at own
    pub more : List Form
    pub is : form ≡ line (part_forms (form_beside sort.table) (class_key own) (parts_at sort.table.types sort.ty) ++ more)

  pub heir_parts : (own sort : Sort) (form : Form) → IsKnown w.program own → IsKnown w.program sort → IsObject (definition sort) → IsOfLine own (class_key sort) → form ≡ form_at own
      → (more : List Form) × (form ≡ line (part_forms (form_beside sort.table) (class_key own) (parts_at sort.table.types sort.ty) ++ more))
  heir_parts own sort form ko ks object of is =
      let laws : AgreementLaws w.program = agreement_laws w.program agreed in
      let parts = laws.heirs own sort ko ks of object in
      (parts.0, is ∙ parts.1)

  heir_instance : (own sort : Sort) (form : Form) → IsKnown w.program own → IsKnown w.program sort → IsObject (definition sort) → IsOfLine own (class_key sort) → form ≡ form_at own → Instance sort form
  heir_instance own sort form ko ks object of is =
      let parts = heir_parts own sort form ko ks object of is in
      record { own = own; known = ko; of = of; form_is = is; more = parts.0; is = parts.1 }

  pub instance_of : (sort : Sort) (form : Form) → IsKnown w.program sort → IsObject (definition sort) → Covers w.program sort form → Instance sort form
  instance_of sort form ks object (Same same) = heir_instance sort sort form ks ks object (record { steps = 0; ty = sort.ty; reached = refl; same = refl }) same
  instance_of sort form ks object (Heir own ko k o of is) = heir_instance own sort form ko ks object of is

  copied_has : (sort : Sort) (one : TypeDef) (form other : Form) (old new : Tree) → IsKnown w.program sort → definition sort ≡ Some one → IsStructured (Some one)
      → Covers w.program sort form → Covers w.program sort other → HasForm w form old → HasForm w other new → Finds (HasForm w form) (copied_over sort.table.types sort.ty (Some one) old new)
  copied_has sort (type.ArrayOf i e) form other old new ks is structured to from has has' =
      let never : IsObject (definition sort) → ⊥ = λ o. subst IsObject is o in
      subst (λ (f : Form). HasForm w f new) (same_form sort other never from ∙ sym (same_form sort form never to)) has'
  copied_has sort (type.RecordOf fields) form other old new ks is structured to from has has' =
      let never : IsObject (definition sort) → ⊥ = λ o. subst IsObject is o in
      subst (λ (f : Form). HasForm w f new) (same_form sort other never from ∙ sym (same_form sort form never to)) has'
  copied_has sort (type.ObjectOf p d fields methods) form other old new ks is structured to from has has' =
      let object : IsObject (definition sort) = subst IsObject (sym is) tt in
      let a = instance_of sort form ks object to in
      let b = instance_of sort other ks object from in
      let parts : List Part = parts_at sort.table.types sort.ty in
      subst (λ (f : Form). HasForm w f (fields_over parts old new)) (sym a.is)
      (fields_have w (form_beside sort.table) (class_key a.own) (class_key b.own) parts a.more b.more old new (subst (λ (f : Form). HasForm w f old) a.is has) (subst (λ (f : Form). HasForm w f new) b.is has'))
  copied_has sort (type.Ordinal host low high) form other old new ks is structured to from has has' = absurd (not_structured structured)
  copied_has sort (type.Str max) form other old new ks is structured to from has has' = absurd (not_structured structured)
  copied_has sort (type.SetOf base) form other old new ks is structured to from has has' = absurd (not_structured structured)
  copied_has sort (type.PointerTo target) form other old new ks is structured to from has has' = absurd (not_structured structured)
  copied_has sort (type.Procedural header) form other old new ks is structured to from has has' = absurd (not_structured structured)

  -- a value of a type is assigned to a variable of the type
  assigned_has : (sort : Sort) (one : TypeDef) (old : Tree) (v : Value) → IsShort one → (IsStructured (Some one) → ⊥) → IsValueBy w sort (Some one) v
      → HasForm w (form_of sort.table sort.table.types sort.ty.0 (form_beside sort.table) one) old
      → Finds (HasForm w (form_of sort.table sort.table.types sort.ty.0 (form_beside sort.table) one)) (assigned_over sort.table.types (Some one) old v)
  assigned_has sort (type.Ordinal host low high) old v short simple is has = ordinal_held w (storage_of host low high) v is
  assigned_has sort (type.Str max) old v short simple is has = text_held w sort max old v short has is
  assigned_has sort (type.SetOf base) old v short simple is has = set_held w (bounds_at sort.table.types base) v is
  assigned_has sort (type.PointerTo target) old v short simple is has = pointer_held w (declared sort.table target) v is
  assigned_has sort (type.Procedural header) old v short simple is has = routine_held w (declared_header sort.table header) v is
  assigned_has sort (type.ArrayOf i e) old v short simple is has = absurd (simple (inl tt))
  assigned_has sort (type.RecordOf fields) old v short simple is has = absurd (simple (inr (inl tt)))
  assigned_has sort (type.ObjectOf p d fields methods) old v short simple is has = absurd (simple (inr (inr tt)))

  short : (sort : Sort) → IsKnown w.program sort → (one : TypeDef) → definition sort ≡ Some one → IsShort one
  short sort ks one e = let law = lawful w.program agreed sort ks in law.short sort.ty.0 one e

  pub simple_has : (sort : Sort) → IsKnown w.program sort → (old : Tree) (v : Value) → (IsStructured (definition sort) → ⊥) → IsValueOf w sort v → HasForm w (form_at sort) old
      → Finds (HasForm w (form_at sort)) (assigned_over sort.table.types (definition sort) old v)
  simple_has sort ks old v simple is has =
      let form = whole w.program agreed sort ks.one ks ks.is in
      let has' = subst (λ (f : Form). HasForm w f old) form has in
      let done = assigned_has sort ks.one old v (short sort ks ks.one ks.is) (λ h. simple (subst IsStructured (sym ks.is) h)) (subst (λ (o : Option TypeDef). IsValueBy w sort o v) ks.is is) has' in
      subst (λ (o : Option TypeDef). Finds (HasForm w (form_at sort)) (assigned_over sort.table.types o old v)) (sym ks.is)
      (subst (λ (f : Form). Finds (HasForm w f) (assigned_over sort.table.types (Some ks.one) old v)) (sym form) done)

  not_object : (o : Option TypeDef) → (IsStructured o → ⊥) → IsObject o → ⊥
  not_object (Some (type.ObjectOf p d fields methods)) simple is = simple (inr (inr tt))
  not_object (Some (type.Ordinal host low high)) simple is = is
  not_object (Some (type.Str max)) simple is = is
  not_object (Some (type.SetOf base)) simple is = is
  not_object (Some (type.ArrayOf i e)) simple is = is
  not_object (Some (type.RecordOf fields)) simple is = is
  not_object (Some (type.PointerTo target)) simple is = is
  not_object (Some (type.Procedural header)) simple is = is
  not_object None simple is = is

module _ (w : World) (agreed : AreConsistent w.program) (store : Store) (typed : IsTypedStore w store) where
  -- what a cell holds
  pub cell_found : (spot : Spot) (sort : Sort) (held : Held) → IsPlaceOf w spot sort → (IsObject (definition sort) → ⊥) → form_at sort ≡ Cell held → Finds (IsHeld w held) (value_at store spot)
  cell_found spot sort held place never e =
      finds_bind (HasForm w place.form) (IsHeld w held) (tree_at store spot) value_in (form_found w store typed spot place.form place.lies)
      (λ tree has. cell_read w held tree (subst (λ (f : Form). HasForm w f tree) (same_form w agreed sort place.form never place.covers ∙ e) has))

  pub text_found : (spot : Spot) (sort : Sort) (max : ℕ) → IsKnown w.program sort → IsPlaceOf w spot sort → definition sort ≡ Some (type.Str max) → Finds IsText (text_at store spot)
  text_found spot sort max ks place e =
      let size : max + 1 ≡ suc max = omega arith in
      let never : IsObject (definition sort) → ⊥ = λ o. subst IsObject e o in
      let form : place.form ≡ repeated (suc max) letter = same_form w agreed sort place.form never place.covers ∙ whole w.program agreed sort (type.Str max) ks e ∙ ap (λ n. repeated n letter) size in
      finds_bind (HasForm w place.form) IsText (tree_at store spot) text_in (form_found w store typed spot place.form place.lies)
      (λ tree has. text_read w max tree (subst (λ (f : Form). HasForm w f tree) form has))

  pub length_found : (spot : Spot) (sort : Sort) (max : ℕ) → IsKnown w.program sort → IsPlaceOf w spot sort → definition sort ≡ Some (type.Str max) → Finds (λ n. n < 256) (length_at store spot)
  length_found spot sort max ks place e =
      let size : max + 1 ≡ suc max = omega arith in
      let never : IsObject (definition sort) → ⊥ = λ o. subst IsObject e o in
      let form : place.form ≡ repeated (suc max) letter = same_form w agreed sort place.form never place.covers ∙ whole w.program agreed sort (type.Str max) ks e ∙ ap (λ n. repeated n letter) size in
      finds_bind (HasForm w place.form) (λ n. n < 256) (tree_at store spot) length_in (form_found w store typed spot place.form place.lies)
      (λ tree has. length_read w max tree (subst (λ (f : Form). HasForm w f tree) form has))

  load_by : (spot : Spot) (sort : Sort) (one : TypeDef) → IsKnown w.program sort → IsPlaceOf w spot sort → definition sort ≡ Some one → Finds (IsValueBy w sort (Some one)) (loaded_as (Some one) spot store)
  load_by spot sort (type.Ordinal host low high) ks place e = cell_found spot sort (Number (storage_of host low high)) place (λ o. subst IsObject e o) (whole w.program agreed sort (type.Ordinal host low high) ks e)
  load_by spot sort (type.SetOf base) ks place e =
      let bounds = bounds_at sort.table.types base in
      finds_more (IsHeld w (members_between bounds)) (IsHeld w all_members) (value_at store spot) (held-wide w bounds (base_bounds sort.table.types (defined w.program agreed sort ks) sort.ty base e))
      (cell_found spot sort (members_between bounds) place (λ o. subst IsObject e o) (whole w.program agreed sort (type.SetOf base) ks e))
  load_by spot sort (type.PointerTo target) ks place e = cell_found spot sort (Link (declared sort.table target)) place (λ o. subst IsObject e o) (whole w.program agreed sort (type.PointerTo target) ks e)
  load_by spot sort (type.Procedural header) ks place e = cell_found spot sort (Routine (declared_header sort.table header)) place (λ o. subst IsObject e o) (whole w.program agreed sort (type.Procedural header) ks e)
  load_by spot sort (type.Str max) ks place e =
      finds_bind IsText (IsValueBy w sort (Some (type.Str max))) (text_at store spot) (λ bytes. Ok (Text bytes)) (text_found spot sort max ks place e) (λ bytes is. is)
  load_by spot sort (type.ArrayOf i x) ks place e = place
  load_by spot sort (type.RecordOf fields) ks place e = place
  load_by spot sort (type.ObjectOf p d fields methods) ks place e = place

  pub load_known : (spot : Spot) (sort : Sort) → IsKnown w.program sort → IsPlaceOf w spot sort → Finds (IsValueOf w sort) (loaded_as (definition sort) spot store)
  load_known spot sort ks place =
      subst (λ (o : Option TypeDef). Finds (IsValueBy w sort o) (loaded_as o spot store)) (sym ks.is) (load_by spot sort ks.one ks place ks.is)

  -- what a place holds is a value of its type
  pub loads : (at : Reached) (seen : Sort) → IsAt w at seen → Finds (IsValueOf w seen) (loaded at store)
  loads at seen is = by is.same where
    by : IsSeenAs w.program at.sort seen → Finds (IsValueOf w seen) (loaded at store)
    by (Shared ko ks same) =
        finds_more (IsValueOf w at.sort) (IsValueOf w seen) (loaded at store) (λ v h. value_shared w agreed at.sort seen v ko ks same h) (load_known at.spot at.sort ko is.place)
    by (Letter e ks stored) =
        subst (λ (s : Sort). Finds (IsValueOf w seen) (loaded_as (definition s) at.spot store)) (sym e)
        (finds_more (IsHeld w (Number host.Char)) (IsValueOf w seen) (value_at store at.spot) (λ v h. as_ordinal w seen host.Char v (definition seen) stored h)
        (cell_found at.spot at.sort (Number host.Char) is.place (λ o. subst (λ (s : Sort). IsObject (definition s)) e o) (ap form_at e)))
    by (Whole e ks stored) =
        subst (λ (s : Sort). Finds (IsValueOf w seen) (loaded_as (definition s) at.spot store)) (sym e)
        (finds_more (IsHeld w (Number host.Integer)) (IsValueOf w seen) (value_at store at.spot) (λ v h. as_ordinal w seen host.Integer v (definition seen) stored h)
        (cell_found at.spot at.sort (Number host.Integer) is.place (λ o. subst (λ (s : Sort). IsObject (definition s)) e o) (ap form_at e)))

  -- ---- assignment

  pub put_over : (at : Reached) (form : Form) → IsPlaceOf w at.spot at.sort → (place : IsPlaceOf w at.spot at.sort) → place.form ≡ form → (v : Value)
      → ((old : Tree) → HasForm w form old → Finds (HasForm w form) (assigned_over at.sort.table.types (definition at.sort) old v)) → Finds (IsTypedStore w) (assigned at v store)
  put_over at form p place same v over =
      finds_bind (HasForm w place.form) (IsTypedStore w) (tree_at store at.spot) (λ old. assigned_over at.sort.table.types (definition at.sort) old v >>= replaced store at.spot) (form_found w store typed at.spot place.form place.lies) (λ old has.
      finds_bind (HasForm w form) (IsTypedStore w) (assigned_over at.sort.table.types (definition at.sort) old v) (replaced store at.spot)
      (over old (subst (λ (f : Form). HasForm w f old) same has)) (λ new has'.
      replaced_keeps w store typed at.spot place.form place.lies new (subst (λ (f : Form). HasForm w f new) (sym same) has')))

  -- a value of its type is assigned to a place
  pub assigns : (at : Reached) (seen : Sort) (v : Value) → IsAt w at seen → (IsStructured (definition seen) → ⊥) → IsValueOf w seen v → Finds (IsTypedStore w) (assigned at v store)
  assigns at seen v is simple value = by is.same where
    by : IsSeenAs w.program at.sort seen → Finds (IsTypedStore w) (assigned at v store)
    by (Shared ko ks same) =
        let simple' : IsStructured (definition at.sort) → ⊥ = λ h. simple (structured_seen w agreed at.sort seen ko ks same h) in
        put_over at (form_at at.sort) is.place is.place (same_form w agreed at.sort is.place.form (not_object w agreed (definition at.sort) simple') is.place.covers) v
        (λ old has. simple_has w agreed at.sort ko old v simple' (value_shared w agreed seen at.sort v ks ko (sym same) value) has)
    by (Letter e ks stored) =
        let held = of_ordinal w seen host.Char v (definition seen) stored value in
        let never : IsObject (definition at.sort) → ⊥ = λ o. subst (λ (s : Sort). IsObject (definition s)) e o in
        put_over at (Cell (Number host.Char)) is.place is.place (same_form w agreed at.sort is.place.form never is.place.covers ∙ ap form_at e) v
        (λ old has. subst (λ (s : Sort). Finds (HasForm w (Cell (Number host.Char))) (assigned_over s.table.types (definition s) old v)) (sym e) (ordinal_held w host.Char v held))
    by (Whole e ks stored) =
        let held = of_ordinal w seen host.Integer v (definition seen) stored value in
        let never : IsObject (definition at.sort) → ⊥ = λ o. subst (λ (s : Sort). IsObject (definition s)) e o in
        put_over at (Cell (Number host.Integer)) is.place is.place (same_form w agreed at.sort is.place.form never is.place.covers ∙ ap form_at e) v
        (λ old has. subst (λ (s : Sort). Finds (HasForm w (Cell (Number host.Integer))) (assigned_over s.table.types (definition s) old v)) (sym e) (ordinal_held w host.Integer v held))

  -- ---- copies

  copy_known : (at : Reached) (from : Spot) → IsKnown w.program at.sort → IsStructured (definition at.sort) → IsPlaceOf w at.spot at.sort → IsPlaceOf w from at.sort → Finds (IsTypedStore w) (copied at from store)
  copy_known at from ks structured place source =
      let types : List TypeDef = at.sort.table.types in
      let over : Tree → Tree → Found Store = λ old new. copied_over types at.sort.ty (definition at.sort) old new >>= replaced store at.spot in
      finds_bind (HasForm w place.form) (IsTypedStore w) (tree_at store at.spot) (λ old. tree_at store from >>= over old) (form_found w store typed at.spot place.form place.lies) (λ old has.
      finds_bind (HasForm w source.form) (IsTypedStore w) (tree_at store from) (over old) (form_found w store typed from source.form source.lies) (λ new has'.
      finds_bind (HasForm w place.form) (IsTypedStore w) (copied_over types at.sort.ty (definition at.sort) old new) (replaced store at.spot)
      (subst (λ (d : Option TypeDef). Finds (HasForm w place.form) (copied_over types at.sort.ty d old new)) (sym ks.is)
      (copied_has w agreed at.sort ks.one place.form source.form old new ks ks.is (subst IsStructured ks.is structured) place.covers source.covers has has')) (λ tree has''.
      replaced_keeps w store typed at.spot place.form place.lies tree has'')))

  -- a record, an array or an object is copied from a place that holds one
  pub copies : (at : Reached) (seen : Sort) (from : Spot) → IsAt w at seen → IsStructured (definition seen) → IsPlaceOf w from seen → Finds (IsTypedStore w) (copied at from store)
  copies at seen from is structured source = by is.same where
    by : IsSeenAs w.program at.sort seen → Finds (IsTypedStore w) (copied at from store)
    by (Shared ko ks same) =
        copy_known at from ko (structured_seen w agreed seen at.sort ks ko (sym same) structured) is.place (place_seen w agreed from seen at.sort (Shared ks ko (sym same)) source)
    by (Letter e ks stored) = absurd (no_ordinal (definition seen) host.Char stored structured)
    by (Whole e ks stored) = absurd (no_ordinal (definition seen) host.Integer stored structured)

  -- ---- a value that is passed to a new variable

  is_place : (sort : Sort) (one : TypeDef) (v : Value) → IsStructured (Some one) → IsValueBy w sort (Some one) v → (spot : Spot) × (v ≡ At spot)
  is_place sort (type.ArrayOf i e) (At spot) structured is = (spot, refl)
  is_place sort (type.ArrayOf i e) v structured is = absurd is
  is_place sort (type.RecordOf fields) (At spot) structured is = (spot, refl)
  is_place sort (type.RecordOf fields) v structured is = absurd is
  is_place sort (type.ObjectOf p d fields methods) (At spot) structured is = (spot, refl)
  is_place sort (type.ObjectOf p d fields methods) v structured is = absurd is
  is_place sort (type.Ordinal host low high) v structured is = absurd (not_structured structured)
  is_place sort (type.Str max) v structured is = absurd (not_structured structured)
  is_place sort (type.SetOf base) v structured is = absurd (not_structured structured)
  is_place sort (type.PointerTo target) v structured is = absurd (not_structured structured)
  is_place sort (type.Procedural header) v structured is = absurd (not_structured structured)

  -- a place is a value of a record, an array or an object
  pub at_value : (sort : Sort) (o : Option TypeDef) (spot : Spot) → IsValueBy w sort o (At spot) → IsStructured o × IsPlaceOf w spot sort
  at_value sort (Some (type.ArrayOf i e)) spot is = (inl tt, is)
  at_value sort (Some (type.RecordOf fields)) spot is = (inr (inl tt), is)
  at_value sort (Some (type.ObjectOf p d fields methods)) spot is = (inr (inr tt), is)
  at_value sort (Some (type.Ordinal host low high)) spot is = absurd is
  at_value sort (Some (type.Str max)) spot is = absurd is
  at_value sort (Some (type.SetOf base)) spot is = absurd is
  at_value sort (Some (type.PointerTo target)) spot is = absurd is
  at_value sort (Some (type.Procedural header)) spot is = absurd is
  at_value sort None spot is = absurd is

  module _ (sort : Sort) (ks : IsKnown w.program sort) where
    simple_passed : (v : Value) → IsValueOf w sort v → ((spot : Spot) → v ≡ At spot → ⊥) → Finds (HasForm w (form_at sort)) (assigned_over sort.table.types (definition sort) (new_tree sort.table.types sort.ty) v)
    simple_passed v is never =
        let simple : IsStructured (definition sort) → ⊥ = λ h.
        (let found = is_place sort ks.one v (subst IsStructured ks.is h) (subst (λ (o : Option TypeDef). IsValueBy w sort o v) ks.is is) in never found.0 found.1) in
        simple_has w agreed sort ks (new_tree sort.table.types sort.ty) v simple is (new_has w sort.table sort.ty)

    pub passes : (v : Value) → IsValueOf w sort v → Finds (HasForm w (form_at sort)) (passed sort.table.types sort.ty v store)
    passes (At spot) is =
        let source = at_value sort (definition sort) spot is in
        finds_bind (HasForm w source.1.form) (HasForm w (form_at sort)) (tree_at store spot) (copied_over sort.table.types sort.ty (definition sort) (new_tree sort.table.types sort.ty))
        (form_found w store typed spot source.1.form source.1.lies) (λ new has'.
        subst (λ (d : Option TypeDef). Finds (HasForm w (form_at sort)) (copied_over sort.table.types sort.ty d (new_tree sort.table.types sort.ty) new)) (sym ks.is)
        (copied_has w agreed sort ks.one (form_at sort) source.1.form (new_tree sort.table.types sort.ty) new ks ks.is (subst IsStructured ks.is source.0) (Same refl) source.1.covers (new_has w sort.table sort.ty) has'))
    passes (Ordinal z) is = simple_passed (Ordinal z) is (λ spot e. cc)
    passes (Text bytes) is = simple_passed (Text bytes) is (λ spot e. cc)
    passes (Elements set) is = simple_passed (Elements set) is (λ spot e. cc)
    passes Nil is = simple_passed Nil is (λ spot e. cc)
    passes (Block serial) is = simple_passed (Block serial) is (λ spot e. cc)
    passes (Code routine) is = simple_passed (Code routine) is (λ spot e. cc)
    passes (Class class) is = simple_passed (Class class) is (λ spot e. cc)
    passes Void is = simple_passed Void is (λ spot e. cc)
