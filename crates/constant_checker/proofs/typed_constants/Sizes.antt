-- The bytes of a first value are as many as the size of its type.
use Rattle.std.proofs.Common.{◌≡◌, ℕ, ◌+◌, ◌-◌, ◌*◌, ◌/◌, Bool, true, false, cond, List, [], ◌∷◌, ◌++◌, Option, Some, None, length, refl, ap, sym, ◌∙◌, arith, zero-add}
use Rattle.std.proofs.Math.Nat.{add-mul}
use Rattle.std.proofs.lemmas.List.{length-append}
use Rattle.std.proofs.lemmas.List.Sums.{sum_by-cons}
use Rattle.type_layout.specs.declared.definitions.TypeId.{TypeId}
use Rattle.type_layout.specs.declared.definitions.Field.{Field}
use Rattle.type_layout.specs.declared.definitions.TypeDef.{TypeDef}
use Rattle.type_layout.specs.declared.definitions.TypeDef.TheVariants as type
use Rattle.type_layout.specs.declared.layout.Layout.{Layout}
use Rattle.type_layout.specs.declared.texts.Place.{Place}
use Rattle.type_layout.specs.declared.definitions.Host.TheVariants as host
use Rattle.type_layout.specs.Storage.{storage_of, count_between}
use Rattle.type_layout.specs.Layouts.{bounds_at, IsMeasured, layouts_of, layout_by, size_in, fields_size, size_of}
use Rattle.typed_tree.specs.type_fits.Fits.{definition}
use Rattle.scopes.specs.Environment.{Environment}
use Rattle.common_values.specs.Sets.{set_bytes}
use Rattle.typing_rules.specs.declared.sorts.Sort.{Sort}
use Rattle.typing_rules.specs.Sorts.{sort_of_type}
use Rattle.constant_checker.specs.constant_expressions.Values.{number_of, bytes_of, elements_of}
use Rattle.constant_checker.specs.declared.typed_constants.written.Written.{Written}
use Rattle.constant_checker.specs.typed_constants.Trees.{Initial, Initials, Named, value, list, group, no_initials, and_initial, no_named, and_named, count}
use Rattle.syntax_tree.specs.expression_tree.Places.{first_place}
use Rattle.constant_checker.specs.stored_values.Stored.{ordinal_bytes, string_bytes}
use Rattle.constant_checker.proofs.stored_values.Sizes.{whole as stored}
use Rattle.constant_checker.specs.typed_constants.Initializers.{has_every_char, set_fitted, fitted_by, fitted, due_type, element_of, counted_by, counted, fields_in, is_next, behind_first, behind_next, first_type, due_for, placed, ended, grouped_by, grouped, is_plain, judged, items_judged, fields_judged}
use Rattle.constant_checker.specs.typed_constants.Laws.{AreWhole}

-- ---- single values

-- what is put behind other bytes
behind : (before more bytes : List ℕ) (size : ℕ) → bytes ≡ before ++ more → length more ≡ size → length bytes ≡ length before + size
behind before more bytes size made sized = ap length made ∙ length-append before more ∙ ap (λ (n : ℕ). length before + n) sized

set_behind : (place : Place) (s : Sort) (there : Bool) (low high : ℕ) (before : List ℕ) (w : Written) (bytes : List ℕ)
    → (set_fitted place s (cond there (Some (low, high)) None) before w).holds bytes → length bytes ≡ length before + (high / 8 - low / 8 + 1)
set_behind place s false low high before w bytes h = absurd h
set_behind place s true low high before w bytes h =
    behind before (set_bytes low high (elements_of w.value)) bytes (high / 8 - low / 8 + 1) h.made (stored.sets low high (elements_of w.value))

-- ---- sizes of what is due

abbrev due_size : List TypeDef → Option TypeId → ℕ
due_size types None = 0
due_size types (Some ty) = size_of types ty

abbrev due_fields : List TypeDef → Option (List Field) → ℕ
due_fields types None = 0
due_fields types (Some fields) = fields_size (layouts_of types) fields

module _ (types : List TypeDef) (m : IsMeasured types) where
  size_is : (ty : TypeId) (one : TypeDef) → definition types ty ≡ Some one → size_of types ty ≡ (layout_by types (layouts_of types) one).size
  size_is ty one e = ap (λ (l : Layout). l.size) (m.layouts ty one e)

  -- a Char takes a byte
  char_size : (element : TypeId) (one : Option TypeDef) → definition types element ≡ one → has_every_char one ≡ true → size_of types element ≡ 1
  char_size element (Some (type.Ordinal host.Char low high)) e h = size_is element (type.Ordinal host.Char low high) e
  char_size element (Some (type.Ordinal host.ShortInt low high)) e h = absurd (cc h)
  char_size element (Some (type.Ordinal host.Byte low high)) e h = absurd (cc h)
  char_size element (Some (type.Ordinal host.Integer low high)) e h = absurd (cc h)
  char_size element (Some (type.Ordinal host.Word low high)) e h = absurd (cc h)
  char_size element (Some (type.Ordinal host.LongInt low high)) e h = absurd (cc h)
  char_size element (Some (type.Ordinal host.Boolean low high)) e h = absurd (cc h)
  char_size element (Some (type.Ordinal host.Enumeration low high)) e h = absurd (cc h)
  char_size element (Some (type.Str max)) e h = absurd (cc h)
  char_size element (Some (type.SetOf base)) e h = absurd (cc h)
  char_size element (Some (type.ArrayOf index inner)) e h = absurd (cc h)
  char_size element (Some (type.RecordOf fields)) e h = absurd (cc h)
  char_size element (Some (type.PointerTo target)) e h = absurd (cc h)
  char_size element (Some (type.ObjectOf parent dynamic fields methods)) e h = absurd (cc h)
  char_size element (Some (type.Procedural header)) e h = absurd (cc h)
  char_size element None e h = absurd (cc h)

  fitted_size : (place : Place) (ty : TypeId) (one : Option TypeDef) → definition types ty ≡ one → (before : List ℕ) (w : Written) (bytes : List ℕ)
      → (fitted_by types place ty one before w).holds bytes → length bytes ≡ length before + size_of types ty
  fitted_size place ty (Some (type.Ordinal own low high)) e before w bytes h =
      behind before (ordinal_bytes (storage_of own low high) (number_of w.value)) bytes (size_of types ty) h.made
      (stored.ordinals (storage_of own low high) (number_of w.value) ∙ sym (size_is ty (type.Ordinal own low high) e))
  fitted_size place ty (Some (type.Str max)) e before w bytes h =
      behind before (string_bytes max (bytes_of w.value)) bytes (size_of types ty) h.made
      (stored.strings max (bytes_of w.value) h.asked.1 ∙ sym (size_is ty (type.Str max) e))
  fitted_size place ty (Some (type.SetOf base)) e before w bytes h =
      set_behind place (sort_of_type types ty) _ _ _ before w bytes h ∙ ap (λ (n : ℕ). length before + n) (sym (size_is ty (type.SetOf base) e))
  fitted_size place ty None e before w bytes h = absurd h
  fitted_size place ty (Some (type.ArrayOf index element)) e before w bytes h =
      let count = count_between (bounds_at types index).0 (bounds_at types index).1 in
      let one = char_size element (definition types element) refl h.asked.1.0 in
      let once : count * 1 ≡ count = omega arith in
      let whole : size_of types ty ≡ count * size_of types element = size_is ty (type.ArrayOf index element) e in
      behind before (bytes_of w.value) bytes (size_of types ty) h.made
      (h.asked.1.1 ∙ sym (whole ∙ ap (λ (n : ℕ). count * n) one ∙ once))
  fitted_size place ty (Some (type.RecordOf fields)) e before w bytes h = absurd h
  fitted_size place ty (Some (type.PointerTo target)) e before w bytes h = absurd h
  fitted_size place ty (Some (type.ObjectOf parent dynamic fields methods)) e before w bytes h = absurd h
  fitted_size place ty (Some (type.Procedural header)) e before w bytes h = absurd h

  fitted_whole : (place : Place) (due : Option TypeId) (before : List ℕ) (w : Written) (bytes : List ℕ)
      → (fitted types place due before w).holds bytes → length bytes ≡ length before + due_size types due
  unfolding fitted
  fitted_whole place None before w bytes h = let e : length bytes ≡ length before = ap length h in omega (arith, e)
  fitted_whole place (Some ty) before w bytes h = fitted_size place ty (definition types ty) refl before w bytes h

  -- ---- lists and groups

  pub record IsCounted (due : Option TypeId) (element : Option TypeId) (n : ℕ) (bytes all : List ℕ) : Type 0 where
    pub same : all ≡ bytes
    pub size : n * due_size types element ≡ due_size types due

  counted_by_size : (place : Place) (ty : TypeId) (one : Option TypeDef) → definition types ty ≡ one → (n : ℕ) (bytes all : List ℕ)
      → (counted_by types place one n bytes).holds all → IsCounted (Some ty) (element_of one) n bytes all
  counted_by_size place ty (Some (type.ArrayOf index element)) e n bytes all h = record {
    same = h.made;
    size = ap (λ (k : ℕ). k * size_of types element) h.asked ∙ sym (size_is ty (type.ArrayOf index element) e);
  }
  counted_by_size place ty None e n bytes all h = absurd h
  counted_by_size place ty (Some (type.Ordinal own low high)) e n bytes all h = absurd h
  counted_by_size place ty (Some (type.Str max)) e n bytes all h = absurd h
  counted_by_size place ty (Some (type.SetOf base)) e n bytes all h = absurd h
  counted_by_size place ty (Some (type.RecordOf fields)) e n bytes all h = absurd h
  counted_by_size place ty (Some (type.PointerTo target)) e n bytes all h = absurd h
  counted_by_size place ty (Some (type.ObjectOf parent dynamic fields methods)) e n bytes all h = absurd h
  counted_by_size place ty (Some (type.Procedural header)) e n bytes all h = absurd h

  counted_size : (place : Place) (due : Option TypeId) (n : ℕ) (bytes all : List ℕ)
      → (counted types place due n bytes).holds all → IsCounted due (element_of (due_type types due)) n bytes all
  unfolding counted
  counted_size place None n bytes all h = record { same = h; size = omega arith }
  counted_size place (Some ty) n bytes all h = counted_by_size place ty (definition types ty) refl n bytes all h

  pub record IsGrouped (due : Option TypeId) (fields : Option (List Field)) (bytes all : List ℕ) : Type 0 where
    pub same : all ≡ bytes
    pub size : due_fields types fields ≡ due_size types due

  grouped_by_size : (place : Place) (ty : TypeId) (one : Option TypeDef) → definition types ty ≡ one → (bytes all : List ℕ)
      → (grouped_by place (fields_in one) bytes).holds all → IsGrouped (Some ty) (fields_in one) bytes all
  grouped_by_size place ty (Some (type.RecordOf fields)) e bytes all h = record { same = h; size = sym (size_is ty (type.RecordOf fields) e) }
  grouped_by_size place ty None e bytes all h = absurd h
  grouped_by_size place ty (Some (type.Ordinal own low high)) e bytes all h = absurd h
  grouped_by_size place ty (Some (type.Str max)) e bytes all h = absurd h
  grouped_by_size place ty (Some (type.SetOf base)) e bytes all h = absurd h
  grouped_by_size place ty (Some (type.ArrayOf index element)) e bytes all h = absurd h
  grouped_by_size place ty (Some (type.PointerTo target)) e bytes all h = absurd h
  grouped_by_size place ty (Some (type.ObjectOf parent dynamic fields methods)) e bytes all h = absurd h
  grouped_by_size place ty (Some (type.Procedural header)) e bytes all h = absurd h

  grouped_size : (place : Place) (due : Option TypeId) (bytes all : List ℕ)
      → (grouped types place due bytes).holds all → IsGrouped due (fields_in (due_type types due)) bytes all
  unfolding grouped
  grouped_size place None bytes all h = record { same = h; size = refl }
  grouped_size place (Some ty) bytes all h = grouped_by_size place ty (definition types ty) refl bytes all h

  -- the next field, and those behind it
  next_size : (fields : List Field) (name : List ℕ) → is_next fields name ≡ true
      → due_size types (first_type fields name) + fields_size (layouts_of types) (behind_first fields) ≡ fields_size (layouts_of types) fields
  next_size [] name e = cc
  next_size (field ∷ fields) name e = rw e (sym (sum_by-cons (λ (f : Field). size_in (layouts_of types) f.ty) field fields))

  placed_size : (place : Place) (due : Option (List Field)) (name bytes all : List ℕ) → (placed place due name bytes).holds all
      → (all ≡ bytes) × (due_size types (due_for due name) + due_fields types (behind_next due) ≡ due_fields types due)
  placed_size place None name bytes all h = (h, refl)
  placed_size place (Some fields) name bytes all h = (h.made, next_size fields name h.asked)

  ended_size : (place : Place) (due : Option (List Field)) (bytes all : List ℕ) → (ended place due bytes).holds all → (all ≡ bytes) × (due_fields types due ≡ 0)
  ended_size place None bytes all h = (h, refl)
  ended_size place (Some []) bytes all h = (h, refl)
  ended_size place (Some (field ∷ fields)) bytes all h = absurd h

-- ---- first values

item_more : (before part all n size : ℕ) → part ≡ before + size → all ≡ part + n * size → all ≡ before + (n + 1) * size
item_more before part all n size first more = let s : (n + 1) * size ≡ n * size + 1 * size = add-mul n 1 size in omega (arith, s, first, more)

field_more : (before inner part all size rest whole : ℕ) → inner ≡ before + size → part ≡ inner → all ≡ part + rest → size + rest ≡ whole → all ≡ before + whole
field_more before inner part all size rest whole first same more sum = omega (arith, first, same, more, sum)

mutual
  sized : (g : Environment) (m : IsMeasured g.types.types) (due : Option TypeId) (before : List ℕ) (tree : Initial) (bytes : List ℕ)
      → (judged g due before tree).holds bytes → length bytes ≡ length before + due_size g.types.types due
  sized g m due before (value tree) bytes h = fitted_whole g.types.types m (first_place tree) due before h.part bytes h.made
  sized g m due before (list place items) bytes h =
      let inside = sized_items g m (element_of (due_type g.types.types due)) before items h.part h.holds in
      let c = counted_size g.types.types m place due (count items) h.part bytes h.made in
      ap length c.same ∙ inside ∙ ap (λ (n : ℕ). length before + n) c.size
  sized g m due before (group place fields) bytes h =
      let inside = sized_fields g m place (fields_in (due_type g.types.types due)) before fields h.part h.holds in
      let c = grouped_size g.types.types m place due h.part bytes h.made in
      ap length c.same ∙ inside ∙ ap (λ (n : ℕ). length before + n) c.size

  sized_items : (g : Environment) (m : IsMeasured g.types.types) (due : Option TypeId) (before : List ℕ) (items : Initials) (bytes : List ℕ)
      → (items_judged g due before items).holds bytes → length bytes ≡ length before + count items * due_size g.types.types due
  sized_items g m due before no_initials bytes h = let e : length bytes ≡ length before = ap length h in omega (arith, e)
  sized_items g m due before (and_initial one rest) bytes h =
      let first = sized g m due before one h.part h.holds in
      let more = sized_items g m due h.part rest bytes h.made in
      item_more (length before) (length h.part) (length bytes) (count rest) (due_size g.types.types due) first more

  sized_fields : (g : Environment) (m : IsMeasured g.types.types) (place : Place) (due : Option (List Field)) (before : List ℕ) (fields : Named) (bytes : List ℕ)
      → (fields_judged g place due before fields).holds bytes → length bytes ≡ length before + due_fields g.types.types due
  sized_fields g m place due before no_named bytes h =
      let e = ended_size g.types.types m place due before bytes h in
      let s : length bytes ≡ length before = ap length e.0 in
      omega (arith, s, e.1)
  sized_fields g m place due before (and_named one x rest) bytes h =
      let first = sized g m (due_for due one.name) before x h.holds.part h.holds.holds in
      let p = placed_size g.types.types m one.position.place due one.name h.holds.part h.part h.holds.made in
      let more = sized_fields g m place (behind_next due) h.part rest bytes h.made in
      let same : length h.part ≡ length h.holds.part = ap length p.0 in
      field_more (length before) (length h.holds.part) (length h.part) (length bytes) _ _ _ first same more p.1

whole_by : (g : Environment) (m : IsMeasured g.types.types) (ty : TypeId) (tree : Initial) (bytes : List ℕ) (plain : Bool)
    → cond plain ((judged g (Some ty) [] tree).holds bytes) ⊥ → length bytes ≡ size_of g.types.types ty
whole_by g m ty tree bytes false h = absurd h
whole_by g m ty tree bytes true h = sized g m (Some ty) [] tree bytes h ∙ zero-add (size_of g.types.types ty)

pub whole : AreWhole
whole g place ty tree bytes m h = whole_by g m ty tree bytes (is_plain g.types.types ty) h
