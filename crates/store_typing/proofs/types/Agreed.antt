-- What was declared at one place has the same parts and fields in all units that agree.
use Rattle.std.proofs.Common.{◌≡◌, ℕ, zero, suc, ◌+◌, ◌<◌, Bool, true, false, List, [], ◌∷◌, ◌++◌, length, map, Some, None, refl, sym, ap, subst, ◌∙◌, arith}
use Rattle.std.specs.Prelude.{slice_get, Option, ◌&&◌, not}
use Rattle.std.specs.Option.{option_map}
use Rattle.std.proofs.lemmas.Option.{same_Some}
use Rattle.tp_meaning.specs.type_layout.declared.definitions.TypeId.{TypeId}
use Rattle.tp_meaning.specs.type_layout.declared.definitions.Field.{Field}
use Rattle.tp_meaning.specs.type_layout.declared.definitions.Method.{Method}
use Rattle.tp_meaning.specs.type_layout.declared.definitions.TypeDef.{TypeDef}
use Rattle.tp_meaning.specs.type_layout.declared.definitions.TypeDef.TheVariants as type
use Rattle.tp_meaning.specs.type_layout.Table.{Table, AllDefined}
use Rattle.tp_meaning.specs.typed_tree.declared.units.Program.{Program}
use Rattle.tp_meaning.specs.typed_tree.type_fits.Fits.{fields_by}
use Rattle.tp_meaning.specs.Trees.{Key}
use Rattle.tp_meaning.specs.Shapes.{Part, FieldPart, ClassPart, has_class_part, field_parts, class_parts, object_parts, parts_by, parts_at}
use Rattle.tp_meaning.specs.Programs.{Sort, definition, class_key, beside}
use Rattle.store_typing.specs.types.Declared.{declared, declared_fields, AreAlike}
use Rattle.store_typing.specs.types.Agreement.{IsKnown, IsLawful, AreConsistent}
use Rattle.store_typing.proofs.types.Whole.{above, parts_of_record, parts_of_object, parts_of_none, parent_below, fields_at, fields_of_record, fields_of_object, no_fields_of}

-- ---- lists

pub within_get : {X : Type 0} (xs : List X) (k : ℕ) → k < length xs → (x : X) × (slice_get xs k ≡ Some x)
within_get [] k h = absurd (omega (arith, h))
within_get (x ∷ xs) zero h = (x, refl)
within_get (x ∷ xs) (suc k) h = within_get xs k (omega (arith, h))

pub get_within : {X : Type 0} (xs : List X) (k : ℕ) (x : X) → slice_get xs k ≡ Some x → k < length xs
get_within [] k x e = absurd cc
get_within (y ∷ xs) zero x e = omega arith
get_within (y ∷ xs) (suc k) x e = omega (arith, get_within xs k x e)

-- ---- parts by the places where their types were declared

abbrev pub part_key : Table → Part → Option (Option Key)
part_key table (FieldPart ty) = Some (declared table ty)
part_key table ClassPart = None

abbrev pub keyed : Table → List Part → List (Option (Option Key))
keyed table parts = map (part_key table) parts

keyed_append : (table : Table) (xs ys : List Part) → keyed table (xs ++ ys) ≡ keyed table xs ++ keyed table ys
keyed_append table [] ys = refl
keyed_append table (x ∷ xs) ys = ap (λ (l : List (Option (Option Key))). part_key table x ∷ l) (keyed_append table xs ys)

pub keyed_fields : (table : Table) (fields : List Field) → keyed table (field_parts fields) ≡ map Some (declared_fields table fields)
keyed_fields table [] = refl
keyed_fields table (field ∷ fields) = ap (λ (l : List (Option (Option Key))). Some (declared table field.ty) ∷ l) (keyed_fields table fields)

keyed_class : (a b : Table) (has : Bool) → keyed a (class_parts has) ≡ keyed b (class_parts has)
keyed_class a b true = refl
keyed_class a b false = refl

-- whether one of them is a class
abbrev has_none : List (Option (Option Key)) → Bool
has_none [] = false
has_none (None ∷ keys) = true
has_none (Some key ∷ keys) = has_none keys

class_among : (table : Table) (parts : List Part) → has_class_part parts ≡ has_none (keyed table parts)
class_among table [] = refl
class_among table (FieldPart ty ∷ parts) = class_among table parts
class_among table (ClassPart ∷ parts) = refl

keyed_object : (a b : Table) (xs ys : List Part) (dynamic dynamic' : Bool) (fields fields' : List Field) → keyed a xs ≡ keyed b ys → dynamic ≡ dynamic'
    → declared_fields a fields ≡ declared_fields b fields' → keyed a (object_parts xs dynamic fields) ≡ keyed b (object_parts ys dynamic' fields')
keyed_object a b xs ys dynamic dynamic' fields fields' same d each =
    let has : Bool = dynamic && not (has_class_part xs) in
    let has' : Bool = dynamic' && not (has_class_part ys) in
    let class : has_class_part xs ≡ has_class_part ys = class_among a xs ∙ ap has_none same ∙ sym (class_among b ys) in
    let both : has ≡ has' = ap (λ x. x && not (has_class_part xs)) d ∙ ap (λ x. dynamic' && not x) class in
    let own : keyed a (field_parts fields) ≡ keyed b (field_parts fields') = keyed_fields a fields ∙ ap (map Some) each ∙ sym (keyed_fields b fields') in
    let end : keyed a (class_parts has) ≡ keyed b (class_parts has') = ap (λ x. keyed a (class_parts x)) both ∙ keyed_class a b has' in
    keyed_append a xs (field_parts fields ++ class_parts has)
    ∙ ap (λ l. l ++ keyed a (field_parts fields ++ class_parts has)) same
    ∙ ap (λ l. keyed b ys ++ l) (keyed_append a (field_parts fields) (class_parts has) ∙ ap (λ l. l ++ keyed a (class_parts has)) own ∙ ap (λ l. keyed b (field_parts fields') ++ l) end ∙ sym (keyed_append b (field_parts fields') (class_parts has')))
    ∙ sym (keyed_append b ys (field_parts fields' ++ class_parts has'))

module _ (program : Program) (agreed : AreConsistent program) where
  pub lawful : (sort : Sort) → IsKnown program sort → IsLawful sort.table
  lawful sort known = subst IsLawful (sym known.table) (agreed.lawful known.unit known.listed)

  pub defined : (sort : Sort) → IsKnown program sort → AllDefined [] sort.table.types
  defined sort known = let law = lawful sort known in law.well_formed.defined

  -- another type of the table
  pub known_beside : (sort : Sort) (ty : TypeId) (one : TypeDef) → IsKnown program sort → slice_get sort.table.types ty.0 ≡ Some one → IsKnown program (beside sort ty)
  known_beside sort ty one known e = record { unit = known.unit; listed = known.listed; table = known.table; one = one; is = e }

  pub known_within : (sort : Sort) (ty : TypeId) → IsKnown program sort → ty.0 < length sort.table.types → IsKnown program (beside sort ty)
  known_within sort ty known h = let found = within_get sort.table.types ty.0 h in known_beside sort ty found.0 known found.1

  pub known_at : (sort : Sort) → IsKnown program sort → sort.ty.0 < length sort.table.types
  known_at sort known = get_within sort.table.types sort.ty.0 known.one known.is

  -- what a type of a table is made of, where it is an object or a record
  parent_known : (sort : Sort) (known : IsKnown program sort) (parent : TypeId) (dynamic : Bool) (fields : List Field) (methods : List Method)
      → definition sort ≡ Some (type.ObjectOf (Some parent) dynamic fields methods) → IsKnown program (beside sort parent)
  parent_known sort known parent dynamic fields methods e =
      known_within sort parent known (omega (arith, parent_below sort.table.types (defined sort known) sort.ty parent dynamic fields methods e, known_at sort known))

  -- ---- parts

  abbrev PartsAgree : Sort → Sort → Type 0
  PartsAgree a b = keyed a.table (parts_at a.table.types a.ty) ≡ keyed b.table (parts_at b.table.types b.ty)

  module _ (n : ℕ) (rec : (a b : Sort) → IsKnown program a → IsKnown program b → a.ty.0 < n → class_key a ≡ class_key b → PartsAgree a b)
      (a b : Sort) (ka : IsKnown program a) (kb : IsKnown program b) (h : a.ty.0 < suc n) where
    above_agrees : (parent parent' : Option TypeId) (dynamic dynamic' : Bool) (fields fields' : List Field) (methods methods' : List Method)
        → definition a ≡ Some (type.ObjectOf parent dynamic fields methods) → definition b ≡ Some (type.ObjectOf parent' dynamic' fields' methods')
        → option_map (declared a.table) parent ≡ option_map (declared b.table) parent' → keyed a.table (above a.table.types parent) ≡ keyed b.table (above b.table.types parent')
    above_agrees None None dynamic dynamic' fields fields' methods methods' ea eb same = refl
    above_agrees None (Some parent') dynamic dynamic' fields fields' methods methods' ea eb same = absurd cc
    above_agrees (Some parent) None dynamic dynamic' fields fields' methods methods' ea eb same = absurd cc
    above_agrees (Some parent) (Some parent') dynamic dynamic' fields fields' methods methods' ea eb same =
        rec (beside a parent) (beside b parent') (parent_known a ka parent dynamic fields methods ea) (parent_known b kb parent' dynamic' fields' methods' eb)
        (omega (arith, h, parent_below a.table.types (defined a ka) a.ty parent dynamic fields methods ea)) (same_Some (declared a.table parent) (declared b.table parent') same)

    both_without : (one other : TypeDef) → definition a ≡ Some one → definition b ≡ Some other → ((front : List TypeDef) (given : List (List Part)) → parts_by front given one ≡ [])
        → ((front : List TypeDef) (given : List (List Part)) → parts_by front given other ≡ []) → PartsAgree a b
    both_without one other ea eb none none' =
        ap (keyed a.table) (parts_of_none a.table.types (defined a ka) a.ty one ea none) ∙ sym (ap (keyed b.table) (parts_of_none b.table.types (defined b kb) b.ty other eb none'))

    parts_pair : (one other : TypeDef) → definition a ≡ Some one → definition b ≡ Some other → AreAlike a.table one b.table other → PartsAgree a b
    parts_pair (type.Ordinal host low high) (type.Ordinal host' low' high') ea eb is = both_without (type.Ordinal host low high) (type.Ordinal host' low' high') ea eb (λ f g. refl) (λ f g. refl)
    parts_pair (type.Str max) (type.Str max') ea eb is = both_without (type.Str max) (type.Str max') ea eb (λ f g. refl) (λ f g. refl)
    parts_pair (type.SetOf base) (type.SetOf base') ea eb is = both_without (type.SetOf base) (type.SetOf base') ea eb (λ f g. refl) (λ f g. refl)
    parts_pair (type.ArrayOf index element) (type.ArrayOf index' element') ea eb is = both_without (type.ArrayOf index element) (type.ArrayOf index' element') ea eb (λ f g. refl) (λ f g. refl)
    parts_pair (type.PointerTo target) (type.PointerTo target') ea eb is = both_without (type.PointerTo target) (type.PointerTo target') ea eb (λ f g. refl) (λ f g. refl)
    parts_pair (type.Procedural header) (type.Procedural header') ea eb is = both_without (type.Procedural header) (type.Procedural header') ea eb (λ f g. refl) (λ f g. refl)
    parts_pair (type.RecordOf fields) (type.RecordOf fields') ea eb is =
        ap (keyed a.table) (parts_of_record a.table.types (defined a ka) a.ty fields ea) ∙ keyed_fields a.table fields ∙ ap (map Some) is
        ∙ sym (ap (keyed b.table) (parts_of_record b.table.types (defined b kb) b.ty fields' eb) ∙ keyed_fields b.table fields')
    parts_pair (type.ObjectOf parent dynamic fields methods) (type.ObjectOf parent' dynamic' fields' methods') ea eb is =
        ap (keyed a.table) (parts_of_object a.table.types (defined a ka) a.ty parent dynamic fields methods ea)
        ∙ keyed_object a.table b.table (above a.table.types parent) (above b.table.types parent') dynamic dynamic' fields fields'
        (above_agrees parent parent' dynamic dynamic' fields fields' methods methods' ea eb is.0) is.1 is.2
        ∙ sym (ap (keyed b.table) (parts_of_object b.table.types (defined b kb) b.ty parent' dynamic' fields' methods' eb))
    parts_pair one other ea eb is = absurd is

    fields_above : (parent parent' : Option TypeId) (dynamic dynamic' : Bool) (fields fields' : List Field) (methods methods' : List Method)
        → definition a ≡ Some (type.ObjectOf parent dynamic fields methods) → definition b ≡ Some (type.ObjectOf parent' dynamic' fields' methods')
        → option_map (declared a.table) parent ≡ option_map (declared b.table) parent'
        → ((x y : Sort) → IsKnown program x → IsKnown program y → x.ty.0 < n → class_key x ≡ class_key y → map (declared x.table) (fields_at x.table.types (Some x.ty)) ≡ map (declared y.table) (fields_at y.table.types (Some y.ty)))
        → map (declared a.table) (fields_at a.table.types parent) ≡ map (declared b.table) (fields_at b.table.types parent')
    fields_above None None dynamic dynamic' fields fields' methods methods' ea eb same more = refl
    fields_above None (Some parent') dynamic dynamic' fields fields' methods methods' ea eb same more = absurd cc
    fields_above (Some parent) None dynamic dynamic' fields fields' methods methods' ea eb same more = absurd cc
    fields_above (Some parent) (Some parent') dynamic dynamic' fields fields' methods methods' ea eb same more =
        more (beside a parent) (beside b parent') (parent_known a ka parent dynamic fields methods ea) (parent_known b kb parent' dynamic' fields' methods' eb)
        (omega (arith, h, parent_below a.table.types (defined a ka) a.ty parent dynamic fields methods ea)) (same_Some (declared a.table parent) (declared b.table parent') same)

  parts_up_to : (n : ℕ) (a b : Sort) → IsKnown program a → IsKnown program b → a.ty.0 < n → class_key a ≡ class_key b → PartsAgree a b
  parts_up_to zero a b ka kb h same = absurd (omega (arith, h))
  parts_up_to (suc n) a b ka kb h same = parts_pair n (parts_up_to n) a b ka kb h ka.one kb.one ka.is kb.is (agreed.alike a b ka.one kb.one ka kb ka.is kb.is same)

  -- the parts of a type are the same in all tables
  pub parts_agree : (a b : Sort) → IsKnown program a → IsKnown program b → class_key a ≡ class_key b → PartsAgree a b
  parts_agree a b ka kb same = parts_up_to (a.ty.0 + 1) a b ka kb (omega arith) same

  -- ---- fields

  abbrev FieldsAgree : Sort → Sort → Type 0
  FieldsAgree a b = map (declared a.table) (fields_at a.table.types (Some a.ty)) ≡ map (declared b.table) (fields_at b.table.types (Some b.ty))

  map_both : (table : Table) (xs ys : List TypeId) → map (declared table) (xs ++ ys) ≡ map (declared table) xs ++ map (declared table) ys
  map_both table [] ys = refl
  map_both table (x ∷ xs) ys = ap (λ (l : List (Option Key)). declared table x ∷ l) (map_both table xs ys)

  map_fields : (table : Table) (fields : List Field) → map (declared table) (map (λ (field : Field). field.ty) fields) ≡ declared_fields table fields
  map_fields table [] = refl
  map_fields table (field ∷ fields) = ap (λ (l : List (Option Key)). declared table field.ty ∷ l) (map_fields table fields)

  module _ (n : ℕ) (rec : (a b : Sort) → IsKnown program a → IsKnown program b → a.ty.0 < n → class_key a ≡ class_key b → FieldsAgree a b)
      (prec : (a b : Sort) → IsKnown program a → IsKnown program b → a.ty.0 < n → class_key a ≡ class_key b → PartsAgree a b)
      (a b : Sort) (ka : IsKnown program a) (kb : IsKnown program b) (h : a.ty.0 < suc n) where
    without_fields : (one other : TypeDef) → definition a ≡ Some one → definition b ≡ Some other → ((front : List TypeDef) (given : List (List TypeId)) → fields_by front given one ≡ [])
        → ((front : List TypeDef) (given : List (List TypeId)) → fields_by front given other ≡ []) → FieldsAgree a b
    without_fields one other ea eb none none' =
        ap (map (declared a.table)) (no_fields_of a.table.types (defined a ka) a.ty one ea none) ∙ sym (ap (map (declared b.table)) (no_fields_of b.table.types (defined b kb) b.ty other eb none'))

    fields_pair : (one other : TypeDef) → definition a ≡ Some one → definition b ≡ Some other → AreAlike a.table one b.table other → FieldsAgree a b
    fields_pair (type.Ordinal host low high) (type.Ordinal host' low' high') ea eb is = without_fields (type.Ordinal host low high) (type.Ordinal host' low' high') ea eb (λ f g. refl) (λ f g. refl)
    fields_pair (type.Str max) (type.Str max') ea eb is = without_fields (type.Str max) (type.Str max') ea eb (λ f g. refl) (λ f g. refl)
    fields_pair (type.SetOf base) (type.SetOf base') ea eb is = without_fields (type.SetOf base) (type.SetOf base') ea eb (λ f g. refl) (λ f g. refl)
    fields_pair (type.ArrayOf index element) (type.ArrayOf index' element') ea eb is = without_fields (type.ArrayOf index element) (type.ArrayOf index' element') ea eb (λ f g. refl) (λ f g. refl)
    fields_pair (type.PointerTo target) (type.PointerTo target') ea eb is = without_fields (type.PointerTo target) (type.PointerTo target') ea eb (λ f g. refl) (λ f g. refl)
    fields_pair (type.Procedural header) (type.Procedural header') ea eb is = without_fields (type.Procedural header) (type.Procedural header') ea eb (λ f g. refl) (λ f g. refl)
    fields_pair (type.RecordOf fields) (type.RecordOf fields') ea eb is =
        ap (map (declared a.table)) (fields_of_record a.table.types (defined a ka) a.ty fields ea) ∙ map_fields a.table fields ∙ is
        ∙ sym (ap (map (declared b.table)) (fields_of_record b.table.types (defined b kb) b.ty fields' eb) ∙ map_fields b.table fields')
    fields_pair (type.ObjectOf parent dynamic fields methods) (type.ObjectOf parent' dynamic' fields' methods') ea eb is =
        let own : List TypeId = map (λ (field : Field). field.ty) fields in
        let own' : List TypeId = map (λ (field : Field). field.ty) fields' in
        ap (map (declared a.table)) (fields_of_object a.table.types (defined a ka) a.ty parent dynamic fields methods ea)
        ∙ map_both a.table (fields_at a.table.types parent) own
        ∙ ap (λ l. l ++ map (declared a.table) own) (fields_above n prec a b ka kb h parent parent' dynamic dynamic' fields fields' methods methods' ea eb is.0 rec)
        ∙ ap (λ l. map (declared b.table) (fields_at b.table.types parent') ++ l) (map_fields a.table fields ∙ is.2 ∙ sym (map_fields b.table fields'))
        ∙ sym (ap (map (declared b.table)) (fields_of_object b.table.types (defined b kb) b.ty parent' dynamic' fields' methods' eb) ∙ map_both b.table (fields_at b.table.types parent') own')
    fields_pair one other ea eb is = absurd is

  fields_up_to : (n : ℕ) (a b : Sort) → IsKnown program a → IsKnown program b → a.ty.0 < n → class_key a ≡ class_key b → FieldsAgree a b
  fields_up_to zero a b ka kb h same = absurd (omega (arith, h))
  fields_up_to (suc n) a b ka kb h same = fields_pair n (fields_up_to n) (parts_up_to n) a b ka kb h ka.one kb.one ka.is kb.is (agreed.alike a b ka.one kb.one ka kb ka.is kb.is same)

  -- the fields of a type are the same in all tables
  pub fields_agree : (a b : Sort) → IsKnown program a → IsKnown program b → class_key a ≡ class_key b → FieldsAgree a b
  fields_agree a b ka kb same = fields_up_to (a.ty.0 + 1) a b ka kb (omega arith) same
