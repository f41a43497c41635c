-- An instance begins with the parts of its ancestors, and fields of one type lie in all tables.
use Rattle.std.proofs.Common.{◌≡◌, ℕ, zero, suc, ◌+◌, ◌<◌, ◌≤◌, Bool, List, [], ◌∷◌, ◌++◌, length, map, Some, None, refl, sym, ap, subst, ◌∙◌, arith, append-nil, append_assoc}
use Rattle.std.specs.Prelude.{slice_get, Option, All, option_and_then, ◌&&◌, not}
use Rattle.std.specs.Option.{option_map}
use Rattle.std.proofs.lemmas.Option.{same_Some, option_and_then_some}
use Rattle.std.proofs.lemmas.List.Elements.{All-head, All-tail}
use Rattle.tp_meaning.specs.type_layout.declared.definitions.TypeId.{TypeId}
use Rattle.tp_meaning.specs.type_layout.declared.definitions.Origin.{Origin}
use Rattle.tp_meaning.specs.type_layout.declared.definitions.Field.{Field}
use Rattle.tp_meaning.specs.type_layout.declared.definitions.Method.{Method}
use Rattle.tp_meaning.specs.type_layout.declared.definitions.TypeDef.{TypeDef}
use Rattle.tp_meaning.specs.type_layout.declared.definitions.TypeDef.TheVariants as type
use Rattle.tp_meaning.specs.type_layout.Table.{Table, IsWellFormed, IsObject, AllDefined}
use Rattle.tp_meaning.specs.typed_tree.declared.units.Program.{Program}
use Rattle.tp_meaning.specs.typed_tree.type_fits.Fits.{ancestor, parent_of, field_type}
use Rattle.tp_meaning.specs.Trees.{Key}
use Rattle.tp_meaning.specs.Shapes.{Part, has_class_part, field_parts, class_parts, parts_at}
use Rattle.tp_meaning.specs.Programs.{Sort, definition, class_by, class_key, beside}
use Rattle.store_typing.specs.types.Declared.{declared, AreAlike}
use Rattle.store_typing.specs.types.Agreement.{IsKnown, AreConsistent, IsOfLine}
use Rattle.store_typing.specs.types.Forms.{Form, line, part_form, part_forms, form_at, form_beside}
use Rattle.store_typing.specs.types.Laws.{FieldOf, AgreementLaws}
use Rattle.store_typing.proofs.types.Whole.{parts_of_object, parent_below, fields_at}
use Rattle.store_typing.proofs.types.Agreed.{within_get, get_within, lawful, defined, known_within, known_at, parts_agree, fields_agree}
use Rattle.store_typing.proofs.types.SameForms.{part_forms_agree, parts_within, object_form, forms_agree}

-- ---- places where types were declared

all_get : {X : Type 0} (P : X → Type 0) (xs : List X) (k : ℕ) (x : X) → All P xs → slice_get xs k ≡ Some x → P x
all_get P [] k x each e = absurd cc
all_get P (y ∷ xs) zero x each e = subst P (same_Some y x e) (All-head P y xs each)
all_get P (y ∷ xs) (suc k) x each e = all_get P xs k x (All-tail P y xs each) e

-- each type of a lawful table was declared somewhere
pub is_declared : (table : Table) → IsWellFormed table → (ty : TypeId) → ty.0 < length table.types → (key : Key) × (declared table ty ≡ Some key)
is_declared table law ty h =
    let origin = within_get table.origins ty.0 (omega (arith, h, law.origins)) in
    let name = within_get table.units origin.0.unit (all_get (λ (o : Origin). o.unit < length table.units) table.origins ty.0 origin.0 law.known origin.1) in (
      record { unit = name.0; number = origin.0.number },
      ap (option_and_then (class_by table)) origin.1 ∙ ap (option_map (λ (n : List ℕ). record { unit = n; number = origin.0.number })) name.1,
    )

-- and only those are
declared_within : (table : Table) → IsWellFormed table → (ty : TypeId) (key : Key) → declared table ty ≡ Some key → ty.0 < length table.types
declared_within table law ty key e =
    option_and_then_some (class_by table) (slice_get table.origins ty.0) key e (λ origin found made. omega (arith, get_within table.origins ty.0 origin found, law.origins))

-- ---- lines

-- what an object type has an ancestor by
pub record HasParent (types : List TypeDef) (ty parent : TypeId) : Type 0 where
  pub dynamic : Bool
  pub fields : List Field
  pub methods : List Method
  pub is : slice_get types ty.0 ≡ Some (type.ObjectOf (Some parent) dynamic fields methods)

pub has_parent : (types : List TypeDef) (ty parent : TypeId) (o : Option TypeDef) → slice_get types ty.0 ≡ o → parent_of o ≡ Some parent → HasParent types ty parent
has_parent types ty parent (Some (type.ObjectOf (Some p) dynamic fields methods)) e is =
    record { dynamic = dynamic; fields = fields; methods = methods; is = e ∙ ap (λ (q : TypeId). Some (type.ObjectOf (Some q) dynamic fields methods)) (same_Some p parent is) }
has_parent types ty parent (Some (type.ObjectOf None dynamic fields methods)) e is = absurd cc
has_parent types ty parent (Some (type.Ordinal host low high)) e is = absurd cc
has_parent types ty parent (Some (type.Str max)) e is = absurd cc
has_parent types ty parent (Some (type.SetOf base)) e is = absurd cc
has_parent types ty parent (Some (type.ArrayOf index element)) e is = absurd cc
has_parent types ty parent (Some (type.RecordOf fields)) e is = absurd cc
has_parent types ty parent (Some (type.PointerTo target)) e is = absurd cc
has_parent types ty parent (Some (type.Procedural header)) e is = absurd cc
has_parent types ty parent None e is = absurd cc

-- the parts of a type begin with those of an ancestor
pub record Begins (types : List TypeDef) (own ty : TypeId) : Type 0 where
  pub more : List Part
  pub parts : parts_at types own ≡ parts_at types ty ++ more
  pub before : ty.0 ≤ own.0
  pub object : IsObject (slice_get types ty.0) → IsObject (slice_get types own.0)

module _ (types : List TypeDef) (all : AllDefined [] types) where
  begins_above : (own parent ty : TypeId) → HasParent types own parent → Begins types parent ty → Begins types own ty
  begins_above own parent ty has rest =
      let own_parts : List Part = field_parts has.fields ++ class_parts (has.dynamic && not (has_class_part (parts_at types parent))) in
      record {
        more = rest.more ++ own_parts;
        parts = parts_of_object types all own (Some parent) has.dynamic has.fields has.methods has.is ∙ ap (λ (l : List Part). l ++ own_parts) rest.parts ∙ append_assoc (parts_at types ty) rest.more own_parts;
        before = omega (arith, rest.before, parent_below types all own parent has.dynamic has.fields has.methods has.is);
        object = λ is. subst IsObject (sym has.is) tt;
      }

  pub begins : (steps : ℕ) (own ty : TypeId) → ancestor types steps own ≡ Some ty → Begins types own ty
  begins zero own ty e =
      subst (Begins types own) (same_Some own ty e) (record { more = []; parts = sym (append-nil (parts_at types own)); before = omega arith; object = λ is. is })
  begins (suc steps) own ty e =
      option_and_then_some (ancestor types steps) (parent_of (slice_get types own.0)) ty e (λ parent is rest.
      begins_above own parent ty (has_parent types own parent (slice_get types own.0) refl is) (begins steps parent ty rest))

map_append : {X Y : Type 0} (f : X → Y) (xs ys : List X) → map f (xs ++ ys) ≡ map f xs ++ map f ys
map_append f [] ys = refl
map_append {X} {Y} f (x ∷ xs) ys = ap (λ (l : List Y). f x ∷ l) (map_append f xs ys)

mapped_get : {X Y Z : Type 0} (f : X → Z) (g : Y → Z) (xs : List X) (ys : List Y) (n : ℕ) (x : X) → map f xs ≡ map g ys → slice_get xs n ≡ Some x → (y : Y) × (slice_get ys n ≡ Some y) × (f x ≡ g y)
mapped_get f g [] ys n x same e = absurd cc
mapped_get f g (z ∷ xs) [] n x same e = absurd cc
mapped_get f g (z ∷ xs) (y ∷ ys) zero x same e = (y, refl, ap f (sym (same_Some z x e)) ∙ first) where
  first : f z ≡ g y
  first = cc
mapped_get f g (z ∷ xs) (y ∷ ys) (suc n) x same e = mapped_get f g xs ys n x rest e where
  rest : map f xs ≡ map g ys
  rest = cc

module _ (program : Program) (agreed : AreConsistent program) where
  pub form_if_object : (a : Sort) → IsKnown program a → IsObject (definition a) → (o : Option TypeDef) → definition a ≡ o → form_at a ≡ line (part_forms (form_beside a.table) (class_key a) (parts_at a.table.types a.ty))
  form_if_object a ka is (Some (type.ObjectOf parent dynamic fields methods)) e = object_form program agreed a ka parent dynamic fields methods e
  form_if_object a ka is (Some (type.Ordinal host low high)) e = absurd (subst IsObject e is)
  form_if_object a ka is (Some (type.Str max)) e = absurd (subst IsObject e is)
  form_if_object a ka is (Some (type.SetOf base)) e = absurd (subst IsObject e is)
  form_if_object a ka is (Some (type.ArrayOf index element)) e = absurd (subst IsObject e is)
  form_if_object a ka is (Some (type.RecordOf fields)) e = absurd (subst IsObject e is)
  form_if_object a ka is (Some (type.PointerTo target)) e = absurd (subst IsObject e is)
  form_if_object a ka is (Some (type.Procedural header)) e = absurd (subst IsObject e is)
  form_if_object a ka is None e = absurd (subst IsObject e is)

  pub object_alike : (a b : Table) (one other : TypeDef) → AreAlike a one b other → IsObject (Some other) → IsObject (Some one)
  object_alike a b (type.ObjectOf parent dynamic fields methods) (type.ObjectOf parent' dynamic' fields' methods') is object = tt
  object_alike a b one (type.Ordinal host low high) is object = absurd object
  object_alike a b one (type.Str max) is object = absurd object
  object_alike a b one (type.SetOf base) is object = absurd object
  object_alike a b one (type.ArrayOf index element) is object = absurd object
  object_alike a b one (type.RecordOf fields) is object = absurd object
  object_alike a b one (type.PointerTo target) is object = absurd object
  object_alike a b one (type.Procedural header) is object = absurd object
  object_alike a b one other is object = absurd is

  heirs : (own top : Sort) → IsKnown program own → IsKnown program top → IsOfLine own (class_key top) → IsObject (definition top)
      → (more : List Form) × (form_at own ≡ line (part_forms (form_beside top.table) (class_key own) (parts_at top.table.types top.ty) ++ more))
  heirs own top ko kt of object =
      let types : List TypeDef = own.table.types in
      let start = begins types (defined program agreed own ko) of.steps own.ty of.ty of.reached in
      let mid : Sort = beside own of.ty in
      let km = known_within program agreed own of.ty ko (omega (arith, start.before, known_at program agreed own ko)) in
      let mid_object : IsObject (definition mid) =
      subst IsObject (sym km.is) (object_alike mid.table top.table km.one kt.one (agreed.alike mid top km.one kt.one km kt km.is kt.is of.same) (subst IsObject kt.is object)) in
      let forms : List Part → List Form = part_forms (form_beside own.table) (class_key own) in
      let same : forms (parts_at types of.ty) ≡ part_forms (form_beside top.table) (class_key own) (parts_at top.table.types top.ty) =
      part_forms_agree program agreed (length types) mid top km kt (omega arith)
      (λ ty ty' k k' less key. forms_agree program agreed (beside mid ty) (beside top ty') k k' key) (class_key own)
      (parts_at types of.ty) (parts_at top.table.types top.ty) (parts_agree program agreed mid top km kt of.same) (parts_within program agreed mid km) (parts_within program agreed top kt) in (
        forms start.more,
        form_if_object own ko (start.object mid_object) (definition own) refl
            ∙ ap (λ (l : List Part). line (forms l)) start.parts
            ∙ ap line (map_append (part_form (form_beside own.table) (class_key own)) (parts_at types of.ty) start.more)
            ∙ ap (λ (l : List Form). line (l ++ forms start.more)) same,
      )

  fields_lie : (a b : Sort) (number : ℕ) (ty : TypeId) → IsKnown program a → IsKnown program b → class_key a ≡ class_key b → field_type a.table.types a.ty number ≡ Some ty
      → IsKnown program (beside a ty) → FieldOf program b number (beside a ty)
  fields_lie a b number ty ka kb same e known =
      let found = mapped_get (declared a.table) (declared b.table) (fields_at a.table.types (Some a.ty)) (fields_at b.table.types (Some b.ty)) number ty (fields_agree program agreed a b ka kb same) e in
      let law_a = lawful program agreed a ka in
      let law_b = lawful program agreed b kb in
      let key = is_declared a.table law_a.well_formed ty (known_at program agreed (beside a ty) known) in
      record {
        ty = found.0;
        is = found.1;
        known = known_within program agreed b found.0 kb (declared_within b.table law_b.well_formed found.0 key.0 (sym found.2 ∙ key.1));
        same = found.2;
      }

  pub agreement_laws : AgreementLaws program
  agreement_laws = record { forms = forms_agree program agreed; fields = fields_lie; heirs = heirs }
