-- What was declared at one place has the same cells in all units that agree.
use Rattle.std.proofs.Common.{◌≡◌, ℕ, zero, suc, ◌+◌, ◌<◌, ◌≤◌, List, [], ◌∷◌, length, map, Some, None, refl, sym, ap, ◌∙◌, arith}
use Rattle.std.specs.Prelude.{ℤ, Bool, Option}
use Rattle.tp_meaning.specs.type_layout.declared.definitions.TypeId.{TypeId}
use Rattle.tp_meaning.specs.type_layout.declared.definitions.Host.{Host}
use Rattle.tp_meaning.specs.type_layout.declared.definitions.Field.{Field}
use Rattle.tp_meaning.specs.type_layout.declared.definitions.Method.{Method}
use Rattle.tp_meaning.specs.type_layout.declared.definitions.TypeDef.{TypeDef}
use Rattle.tp_meaning.specs.type_layout.declared.definitions.TypeDef.TheVariants as type
use Rattle.tp_meaning.specs.type_layout.Layouts.{bounds_of, bounds_at}
use Rattle.tp_meaning.specs.type_layout.Storage.{storage_of, count_between}
use Rattle.tp_meaning.specs.type_layout.Table.{Table}
use Rattle.tp_meaning.specs.typed_tree.declared.units.Program.{Program}
use Rattle.tp_meaning.specs.Trees.{Key}
use Rattle.tp_meaning.specs.Shapes.{Part, FieldPart, ClassPart, field_parts, parts_at}
use Rattle.tp_meaning.specs.Programs.{Sort, definition, class_key, beside}
use Rattle.store_typing.specs.types.Declared.{DeclaredHeader, declared, AreAlike}
use Rattle.store_typing.specs.types.Agreement.{IsKnown, AreConsistent}
use Rattle.store_typing.specs.types.Forms.{Form, Cell, Number, members_between, Link, Routine, letter, repeated, line, part_form, part_forms, form_of, form_at, form_beside}
use Rattle.store_typing.proofs.types.Whole.{PartsBelow, parts_of_object, parts_below, record_below, base_below, index_below, element_below, form_whole}
use Rattle.store_typing.proofs.types.Agreed.{keyed, keyed_fields, defined, known_within, known_at, parts_agree}

bounds_pair : (a b : Table) (one other : TypeDef) → AreAlike a one b other → bounds_of (Some one) ≡ bounds_of (Some other)
bounds_pair a b (type.Ordinal host low high) (type.Ordinal host' low' high') is = ap (λ l. (l, high)) is.1 ∙ ap (λ h. (low', h)) is.2
bounds_pair a b (type.Str max) (type.Str max') is = refl
bounds_pair a b (type.SetOf base) (type.SetOf base') is = refl
bounds_pair a b (type.ArrayOf index element) (type.ArrayOf index' element') is = refl
bounds_pair a b (type.RecordOf fields) (type.RecordOf fields') is = refl
bounds_pair a b (type.PointerTo target) (type.PointerTo target') is = refl
bounds_pair a b (type.ObjectOf parent dynamic fields methods) (type.ObjectOf parent' dynamic' fields' methods') is = refl
bounds_pair a b (type.Procedural header) (type.Procedural header') is = refl
bounds_pair a b one other is = absurd is

module _ (program : Program) (agreed : AreConsistent program) where
  pub bounds_agree : (a b : Sort) → IsKnown program a → IsKnown program b → class_key a ≡ class_key b → bounds_at a.table.types a.ty ≡ bounds_at b.table.types b.ty
  bounds_agree a b ka kb same =
      ap bounds_of ka.is ∙ bounds_pair a.table b.table ka.one kb.one (agreed.alike a b ka.one kb.one ka kb ka.is kb.is same) ∙ sym (ap bounds_of kb.is)

  -- parts of equal keys have equal forms, where the forms of their types are equal
  pub part_forms_agree : (n : ℕ) (a b : Sort) → IsKnown program a → IsKnown program b → n ≤ length a.table.types
      → ((ty ty' : TypeId) → IsKnown program (beside a ty) → IsKnown program (beside b ty') → ty.0 < n → declared a.table ty ≡ declared b.table ty' → form_beside a.table ty ≡ form_beside b.table ty')
      → (own : Option Key) (xs ys : List Part) → keyed a.table xs ≡ keyed b.table ys → PartsBelow n xs → PartsBelow (length b.table.types) ys
      → part_forms (form_beside a.table) own xs ≡ part_forms (form_beside b.table) own ys
  part_forms_agree n a b ka kb le each own [] [] same below below' = refl
  part_forms_agree n a b ka kb le each own [] (y ∷ ys) same below below' = absurd cc
  part_forms_agree n a b ka kb le each own (x ∷ xs) [] same below below' = absurd cc
  part_forms_agree n a b ka kb le each own (FieldPart ty ∷ xs) (ClassPart ∷ ys) same below below' = absurd cc
  part_forms_agree n a b ka kb le each own (ClassPart ∷ xs) (FieldPart ty ∷ ys) same below below' = absurd cc
  part_forms_agree n a b ka kb le each own (ClassPart ∷ xs) (ClassPart ∷ ys) same below below' =
      let rest : keyed a.table xs ≡ keyed b.table ys = cc in
      ap (λ (l : List Form). part_form (form_beside b.table) own ClassPart ∷ l) (part_forms_agree n a b ka kb le each own xs ys rest below below')
  part_forms_agree n a b ka kb le each own (FieldPart ty ∷ xs) (FieldPart ty' ∷ ys) same below below' =
      let rest : keyed a.table xs ≡ keyed b.table ys = cc in
      let first : declared a.table ty ≡ declared b.table ty' = cc in
      let here = each ty ty' (known_within program agreed a ty ka (omega (arith, below.0, le))) (known_within program agreed b ty' kb below'.0) below.0 first in
      ap (λ (f : Form). f ∷ part_forms (form_beside a.table) own xs) here
      ∙ ap (λ (l : List Form). form_beside b.table ty' ∷ l) (part_forms_agree n a b ka kb le each own xs ys rest below.1 below'.1)

  below_length : (m n : ℕ) (parts : List Part) → m ≤ n → PartsBelow m parts → PartsBelow n parts
  below_length m n [] le h = tt
  below_length m n (FieldPart ty ∷ parts) le h = (omega (arith, h.0, le), below_length m n parts le h.1)
  below_length m n (ClassPart ∷ parts) le h = below_length m n parts le h

  -- the parts of a type are of types of its table
  pub parts_within : (a : Sort) → IsKnown program a → PartsBelow (length a.table.types) (parts_at a.table.types a.ty)
  parts_within a ka =
      below_length a.ty.0 (length a.table.types) (parts_at a.table.types a.ty) (omega (arith, known_at program agreed a ka)) (parts_below a.table.types (defined program agreed a ka) a.ty)

  -- what the form of a type is made of
  pub whole : (a : Sort) (one : TypeDef) → IsKnown program a → definition a ≡ Some one → form_at a ≡ form_of a.table a.table.types a.ty.0 (form_beside a.table) one
  whole a one ka e = form_whole a.table a.table.types (defined program agreed a ka) a.ty one e

  -- the form of an object type is that of its parts
  pub object_form : (a : Sort) → IsKnown program a → (parent : Option TypeId) (dynamic : Bool) (fields : List Field) (methods : List Method) → definition a ≡ Some (type.ObjectOf parent dynamic fields methods)
      → form_at a ≡ line (part_forms (form_beside a.table) (class_key a) (parts_at a.table.types a.ty))
  object_form a ka parent dynamic fields methods e =
      whole a (type.ObjectOf parent dynamic fields methods) ka e
      ∙ ap (λ (l : List Part). line (part_forms (form_beside a.table) (class_key a) l)) (sym (parts_of_object a.table.types (defined program agreed a ka) a.ty parent dynamic fields methods e))

  module _ (n : ℕ) (rec : (a b : Sort) → IsKnown program a → IsKnown program b → a.ty.0 < n → class_key a ≡ class_key b → form_at a ≡ form_at b)
      (a b : Sort) (ka : IsKnown program a) (kb : IsKnown program b) (h : a.ty.0 < suc n) (same : class_key a ≡ class_key b) where
    below_same : (ty ty' : TypeId) → IsKnown program (beside a ty) → IsKnown program (beside b ty') → ty.0 < a.ty.0 → declared a.table ty ≡ declared b.table ty' → form_beside a.table ty ≡ form_beside b.table ty'
    below_same ty ty' k k' less key = rec (beside a ty) (beside b ty') k k' (omega (arith, less, h)) key

    form_pair : (one other : TypeDef) → definition a ≡ Some one → definition b ≡ Some other → AreAlike a.table one b.table other → form_at a ≡ form_at b
    form_pair (type.Ordinal host low high) (type.Ordinal host' low' high') ea eb is =
        whole a (type.Ordinal host low high) ka ea
        ∙ ap (λ (x : Host). Cell (Number (storage_of x low high))) is.0 ∙ ap (λ (x : ℤ). Cell (Number (storage_of host' x high))) is.1 ∙ ap (λ (x : ℤ). Cell (Number (storage_of host' low' x))) is.2
        ∙ sym (whole b (type.Ordinal host' low' high') kb eb)
    form_pair (type.Str max) (type.Str max') ea eb is = whole a (type.Str max) ka ea ∙ ap (λ (x : ℕ). repeated (x + 1) letter) is ∙ sym (whole b (type.Str max') kb eb)
    form_pair (type.SetOf base) (type.SetOf base') ea eb is =
        let i = base_below a.table.types (defined program agreed a ka) a.ty base ea in
        let i' = base_below b.table.types (defined program agreed b kb) b.ty base' eb in
        let in_a = known_at program agreed a ka in
        let in_b = known_at program agreed b kb in
        let bounds = bounds_agree (beside a base) (beside b base') (known_within program agreed a base ka (omega (arith, i, in_a))) (known_within program agreed b base' kb (omega (arith, i', in_b))) is in
        whole a (type.SetOf base) ka ea ∙ ap (λ (x : ℤ × ℤ). Cell (members_between x)) bounds ∙ sym (whole b (type.SetOf base') kb eb)
    form_pair (type.PointerTo target) (type.PointerTo target') ea eb is = whole a (type.PointerTo target) ka ea ∙ ap (λ (x : Option Key). Cell (Link x)) is ∙ sym (whole b (type.PointerTo target') kb eb)
    form_pair (type.Procedural header) (type.Procedural header') ea eb is = whole a (type.Procedural header) ka ea ∙ ap (λ (x : DeclaredHeader). Cell (Routine x)) is ∙ sym (whole b (type.Procedural header') kb eb)
    form_pair (type.ArrayOf index element) (type.ArrayOf index' element') ea eb is =
        let i = index_below a.table.types (defined program agreed a ka) a.ty index element ea in
        let i' = index_below b.table.types (defined program agreed b kb) b.ty index' element' eb in
        let l = element_below a.table.types (defined program agreed a ka) a.ty index element ea in
        let l' = element_below b.table.types (defined program agreed b kb) b.ty index' element' eb in
        let in_a = known_at program agreed a ka in
        let in_b = known_at program agreed b kb in
        let bounds = bounds_agree (beside a index) (beside b index') (known_within program agreed a index ka (omega (arith, i, in_a))) (known_within program agreed b index' kb (omega (arith, i', in_b))) is.0 in
        let part = below_same element element' (known_within program agreed a element ka (omega (arith, l, in_a))) (known_within program agreed b element' kb (omega (arith, l', in_b))) l is.1 in
        whole a (type.ArrayOf index element) ka ea
        ∙ ap (λ (x : ℤ × ℤ). repeated (count_between x.0 x.1) (form_beside a.table element)) bounds
        ∙ ap (repeated (count_between (bounds_at b.table.types index').0 (bounds_at b.table.types index').1)) part
        ∙ sym (whole b (type.ArrayOf index' element') kb eb)
    form_pair (type.RecordOf fields) (type.RecordOf fields') ea eb is =
        let in_b = known_at program agreed b kb in
        let same_parts : keyed a.table (field_parts fields) ≡ keyed b.table (field_parts fields') = keyed_fields a.table fields ∙ ap (map Some) is ∙ sym (keyed_fields b.table fields') in
        whole a (type.RecordOf fields) ka ea
        ∙ ap line (part_forms_agree a.ty.0 a b ka kb (omega (arith, known_at program agreed a ka)) below_same None (field_parts fields) (field_parts fields') same_parts
        (record_below a.table.types (defined program agreed a ka) a.ty fields ea)
        (below_length b.ty.0 (length b.table.types) (field_parts fields') (omega (arith, in_b)) (record_below b.table.types (defined program agreed b kb) b.ty fields' eb)))
        ∙ sym (whole b (type.RecordOf fields') kb eb)
    form_pair (type.ObjectOf parent dynamic fields methods) (type.ObjectOf parent' dynamic' fields' methods') ea eb is =
        object_form a ka parent dynamic fields methods ea
        ∙ ap line (part_forms_agree a.ty.0 a b ka kb (omega (arith, known_at program agreed a ka)) below_same (class_key a) (parts_at a.table.types a.ty) (parts_at b.table.types b.ty)
        (parts_agree program agreed a b ka kb same) (parts_below a.table.types (defined program agreed a ka) a.ty) (parts_within b kb))
        ∙ ap (λ (k : Option Key). line (part_forms (form_beside b.table) k (parts_at b.table.types b.ty))) same
        ∙ sym (object_form b kb parent' dynamic' fields' methods' eb)
    form_pair one other ea eb is = absurd is

  forms_up_to : (n : ℕ) (a b : Sort) → IsKnown program a → IsKnown program b → a.ty.0 < n → class_key a ≡ class_key b → form_at a ≡ form_at b
  forms_up_to zero a b ka kb h same = absurd (omega (arith, h))
  forms_up_to (suc n) a b ka kb h same = form_pair n (forms_up_to n) a b ka kb h same ka.one kb.one ka.is kb.is (agreed.alike a b ka.one kb.one ka kb ka.is kb.is same)

  -- the cells of a type are the same in all tables
  pub forms_agree : (a b : Sort) → IsKnown program a → IsKnown program b → class_key a ≡ class_key b → form_at a ≡ form_at b
  forms_agree a b ka kb same = forms_up_to (a.ty.0 + 1) a b ka kb (omega arith) same
