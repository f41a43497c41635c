-- The methods of what was declared at one place, in two tables.
use Rattle.std.proofs.Common.{◌≡◌, ℕ, zero, suc, ◌+◌, ◌<◌, Bool, true, false, List, [], ◌∷◌, ◌++◌, map, Some, None, refl, sym, ap, ◌∙◌, arith}
use Rattle.std.specs.Prelude.{Option, ◌&&◌, nat_eq}
use Rattle.std.specs.Option.{option_map}
use Rattle.std.proofs.lemmas.Option.{same_Some}
use Rattle.std.proofs.Common.{eqb-true}
use Rattle.type_soundness.specs.type_layout.declared.definitions.TypeId.{TypeId}
use Rattle.type_soundness.specs.type_layout.declared.definitions.Field.{Field}
use Rattle.type_soundness.specs.type_layout.declared.definitions.Kind.{Kind}
use Rattle.type_soundness.specs.type_layout.declared.definitions.Kind.TheVariants as kind
use Rattle.type_soundness.specs.type_layout.declared.definitions.Param.{Param}
use Rattle.type_soundness.specs.type_layout.declared.definitions.Header.{Header}
use Rattle.type_soundness.specs.type_layout.declared.definitions.Method.{Method}
use Rattle.type_soundness.specs.type_layout.declared.definitions.TypeDef.{TypeDef}
use Rattle.type_soundness.specs.type_layout.declared.definitions.TypeDef.TheVariants as type
use Rattle.type_soundness.specs.type_layout.Table.{Table}
use Rattle.type_soundness.specs.typed_tree.declared.units.Program.{Program}
use Rattle.type_soundness.specs.object_vmt.Members.{Members, no_members, members_by}
use Rattle.type_soundness.specs.object_vmt.Rules.{kind_number, same_flag, same_param, same_params, same_result, same_header}
use Rattle.type_soundness.specs.typed_tree.type_fits.Fits.{shape_of, AreSameHeaders}
use Rattle.type_soundness.specs.tp_meaning.Programs.{Sort, definition, class_key, beside}
use Rattle.type_soundness.specs.store_typing.types.Declared.{DeclaredMethod, declared, declared_header, declared_method, AreAlike}
use Rattle.type_soundness.specs.store_typing.types.Agreement.{IsKnown, AreConsistent}
use Rattle.type_soundness.proofs.store_typing_proofs.types.Whole.{parent_below}
use Rattle.type_soundness.proofs.store_typing_proofs.types.Agreed.{defined, known_within, known_at}
use Rattle.type_soundness.specs.store_typing.stores.Worlds.{World}
use Rattle.type_soundness.proofs.store_typing_proofs.stores.Seen.{header_same}
use Rattle.type_soundness.specs.program_typing.programs.WellTyped.{slot_method}
use Rattle.unit_references.proofs.methods.Lists.{answered_alike, mapped_some}
use Rattle.unit_references.proofs.methods.Tables.{methods_at, methods_above, object_methods, no_methods}

-- ---- headers that are tested alike

both : (a b : Bool) → (a && b) ≡ true → (a ≡ true) × (b ≡ true)
both true b e = (refl, e)
both false b e = absurd cc

kind_same : (a b : Kind) → nat_eq (kind_number a) (kind_number b) ≡ true → a ≡ b
kind_same kind.Procedure kind.Procedure e = refl
kind_same kind.Procedure kind.Function e = absurd cc
kind_same kind.Procedure kind.Constructor e = absurd cc
kind_same kind.Procedure kind.Destructor e = absurd cc
kind_same kind.Function kind.Procedure e = absurd cc
kind_same kind.Function kind.Function e = refl
kind_same kind.Function kind.Constructor e = absurd cc
kind_same kind.Function kind.Destructor e = absurd cc
kind_same kind.Constructor kind.Procedure e = absurd cc
kind_same kind.Constructor kind.Function e = absurd cc
kind_same kind.Constructor kind.Constructor e = refl
kind_same kind.Constructor kind.Destructor e = absurd cc
kind_same kind.Destructor kind.Procedure e = absurd cc
kind_same kind.Destructor kind.Function e = absurd cc
kind_same kind.Destructor kind.Constructor e = absurd cc
kind_same kind.Destructor kind.Destructor e = refl

flag_same : (a b : Bool) → same_flag a b ≡ true → a ≡ b
flag_same true true e = refl
flag_same true false e = absurd cc
flag_same false true e = absurd cc
flag_same false false e = refl

type_same : (a b : TypeId) → nat_eq a.0 b.0 ≡ true → a ≡ b
type_same a b e = ap (λ n. record { 0 = n }) (eqb-true a.0 b.0 e)

param_same : (a b : Param) → same_param a b ≡ true → shape_of a ≡ shape_of b
param_same a b e =
    let parts = both (same_flag a.by_ref b.by_ref) (nat_eq a.ty.0 b.ty.0) e in
    ap (λ (f : Bool). (f, a.ty)) (flag_same a.by_ref b.by_ref parts.0) ∙ ap (λ (t : TypeId). (b.by_ref, t)) (type_same a.ty b.ty parts.1)

params_same : (xs ys : List Param) → same_params xs ys ≡ true → map shape_of xs ≡ map shape_of ys
params_same [] [] e = refl
params_same [] (y ∷ ys) e = absurd cc
params_same (x ∷ xs) [] e = absurd cc
params_same (x ∷ xs) (y ∷ ys) e =
    let parts = both (same_param x y) (same_params xs ys) e in
    ap (λ (s : Bool × TypeId). s ∷ map shape_of xs) (param_same x y parts.0) ∙ ap (λ (l : List (Bool × TypeId)). shape_of y ∷ l) (params_same xs ys parts.1)

result_same : (a b : Option TypeId) → same_result a b ≡ true → a ≡ b
result_same None None e = refl
result_same None (Some y) e = absurd cc
result_same (Some x) None e = absurd cc
result_same (Some x) (Some y) e = ap Some (type_same x y e)

-- ---- methods in two tables

abbrev pub MethodsAgree : Sort → Sort → Type 0
MethodsAgree a b = map (declared_method a.table) (methods_at a.table.types a.ty) ≡ map (declared_method b.table) (methods_at b.table.types b.ty)

map_both : (table : Table) (xs ys : List Method) → map (declared_method table) (xs ++ ys) ≡ map (declared_method table) xs ++ map (declared_method table) ys
map_both table [] ys = refl
map_both table (x ∷ xs) ys = ap (λ (l : List DeclaredMethod). declared_method table x ∷ l) (map_both table xs ys)

module _ (program : Program) (agreed : AreConsistent program) where
  -- headers that are tested to be the same
  pub headers_same : (table : Table) (one other : Header) → same_header one other ≡ true → declared_header table one ≡ declared_header table other
  headers_same table one other e =
      let last = both (nat_eq (kind_number one.kind) (kind_number other.kind) && same_params one.params other.params) (same_result one.result other.result) e in
      let first = both (nat_eq (kind_number one.kind) (kind_number other.kind)) (same_params one.params other.params) last.0 in
      let same : AreSameHeaders one other =
      record { kind = kind_same one.kind other.kind first.0; params = params_same one.params other.params first.1; result = result_same one.result other.result last.1 } in
      let w : World = record { program = program; made = [] } in
      header_same w agreed table one other same

  module _ (n : ℕ) (rec : (a b : Sort) → IsKnown program a → IsKnown program b → a.ty.0 < n → class_key a ≡ class_key b → MethodsAgree a b) (a b : Sort) (ka : IsKnown program a) (kb : IsKnown program b) (h : a.ty.0 < suc n) where
    parent_of_known : (sort : Sort) → IsKnown program sort → (parent : TypeId) (dynamic : Bool) (fields : List Field) (methods : List Method) → definition sort ≡ Some (type.ObjectOf (Some parent) dynamic fields methods)
        → IsKnown program (beside sort parent)
    parent_of_known sort known parent dynamic fields methods e =
        known_within program agreed sort parent known (omega (arith, parent_below sort.table.types (defined program agreed sort known) sort.ty parent dynamic fields methods e, known_at program agreed sort known))

    above_agree : (parent parent' : Option TypeId) (dynamic dynamic' : Bool) (fields fields' : List Field) (methods methods' : List Method)
        → definition a ≡ Some (type.ObjectOf parent dynamic fields methods) → definition b ≡ Some (type.ObjectOf parent' dynamic' fields' methods')
        → option_map (declared a.table) parent ≡ option_map (declared b.table) parent'
        → map (declared_method a.table) (methods_above a.table.types parent) ≡ map (declared_method b.table) (methods_above b.table.types parent')
    above_agree None None dynamic dynamic' fields fields' methods methods' ea eb same = refl
    above_agree None (Some parent') dynamic dynamic' fields fields' methods methods' ea eb same = absurd cc
    above_agree (Some parent) None dynamic dynamic' fields fields' methods methods' ea eb same = absurd cc
    above_agree (Some parent) (Some parent') dynamic dynamic' fields fields' methods methods' ea eb same =
        rec (beside a parent) (beside b parent') (parent_of_known a ka parent dynamic fields methods ea) (parent_of_known b kb parent' dynamic' fields' methods' eb)
        (omega (arith, h, parent_below a.table.types (defined program agreed a ka) a.ty parent dynamic fields methods ea)) (same_Some (declared a.table parent) (declared b.table parent') same)

    without : (one other : TypeDef) → definition a ≡ Some one → definition b ≡ Some other → ((classes : List Members) → members_by classes one ≡ no_members) → ((classes : List Members) → members_by classes other ≡ no_members)
        → MethodsAgree a b
    without one other ea eb none none' =
        ap (map (declared_method a.table)) (no_methods a.table.types (defined program agreed a ka) a.ty one ea none)
        ∙ sym (ap (map (declared_method b.table)) (no_methods b.table.types (defined program agreed b kb) b.ty other eb none'))

    pair : (one other : TypeDef) → definition a ≡ Some one → definition b ≡ Some other → AreAlike a.table one b.table other → MethodsAgree a b
    pair (type.Ordinal host low high) (type.Ordinal host' low' high') ea eb is = without (type.Ordinal host low high) (type.Ordinal host' low' high') ea eb (λ c. refl) (λ c. refl)
    pair (type.Str max) (type.Str max') ea eb is = without (type.Str max) (type.Str max') ea eb (λ c. refl) (λ c. refl)
    pair (type.SetOf base) (type.SetOf base') ea eb is = without (type.SetOf base) (type.SetOf base') ea eb (λ c. refl) (λ c. refl)
    pair (type.ArrayOf i x) (type.ArrayOf i' x') ea eb is = without (type.ArrayOf i x) (type.ArrayOf i' x') ea eb (λ c. refl) (λ c. refl)
    pair (type.RecordOf fields) (type.RecordOf fields') ea eb is = without (type.RecordOf fields) (type.RecordOf fields') ea eb (λ c. refl) (λ c. refl)
    pair (type.PointerTo target) (type.PointerTo target') ea eb is = without (type.PointerTo target) (type.PointerTo target') ea eb (λ c. refl) (λ c. refl)
    pair (type.Procedural header) (type.Procedural header') ea eb is = without (type.Procedural header) (type.Procedural header') ea eb (λ c. refl) (λ c. refl)
    pair (type.ObjectOf parent dynamic fields methods) (type.ObjectOf parent' dynamic' fields' methods') ea eb is =
        let f : Method → DeclaredMethod = declared_method a.table in
        let g : Method → DeclaredMethod = declared_method b.table in
        ap (map f) (object_methods a.table.types (defined program agreed a ka) a.ty parent dynamic fields methods ea) ∙ map_both a.table (methods_above a.table.types parent) methods
        ∙ ap (λ (l : List DeclaredMethod). l ++ map f methods) (above_agree parent parent' dynamic dynamic' fields fields' methods methods' ea eb is.0)
        ∙ ap (λ (l : List DeclaredMethod). map g (methods_above b.table.types parent') ++ l) is.3
        ∙ sym (ap (map g) (object_methods b.table.types (defined program agreed b kb) b.ty parent' dynamic' fields' methods' eb) ∙ map_both b.table (methods_above b.table.types parent') methods')
    pair one other ea eb is = absurd is

  up_to : (n : ℕ) (a b : Sort) → IsKnown program a → IsKnown program b → a.ty.0 < n → class_key a ≡ class_key b → MethodsAgree a b
  up_to zero a b ka kb h same = absurd (omega (arith, h))
  up_to (suc n) a b ka kb h same = pair n (up_to n) a b ka kb h ka.one kb.one ka.is kb.is (agreed.alike a b ka.one kb.one ka kb ka.is kb.is same)

  -- the methods of a type are declared alike in all tables
  methods_agree : (a b : Sort) → IsKnown program a → IsKnown program b → class_key a ≡ class_key b → MethodsAgree a b
  methods_agree a b ka kb same = up_to (a.ty.0 + 1) a b ka kb (omega arith) same

  -- so a slot is answered alike
  pub slot_agree : (a b : Sort) → IsKnown program a → IsKnown program b → class_key a ≡ class_key b → (slot : ℕ) (method : Method) → slot_method a slot ≡ Some method
      → (other : Method) × (slot_method b slot ≡ Some other) × (declared_method b.table other ≡ declared_method a.table method)
  slot_agree a b ka kb same slot method e =
      let alike = answered_alike (declared_method a.table) (declared_method b.table) (λ (d : DeclaredMethod). d.name) (λ (d : DeclaredMethod). d.is_virtual) (λ m. refl) (λ m. refl) (λ m. refl) (λ m. refl)
      (methods_at a.table.types a.ty) (methods_at b.table.types b.ty) slot (methods_agree a b ka kb same) in
      mapped_some (declared_method b.table) (slot_method b slot) (declared_method a.table method) (sym alike ∙ ap (option_map (declared_method a.table)) e)
