-- Types of parts: elements, and fields along a line.
use Rattle.std.proofs.Common.{◌≡◌, ℕ, zero, suc, ◌+◌, ◌<◌, All, Bool, List, [], ◌∷◌, ◌++◌, length, map, get_or, Option, Some, None, refl, sym, subst, ap, ◌∙◌, arith, length-append, append_assoc}
use Rattle.std.specs.Prelude.{slice_get}
use Rattle.std.proofs.lemmas.List.Elements.{All-head, All-tail}
use Rattle.well_formed.specs.type_layout.declared.definitions.TypeId.{TypeId}
use Rattle.well_formed.specs.type_layout.declared.definitions.Field.{Field}
use Rattle.well_formed.specs.type_layout.declared.definitions.Method.{Method}
use Rattle.well_formed.specs.type_layout.declared.definitions.TypeDef.{TypeDef}
use Rattle.well_formed.specs.type_layout.declared.definitions.TypeDef.TheVariants as type
use Rattle.well_formed.specs.type_layout.Table.{IsDefinedOver, AllDefined}
use Rattle.well_formed.specs.type_layout.Layouts.{given_by}
use Rattle.well_formed.proofs.type_layout_proofs.Given.{get_or-given_by-middle, get_or-given_by-front}
use Rattle.well_formed.proofs.type_layout_proofs.Local.{within_if_object}
use Rattle.well_formed.specs.typed_tree.type_fits.Fits.{definition, IsSome, types_in, fields_by, field_types_of}
use Rattle.rules_well_formed.specs.nodes.Tables.{IsInTable, IsSound}

-- ---- a type among those before and after it

pub record Round (types : List TypeDef) (k : ℕ) (one : TypeDef) : Type 0 where
  pub front : List TypeDef
  pub back : List TypeDef
  pub is : types ≡ front ++ one ∷ back
  pub at : length front ≡ k
  pub defined : IsDefinedOver front one

round_from : (before types : List TypeDef) (k : ℕ) (one : TypeDef) → AllDefined before types → slice_get types k ≡ Some one
    → Round (before ++ types) (length before + k) one
round_from before [] zero one all found = let bad : ⊥ = cc in absurd bad
round_from before [] (suc k) one all found = let bad : ⊥ = cc in absurd bad
round_from before (first ∷ rest) zero one all found =
    let same : first ≡ one = cc in
    record {
      front = before;
      back = rest;
      is = rw same refl;
      at = omega arith;
      defined = subst (λ (x : TypeDef). IsDefinedOver before x) same all.0;
    }
round_from before (first ∷ rest) (suc k) one all found =
    let more : List TypeDef = before ++ first ∷ [] in
    let r = round_from more rest k one all.1 found in
    let len : length more ≡ length before + 1 = length-append before (first ∷ []) in
    let at = r.at in
    record {
      front = r.front;
      back = r.back;
      is = sym (append_assoc before (first ∷ []) rest) ∙ r.is;
      at = omega (arith, len, at);
      defined = r.defined;
    }

pub some_within : (types : List TypeDef) (k : ℕ) → k < length types → IsSome (slice_get types k)
some_within [] zero h = absurd (omega arith)
some_within [] (suc k) h = absurd (omega arith)
some_within (one ∷ types) zero h = tt
some_within (one ∷ types) (suc k) h = some_within types k (omega arith)

all_at : {A : Type 0} (P : A → Type 0) (xs : List A) (k : ℕ) (x : A) → All P xs → slice_get xs k ≡ Some x → P x
all_at P [] zero x all e = let bad : ⊥ = cc in absurd bad
all_at P [] (suc k) x all e = let bad : ⊥ = cc in absurd bad
all_at {A} P (y ∷ ys) zero x all e =
    let same : y ≡ x = cc in
    subst P same (All-head P y ys all)
all_at P (y ∷ ys) (suc k) x all e = all_at P ys k x (All-tail P y ys all) e

-- ---- lists

pub get-append : {A : Type 0} (xs ys : List A) (k : ℕ) → slice_get (xs ++ ys) (length xs + k) ≡ slice_get ys k
get-append [] ys k =
    let n : 0 + k ≡ k = omega arith in
    ap (λ (m : ℕ). slice_get ys m) n
get-append {A} (x ∷ xs) ys k =
    let n : length (x ∷ xs) + k ≡ suc (length xs + k) = omega arith in
    ap (λ (m : ℕ). slice_get (x ∷ (xs ++ ys)) m) n ∙ get-append xs ys k

abbrev pub types_of : List Field → List TypeId
types_of fields = map (λ (field : Field). field.ty) fields

pub mapped : (fields : List Field) (k : ℕ) (field : Field) → slice_get fields k ≡ Some field → slice_get (types_of fields) k ≡ Some field.ty
mapped [] zero field e = let bad : ⊥ = cc in absurd bad
mapped [] (suc k) field e = let bad : ⊥ = cc in absurd bad
mapped (one ∷ fields) zero field e =
    let same : one ≡ field = cc in
    ap (λ (f : Field). Some f.ty) same
mapped (one ∷ fields) (suc k) field e = mapped fields k field e

pub length-types_of : (fields : List Field) → length (types_of fields) ≡ length fields
length-types_of [] = refl
length-types_of (one ∷ fields) = ap suc (length-types_of fields)

-- ---- the table

module _ (types : List TypeDef) (sound : IsSound types) where
  pub round : (ty : TypeId) (one : TypeDef) → definition types ty ≡ Some one → Round types ty.0 one
  round ty one e =
      let r = round_from [] types ty.0 one sound.defined e in
      let n : 0 + ty.0 ≡ ty.0 = omega arith in
      subst (λ (k : ℕ). Round types k one) n r

  front_within : (ty : TypeId) (one : TypeDef) (r : Round types ty.0 one) → length r.front < length types
  front_within ty one r =
      let len : length types ≡ length (r.front ++ one ∷ r.back) = ap (λ (t : List TypeDef). length t) r.is in
      let both : length (r.front ++ one ∷ r.back) ≡ length r.front + length (one ∷ r.back) = length-append r.front (one ∷ r.back) in
      omega (arith, len, both)

  before_in : (ty : TypeId) (one : TypeDef) (r : Round types ty.0 one) (part : TypeId) → part.0 < length r.front → IsInTable types part
  before_in ty one r part h =
      let m = front_within ty one r in
      some_within types part.0 (omega (arith, m))

  pub element_in : (ty index element : TypeId) → definition types ty ≡ Some (type.ArrayOf index element) → IsInTable types element
  element_in ty index element e =
      let r = round ty (type.ArrayOf index element) e in
      before_in ty (type.ArrayOf index element) r element r.defined.1

  pub record_field_in : (ty : TypeId) (fields : List Field) → definition types ty ≡ Some (type.RecordOf fields)
      → (k : ℕ) (field : Field) → slice_get fields k ≡ Some field → IsInTable types field.ty
  record_field_in ty fields e k field at =
      let r = round ty (type.RecordOf fields) e in
      before_in ty (type.RecordOf fields) r field.ty (all_at (λ (f : Field). f.ty.0 < length r.front) fields k field r.defined at)

  pub object_field_in : (ty : TypeId) (parent : Option TypeId) (dynamic : Bool) (fields : List Field) (methods : List Method)
      → definition types ty ≡ Some (type.ObjectOf parent dynamic fields methods)
      → (k : ℕ) (field : Field) → slice_get fields k ≡ Some field → IsInTable types field.ty
  object_field_in ty parent dynamic fields methods e k field at =
      let r = round ty (type.ObjectOf parent dynamic fields methods) e in
      before_in ty (type.ObjectOf parent dynamic fields methods) r field.ty (all_at (λ (f : Field). f.ty.0 < length r.front) fields k field r.defined.1 at)

  -- ---- the types of fields

  abbrev given : Option TypeId → List TypeId
  given o = types_in (field_types_of types) o

  -- of a type of the table, by the types before it
  pub given_at : (ty : TypeId) (one : TypeDef) (r : Round types ty.0 one) → given (Some ty) ≡ fields_by r.front (field_types_of r.front) one
  given_at ty one r =
      let middle = get_or-given_by-middle fields_by r.front one r.back [] in
      subst (λ (t : List TypeDef). get_or (given_by fields_by [] [] t) ty.0 [] ≡ fields_by r.front (field_types_of r.front) one) (sym r.is)
      (subst (λ (k : ℕ). get_or (given_by fields_by [] [] (r.front ++ one ∷ r.back)) k [] ≡ fields_by r.front (field_types_of r.front) one) r.at middle)

  -- of an ancestor, by the types before the descendant
  given_above : (ty : TypeId) (one : TypeDef) (r : Round types ty.0 one) (parent : TypeId) → parent.0 < length r.front
      → types_in (field_types_of r.front) (Some parent) ≡ given (Some parent)
  given_above ty one r parent h =
      let front = get_or-given_by-front fields_by r.front (one ∷ r.back) parent.0 [] h in
      sym (subst (λ (t : List TypeDef). get_or (given_by fields_by [] [] t) parent.0 [] ≡ get_or (given_by fields_by [] [] r.front) parent.0 []) (sym r.is) front)

  pub record_types : (ty : TypeId) (fields : List Field) → definition types ty ≡ Some (type.RecordOf fields) → given (Some ty) ≡ types_of fields
  record_types ty fields e = given_at ty (type.RecordOf fields) (round ty (type.RecordOf fields) e)

  -- a line goes down in the table
  pub parent_below : (ty parent : TypeId) (dynamic : Bool) (fields : List Field) (methods : List Method)
      → definition types ty ≡ Some (type.ObjectOf (Some parent) dynamic fields methods) → parent.0 < ty.0
  parent_below ty parent dynamic fields methods e =
      let r = round ty (type.ObjectOf (Some parent) dynamic fields methods) e in
      let at = r.at in
      let below = within_if_object r.front parent.0 r.defined.0 in
      omega (arith, at, below)

  pub object_types : (ty : TypeId) (parent : Option TypeId) (dynamic : Bool) (fields : List Field) (methods : List Method)
      → definition types ty ≡ Some (type.ObjectOf parent dynamic fields methods) → given (Some ty) ≡ given parent ++ types_of fields
  object_types ty None dynamic fields methods e = given_at ty (type.ObjectOf None dynamic fields methods) (round ty (type.ObjectOf None dynamic fields methods) e)
  object_types ty (Some parent) dynamic fields methods e =
      let r = round ty (type.ObjectOf (Some parent) dynamic fields methods) e in
      let below = within_if_object r.front parent.0 r.defined.0 in
      given_at ty (type.ObjectOf (Some parent) dynamic fields methods) r
      ∙ ap (λ (above : List TypeId). above ++ types_of fields) (given_above ty (type.ObjectOf (Some parent) dynamic fields methods) r parent below)
