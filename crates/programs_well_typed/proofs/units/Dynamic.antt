-- Object types whose instances have a class.
use Rattle.std.proofs.Common.{◌≡◌, ℕ, zero, suc, ◌+◌, Bool, true, false, not, ◌&&◌, List, [], ◌∷◌, ◌++◌, get_or, Option, Some, None, option_map, is_some, refl, sym, ap, subst, append_assoc, append-nil}
use Rattle.std.specs.Prelude.{slice_get}
use Rattle.shared_types_agree.specs.type_layout.declared.definitions.TypeId.{TypeId}
use Rattle.shared_types_agree.specs.type_layout.declared.definitions.Field.{Field}
use Rattle.shared_types_agree.specs.type_layout.declared.definitions.TypeDef.{TypeDef}
use Rattle.shared_types_agree.specs.type_layout.declared.definitions.TypeDef.TheVariants as type
use Rattle.shared_types_agree.specs.type_layout.Layouts.{given_by}
use Rattle.shared_types_agree.specs.type_layout.Table.{Table}
use Rattle.shared_types_agree.specs.typed_tree.type_fits.Fits.{definition}
use Rattle.shared_types_agree.specs.tp_meaning.Shapes.{Part, FieldPart, ClassPart, has_class_part, field_parts, class_parts, object_parts, parts_in, parts_by, parts_of, parts_at, class_place}
use Rattle.shared_types_agree.specs.program_typing.programs.WellTyped.{HasClassPart}

abbrev pub dynamic_by : Option TypeDef → Bool
dynamic_by (Some (type.ObjectOf parent dynamic fields methods)) = dynamic
dynamic_by one = false

-- the type that owns a routine, if there is one, is dynamic
abbrev pub IsDynamic : List TypeDef → Option TypeId → Type 0
IsDynamic types None = Unit {0}
IsDynamic types (Some owner) = dynamic_by (definition types owner) ≡ true

-- ---- more types

still_dynamic : (front back : List TypeDef) (k : ℕ) → dynamic_by (slice_get front k) ≡ true → dynamic_by (slice_get (front ++ back) k) ≡ true
still_dynamic [] back zero h = (let bad : false ≡ true = h in cc)
still_dynamic [] back (suc k) h = (let bad : false ≡ true = h in cc)
still_dynamic (one ∷ front) back zero h = h
still_dynamic (one ∷ front) back (suc k) h = still_dynamic front back k h

pub dynamic_more : (front back : List TypeDef) (owner : Option TypeId) → IsDynamic front owner → IsDynamic (front ++ back) owner
dynamic_more front back None h = tt
dynamic_more front back (Some owner) h = still_dynamic front back owner.0 h

-- ---- the place of the class

has_next : (o : Option ℕ) → is_some o ≡ true → is_some (option_map (λ (place : ℕ). 1 + place) o) ≡ true
has_next (Some place) h = refl
has_next None h = h

class_behind : (xs ys : List Part) → is_some (class_place ys) ≡ true → is_some (class_place (xs ++ ys)) ≡ true
class_behind [] ys h = h
class_behind (FieldPart ty ∷ xs) ys h = has_next (class_place (xs ++ ys)) (class_behind xs ys h)
class_behind (ClassPart ∷ xs) ys h = refl

class_before : (xs ys : List Part) → has_class_part xs ≡ true → is_some (class_place (xs ++ ys)) ≡ true
class_before [] ys h = (let bad : false ≡ true = h in cc)
class_before (FieldPart ty ∷ xs) ys h = has_next (class_place (xs ++ ys)) (class_before xs ys h)
class_before (ClassPart ∷ xs) ys h = refl

object_has : (above : List Part) (fields : List Field) → is_some (class_place (object_parts above true fields)) ≡ true
object_has above fields = by (has_class_part above) refl
  where
    by : (b : Bool) → has_class_part above ≡ b → is_some (class_place (above ++ (field_parts fields ++ class_parts (true && not (has_class_part above))))) ≡ true
    by true e = class_before above (field_parts fields ++ class_parts (true && not (has_class_part above))) e
    by false e =
        class_behind above (field_parts fields ++ class_parts (true && not (has_class_part above)))
        (class_behind (field_parts fields) (class_parts (true && not (has_class_part above))) (ap (λ (b : Bool). is_some (class_place (class_parts (true && not b)))) e))

-- each type that is dynamic has a place for the class among its parts
abbrev Have : List TypeDef → List (List Part) → Type 0
Have [] [] = Unit {0}
Have (one ∷ types) (parts ∷ all) = (dynamic_by (Some one) ≡ true → is_some (class_place parts) ≡ true) × Have types all
Have types all = ⊥

have_with : (types : List TypeDef) (all : List (List Part)) (one : TypeDef) (parts : List Part) → Have types all → (dynamic_by (Some one) ≡ true → is_some (class_place parts) ≡ true) → Have (types ++ one ∷ []) (all ++ parts ∷ [])
have_with [] [] one parts h k = (k, tt)
have_with [] (p ∷ all) one parts h k = absurd h
have_with (t ∷ types) [] one parts h k = absurd h
have_with (t ∷ types) (p ∷ all) one parts h k = (h.0, have_with types all one parts h.1 k)

have_at : (types : List TypeDef) (all : List (List Part)) (k : ℕ) → Have types all → dynamic_by (slice_get types k) ≡ true → is_some (class_place (get_or all k [])) ≡ true
have_at [] [] zero h e = (let bad : false ≡ true = e in cc)
have_at [] [] (suc k) h e = (let bad : false ≡ true = e in cc)
have_at [] (p ∷ all) k h e = absurd h
have_at (t ∷ types) [] k h e = absurd h
have_at (t ∷ types) (p ∷ all) zero h e = h.0 e
have_at (t ∷ types) (p ∷ all) (suc k) h e = have_at types all k h.1 e

part_has : (before : List TypeDef) (given : List (List Part)) (one : TypeDef) → dynamic_by (Some one) ≡ true → is_some (class_place (parts_by before given one)) ≡ true
part_has before given (type.ObjectOf parent true fields methods) h = object_has (parts_in given parent) fields
part_has before given (type.ObjectOf parent false fields methods) h = (let bad : false ≡ true = h in cc)
part_has before given (type.Ordinal host low high) h = (let bad : false ≡ true = h in cc)
part_has before given (type.Str max) h = (let bad : false ≡ true = h in cc)
part_has before given (type.SetOf base) h = (let bad : false ≡ true = h in cc)
part_has before given (type.ArrayOf index element) h = (let bad : false ≡ true = h in cc)
part_has before given (type.RecordOf fields) h = (let bad : false ≡ true = h in cc)
part_has before given (type.PointerTo target) h = (let bad : false ≡ true = h in cc)
part_has before given (type.Procedural header) h = (let bad : false ≡ true = h in cc)

behind_have : (types before : List TypeDef) (given : List (List Part)) → Have before given → Have (before ++ types) (given_by parts_by before given types)
behind_have [] before given h = subst (λ (all : List TypeDef). Have all given) (sym (append-nil before)) h
behind_have (one ∷ rest) before given h =
    let all : List (List Part) = given_by parts_by (before ++ one ∷ []) (given ++ parts_by before given one ∷ []) rest in
    subst (λ (types : List TypeDef). Have types all) (append_assoc before (one ∷ []) rest)
    (behind_have rest (before ++ one ∷ []) (given ++ parts_by before given one ∷ []) (have_with before given one (parts_by before given one) h (part_has before given one)))

class_of : (types : List TypeDef) (owner : TypeId) → dynamic_by (definition types owner) ≡ true → is_some (class_place (parts_at types owner)) ≡ true
class_of types owner h = have_at types (parts_of types) owner.0 (behind_have types [] [] tt) h

pub class_part : (table : Table) (owner : Option TypeId) → IsDynamic table.types owner → HasClassPart table owner
class_part table None h = tt
class_part table (Some owner) h = class_of table.types owner h
