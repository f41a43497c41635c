-- Object types with virtual methods have a place for the class of their instances.
use Rattle.std.proofs.Common.{◌≡◌, ◌⊎◌, inl, inr, ℕ, zero, suc, ◌+◌, Bool, true, false, not, ◌&&◌, ◌||◌, cond, List, [], ◌∷◌, ◌++◌, get_or, Option, Some, None, option_map, is_some, refl, sym, ap, subst, ◌∙◌}
use Rattle.std.specs.Prelude.{slice_get}
use Rattle.std.specs.List.{list_any}
use Rattle.std.proofs.lemmas.Option.{option_and_then_some}
use Rattle.type_soundness.specs.type_layout.declared.definitions.TypeId.{TypeId}
use Rattle.type_soundness.specs.type_layout.declared.definitions.Field.{Field}
use Rattle.type_soundness.specs.type_layout.declared.definitions.Method.{Method}
use Rattle.type_soundness.specs.type_layout.declared.definitions.TypeDef.{TypeDef}
use Rattle.type_soundness.specs.type_layout.declared.definitions.TypeDef.TheVariants as type
use Rattle.type_soundness.specs.type_layout.Words.{same_bytes}
use Rattle.type_soundness.specs.type_layout.Layouts.{given_by}
use Rattle.type_soundness.specs.object_vmt.Members.{Members, no_members, inherited, members_by, members_rule, members_of, members_in, nearest}
use Rattle.type_soundness.specs.object_vmt.Slots.{with_slot, slots_from, slots_of, method_at}
use Rattle.type_soundness.specs.tp_meaning.Shapes.{Part, FieldPart, ClassPart, has_class_part, field_parts, class_parts, object_parts, parts_in, parts_by, parts_of, parts_at, class_place}
use Rattle.unit_references.specs.Units.{AreMarked}

-- ---- where the class lies

has_next : (o : Option ℕ) → is_some o ≡ true → is_some (option_map (λ (place : ℕ). 1 + place) o) ≡ true
has_next (Some place) h = refl
has_next None h = h

class_behind : (xs ys : List Part) → is_some (class_place ys) ≡ true → is_some (class_place (xs ++ ys)) ≡ true
class_behind [] ys h = h
class_behind (FieldPart ty ∷ xs) ys h = has_next (class_place (xs ++ ys)) (class_behind xs ys h)
class_behind (ClassPart ∷ xs) ys h = refl

next_has : (o : Option ℕ) → is_some (option_map (λ (place : ℕ). 1 + place) o) ≡ true → is_some o ≡ true
next_has (Some place) h = refl
next_has None h = h

-- the parts of a type begin with those of an ancestor, which has a class
pub class_before : (xs ys : List Part) → is_some (class_place xs) ≡ true → is_some (class_place (xs ++ ys)) ≡ true
class_before [] ys h = (let bad : false ≡ true = h in cc)
class_before (FieldPart ty ∷ xs) ys h = has_next (class_place (xs ++ ys)) (class_before xs ys (next_has (class_place xs) h))
class_before (ClassPart ∷ xs) ys h = refl

class_among : (parts : List Part) → has_class_part parts ≡ true → is_some (class_place parts) ≡ true
class_among [] h = (let bad : false ≡ true = h in cc)
class_among (FieldPart ty ∷ parts) h = has_next (class_place parts) (class_among parts h)
class_among (ClassPart ∷ parts) h = refl

dynamic_has : (above : List Part) (fields : List Field) → is_some (class_place (object_parts above true fields)) ≡ true
dynamic_has above fields = by (has_class_part above) refl
  where
    by : (b : Bool) → has_class_part above ≡ b → is_some (class_place (above ++ (field_parts fields ++ class_parts (true && not (has_class_part above))))) ≡ true
    by true e = class_before above (field_parts fields ++ class_parts (true && not (has_class_part above))) (class_among above e)
    by false e =
        class_behind above (field_parts fields ++ class_parts (true && not (has_class_part above)))
        (class_behind (field_parts fields) (class_parts (true && not (has_class_part above))) (ap (λ (b : Bool). is_some (class_place (class_parts (true && not b)))) e))

-- ---- virtual methods of a line

abbrev has_virtual : List Method → Bool
has_virtual methods = list_any (λ (method : Method). method.is_virtual) methods

either : (a b : Bool) → (a || b) ≡ true → (a ≡ true) ⊎ (b ≡ true)
either true b e = inl refl
either false b e = inr e

or_right : (a b : Bool) → b ≡ true → (a || b) ≡ true
or_right true b e = refl
or_right false b e = e

virtual_among : (xs ys : List Method) → has_virtual (xs ++ ys) ≡ true → (has_virtual xs ≡ true) ⊎ (has_virtual ys ≡ true)
virtual_among [] ys e = inr e
virtual_among (x ∷ xs) ys e = by (virtual_among xs ys) (either x.is_virtual (has_virtual (xs ++ ys)) e)
  where
    later : (has_virtual xs ≡ true) ⊎ (has_virtual ys ≡ true) → (has_virtual (x ∷ xs) ≡ true) ⊎ (has_virtual ys ≡ true)
    later (inl f) = inl (or_right x.is_virtual (has_virtual xs) f)
    later (inr f) = inr f

    by : (has_virtual (xs ++ ys) ≡ true → (has_virtual xs ≡ true) ⊎ (has_virtual ys ≡ true)) → (x.is_virtual ≡ true) ⊎ (has_virtual (xs ++ ys) ≡ true) → (has_virtual (x ∷ xs) ≡ true) ⊎ (has_virtual ys ≡ true)
    by behind (inl f) = inl (ap (λ (v : Bool). v || has_virtual xs) f)
    by behind (inr f) = later (behind f)

-- a slot is of a virtual method
slot_virtual : (methods : List Method) (slots : List (List ℕ)) (k : ℕ) (name : List ℕ) → slice_get (slots_from slots methods) k ≡ Some name → (slice_get slots k ≡ Some name) ⊎ (has_virtual methods ≡ true)
slot_virtual [] slots k name e = inl e
slot_virtual (method ∷ methods) slots k name e = by method.is_virtual refl (slot_virtual methods (with_slot slots method) k name e)
  where
    by : (b : Bool) → method.is_virtual ≡ b → (slice_get (with_slot slots method) k ≡ Some name) ⊎ (has_virtual methods ≡ true) → (slice_get slots k ≡ Some name) ⊎ (has_virtual (method ∷ methods) ≡ true)
    by true is h = inr (ap (λ (v : Bool). v || has_virtual methods) is)
    by false is (inl f) = inl (ap (λ (v : Bool). slice_get (cond (v && not (list_any (same_bytes method.name) slots)) (slots ++ method.name ∷ []) slots) k) (sym is) ∙ f)
    by false is (inr f) = inr (or_right method.is_virtual (has_virtual methods) f)

answered_virtual : (members : Members) (slot : ℕ) (method : Method) → method_at members slot ≡ Some method → has_virtual members.methods ≡ true
answered_virtual members slot method e =
    option_and_then_some (nearest members.methods) (slice_get (slots_of members.methods) slot) method e (λ name at found. by (slot_virtual members.methods [] slot name at))
  where
    none : (k : ℕ) (name : List ℕ) → (let l : List (List ℕ) = [] in slice_get l k) ≡ Some name → ⊥
    none zero name e = cc
    none (suc k) name e = cc

    by : {name : List ℕ} → ((let l : List (List ℕ) = [] in slice_get l slot) ≡ Some name) ⊎ (has_virtual members.methods ≡ true) → has_virtual members.methods ≡ true
    by {name} (inl f) = absurd (none slot name f)
    by (inr f) = f

-- ---- all types

-- a type with a virtual method of its own is dynamic
abbrev IsMarked : TypeDef → Type 0
IsMarked (type.ObjectOf parent dynamic fields methods) = has_virtual methods ≡ true → dynamic ≡ true
IsMarked one = Unit {0}

found_virtual : (methods : List Method) → has_virtual methods ≡ true → (place : ℕ) × ((method : Method) × (slice_get methods place ≡ Some method) × (method.is_virtual ≡ true))
found_virtual [] e = (let bad : false ≡ true = e in cc)
found_virtual (method ∷ methods) e = by (found_virtual methods) (either method.is_virtual (has_virtual methods) e)
  where
    by : (has_virtual methods ≡ true → (place : ℕ) × ((one : Method) × (slice_get methods place ≡ Some one) × (one.is_virtual ≡ true))) → (method.is_virtual ≡ true) ⊎ (has_virtual methods ≡ true) → (place : ℕ) × ((one : Method) × (slice_get (method ∷ methods) place ≡ Some one) × (one.is_virtual ≡ true))
    by behind (inl f) = (0, (method, refl, f))
    by behind (inr f) = (let rest = behind f in (suc rest.0, rest.1))

marked_at : (types : List TypeDef) → AreMarked types → (n : ℕ) (one : TypeDef) → slice_get types n ≡ Some one → IsMarked one
marked_at types h n (type.ObjectOf parent dynamic fields methods) e = λ has.
    (let it = found_virtual methods has in h (record { 0 = n }) parent dynamic fields methods it.0 it.1.0 e it.1.1 it.1.2)
marked_at types h n (type.Ordinal host low high) e = tt
marked_at types h n (type.Str max) e = tt
marked_at types h n (type.SetOf base) e = tt
marked_at types h n (type.ArrayOf index element) e = tt
marked_at types h n (type.RecordOf fields) e = tt
marked_at types h n (type.PointerTo target) e = tt
marked_at types h n (type.Procedural header) e = tt

-- of two lists of one length: what has virtual methods has a class
abbrev Have : List Members → List (List Part) → Type 0
Have [] [] = Unit {0}
Have (one ∷ members) (parts ∷ all) = (has_virtual one.methods ≡ true → is_some (class_place parts) ≡ true) × Have members all
Have members all = ⊥

have_with : (members : List Members) (all : List (List Part)) (one : Members) (parts : List Part) → Have members all → (has_virtual one.methods ≡ true → is_some (class_place parts) ≡ true) → Have (members ++ one ∷ []) (all ++ parts ∷ [])
have_with [] [] one parts h k = (k, tt)
have_with [] (p ∷ all) one parts h k = absurd h
have_with (m ∷ members) [] one parts h k = absurd h
have_with (m ∷ members) (p ∷ all) one parts h k = (h.0, have_with members all one parts h.1 k)

have_at : (members : List Members) (all : List (List Part)) (k : ℕ) → Have members all → has_virtual (get_or members k no_members).methods ≡ true → is_some (class_place (get_or all k [])) ≡ true
have_at [] [] zero h e = (let bad : false ≡ true = e in cc)
have_at [] [] (suc k) h e = (let bad : false ≡ true = e in cc)
have_at [] (p ∷ all) k h e = absurd h
have_at (m ∷ members) [] k h e = absurd h
have_at (m ∷ members) (p ∷ all) zero h e = h.0 e
have_at (m ∷ members) (p ∷ all) (suc k) h e = have_at members all k h.1 e

inherited_has : (members : List Members) (all : List (List Part)) (parent : Option TypeId) → Have members all → has_virtual (inherited members parent).methods ≡ true → is_some (class_place (parts_in all parent)) ≡ true
inherited_has members all None h e = (let bad : false ≡ true = e in cc)
inherited_has members all (Some parent) h e = have_at members all parent.0 h e

object_has : (members : List Members) (all : List (List Part)) (parent : Option TypeId) (dynamic : Bool) (fields : List Field) (methods : List Method) → Have members all → (has_virtual methods ≡ true → dynamic ≡ true)
    → has_virtual ((inherited members parent).methods ++ methods) ≡ true → is_some (class_place (object_parts (parts_in all parent) dynamic fields)) ≡ true
object_has members all parent dynamic fields methods h marked e = by (virtual_among (inherited members parent).methods methods e)
  where
    by : (has_virtual (inherited members parent).methods ≡ true) ⊎ (has_virtual methods ≡ true) → is_some (class_place (object_parts (parts_in all parent) dynamic fields)) ≡ true
    by (inl f) = class_before (parts_in all parent) (field_parts fields ++ class_parts (dynamic && not (has_class_part (parts_in all parent)))) (inherited_has members all parent h f)
    by (inr f) = subst (λ (b : Bool). is_some (class_place (object_parts (parts_in all parent) b fields)) ≡ true) (sym (marked f)) (dynamic_has (parts_in all parent) fields)

type_has : (before : List TypeDef) (members : List Members) (all : List (List Part)) (one : TypeDef) → Have members all → IsMarked one → has_virtual (members_by members one).methods ≡ true → is_some (class_place (parts_by before all one)) ≡ true
type_has before members all (type.ObjectOf parent dynamic fields methods) h marked e = object_has members all parent dynamic fields methods h marked e
type_has before members all (type.Ordinal host low high) h marked e = (let bad : false ≡ true = e in cc)
type_has before members all (type.Str max) h marked e = (let bad : false ≡ true = e in cc)
type_has before members all (type.SetOf base) h marked e = (let bad : false ≡ true = e in cc)
type_has before members all (type.ArrayOf index element) h marked e = (let bad : false ≡ true = e in cc)
type_has before members all (type.RecordOf fields) h marked e = (let bad : false ≡ true = e in cc)
type_has before members all (type.PointerTo target) h marked e = (let bad : false ≡ true = e in cc)
type_has before members all (type.Procedural header) h marked e = (let bad : false ≡ true = e in cc)

behind_have : (types before : List TypeDef) (members : List Members) (all : List (List Part)) → Have members all → ((n : ℕ) (one : TypeDef) → slice_get types n ≡ Some one → IsMarked one)
    → Have (given_by members_rule before members types) (given_by parts_by before all types)
behind_have [] before members all h marked = h
behind_have (one ∷ rest) before members all h marked =
    behind_have rest (before ++ one ∷ []) (members ++ members_rule before members one ∷ []) (all ++ parts_by before all one ∷ [])
    (have_with members all (members_rule before members one) (parts_by before all one) h (type_has before members all one h (marked 0 one refl))) (λ n other e. marked (suc n) other e)

-- a type whose line has a slot has a place for the class
pub slot_class : (types : List TypeDef) → AreMarked types → (class : TypeId) (slot : ℕ) (method : Method) → method_at (members_in (members_of types) class) slot ≡ Some method → is_some (class_place (parts_at types class)) ≡ true
slot_class types marked class slot method e =
    have_at (members_of types) (parts_of types) class.0 (behind_have types [] [] [] tt (marked_at types marked)) (answered_virtual (members_in (members_of types) class) slot method e)
