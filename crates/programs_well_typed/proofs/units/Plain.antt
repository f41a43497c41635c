-- Types that typed constants have: they have no object in them, whatever types follow.
use Rattle.std.proofs.Common.{◌≡◌, ◌∙◌, ℕ, zero, suc, Bool, true, false, ◌&&◌, List, [], ◌∷◌, ◌++◌, get_or, refl, ap}
use Rattle.std.specs.List.{list_all}
use Rattle.shared_types_agree.specs.type_layout.declared.definitions.TypeId.{TypeId}
use Rattle.shared_types_agree.specs.type_layout.declared.definitions.Field.{Field}
use Rattle.shared_types_agree.specs.type_layout.declared.definitions.TypeDef.{TypeDef}
use Rattle.shared_types_agree.specs.type_layout.declared.definitions.TypeDef.TheVariants as type
use Rattle.shared_types_agree.specs.type_layout.Layouts.{given_by}
use Rattle.shared_types_agree.specs.constant_checker.typed_constants.Initializers as constants
use Rattle.shared_types_agree.specs.program_typing.programs.WellTyped as programs

-- ---- more types

kept_with : (given : List Bool) (one : Bool) (k : ℕ) → get_or given k false ≡ true → get_or (given ++ one ∷ []) k false ≡ true
kept_with [] one zero h = (let bad : false ≡ true = h in cc)
kept_with [] one (suc k) h = (let bad : false ≡ true = h in cc)
kept_with (first ∷ given) one zero h = h
kept_with (first ∷ given) one (suc k) h = kept_with given one k h

kept_behind : (types : List TypeDef) (given : List Bool) (k : ℕ) → get_or given k false ≡ true → get_or (constants.plain_behind given types) k false ≡ true
kept_behind [] given k h = h
kept_behind (one ∷ rest) given k h = kept_behind rest (given ++ constants.plain_by given one ∷ []) k (kept_with given (constants.plain_by given one) k h)

in_turn : (front back : List TypeDef) (given : List Bool) → constants.plain_behind given (front ++ back) ≡ constants.plain_behind (constants.plain_behind given front) back
in_turn [] back given = refl
in_turn (one ∷ front) back given = in_turn front back (given ++ constants.plain_by given one ∷ [])

pub plain_more : (front back : List TypeDef) (ty : TypeId) → constants.is_plain front ty ≡ true → constants.is_plain (front ++ back) ty ≡ true
plain_more front back ty h = ap (λ (all : List Bool). get_or all ty.0 false) (in_turn front back []) ∙ kept_behind back (constants.plain_types front) ty.0 h

-- ---- what typed constants may have is plain

-- of two lists of one length, the second says so wherever the first does
abbrev Implies : List Bool → List Bool → Type 0
Implies [] [] = Unit {0}
Implies (x ∷ xs) (y ∷ ys) = (x ≡ true → y ≡ true) × Implies xs ys
Implies xs ys = ⊥

implies_with : (xs ys : List Bool) (x y : Bool) → Implies xs ys → (x ≡ true → y ≡ true) → Implies (xs ++ x ∷ []) (ys ++ y ∷ [])
implies_with [] [] x y h k = (k, tt)
implies_with [] (b ∷ ys) x y h k = absurd h
implies_with (a ∷ xs) [] x y h k = absurd h
implies_with (a ∷ xs) (b ∷ ys) x y h k = (h.0, implies_with xs ys x y h.1 k)

implies_at : (xs ys : List Bool) (k : ℕ) → Implies xs ys → get_or xs k false ≡ true → get_or ys k true ≡ true
implies_at [] [] zero h e = refl
implies_at [] [] (suc k) h e = refl
implies_at [] (y ∷ ys) k h e = absurd h
implies_at (x ∷ xs) [] k h e = absurd h
implies_at (x ∷ xs) (y ∷ ys) zero h e = h.0 e
implies_at (x ∷ xs) (y ∷ ys) (suc k) h e = implies_at xs ys k h.1 e

both : (a b : Bool) → (a && b) ≡ true → (a ≡ true) × (b ≡ true)
both true b e = (refl, e)
both false b e = (let bad : false ≡ true = e in cc)

and_made : (a b : Bool) → a ≡ true → b ≡ true → (a && b) ≡ true
and_made true b h k = k
and_made false b h k = h

fields_plain : (xs ys : List Bool) (fields : List Field) → Implies xs ys → list_all (λ (field : Field). get_or xs field.ty.0 false) fields ≡ true → list_all (λ (field : Field). programs.plain_in ys field.ty) fields ≡ true
fields_plain xs ys [] h e = refl
fields_plain xs ys (field ∷ fields) h e =
    let it = both (get_or xs field.ty.0 false) (list_all (λ (field : Field). get_or xs field.ty.0 false) fields) e in
    and_made (programs.plain_in ys field.ty) (list_all (λ (field : Field). programs.plain_in ys field.ty) fields) (implies_at xs ys field.ty.0 h it.0) (fields_plain xs ys fields h it.1)

by_plain : (before : List TypeDef) (xs ys : List Bool) (one : TypeDef) → Implies xs ys → constants.plain_by xs one ≡ true → programs.plain_by before ys one ≡ true
by_plain before xs ys (type.Ordinal host low high) h e = refl
by_plain before xs ys (type.Str max) h e = refl
by_plain before xs ys (type.SetOf base) h e = refl
by_plain before xs ys (type.ArrayOf index element) h e = implies_at xs ys element.0 h e
by_plain before xs ys (type.RecordOf fields) h e = fields_plain xs ys fields h e
by_plain before xs ys (type.PointerTo target) h e = refl
by_plain before xs ys (type.ObjectOf parent dynamic fields methods) h e = e
by_plain before xs ys (type.Procedural header) h e = refl

behind_implies : (types before : List TypeDef) (xs ys : List Bool) → Implies xs ys → Implies (constants.plain_behind xs types) (given_by programs.plain_by before ys types)
behind_implies [] before xs ys h = h
behind_implies (one ∷ rest) before xs ys h =
    behind_implies rest (before ++ one ∷ []) (xs ++ constants.plain_by xs one ∷ []) (ys ++ programs.plain_by before ys one ∷ [])
    (implies_with xs ys (constants.plain_by xs one) (programs.plain_by before ys one) h (by_plain before xs ys one h))

pub plain_of : (types : List TypeDef) (ty : TypeId) → constants.is_plain types ty ≡ true → programs.is_plain types ty ≡ true
plain_of types ty h = implies_at (constants.plain_types types) (given_by programs.plain_by [] [] types) ty.0 (behind_implies types [] [] [] tt) h
