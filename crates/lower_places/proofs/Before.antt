-- What types give that stand among the first ones of a table.
use Rattle.std.proofs.Common.{◌≡◌, ℕ, zero, suc, ◌+◌, ◌<◌, ◌≤◌, List, [], ◌∷◌, ◌++◌, length, length-append, map, get_or, take, Option, Some, Result, Ok, Err, refl, sym, ap, ◌∙◌, arith}
use Rattle.std.specs.Prelude.{slice_get, MatchResult}
use Rattle.std.proofs.lemmas.List.{get_or_past, take_all}
use Rattle.type_layout.specs.declared.definitions.TypeId.{TypeId}
use Rattle.type_layout.specs.declared.definitions.Field.{Field}
use Rattle.type_layout.specs.declared.definitions.TypeDef.{TypeDef}
use Rattle.type_layout.specs.Layouts.{given_by}
use Rattle.type_layout.proofs.Given.{length-given_by, get_or-given_by-middle}

-- a prefix of a table up to a type, and behind it
record Cut (types : List TypeDef) (n k : ℕ) (one : TypeDef) : Type 0 where
  back : List TypeDef
  is : take n types ≡ take k types ++ one ∷ back
  len : length (take k types) ≡ k

cut : (types : List TypeDef) (n k : ℕ) (one : TypeDef) → k < n → slice_get types k ≡ Some one → Cut types n k one
cut [] n k one h e = absurd cc
cut (x ∷ types) zero k one h e = absurd (omega (arith, h))
cut (x ∷ types) (suc n) zero one h e =
    let same : x ≡ one = cc in
    record { back = take n types; is = ap (λ (y : TypeDef). y ∷ take n types) same; len = refl }
cut (x ∷ types) (suc n) (suc k) one h e =
    let rest = cut types n k one (omega (arith, h)) e in
    record { back = rest.back; is = ap (λ (l : List TypeDef). x ∷ l) rest.is; len = omega (arith, rest.len) }

-- the rule gives at a type what it gives over the types before it
pub given_within : {A : Type 0} (rule : List TypeDef → List A → TypeDef → A) (types : List TypeDef) (n k : ℕ) (one : TypeDef) (d : A)
    → k < n → slice_get types k ≡ Some one → get_or (given_by rule [] [] (take n types)) k d ≡ rule (take k types) (given_by rule [] [] (take k types)) one
given_within {A} rule types n k one d h e =
    let c = cut types n k one h e in
    let middle = get_or-given_by-middle rule (take k types) one c.back d in
    ap (λ (l : List TypeDef). get_or (given_by rule [] [] l) k d) c.is
    ∙ ap (λ i. get_or (given_by rule [] [] (take k types ++ one ∷ c.back)) i d) (sym c.len)
    ∙ middle

length-front : (types : List TypeDef) (n : ℕ) → length (take n types) ≤ n
length-front [] zero = omega arith
length-front [] (suc n) = omega arith
length-front (x ∷ types) zero = omega arith
length-front (x ∷ types) (suc n) = omega (arith, length-front types n)

-- and nothing at a number that none of them has
pub given_past : {A : Type 0} (rule : List TypeDef → List A → TypeDef → A) (types : List TypeDef) (n k : ℕ) (d : A)
    → n ≤ k → get_or (given_by rule [] [] (take n types)) k d ≡ d
given_past {A} rule types n k d h =
    let none : List A = [] in
    let len : length (given_by rule [] none (take n types)) ≡ length none + length (take n types) = length-given_by rule [] none (take n types) in
    get_or_past (given_by rule [] [] (take n types)) k d (omega (arith, h, len, length-front types n))

pub whole : (types : List TypeDef) → take (length types) types ≡ types
whole types = take_all (length types) types (omega arith)

-- ---- one of two lists

pub first_of_two : (xs ys : List TypeId) (n : ℕ) (x : TypeId) → slice_get xs n ≡ Some x → slice_get (xs ++ ys) n ≡ Some x
first_of_two [] ys n x e = absurd cc
first_of_two (y ∷ xs) ys zero x e = e
first_of_two (y ∷ xs) ys (suc n) x e = first_of_two xs ys n x e

pub second_of_two : (xs ys : List TypeId) (n rest : ℕ) (x : TypeId) → n ≡ length xs + rest → slice_get ys rest ≡ Some x → slice_get (xs ++ ys) n ≡ Some x
second_of_two [] ys n rest x at e = let same : n ≡ rest = omega (arith, at) in ap (slice_get ys) same ∙ e
second_of_two (y ∷ xs) ys zero rest x at e = absurd (omega (arith, at))
second_of_two (y ∷ xs) ys (suc n) rest x at e = second_of_two xs ys n rest x (omega (arith, at)) e

pub length_two : (xs ys : List TypeId) → length (xs ++ ys) ≡ length xs + length ys
length_two xs ys = length-append xs ys

pub length_types : (fields : List Field) → length (map (λ (field : Field). field.ty) fields) ≡ length fields
length_types [] = refl
length_types (field ∷ fields) = ap suc (length_types fields)

pub field_there : (fields : List Field) (n : ℕ) (field : Field) → slice_get fields n ≡ Some field → slice_get (map (λ (field : Field). field.ty) fields) n ≡ Some field.ty
field_there [] n field e = absurd cc
field_there (one ∷ fields) zero field e = let same : one ≡ field = cc in ap (λ (f : Field). let o : Option TypeId = Some f.ty in o) same
field_there (one ∷ fields) (suc n) field e = field_there fields n field e

-- what is found in the second list is found behind the first
pub found_behind : (xs ys : List TypeId) (found : Result TypeId ℕ) (n rest : ℕ) → n ≡ length xs + rest
    → MatchResult found (λ x. slice_get ys rest ≡ Some x) (λ past. rest ≡ length ys + past)
    → MatchResult found (λ x. slice_get (xs ++ ys) n ≡ Some x) (λ past. n ≡ length (xs ++ ys) + past)
found_behind xs ys (Ok x) n rest at e = second_of_two xs ys n rest x at e
found_behind xs ys (Err past) n rest at e = let all = length_two xs ys in omega (arith, at, e, all)
