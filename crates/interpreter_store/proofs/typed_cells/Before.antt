-- What types give that stand among the first ones of a table.
use Rattle.std.proofs.Common.{◌≡◌, ℕ, zero, suc, ◌+◌, ◌<◌, ◌≤◌, List, [], ◌∷◌, ◌++◌, length, get_or, take, Some, None, refl, sym, ap, ◌∙◌, arith}
use Rattle.std.specs.Prelude.{slice_get}
use Rattle.std.proofs.lemmas.List.{get_or_past, take_all}
use Rattle.std.proofs.lemmas.Option.{slice_get_past}
use Rattle.type_layout.specs.declared.definitions.TypeDef.{TypeDef}
use Rattle.type_layout.specs.Layouts.{given_by}
use Rattle.type_layout.proofs.Given.{length-given_by, get_or-given_by-middle}

-- a prefix of a table up to a type, and behind it
record Cut (types : List TypeDef) (n k : ℕ) (one : TypeDef) : Type 0 where
  back : List TypeDef
  is : take n types ≡ take k types ++ one ∷ back
  len : length (take k types) ≡ k

cut : (types : List TypeDef) (n k : ℕ) (one : TypeDef) → k < n → slice_get types k ≡ Some one → Cut types n k one
cut [] n k one h e = absurd cc
cut (x ∷ types) zero k one h e = absurd (omega (arith, h))
cut (x ∷ types) (suc n) zero one h e =
    let same : x ≡ one = cc in
    record { back = take n types; is = ap (λ (y : TypeDef). y ∷ take n types) same; len = refl }
cut (x ∷ types) (suc n) (suc k) one h e =
    let rest = cut types n k one (omega (arith, h)) e in
    record { back = rest.back; is = ap (λ (l : List TypeDef). x ∷ l) rest.is; len = omega (arith, rest.len) }

-- the rule gives at a type what it gives over the types before it
pub given_within : {A : Type 0} (rule : List TypeDef → List A → TypeDef → A) (types : List TypeDef) (n k : ℕ) (one : TypeDef) (d : A)
    → k < n → slice_get types k ≡ Some one → get_or (given_by rule [] [] (take n types)) k d ≡ rule (take k types) (given_by rule [] [] (take k types)) one
given_within {A} rule types n k one d h e =
    let c = cut types n k one h e in
    let middle = get_or-given_by-middle rule (take k types) one c.back d in
    ap (λ (l : List TypeDef). get_or (given_by rule [] [] l) k d) c.is
    ∙ ap (λ i. get_or (given_by rule [] [] (take k types ++ one ∷ c.back)) i d) (sym c.len)
    ∙ middle

length-front : (types : List TypeDef) (n : ℕ) → length (take n types) ≤ n
length-front [] zero = omega arith
length-front [] (suc n) = omega arith
length-front (x ∷ types) zero = omega arith
length-front (x ∷ types) (suc n) = omega (arith, length-front types n)

-- and nothing at a number that none of them has
pub given_past : {A : Type 0} (rule : List TypeDef → List A → TypeDef → A) (types : List TypeDef) (n k : ℕ) (d : A)
    → n ≤ k → get_or (given_by rule [] [] (take n types)) k d ≡ d
given_past {A} rule types n k d h =
    let none : List A = [] in
    let len : length (given_by rule [] none (take n types)) ≡ length none + length (take n types) = length-given_by rule [] none (take n types) in
    get_or_past (given_by rule [] [] (take n types)) k d (omega (arith, h, len, length-front types n))

pub get_within : (types : List TypeDef) (n k : ℕ) → k < n → slice_get (take n types) k ≡ slice_get types k
get_within [] zero k h = refl
get_within [] (suc n) k h = refl
get_within (x ∷ types) zero k h = absurd (omega (arith, h))
get_within (x ∷ types) (suc n) zero h = refl
get_within (x ∷ types) (suc n) (suc k) h = get_within types n k (omega (arith, h))

pub get_past : (types : List TypeDef) (n k : ℕ) → n ≤ k → slice_get (take n types) k ≡ None
get_past types n k h = slice_get_past (take n types) k (omega (arith, h, length-front types n))

pub whole : (types : List TypeDef) → take (length types) types ≡ types
whole types = take_all (length types) types (omega arith)
