-- Steps of what stays known behind a part: each is about lists and numbers, names, or one routine.
use Rattle.std.proofs.Common.{◌≡◌, ◌⊎◌, inl, inr, ℕ, zero, suc, ◌<◌, ◌≤◌, Bool, true, cond, All, List, [], ◌∷◌, ◌++◌, length, map, get_or, Option, Some, None, refl, sym, subst, ap, ◌∙◌, arith}
use Rattle.std.specs.Prelude.{slice_get, ◌^◌, option_map}
use Rattle.std.specs.Cmp.Lexicographic.{bytes_decides}
use Rattle.std.proofs.lemmas.Bool.{lt-ltb}
use Rattle.std.proofs.Math.Nat.{min-eq_left}
use Rattle.std.proofs.lemmas.Option.{slice_get_within}
use Rattle.declarations_well_formed.specs.type_layout.declared.definitions.TypeId.{TypeId}
use Rattle.declarations_well_formed.specs.type_layout.declared.definitions.Header.{Header}
use Rattle.declarations_well_formed.specs.type_layout.Words.{same_bytes}
use Rattle.declarations_well_formed.specs.typed_tree.declared.units.Routine.{Routine}
use Rattle.declarations_well_formed.specs.typed_tree.type_fits.Fits.{shape_of}
use Rattle.declarations_well_formed.specs.typed_tree.type_fits.Routines.{listed}
use Rattle.declarations_well_formed.specs.well_formed.Scopes.{prototype}
use Rattle.declarations_well_formed.specs.scopes.declared.entries.Entry.{Entry}
use Rattle.declarations_well_formed.specs.scopes.declared.entries.Entry.TheVariants as entry
use Rattle.declarations_well_formed.specs.scopes.Symbols.{SymbolList}
use Rattle.declarations_well_formed.specs.scopes.Members.{narrow}
use Rattle.declarations_well_formed.specs.scopes.Environment.{Environment, with_name}
use Rattle.declarations_well_formed.specs.call_rules.method_rules.Methods.{unit_at}
use Rattle.declarations_well_formed.specs.tp_check_decl.routines.Drafts.{Numbered}
use Rattle.declarations_well_formed.specs.rules_well_formed.methods.Declared.{IsMethod}
use Rattle.declarations_well_formed.specs.well_formed.weakening.Weakening.{IsSame}
use Rattle.declarations_well_formed.specs.names.Declaring.{with_names}
use Rattle.units_well_formed.specs.routines.Reading.{IsOwn}
use Rattle.units_well_formed.proofs.parts.Trees.{get_front}

get_some : {A : Type 0} → (xs : List A) (k : ℕ) (x d : A) → slice_get xs k ≡ Some x → get_or xs k d ≡ x
get_some [] zero x d e = let bad : ⊥ = cc in absurd bad
get_some [] (suc k) x d e = let bad : ⊥ = cc in absurd bad
get_some (y ∷ xs) zero x d e = cc
get_some (y ∷ xs) (suc k) x d e = get_some xs k x d e

pub all_at : {A : Type 0} → (P : A → Type 0) (xs : List A) (k : ℕ) (x : A) → All P xs → slice_get xs k ≡ Some x → P x
all_at P xs k x h e = subst P (get_some xs k x x e) (h k x (slice_get_within xs k x e))

pub exact : (n : ℕ) → n < 2 ^ 32 → narrow n ≡ n
exact n h = let low : n ≤ 4294967295 = omega (arith, h) in min-eq_left low

pub where_class : (n m : ℕ) → (n < m) ⊎ (m ≤ n)
where_class n zero = inr (omega arith)
where_class zero (suc m) = inl (omega arith)
where_class (suc n) (suc m) = next (where_class n m)
  where
    next : (n < m) ⊎ (m ≤ n) → (suc n < suc m) ⊎ (suc m ≤ suc n)
    next (inl f) = inl (omega (arith, f))
    next (inr f) = inr (omega (arith, f))

pub few_listed : (x : Option TypeId) → length (listed x) ≤ 1
few_listed None = omega arith
few_listed (Some t) = omega arith

pub units_same : (g : Environment) (names : SymbolList) → (with_names g names).units ≡ g.units
units_same g [] = refl
units_same g (one ∷ rest) = units_same (with_name g one.0 one.1) rest

pub used_same : (g : Environment) (names : SymbolList) → (with_names g names).used ≡ g.used
used_same g [] = refl
used_same g (one ∷ rest) = used_same (with_name g one.0 one.1) rest

-- the unit itself is the first that is named
pub own_unit : (unit : List ℕ) (units : List (List ℕ)) → slice_get units 0 ≡ Some unit → unit_at units (Some unit) ≡ Some 0
own_unit unit [] e = let bad : ⊥ = cc in absurd bad
own_unit unit (first ∷ rest) e =
    let same : first ≡ unit = cc in
    let yes : same_bytes unit first ≡ true = (bytes_decides unit first).1 (sym same) in
    let some = lt-ltb 0 (suc (length rest)) (omega arith) in
    rw yes (ap (λ (b : Bool). option_map narrow (cond b (Some 0) None)) some)

pub method_same : (class : TypeId) (header : Header) (one other : Routine) → IsSame one other → IsMethod class header (prototype one) → IsMethod class header (prototype other)
method_same class header one other k h = record {
  owned = sym k.owner ∙ h.owned;
  same = record { kind = h.same.kind ∙ ap (λ (x : Header). x.kind) k.header; params = h.same.params ∙ ap (λ (x : Header). map shape_of x.params) k.header; result = h.same.result ∙ ap (λ (x : Header). x.result) k.header };
}

pub own_kept : (front back : List Numbered) (o : List ℕ) (one : Entry) → IsOwn front o one → IsOwn (front ++ back) o one
own_kept front back o (entry.Code routine level header far) h =
    (h.0, record { one = h.1.one; is = get_front front back routine.number h.1.one h.1.is; first = h.1.first; outer = h.1.outer; free = h.1.free })
own_kept front back o (entry.Const ty v) h = tt
own_kept front back o (entry.Ty ty) h = tt
own_kept front back o (entry.Var u level number ty) h = h
own_kept front back o (entry.Std number) h = tt
