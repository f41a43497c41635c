-- Promises of types, as further ones are put behind them.
use Rattle.std.proofs.Common.{◌≡◌, ◌∙◌, ℕ, suc, ◌+◌, ◌<◌, Bool, true, false, not, cond, nat_lt, List, [], ◌∷◌, ◌++◌, length, Option, Some, None, option_map, refl, sym, ap, subst, arith}
use Rattle.std.specs.Prelude.{slice_get}
use Rattle.std.specs.List.{position_or_len}
use Rattle.std.proofs.lemmas.Bool.{ltb-true, ltb-false, lt-ltb, le-ltb}
use Rattle.tp_check_decl.specs.type_layout.declared.definitions.TypeId.{TypeId}
use Rattle.tp_check_decl.specs.type_layout.Words.{same_bytes}
use Rattle.tp_check_decl.specs.scopes.Members.{first_of}
use Rattle.tp_check_decl.specs.declaration_checker.declared.type_denoters.promises.Promise.{Promise}
use Rattle.tp_check_decl.specs.declaration_checker.type_denoters.Denoters.{promise_at, promise_of}

-- each type that is promised is below a bound
abbrev pub ArePromised : List Promise → ℕ → Type 0
ArePromised names n = (name : List ℕ) (ty : TypeId) → promise_of names name ≡ Some ty → ty.0 < n

module _ (name : List ℕ) where
  next_below : (m n : ℕ) → nat_lt (1 + m) (suc n) ≡ nat_lt m n
  next_below m n = by (nat_lt m n) refl
    where
      by : (b : Bool) → nat_lt m n ≡ b → nat_lt (1 + m) (suc n) ≡ b
      by true e = lt-ltb (1 + m) (suc n) (let low = ltb-true m n e in omega arith)
      by false e = le-ltb (1 + m) (suc n) (let high = ltb-false m n e in omega arith)

  promise_first : (first : Promise) (names : List Promise) → promise_of (first ∷ names) name ≡ cond (same_bytes name first.name) (Some first.ty) (promise_of names name)
  promise_first first names = by (same_bytes name first.name)
    where
      later : (m : ℕ) (b : Bool) → promise_at (first ∷ names) (cond b (Some (1 + m)) None) ≡ promise_at names (cond b (Some m) None)
      later m true = ap (λ (k : ℕ). option_map (λ (one : Promise). one.ty) (slice_get (first ∷ names) k)) (let same : 1 + m ≡ suc m = omega arith in same)
      later m false = refl

      by : (b : Bool) → (let m = position_or_len (λ (one : Promise). same_bytes name one.name) names in
          promise_at (first ∷ names) (cond (nat_lt (cond (not b) (1 + m) 0) (length (first ∷ names))) (Some (cond (not b) (1 + m) 0)) None)
          ≡ cond b (Some first.ty) (promise_at names (cond (nat_lt m (length names)) (Some m) None)))
      by true = ap (λ (b : Bool). promise_at (first ∷ names) (cond b (Some 0) None)) (lt-ltb 0 (length (first ∷ names)) (omega arith))
      by false =
          let m = position_or_len (λ (one : Promise). same_bytes name one.name) names in
          ap (λ (b : Bool). promise_at (first ∷ names) (cond b (Some (1 + m)) None)) (next_below m (length names)) ∙ later m (nat_lt m (length names))

  pub promise_last : (names : List Promise) (last : Promise) → promise_of (names ++ last ∷ []) name ≡ first_of (promise_of names name) (cond (same_bytes name last.name) (Some last.ty) None)
  promise_last [] last = promise_first last []
  promise_last (first ∷ names) last =
      let new = cond (same_bytes name last.name) (Some last.ty) None in
      promise_first first (names ++ last ∷ []) ∙ ap (λ (o : Option TypeId). cond (same_bytes name first.name) (Some first.ty) o) (promise_last names last)
      ∙ moved (same_bytes name first.name) first.ty (promise_of names name) new
      ∙ ap (λ (o : Option TypeId). first_of o new) (sym (promise_first first names))
    where
      moved : (b : Bool) (ty : TypeId) (o new : Option TypeId) → cond b (Some ty) (first_of o new) ≡ first_of (cond b (Some ty) o) new
      moved true ty o new = refl
      moved false ty o new = refl

none_but : (b : Bool) (own : TypeId) → cond b (Some own) None ≡ None → b ≡ false
none_but true own e = cc
none_but false own e = refl

-- a name that is not promised by a longer list
pub record IsUnpromised (names : List Promise) (last : Promise) (name : List ℕ) : Type 0 where
  pub before : promise_of names name ≡ None
  pub apart : same_bytes name last.name ≡ false

pub unpromised : (names : List Promise) (last : Promise) (name : List ℕ) → promise_of (names ++ last ∷ []) name ≡ None → IsUnpromised names last name
unpromised names last name e = by (promise_of names name) refl (sym (promise_last name names last) ∙ e)
  where
    by : (o : Option TypeId) → promise_of names name ≡ o → first_of o (cond (same_bytes name last.name) (Some last.ty) None) ≡ None → IsUnpromised names last name
    by None is f = record { before = is; apart = none_but (same_bytes name last.name) last.ty f }
    by (Some own) is f = cc

-- what a longer list promises, the first one does, or it is the last promise
pub data Promised (names : List Promise) (last : Promise) (name : List ℕ) (ty : TypeId) : Type 0 where
  earlier : promise_of names name ≡ Some ty → Promised names last name ty
  lately : promise_of names name ≡ None → same_bytes name last.name ≡ true → last.ty ≡ ty → Promised names last name ty

pub promised_by : (names : List Promise) (last : Promise) (name : List ℕ) (ty : TypeId) → promise_of (names ++ last ∷ []) name ≡ Some ty → Promised names last name ty
promised_by names last name ty e = by (promise_of names name) refl (sym (promise_last name names last) ∙ e)
  where
    at_last : (b : Bool) → same_bytes name last.name ≡ b → promise_of names name ≡ None → cond b (Some last.ty) None ≡ Some ty → Promised names last name ty
    at_last true same none f = lately none same (let it : last.ty ≡ ty = cc in it)
    at_last false same none f = cc

    by : (o : Option TypeId) → promise_of names name ≡ o → first_of o (cond (same_bytes name last.name) (Some last.ty) None) ≡ Some ty → Promised names last name ty
    by None is f = at_last (same_bytes name last.name) refl is f
    by (Some own) is f = earlier (is ∙ f)

pub promised_with : (names : List Promise) (last : Promise) (n : ℕ) → ArePromised names n → last.ty.0 < n → ArePromised (names ++ last ∷ []) n
promised_with names last n h low name ty e = by (promised_by names last name ty e)
  where
    by : Promised names last name ty → ty.0 < n
    by (earlier f) = h name ty f
    by (lately none same is) = subst (λ (x : TypeId). x.0 < n) is low

pub none_promised : (n : ℕ) → ArePromised [] n
none_promised n name ty e = absurd (let none : (let nothing : Option TypeId = None in nothing) ≡ Some ty = e in cc)
