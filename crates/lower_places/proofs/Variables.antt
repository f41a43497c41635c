-- The variables of a routine by their numbers.
use Rattle.std.proofs.Common.{◌≡◌, ℕ, zero, suc, ◌+◌, ◌-◌, ◌≤◌, ◌<◌, List, [], ◌∷◌, ◌++◌, map, length, get_or, Option, Some, None, Result, Ok, Err, refl, sym, ap, ◌∙◌, arith}
use Rattle.std.specs.Prelude.{slice_get, IfOk}
use Rattle.std.specs.Option.{option_map}
use Rattle.std.proofs.lemmas.Option.{slice_get_past, slice_get-get_or}
use Rattle.type_layout.specs.declared.definitions.TypeId.{TypeId}
use Rattle.type_layout.specs.declared.definitions.Param.{Param}
use Rattle.type_layout.specs.declared.definitions.TypeDef.{TypeDef}
use Rattle.typed_tree.specs.declared.units.Routine.{Routine}
use Rattle.typed_tree.specs.type_fits.Routines.{listed, variables_of}
use Rattle.lower_places.specs.Frames.{Home, In, OwnVariable, part_at, home_of_param, home_of_own, home_from_result, home_from_instance, home_from, home_of}
use Rattle.lower_places.specs.declared.homes.Home.{Home as PlacedHome}
use Rattle.lower_places.specs.declared.homes.Home.TheVariants as placed_home
use Rattle.lower_places.specs.Placed.{placed}

-- one of a list that is long enough
some-there : {A : Type 0} (xs : List A) (n : ℕ) → n < length xs → (x : A) × (slice_get xs n ≡ Some x)
some-there [] n h = absurd (omega (arith, h))
some-there (x ∷ xs) zero h = (x, refl)
some-there (x ∷ xs) (suc n) h = some-there xs n (omega (arith, h))

pub own_home : (types : List TypeDef) (routine : Routine) (n : ℕ) → n < length routine.locals
    → option_map (placed types routine) (home_of_own routine n) ≡ Some (placed_home.In (part_at types routine (OwnVariable n)))
own_home types routine n h =
    let found = some-there routine.locals n h in
    ap (λ (o : Option TypeId). option_map (placed types routine) (option_map (λ (ty : TypeId). In (OwnVariable n)) o)) found.1

pub own_missing : (routine : Routine) (n : ℕ) → length routine.locals ≤ n → home_of_own routine n ≡ None
own_missing routine n h = ap (option_map (λ (ty : TypeId). In (OwnVariable n))) (slice_get_past routine.locals n h)

-- behind a result, and behind Self
pub behind_result : (types : List TypeDef) (routine : Routine) (ty : TypeId) (n : ℕ) → 0 < n → home_from_result types routine (Some ty) n ≡ home_of_own routine (n - 1)
behind_result types routine ty zero h = absurd (omega (arith, h))
behind_result types routine ty (suc n) h = ap (home_of_own routine) (let e : n ≡ suc n - 1 = omega arith in e)

pub behind_instance : (types : List TypeDef) (routine : Routine) (owner : TypeId) (n : ℕ) → 0 < n
    → home_from_instance types routine (Some owner) n ≡ home_from_result types routine routine.header.result (n - 1)
behind_instance types routine owner zero h = absurd (omega (arith, h))
behind_instance types routine owner (suc n) h = ap (home_from_result types routine routine.header.result) (let e : n ≡ suc n - 1 = omega arith in e)

-- a parameter, and what is numbered behind the parameters
among : (types : List TypeDef) (routine : Routine) (before : ℕ) (params : List Param) (n : ℕ) (param : Param) → slice_get params n ≡ Some param
    → home_from types routine before params n ≡ Some (home_of_param types (before + n) param)
among types routine before [] n param e = absurd cc
among types routine before (one ∷ params) zero param e =
    let same : one ≡ param = cc in
    let at : before ≡ before + 0 = omega arith in
    ap (λ (p : Param). let o : Option Home = Some (home_of_param types before p) in o) same ∙ ap (λ k. let o : Option Home = Some (home_of_param types k param) in o) at
among types routine before (one ∷ params) (suc n) param e =
    let at : suc before + n ≡ before + suc n = omega arith in
    among types routine (suc before) params n param e ∙ ap (λ k. let o : Option Home = Some (home_of_param types k param) in o) at

past : (types : List TypeDef) (routine : Routine) (before : ℕ) (params : List Param) (n : ℕ) → length params ≤ n
    → home_from types routine before params n ≡ home_from_instance types routine routine.owner (n - length params)
past types routine before [] n h = ap (home_from_instance types routine routine.owner) (let e : n ≡ n - 0 = omega arith in e)
past types routine before (one ∷ params) zero h = absurd (omega (arith, h))
past types routine before (one ∷ params) (suc n) h =
    let e : n - length params ≡ suc n - suc (length params) = omega arith in
    past types routine (suc before) params n (omega (arith, h)) ∙ ap (home_from_instance types routine routine.owner) e

pub among_params : (types : List TypeDef) (routine : Routine) (n : ℕ) (param : Param) → slice_get routine.header.params n ≡ Some param
    → home_of types routine n ≡ Some (home_of_param types n param)
among_params types routine n param e =
    let at : 0 + n ≡ n = omega arith in
    among types routine 0 routine.header.params n param e ∙ ap (λ k. let o : Option Home = Some (home_of_param types k param) in o) at

pub behind_params : (types : List TypeDef) (routine : Routine) (n : ℕ) → length routine.header.params ≤ n
    → home_of types routine n ≡ home_from_instance types routine routine.owner (n - length routine.header.params)
behind_params types routine n h = past types routine 0 routine.header.params n h

-- ---- their types

pub type_behind : (first : TypeId) (rest : List TypeId) (n : ℕ) → 0 < n → slice_get (first ∷ rest) n ≡ slice_get rest (n - 1)
type_behind first rest zero h = absurd (omega (arith, h))
type_behind first rest (suc n) h = ap (slice_get rest) (let e : n ≡ suc n - 1 = omega arith in e)

param-type : (params : List Param) (rest : List TypeId) (n : ℕ) (param : Param) → slice_get params n ≡ Some param
    → slice_get (map (λ (one : Param). one.ty) params ++ rest) n ≡ Some param.ty
param-type [] rest n param e = absurd cc
param-type (one ∷ params) rest zero param e = let same : one ≡ param = cc in ap (λ (p : Param). let o : Option TypeId = Some p.ty in o) same
param-type (one ∷ params) rest (suc n) param e = param-type params rest n param e

past-type : (params : List Param) (rest : List TypeId) (n : ℕ) → length params ≤ n
    → slice_get (map (λ (one : Param). one.ty) params ++ rest) n ≡ slice_get rest (n - length params)
past-type [] rest n h = ap (slice_get rest) (let e : n ≡ n - 0 = omega arith in e)
past-type (one ∷ params) rest zero h = absurd (omega (arith, h))
past-type (one ∷ params) rest (suc n) h =
    let e : n - length params ≡ suc n - suc (length params) = omega arith in
    past-type params rest n (omega (arith, h)) ∙ ap (slice_get rest) e

pub type_of_param : (routine : Routine) (n : ℕ) (param : Param) → slice_get routine.header.params n ≡ Some param → slice_get (variables_of routine) n ≡ Some param.ty
type_of_param routine n param e = param-type routine.header.params (listed routine.owner ++ (listed routine.header.result ++ routine.locals)) n param e

pub type_past_params : (routine : Routine) (n : ℕ) → length routine.header.params ≤ n
    → slice_get (variables_of routine) n ≡ slice_get (listed routine.owner ++ (listed routine.header.result ++ routine.locals)) (n - length routine.header.params)
type_past_params routine n h = past-type routine.header.params (listed routine.owner ++ (listed routine.header.result ++ routine.locals)) n h

-- where a parameter is placed, its variable is
pub param_value : {E : Type 0} (types : List TypeDef) (routine : Routine) (n : ℕ) (param : Param) (found : Result PlacedHome E) → n < length routine.header.params → param ≡ get_or routine.header.params n param
    → IfOk found (λ home. home ≡ placed types routine (home_of_param types n param)) → IfOk found (λ home. option_map (placed types routine) (home_of types routine n) ≡ Some home)
param_value types routine n param (Ok home) within is e =
    let there : slice_get routine.header.params n ≡ Some param = slice_get-get_or routine.header.params n param within ∙ ap (λ (p : Param). let o : Option Param = Some p in o) (sym is) in
    ap (option_map (placed types routine)) (among_params types routine n param there) ∙ ap (λ (h : PlacedHome). let o : Option PlacedHome = Some h in o) (sym e)
param_value types routine n param (Err error) within is e = tt
