-- Where the variables of a routine lie: each in a part of its own, with room there.
use Rattle.std.proofs.Common.{◌≡◌, ℕ, zero, suc, ◌+◌, ◌≤◌, ◌<◌, ◌⊎◌, inl, inr, Bool, true, false, cond, List, [], ◌∷◌, ◌++◌, map, length, Option, Some, None, is_some, refl, sym, ap, subst, ◌∙◌, arith}
use Rattle.std.specs.Prelude.{slice_get, nat_le, nat_eq}
use Rattle.std.specs.Option.{option_map}
use Rattle.std.proofs.lemmas.Bool.Decides.{nat_tests}
use Rattle.type_layout.specs.declared.definitions.Host.{Host}
use Rattle.type_layout.specs.declared.definitions.Host.TheVariants.{ShortInt, Byte, Integer, Word, LongInt, Char, Boolean, Enumeration}
use Rattle.type_layout.specs.declared.definitions.TypeId.{TypeId}
use Rattle.type_layout.specs.declared.definitions.Param.{Param}
use Rattle.type_layout.specs.declared.definitions.TypeDef.{TypeDef}
use Rattle.type_layout.specs.declared.definitions.TypeDef.TheVariants as type
use Rattle.type_layout.specs.Storage.{storage_of, width_of}
use Rattle.type_layout.specs.declared.layout.Layout.{Layout}
use Rattle.type_layout.specs.Layouts.{layout_by, layouts_of, size_of, IsMeasured}
use Rattle.typed_tree.specs.declared.units.Routine.{Routine}
use Rattle.typed_tree.specs.Slots.{slot_of_definition, slot_of_type}
use Rattle.typed_tree.specs.Frames.{is_copied, is_string, even_size, result_argument, result_bytes}
use Rattle.typed_tree.specs.type_fits.Routines.{listed}
use Rattle.lower_places.specs.Frames.{StringResult, Instance, Parameter, CopyOf, ResultValue, OwnVariable, parameters, number_in, Home, In, Behind, part_of, home_of_param, home_of_own, home_from_result, home_from_instance, home_from, home_of}
use Rattle.lower_places.specs.Laws.{FrameLaws, HasRoom, HomeLaws}
use Rattle.lower_places.proofs.Frames.{frame-laws}

-- ---- by numbers alone: parameters, Self, a result and own variables, where there are so many

abbrev Sits : ℕ → ℕ → ℕ → ℕ → ℕ → Type 0
Sits p s r n k =
    ((n < p) × ((k ≡ 2 + n) ⊎ (k ≡ 5 + p + n)))
    ⊎ (((n ≡ p) × (s ≡ 1) × (k ≡ 1))
    ⊎ (((n ≡ p + s) × (r ≡ 1) × ((k ≡ 0) ⊎ (k ≡ 5 + p + p)))
    ⊎ ((p + s + r ≤ n) × (k + s + r ≡ 6 + p + n))))

one-place : (p s r a b k : ℕ) → Sits p s r a k → Sits p s r b k → a ≡ b
one-place p s r a b k one other = omega (arith, one, other)

-- ---- the bytes of an argument by value that is not copied

width-small : (host : Host) → width_of host ≤ 4
width-small ShortInt = omega arith
width-small Byte = omega arith
width-small Integer = omega arith
width-small Word = omega arith
width-small LongInt = omega arith
width-small Char = omega arith
width-small Boolean = omega arith
width-small Enumeration = omega arith

word-fits : (w : ℕ) → w ≤ 4 → w ≤ cond (nat_eq (cond (nat_le w 2) 2 4) 2) 2 4
word-fits w small = by (nat_le w 2) refl
  where
    by : (t : Bool) → nat_le w 2 ≡ t → w ≤ cond (nat_eq (cond t 2 4) 2) 2 4
    by true e = grind (arith, nat_tests, e)
    by false e = small

definition-fits : (types : List TypeDef) (one : TypeDef) → is_copied (Some one) ≡ false → (layout_by types (layouts_of types) one).size ≤ cond (nat_eq (slot_of_definition (Some one)) 2) 2 4
definition-fits types (type.Ordinal host low high) e = word-fits (width_of (storage_of host low high)) (width-small (storage_of host low high))
definition-fits types (type.Str max) e = absurd cc
definition-fits types (type.SetOf base) e = absurd cc
definition-fits types (type.ArrayOf index element) e = absurd cc
definition-fits types (type.RecordOf fields) e = absurd cc
definition-fits types (type.PointerTo target) e = omega arith
definition-fits types (type.ObjectOf parent dynamic fields methods) e = absurd cc
definition-fits types (type.Procedural header) e = omega arith

value-fits : (types : List TypeDef) (ty : TypeId) (one : TypeDef) → IsMeasured types → slice_get types ty.0 ≡ Some one → is_copied (slice_get types ty.0) ≡ false → size_of types ty ≤ cond (nat_eq (slot_of_type types ty) 2) 2 4
value-fits types ty one measured there plain =
    let size = ap (λ (l : Layout). l.size) (measured.layouts ty one there) in
    let slot = ap {B = ℕ} (λ o. cond (nat_eq (slot_of_definition o) 2) 2 4) there in
    let fits = definition-fits types one (sym (ap is_copied there) ∙ plain) in
    omega (arith, size, slot, fits)

module _ (types : List TypeDef) (routine : Routine) where
  abbrev p : ℕ
  p = parameters routine

  abbrev SitsIn : ℕ → ℕ → ℕ → Home → Type 0
  SitsIn s r n home = Sits p s r n (number_in routine (part_of home))

  -- ---- which numbers have a home

  there-own : (n : ℕ) → is_some (home_of_own routine n) ≡ is_some (slice_get routine.locals n)
  there-own n = by (slice_get routine.locals n)
    where
      by : (o : Option TypeId) → is_some (option_map (λ (ty : TypeId). In (OwnVariable n)) o) ≡ is_some o
      by None = refl
      by (Some ty) = refl

  there-result : (o : Option TypeId) (n : ℕ) → is_some (home_from_result types routine o n) ≡ is_some (slice_get (listed o ++ routine.locals) n)
  there-result None n = there-own n
  there-result (Some ty) zero = refl
  there-result (Some ty) (suc n) = there-own n

  there-instance : (o : Option TypeId) (n : ℕ) → is_some (home_from_instance types routine o n) ≡ is_some (slice_get (listed o ++ (listed routine.header.result ++ routine.locals)) n)
  there-instance None n = there-result routine.header.result n
  there-instance (Some owner) zero = refl
  there-instance (Some owner) (suc n) = there-result routine.header.result n

  there-from : (before : ℕ) (params : List Param) (n : ℕ) → is_some (home_from types routine before params n) ≡ is_some (slice_get (map (λ (param : Param). param.ty) params ++ (listed routine.owner ++ (listed routine.header.result ++ routine.locals))) n)
  there-from before [] n = there-instance routine.owner n
  there-from before (param ∷ params) zero = refl
  there-from before (param ∷ params) (suc n) = there-from (suc before) params n

  -- ---- where they sit

  own-sits : (s r n m : ℕ) (home : Home) → m ≡ p + s + r + n → home_of_own routine n ≡ Some home → SitsIn s r m home
  own-sits s r n m home at e = by (slice_get routine.locals n) e
    where
      by : (o : Option TypeId) → option_map (λ (ty : TypeId). In (OwnVariable n)) o ≡ Some home → SitsIn s r m home
      by None e = absurd cc
      by (Some ty) e = let same : In (OwnVariable n) ≡ home = cc in subst (λ (h : Home). SitsIn s r m h) same (inr (inr (inr (omega (arith, at), omega (arith, at)))))

  result-sits : (o : Option TypeId) (s n m : ℕ) (home : Home) → m ≡ p + s + n → home_from_result types routine o n ≡ Some home → SitsIn s (length (listed o)) m home
  result-sits None s n m home at e = own-sits s 0 n m home (omega (arith, at)) e
  result-sits (Some ty) s (suc n) m home at e = own-sits s 1 n m home (omega (arith, at)) e
  result-sits (Some ty) s zero m home at e = by (is_string (slice_get types ty.0)) e
    where
      by : (t : Bool) → (let o : Option Home = Some (cond t (Behind StringResult) (In ResultValue)) in o ≡ Some home) → SitsIn s 1 m home
      by true e = let same : Behind StringResult ≡ home = cc in subst (λ (h : Home). SitsIn s 1 m h) same (inr (inr (inl (omega (arith, at), refl, inl refl))))
      by false e = let same : In ResultValue ≡ home = cc in subst (λ (h : Home). SitsIn s 1 m h) same (inr (inr (inl (omega (arith, at), refl, inr refl))))

  instance-sits : (o : Option TypeId) (n m : ℕ) (home : Home) → m ≡ p + n → home_from_instance types routine o n ≡ Some home → SitsIn (length (listed o)) (length (listed routine.header.result)) m home
  instance-sits None n m home at e = result-sits routine.header.result 0 n m home (omega (arith, at)) e
  instance-sits (Some owner) (suc n) m home at e = result-sits routine.header.result 1 n m home (omega (arith, at)) e
  instance-sits (Some owner) zero m home at e = let same : Behind Instance ≡ home = cc in subst (λ (h : Home). SitsIn 1 (length (listed routine.header.result)) m h) same (inr (inl (omega (arith, at), refl, refl)))

  sits-from : (before : ℕ) (params : List Param) (n m : ℕ) (home : Home) → before + length params ≡ p → m ≡ before + n → home_from types routine before params n ≡ Some home → SitsIn (length (listed routine.owner)) (length (listed routine.header.result)) m home
  sits-from before [] n m home all at e = instance-sits routine.owner n m home (omega (arith, all, at)) e
  sits-from before (param ∷ params) (suc n) m home all at e = sits-from (suc before) params n m home (omega (arith, all)) (omega (arith, at)) e
  sits-from before (param ∷ params) zero m home all at e = by param.by_ref (is_copied (slice_get types param.ty.0)) e
    where
      few : m < p
      few = omega (arith, all, at)

      by : (t u : Bool) → (let o : Option Home = Some (cond t (Behind (Parameter before)) (cond u (In (CopyOf before)) (In (Parameter before)))) in o ≡ Some home) → SitsIn (length (listed routine.owner)) (length (listed routine.header.result)) m home
      by true u e = let same : Behind (Parameter before) ≡ home = cc in subst (λ (h : Home). SitsIn (length (listed routine.owner)) (length (listed routine.header.result)) m h) same (inl (few, inl (omega (arith, at))))
      by false true e = let same : In (CopyOf before) ≡ home = cc in subst (λ (h : Home). SitsIn (length (listed routine.owner)) (length (listed routine.header.result)) m h) same (inl (few, inr (omega (arith, at))))
      by false false e = let same : In (Parameter before) ≡ home = cc in subst (λ (h : Home). SitsIn (length (listed routine.owner)) (length (listed routine.header.result)) m h) same (inl (few, inl (omega (arith, at))))

  sits : (n : ℕ) (home : Home) → home_of types routine n ≡ Some home → SitsIn (length (listed routine.owner)) (length (listed routine.header.result)) n home
  sits n home e = sits-from 0 routine.header.params n n home (omega arith) (omega arith) e

  homes-apart : (one other : ℕ) (first second : Home) → home_of types routine one ≡ Some first → home_of types routine other ≡ Some second → number_in routine (part_of first) ≡ number_in routine (part_of second) → one ≡ other
  homes-apart one other first second e f same =
      let s = length (listed routine.owner) in
      let r = length (listed routine.header.result) in
      one-place p s r one other (number_in routine (part_of second)) (subst (λ k. Sits p s r one k) same (sits one first e)) (sits other second f)

  -- ---- room

  own-room : (n : ℕ) (ty : TypeId) (home : Home) → slice_get routine.locals n ≡ Some ty → home_of_own routine n ≡ Some home → HasRoom types routine home ty
  own-room n ty home at e =
      let mapped : home_of_own routine n ≡ Some (In (OwnVariable n)) = ap (λ (o : Option TypeId). option_map (λ (ty : TypeId). In (OwnVariable n)) o) at in
      let both = sym mapped ∙ e in
      let same : In (OwnVariable n) ≡ home = cc in
      let size = (frame-laws types routine).own n ty at in
      subst (λ (h : Home). HasRoom types routine h ty) same (omega (arith, size))

  result-room : (o : Option TypeId) → routine.header.result ≡ o → (n : ℕ) (ty : TypeId) (home : Home) → slice_get (listed o ++ routine.locals) n ≡ Some ty → home_from_result types routine o n ≡ Some home → HasRoom types routine home ty
  result-room None is n ty home at e = own-room n ty home at e
  result-room (Some result) is (suc n) ty home at e = own-room n ty home at e
  result-room (Some result) is zero ty home at e = by (is_string (slice_get types result.0)) refl e
    where
      same_type : result ≡ ty
      same_type = cc

      by : (t : Bool) → is_string (slice_get types result.0) ≡ t → (let o : Option Home = Some (cond t (Behind StringResult) (In ResultValue)) in o ≡ Some home) → HasRoom types routine home ty
      by true t e =
          let same : Behind StringResult ≡ home = cc in
          let size = (frame-laws types routine).string_result in
          let bytes = ap (result_argument types) is ∙ ap {B = ℕ} (λ b. cond b 4 0) t in
          subst (λ (h : Home). HasRoom types routine h ty) same (omega (arith, size, bytes))
      by false t e =
          let same : In ResultValue ≡ home = cc in
          let size = (frame-laws types routine).result_value in
          let bytes = ap (result_bytes types) is ∙ ap {B = ℕ} (λ b. cond b 0 (even_size types result)) t in
          subst (λ (h : Home). HasRoom types routine h ty) same (subst (λ (ty : TypeId). HasRoom types routine (In ResultValue) ty) same_type (omega (arith, size, bytes)))

  instance-room : (o : Option TypeId) → routine.owner ≡ o → (n : ℕ) (ty : TypeId) (home : Home) → slice_get (listed o ++ (listed routine.header.result ++ routine.locals)) n ≡ Some ty → home_from_instance types routine o n ≡ Some home → HasRoom types routine home ty
  instance-room None is n ty home at e = result-room routine.header.result refl n ty home at e
  instance-room (Some owner) is (suc n) ty home at e = result-room routine.header.result refl n ty home at e
  instance-room (Some owner) is zero ty home at e =
      let same : Behind Instance ≡ home = cc in
      let size = (frame-laws types routine).instance in
      let bytes = ap {B = ℕ} (λ (o : Option TypeId). cond (is_some o) 4 0) is in
      subst (λ (h : Home). HasRoom types routine h ty) same (omega (arith, size, bytes))

  param-room : IsMeasured types → (number : ℕ) (param : Param) (one : TypeDef) (home : Home) → slice_get routine.header.params number ≡ Some param → slice_get types param.ty.0 ≡ Some one → home_of_param types number param ≡ home → HasRoom types routine home param.ty
  param-room measured number param one home at there e = by param.by_ref (is_copied (slice_get types param.ty.0)) refl refl e
    where
      laws : FrameLaws types routine
      laws = frame-laws types routine

      by : (t u : Bool) → param.by_ref ≡ t → is_copied (slice_get types param.ty.0) ≡ u → cond t (Behind (Parameter number)) (cond u (In (CopyOf number)) (In (Parameter number))) ≡ home → HasRoom types routine home param.ty
      by true u t c e =
          let size = laws.parameter number param at in
          let bytes = ap {B = ℕ} (λ b. cond b 4 (cond (nat_eq (slot_of_type types param.ty) 2) 2 4)) t in
          subst (λ (h : Home). HasRoom types routine h param.ty) e (omega (arith, size, bytes))
      by false true t c e =
          let size = laws.copy number param at in
          let bytes = ap {B = ℕ} (λ b. cond b 0 (cond (is_copied (slice_get types param.ty.0)) (even_size types param.ty) 0)) t ∙ ap {B = ℕ} (λ b. cond b (even_size types param.ty) 0) c in
          subst (λ (h : Home). HasRoom types routine h param.ty) e (omega (arith, size, bytes))
      by false false t c e =
          let size = laws.parameter number param at in
          let bytes = ap {B = ℕ} (λ b. cond b 4 (cond (nat_eq (slot_of_type types param.ty) 2) 2 4)) t in
          let fits = value-fits types param.ty one measured there c in
          subst (λ (h : Home). HasRoom types routine h param.ty) e (omega (arith, size, bytes, fits))

  room-from : IsMeasured types → (before : ℕ) (params : List Param) → ((i : ℕ) → slice_get routine.header.params (before + i) ≡ slice_get params i) → (n : ℕ) (ty : TypeId) (one : TypeDef) (home : Home)
      → slice_get (map (λ (param : Param). param.ty) params ++ (listed routine.owner ++ (listed routine.header.result ++ routine.locals))) n ≡ Some ty → slice_get types ty.0 ≡ Some one → home_from types routine before params n ≡ Some home → HasRoom types routine home ty
  room-from measured before [] all n ty one home at there e = instance-room routine.owner refl n ty home at e
  room-from measured before (param ∷ params) all (suc n) ty one home at there e =
      room-from measured (suc before) params (λ i. let next : suc before + i ≡ before + suc i = omega arith in ap (slice_get routine.header.params) next ∙ all (suc i)) n ty one home at there e
  room-from measured before (param ∷ params) all zero ty one home at there e =
      let same_type : param.ty ≡ ty = cc in
      let same : home_of_param types before param ≡ home = cc in
      let first : before + 0 ≡ before = omega arith in
      let found = sym (ap (slice_get routine.header.params) first) ∙ all 0 in
      subst (λ (ty : TypeId). HasRoom types routine home ty) same_type (param-room measured before param one home found (ap (λ (ty : TypeId). slice_get types ty.0) same_type ∙ there) same)

  pub home-laws : HomeLaws types routine
  home-laws = record {
    there = there-from 0 routine.header.params;
    apart = homes-apart;
    room = λ measured number ty one home at there e. room-from measured 0 routine.header.params (λ i. let plain : 0 + i ≡ i = omega arith in ap (slice_get routine.header.params) plain) number ty one home at there e;
  }
