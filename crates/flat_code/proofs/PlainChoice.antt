-- The choice of the interpreter is legal: everything has its place, and the places keep apart.
use Rattle.std.proofs.Common.{◌≡◌, ◌≢◌, ℕ, zero, suc, ◌+◌, ◌≤◌, ◌<◌, ◌⊎◌, inl, inr, Bool, true, false, List, [], ◌∷◌, Option, Some, None, refl, sym, ap, ◌∙◌, arith}
use Rattle.std.specs.Prelude.{if◌then◌else◌, slice_get}
use Rattle.std.specs.Option.{option_and_then}
use Rattle.std.specs.Cmp.Lexicographic.{same_text, other_text}
use Rattle.type_layout.specs.Words.{same_bytes}
use Rattle.std.proofs.lemmas.Bool.{cases_order}
use Rattle.flat_code.specs.Program.{Name, Datum, Vmt, UnitCode}
use Rattle.flat_code.specs.Legal.{IsApart}
use Rattle.flat_code.specs.Plain.{name_at, unit_from, even, data_size, vmt_size, vmts_size, unit_size, units_size, datum_from, vmt_from, datum_of, vmt_of}

-- ---- inside a unit

datum_within : (start : ℕ) (list : List Datum) (n o : ℕ) (d : Datum) → datum_from start list n ≡ Some o → slice_get list n ≡ Some d → (start ≤ o) × (o + even d.size ≤ start + data_size list)
datum_within start [] n o d p q = absurd cc
datum_within start (x ∷ list) zero o d p q =
    let same : start ≡ o = cc in
    let is : x ≡ d = cc in
    let size = ap (λ (y : Datum). even y.size) is in
    (omega arith, omega (arith, size))
datum_within start (x ∷ list) (suc n) o d p q =
    let rest = datum_within (start + even x.size) list n o d p q in
    (omega (arith, rest.0), omega (arith, rest.1))

datum_apart : (start : ℕ) (list : List Datum) (m n a b : ℕ) (c d : Datum) → m < n → datum_from start list m ≡ Some a → slice_get list m ≡ Some c → datum_from start list n ≡ Some b → slice_get list n ≡ Some d → a + even c.size ≤ b
datum_apart start [] m n a b c d h p q r s = absurd cc
datum_apart start (x ∷ list) zero zero a b c d h p q r s = absurd (omega (arith, h))
datum_apart start (x ∷ list) zero (suc n) a b c d h p q r s =
    let same : start ≡ a = cc in
    let is : x ≡ c = cc in
    let size = ap (λ (y : Datum). even y.size) is in
    let rest = datum_within (start + even x.size) list n b d r s in
    omega (arith, size, rest.0)
datum_apart start (x ∷ list) (suc m) zero a b c d h p q r s = absurd (omega (arith, h))
datum_apart start (x ∷ list) (suc m) (suc n) a b c d h p q r s = datum_apart (start + even x.size) list m n a b c d (omega (arith, h)) p q r s

pub datum_there : (start : ℕ) (list : List Datum) (n : ℕ) (d : Datum) → slice_get list n ≡ Some d → (o : ℕ) × (datum_from start list n ≡ Some o)
datum_there start [] n d q = absurd cc
datum_there start (x ∷ list) zero d q = (start, refl)
datum_there start (x ∷ list) (suc n) d q = datum_there (start + even x.size) list n d q

pub datum_listed : (start : ℕ) (list : List Datum) (n o : ℕ) → datum_from start list n ≡ Some o → (d : Datum) × (slice_get list n ≡ Some d)
datum_listed start [] n o p = absurd cc
datum_listed start (x ∷ list) zero o p = (x, refl)
datum_listed start (x ∷ list) (suc n) o p = datum_listed (start + even x.size) list n o p

vmt_within : (start : ℕ) (list : List Vmt) (n o : ℕ) (d : Vmt) → vmt_from start list n ≡ Some o → slice_get list n ≡ Some d → (start ≤ o) × (o + vmt_size d ≤ start + vmts_size list)
vmt_within start [] n o d p q = absurd cc
vmt_within start (x ∷ list) zero o d p q =
    let same : start ≡ o = cc in
    let is : x ≡ d = cc in
    let size = ap vmt_size is in
    (omega arith, omega (arith, size))
vmt_within start (x ∷ list) (suc n) o d p q =
    let rest = vmt_within (start + vmt_size x) list n o d p q in
    (omega (arith, rest.0), omega (arith, rest.1))

vmt_apart : (start : ℕ) (list : List Vmt) (m n a b : ℕ) (c d : Vmt) → m < n → vmt_from start list m ≡ Some a → slice_get list m ≡ Some c → vmt_from start list n ≡ Some b → slice_get list n ≡ Some d → a + vmt_size c ≤ b
vmt_apart start [] m n a b c d h p q r s = absurd cc
vmt_apart start (x ∷ list) zero zero a b c d h p q r s = absurd (omega (arith, h))
vmt_apart start (x ∷ list) zero (suc n) a b c d h p q r s =
    let same : start ≡ a = cc in
    let is : x ≡ c = cc in
    let size = ap vmt_size is in
    let rest = vmt_within (start + vmt_size x) list n b d r s in
    omega (arith, size, rest.0)
vmt_apart start (x ∷ list) (suc m) zero a b c d h p q r s = absurd (omega (arith, h))
vmt_apart start (x ∷ list) (suc m) (suc n) a b c d h p q r s = vmt_apart (start + vmt_size x) list m n a b c d (omega (arith, h)) p q r s

pub vmt_there : (start : ℕ) (list : List Vmt) (n : ℕ) (d : Vmt) → slice_get list n ≡ Some d → (o : ℕ) × (vmt_from start list n ≡ Some o)
vmt_there start [] n d q = absurd cc
vmt_there start (x ∷ list) zero d q = (start, refl)
vmt_there start (x ∷ list) (suc n) d q = vmt_there (start + vmt_size x) list n d q

pub vmt_listed : (start : ℕ) (list : List Vmt) (n o : ℕ) → vmt_from start list n ≡ Some o → (d : Vmt) × (slice_get list n ≡ Some d)
vmt_listed start [] n o p = absurd cc
vmt_listed start (x ∷ list) zero o p = (x, refl)
vmt_listed start (x ∷ list) (suc n) o p = vmt_listed (start + vmt_size x) list n o p

-- ---- among the units

-- the first unit of a name: the unit, where its data begin, and its place in the list
pub record Found : Type 0 where
  pub unit : UnitCode
  pub start : ℕ
  pub at : ℕ

abbrev pub place_of : ℕ → ℕ → List UnitCode → Name → Option Found
place_of at start [] name = None
place_of at start (unit ∷ units) name = if same_bytes (name_at at unit) name then Some (record { unit = unit; start = start; at = at }) else place_of (at + 1) (start + unit_size unit) units name

pub with_first : {A B : Type 0} (b : Bool) (x : A) (rest : Option A) (g : A → Option B) (other : Option B) → other ≡ option_and_then g rest → (if b then g x else other) ≡ option_and_then g (if b then Some x else rest)
with_first true x rest g other e = refl
with_first false x rest g other e = e

pub datum-placed : (at start : ℕ) (units : List UnitCode) (name : Name) (n : ℕ) → datum_of at start units name n ≡ option_and_then (λ (u : Found). datum_from u.start u.unit.globals n) (place_of at start units name)
datum-placed at start [] name n = refl
datum-placed at start (x ∷ units) name n =
    with_first (same_bytes (name_at at x) name) (record { unit = x; start = start; at = at }) (place_of (at + 1) (start + unit_size x) units name) (λ (u : Found). datum_from u.start u.unit.globals n) (datum_of (at + 1) (start + unit_size x) units name n) (datum-placed (at + 1) (start + unit_size x) units name n)

pub vmt-placed : (at start : ℕ) (units : List UnitCode) (name : Name) (n : ℕ) → vmt_of at start units name n ≡ option_and_then (λ (u : Found). vmt_from (u.start + data_size u.unit.globals) u.unit.vmts n) (place_of at start units name)
vmt-placed at start [] name n = refl
vmt-placed at start (x ∷ units) name n =
    with_first (same_bytes (name_at at x) name) (record { unit = x; start = start; at = at }) (place_of (at + 1) (start + unit_size x) units name) (λ (u : Found). vmt_from (u.start + data_size u.unit.globals) u.unit.vmts n) (vmt_of (at + 1) (start + unit_size x) units name n) (vmt-placed (at + 1) (start + unit_size x) units name n)

pub unit-placed : (at start : ℕ) (units : List UnitCode) (name : Name) → unit_from at units name ≡ option_and_then (λ (u : Found). Some u.unit) (place_of at start units name)
unit-placed at start [] name = refl
unit-placed at start (x ∷ units) name =
    with_first (same_bytes (name_at at x) name) (record { unit = x; start = start; at = at }) (place_of (at + 1) (start + unit_size x) units name) (λ (u : Found). Some u.unit) (unit_from (at + 1) units name) (unit-placed (at + 1) (start + unit_size x) units name)

-- a found unit lies among the units' bytes
pub within-units : (at start : ℕ) (units : List UnitCode) (name : Name) (u : Found) → place_of at start units name ≡ Some u → (start ≤ u.start) × (u.start + unit_size u.unit ≤ start + units_size units)
within-units at start [] name u e = absurd cc
within-units at start (x ∷ units) name u e = by (same_bytes (name_at at x) name) x start at (place_of (at + 1) (start + unit_size x) units name) (units_size units) u e (within-units (at + 1) (start + unit_size x) units name u)
  where
    by : (b : Bool) (x : UnitCode) (start at : ℕ) (rest : Option Found) (size : ℕ) (u : Found) → (if b then Some (record { unit = x; start = start; at = at }) else rest) ≡ Some u → (rest ≡ Some u → (start + unit_size x ≤ u.start) × (u.start + unit_size u.unit ≤ start + unit_size x + size)) → (start ≤ u.start) × (u.start + unit_size u.unit ≤ start + (unit_size x + size))
    by true x start at rest size u e more =
        let is : record { unit = x; start = start; at = at } ≡ u = cc in
        let begins = ap (λ (v : Found). v.start) is in
        let sizes = ap (λ (v : Found). unit_size v.unit) is in
        (omega (arith, begins), omega (arith, begins, sizes))
    by false x start at rest size u e more = let m = more e in (omega (arith, m.0), omega (arith, m.1))

-- ---- apart

abbrev UnitsApart : Found → Found → Type 0
UnitsApart u v = IsApart u.start (unit_size u.unit) v.start (unit_size v.unit)

apart_by : (b c : Bool) (x : UnitCode) (start at : ℕ) (p q : Option Found) (u v : Found) → (b ≡ true → c ≡ true → ⊥) → (if b then Some (record { unit = x; start = start; at = at }) else p) ≡ Some u → (if c then Some (record { unit = x; start = start; at = at }) else q) ≡ Some v → (p ≡ Some u → start + unit_size x ≤ u.start) → (q ≡ Some v → start + unit_size x ≤ v.start) → (p ≡ Some u → q ≡ Some v → UnitsApart u v) → UnitsApart u v
apart_by true true x start at p q u v never e f above_u above_v rest = absurd (never refl refl)
apart_by true false x start at p q u v never e f above_u above_v rest =
    let is : record { unit = x; start = start; at = at } ≡ u = cc in
    let begins = ap (λ (v : Found). v.start) is in
    let size = ap (λ (v : Found). unit_size v.unit) is in
    let above = above_v f in
    inl (omega (arith, begins, size, above))
apart_by false true x start at p q u v never e f above_u above_v rest =
    let is : record { unit = x; start = start; at = at } ≡ v = cc in
    let begins = ap (λ (v : Found). v.start) is in
    let size = ap (λ (v : Found). unit_size v.unit) is in
    let above = above_u e in
    inr (omega (arith, begins, size, above))
apart_by false false x start at p q u v never e f above_u above_v rest = rest e f

units-apart : (at start : ℕ) (units : List UnitCode) (m n : Name) (u v : Found) → m ≢ n → place_of at start units m ≡ Some u → place_of at start units n ≡ Some v → UnitsApart u v
units-apart at start [] m n u v ne e f = absurd cc
units-apart at start (x ∷ units) m n u v ne e f =
    let name = name_at at x in
    let later = start + unit_size x in
    apart_by (same_bytes name m) (same_bytes name n) x start at (place_of (at + 1) later units m) (place_of (at + 1) later units n) u v
    (λ p q. ne (sym (same_text name m (sym p)) ∙ same_text name n (sym q))) e f
    (λ p. (within-units (at + 1) later units m u p).0) (λ p. (within-units (at + 1) later units n v p).0)
    (λ p q. units-apart (at + 1) later units m n u v ne p q)

-- ---- what has a place

pub and_then-some : {A B : Type 0} (g : A → Option B) (o : Option A) (b : B) → option_and_then g o ≡ Some b → (a : A) × (o ≡ Some a) × (g a ≡ Some b)
and_then-some g None b e = absurd cc
and_then-some g (Some a) b e = (a, refl, e)

pub unit_found : (units : List UnitCode) (name : Name) (unit : UnitCode) → unit_from 0 units name ≡ Some unit → (u : Found) × (place_of 0 0 units name ≡ Some u) × (u.unit ≡ unit)
unit_found units name unit e =
    let found = and_then-some (λ (u : Found). Some u.unit) (place_of 0 0 units name) unit (sym (unit-placed 0 0 units name) ∙ e) in
    (found.0, found.1, some_is found.0.unit unit found.2)
  where
    some_is : (x y : UnitCode) → Some x ≡ Some y → x ≡ y
    some_is x y e = cc

-- how a datum lies in its unit
pub record DatumLies (units : List UnitCode) (name : Name) (number offset size : ℕ) : Type 0 where
  pub of : Found
  pub datum : Datum
  pub found : place_of 0 0 units name ≡ Some of
  pub from : datum_from of.start of.unit.globals number ≡ Some offset
  pub is : slice_get of.unit.globals number ≡ Some datum
  pub size_is : size ≡ datum.size

pub record VmtLies (units : List UnitCode) (name : Name) (number offset size : ℕ) : Type 0 where
  pub of : Found
  pub vmt : Vmt
  pub found : place_of 0 0 units name ≡ Some of
  pub from : vmt_from (of.start + data_size of.unit.globals) of.unit.vmts number ≡ Some offset
  pub is : slice_get of.unit.vmts number ≡ Some vmt
  pub size_is : size ≡ vmt_size vmt

pub same_unit : (units : List UnitCode) (name : Name) (unit : UnitCode) (u : Found) → unit_from 0 units name ≡ Some unit → place_of 0 0 units name ≡ Some u → u.unit ≡ unit
same_unit units name unit u e p =
    let f = unit_found units name unit e in
    let same : f.0 ≡ u = some_is f.0 u (sym f.1 ∙ p) in
    ap (λ (v : Found). v.unit) (sym same) ∙ f.2
  where
    some_is : (x y : Found) → Some x ≡ Some y → x ≡ y
    some_is x y e = cc

pub datum_lies : (units : List UnitCode) (name : Name) (number offset size : ℕ) (unit : UnitCode) (datum : Datum) → unit_from 0 units name ≡ Some unit → slice_get unit.globals number ≡ Some datum → datum_of 0 0 units name number ≡ Some offset → size ≡ datum.size → DatumLies units name number offset size
datum_lies units name number offset size unit datum e q p z =
    let f = and_then-some (λ (u : Found). datum_from u.start u.unit.globals number) (place_of 0 0 units name) offset (sym (datum-placed 0 0 units name number) ∙ p) in
    let same = same_unit units name unit f.0 e f.1 in
    record { of = f.0; datum = datum; found = f.1; from = f.2; is = ap (λ (u : UnitCode). slice_get u.globals number) same ∙ q; size_is = z }

pub vmt_lies : (units : List UnitCode) (name : Name) (number offset size : ℕ) (unit : UnitCode) (vmt : Vmt) → unit_from 0 units name ≡ Some unit → slice_get unit.vmts number ≡ Some vmt → vmt_of 0 0 units name number ≡ Some offset → size ≡ vmt_size vmt → VmtLies units name number offset size
vmt_lies units name number offset size unit vmt e q p z =
    let f = and_then-some (λ (u : Found). vmt_from (u.start + data_size u.unit.globals) u.unit.vmts number) (place_of 0 0 units name) offset (sym (vmt-placed 0 0 units name number) ∙ p) in
    let same = same_unit units name unit f.0 e f.1 in
    record { of = f.0; vmt = vmt; found = f.1; from = f.2; is = ap (λ (u : UnitCode). slice_get u.vmts number) same ∙ q; size_is = z }

datum_bounds : (units : List UnitCode) (name : Name) (number offset size : ℕ) → (d : DatumLies units name number offset size) → (d.of.start ≤ offset) × (offset + size ≤ d.of.start + data_size d.of.unit.globals)
datum_bounds units name number offset size d =
    let w = datum_within d.of.start d.of.unit.globals number offset d.datum d.from d.is in
    (w.0, omega (arith, w.1, d.size_is))

vmt_bounds : (units : List UnitCode) (name : Name) (number offset size : ℕ) → (d : VmtLies units name number offset size) → (d.of.start + data_size d.of.unit.globals ≤ offset) × (offset + size ≤ d.of.start + unit_size d.of.unit)
vmt_bounds units name number offset size d =
    let w = vmt_within (d.of.start + data_size d.of.unit.globals) d.of.unit.vmts number offset d.vmt d.from d.is in
    (w.0, omega (arith, w.1, d.size_is))

-- ---- apart, whatever two things are

same_found : (units : List UnitCode) (name other : Name) (u v : Found) → name ≡ other → place_of 0 0 units name ≡ Some u → place_of 0 0 units other ≡ Some v → u ≡ v
same_found units name other u v e p q = some_is u v (sym p ∙ ap (place_of 0 0 units) e ∙ q)
  where
    some_is : (x y : Found) → Some x ≡ Some y → x ≡ y
    some_is x y e = cc

-- two ranges inside apart units are apart
nested : (a m b n c p d q : ℕ) → IsApart a m b n → (a ≤ c) × (c + p ≤ a + m) → (b ≤ d) × (d + q ≤ b + n) → IsApart c p d q
nested a m b n c p d q (inl h) r s = inl (omega (arith, h, r.1, s.0))
nested a m b n c p d q (inr h) r s = inr (omega (arith, h, r.0, s.1))

names_tell : (m n : Name) → (m ≡ n) ⊎ (m ≢ n)
names_tell m n = by m n (same_bytes m n) refl
  where
    by : (m n : Name) (b : Bool) → b ≡ same_bytes m n → (m ≡ n) ⊎ (m ≢ n)
    by m n true e = inl (same_text m n e)
    by m n false e = inr (other_text m n e)

pub datum_in : (units : List UnitCode) (name : Name) (number offset size : ℕ) → (d : DatumLies units name number offset size) → (d.of.start ≤ offset) × (offset + size ≤ d.of.start + unit_size d.of.unit)
datum_in units name number offset size d = let b = datum_bounds units name number offset size d in (b.0, omega (arith, b.1))

pub vmt_in : (units : List UnitCode) (name : Name) (number offset size : ℕ) → (d : VmtLies units name number offset size) → (d.of.start ≤ offset) × (offset + size ≤ d.of.start + unit_size d.of.unit)
vmt_in units name number offset size d = let b = vmt_bounds units name number offset size d in (omega (arith, b.0), b.1)

pub data_apart : (units : List UnitCode) (m n : Name) (i j a b p q : ℕ) → ((m ≡ n) × (i ≡ j) → ⊥) → DatumLies units m i a p → DatumLies units n j b q → IsApart a p b q
data_apart units m n i j a b p q ne c d =
    elim (names_tell m n) [
      | inl e ↦
          let same = same_found units m n c.of d.of e c.found d.found in
          let from : datum_from c.of.start c.of.unit.globals j ≡ Some b = ap (λ (u : Found). datum_from u.start u.unit.globals j) same ∙ d.from in
          let is : slice_get c.of.unit.globals j ≡ Some d.datum = ap (λ (u : Found). slice_get u.unit.globals j) same ∙ d.is in
          elim (cases_order i j) [
            | inl z ↦ absurd (ne (e, z))
            | inr o ↦ elim o [
              | inl h ↦ let r = datum_apart c.of.start c.of.unit.globals i j a b c.datum d.datum h c.from c.is from is in inl (omega (arith, r, c.size_is))
              | inr h ↦ let r = datum_apart c.of.start c.of.unit.globals j i b a d.datum c.datum h from is c.from c.is in inr (omega (arith, r, d.size_is))
            ]
          ]
      | inr e ↦ nested c.of.start (unit_size c.of.unit) d.of.start (unit_size d.of.unit) a p b q (units-apart 0 0 units m n c.of d.of e c.found d.found) (datum_in units m i a p c) (datum_in units n j b q d)
    ]

pub vmts_apart : (units : List UnitCode) (m n : Name) (i j a b p q : ℕ) → ((m ≡ n) × (i ≡ j) → ⊥) → VmtLies units m i a p → VmtLies units n j b q → IsApart a p b q
vmts_apart units m n i j a b p q ne c d =
    elim (names_tell m n) [
      | inl e ↦
          let same = same_found units m n c.of d.of e c.found d.found in
          let from : vmt_from (c.of.start + data_size c.of.unit.globals) c.of.unit.vmts j ≡ Some b = ap (λ (u : Found). vmt_from (u.start + data_size u.unit.globals) u.unit.vmts j) same ∙ d.from in
          let is : slice_get c.of.unit.vmts j ≡ Some d.vmt = ap (λ (u : Found). slice_get u.unit.vmts j) same ∙ d.is in
          let start = c.of.start + data_size c.of.unit.globals in
          elim (cases_order i j) [
            | inl z ↦ absurd (ne (e, z))
            | inr o ↦ elim o [
              | inl h ↦ let r = vmt_apart start c.of.unit.vmts i j a b c.vmt d.vmt h c.from c.is from is in inl (omega (arith, r, c.size_is))
              | inr h ↦ let r = vmt_apart start c.of.unit.vmts j i b a d.vmt c.vmt h from is c.from c.is in inr (omega (arith, r, d.size_is))
            ]
          ]
      | inr e ↦ nested c.of.start (unit_size c.of.unit) d.of.start (unit_size d.of.unit) a p b q (units-apart 0 0 units m n c.of d.of e c.found d.found) (vmt_in units m i a p c) (vmt_in units n j b q d)
    ]

pub datum-vmt-apart : (units : List UnitCode) (m n : Name) (i j a b p q : ℕ) → DatumLies units m i a p → VmtLies units n j b q → IsApart a p b q
datum-vmt-apart units m n i j a b p q c d =
    elim (names_tell m n) [
      | inl e ↦
          let same = same_found units m n c.of d.of e c.found d.found in
          let begins = ap (λ (u : Found). u.start + data_size u.unit.globals) same in
          let x = datum_bounds units m i a p c in
          let y = vmt_bounds units n j b q d in
          inl (omega (arith, x.1, y.0, begins))
      | inr e ↦ nested c.of.start (unit_size c.of.unit) d.of.start (unit_size d.of.unit) a p b q (units-apart 0 0 units m n c.of d.of e c.found d.found) (datum_in units m i a p c) (vmt_in units n j b q d)
    ]
