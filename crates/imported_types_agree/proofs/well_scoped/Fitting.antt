-- Where the types of an interface fit, the table stays ordered, and ordinal types of enumerations come with the sets behind them.
use Rattle.std.proofs.Common.{◌≡◌, ◌∙◌, ℕ, zero, suc, ◌+◌, ◌<◌, ◌≤◌, ℤ, pos, Bool, true, false, not, cond, ◌&&◌, ◌||◌, nat_eq, nat_lt, eqb-true, All, List, [], ◌∷◌, length, get_or, Option, Some, None, refl, sym, ap, subst, arith, add-one, length-append}
use Rattle.std.specs.Prelude.{◌≤ℤ◌, int_le, nat_le, slice_get}
use Rattle.std.specs.List.{list_all}
use Rattle.std.proofs.lemmas.Bool.{le-ltb, ltb-true, ltb-false}
use Rattle.std.proofs.lemmas.Int.{ints}
use Rattle.std.proofs.lemmas.List.Elements.{All-nil, All-cons}
use Rattle.std.proofs.lemmas.Option.{slice_get_within, get_or_from_slice_get}
use Rattle.tables_closed.specs.type_layout.declared.definitions.TypeId.{TypeId}
use Rattle.tables_closed.specs.type_layout.declared.definitions.Field.{Field}
use Rattle.tables_closed.specs.type_layout.declared.definitions.Origin.{Origin}
use Rattle.tables_closed.specs.type_layout.declared.definitions.Host.TheVariants as host
use Rattle.tables_closed.specs.type_layout.declared.definitions.TypeDef.{TypeDef}
use Rattle.tables_closed.specs.type_layout.declared.definitions.TypeDef.TheVariants.{Ordinal, Str, SetOf, ArrayOf, RecordOf, PointerTo, ObjectOf, Procedural}
use Rattle.tables_closed.specs.type_layout.Storage.{least_of, greatest_of}
use Rattle.tables_closed.specs.type_layout.Layouts.{size_over}
use Rattle.tables_closed.specs.type_layout.Table.{Table, IsOrdinal, IsByteRange, IsObject, IsAncestor, IsDefinedOver, place_of, with_type}
use Rattle.tables_closed.specs.unit_interface.Merge.{key_of, added_type, with_listed, ids_in, is_new, merged, renumbered}
use Rattle.tables_closed.specs.unit_interface.Misfits.{is_enumeration, follows, is_torn}
use Rattle.tables_closed.specs.unit_interface.Fitting.{is_ordinal, is_byte_range, is_object, is_ancestor, is_known, is_defined, has_methods, stands, listed_stands, fits_at, fit_first, types_fit}
use Rattle.tables_closed.specs.constants.Ordered.{IsOrdered}
use Rattle.tables_closed.proofs.constants.Ordering.{ordered_with}
use Rattle.imported_types_agree.proofs.well_scoped.Merging.{with_first, has, met}

-- Where an ordinal type of an enumeration is new in a table, so is the set behind it.
abbrev pub AreTogether : Table → Table → Type 0
AreTogether table other =
    (number : ℕ) (low high : ℤ) → slice_get other.types number ≡ Some (Ordinal host.Enumeration low high) → is_new (ids_in table other) (with_first table other number) number ≡ true
    → is_new (ids_in table other) (with_first table other (suc number)) (suc number) ≡ true

both_true : (a b : Bool) → (a && b) ≡ true → (a ≡ true) × (b ≡ true)
both_true true b e = (refl, e)
both_true false b e = (let f : false ≡ true = e in cc)

untorn : (new torn rest : Bool) → (not new || (not torn && rest)) ≡ true → new ≡ true → torn ≡ false
untorn true true rest e n = (let f : false ≡ true = e in cc)
untorn true false rest e n = refl
untorn false torn rest e n = (let f : false ≡ true = n in cc)

stood : (new torn rest : Bool) → (not new || (not torn && rest)) ≡ true → new ≡ true → rest ≡ true
stood true true rest e n = (let f : false ≡ true = e in cc)
stood true false rest e n = e
stood false torn rest e n = (let f : false ≡ true = n in cc)

-- ---- what a table takes

at_most : (m n : ℕ) → nat_le m n ≡ true → m ≤ n
at_most m n e = grind arith

rises : (m n : ℤ) → int_le m n ≡ true → m ≤ℤ n
rises m n e = grind (arith, ints)

ordinal : (o : Option TypeDef) → is_ordinal o ≡ true → IsOrdinal o
ordinal (Some (Ordinal host low high)) e = tt
ordinal None e = (let f : false ≡ true = e in cc)
ordinal (Some other) e = (let f : false ≡ true = e in cc)

byte_range : (o : Option TypeDef) → is_byte_range o ≡ true → IsByteRange o
byte_range (Some (Ordinal host low high)) e =
    let both = both_true (int_le (pos 0) low) (int_le high (pos 255)) e in
    (rises (pos 0) low both.0, rises high (pos 255) both.1)
byte_range None e = (let f : false ≡ true = e in cc)
byte_range (Some other) e = (let f : false ≡ true = e in cc)

object : (o : Option TypeDef) → is_object o ≡ true → IsObject o
object (Some (ObjectOf parent dynamic fields methods)) e = tt
object None e = (let f : false ≡ true = e in cc)
object (Some other) e = (let f : false ≡ true = e in cc)

ancestor : (types : List TypeDef) (parent : Option TypeId) → is_ancestor types parent ≡ true → IsAncestor types parent
ancestor types None e = tt
ancestor types (Some parent) e = object (slice_get types parent.0) e

fields_known : (types : List TypeDef) (fields : List Field) → list_all (is_known types) fields ≡ true → All (λ (field : Field). field.ty.0 < length types) fields
fields_known types [] e = All-nil (λ (field : Field). field.ty.0 < length types)
fields_known types (field ∷ fields) e =
    let both = both_true (is_known types field) (list_all (is_known types) fields) e in
    All-cons (λ (f : Field). f.ty.0 < length types) field fields (ltb-true field.ty.0 (length types) both.0) (fields_known types fields both.1)

defined : (types : List TypeDef) (one : TypeDef) → is_defined types one ≡ true → IsDefinedOver types one
defined types (Ordinal own low high) e =
    let first = both_true (int_le (least_of own) low) (int_le low high && int_le high (greatest_of own)) e in
    let last = both_true (int_le low high) (int_le high (greatest_of own)) first.1 in
    (rises (least_of own) low first.0, rises low high last.0, rises high (greatest_of own) last.1)
defined types (Str max) e = at_most 1 max e
defined types (SetOf base) e = byte_range (slice_get types base.0) e
defined types (ArrayOf index element) e =
    let both = both_true (is_ordinal (slice_get types index.0)) (nat_lt element.0 (length types)) e in
    (ordinal (slice_get types index.0) both.0, ltb-true element.0 (length types) both.1)
defined types (RecordOf fields) e = fields_known types fields e
defined types (PointerTo target) e = tt
defined types (ObjectOf parent dynamic fields methods) e =
    let both = both_true (is_ancestor types parent) (list_all (is_known types) fields) e in
    (ancestor types parent both.0, fields_known types fields both.1)
defined types (Procedural header) e = tt

-- a type that stands in a table leaves it ordered
stands_ordered : (table : Table) (unit : List ℕ) (number : ℕ) (one : TypeDef) → IsOrdered table → stands table unit one ≡ true → IsOrdered (with_type table unit number one)
stands_ordered table unit number one h e =
    let first = both_true (is_defined table.types one) (has_methods (place_of table.units unit) one && nat_le (size_over table.types one) 65520) e in
    let last = both_true (has_methods (place_of table.units unit) one) (nat_le (size_over table.types one) 65520) first.1 in
    ordered_with table unit number one h (defined table.types one first.0) (at_most (size_over table.types one) 65520 last.1)

-- the id behind another
record IsNext (id : TypeId) (found : Option TypeId) : Type 0 where
  next : TypeId
  at : found ≡ Some next
  is : next.0 ≡ id.0 + 1

next_of : (id : TypeId) (found : Option TypeId) → not (follows id found) ≡ false → IsNext id found
next_of id None e = (let f : true ≡ false = e in cc)
next_of id (Some next) e = by (nat_eq next.0 (id.0 + 1)) refl e
  where
    by : (b : Bool) → nat_eq next.0 (id.0 + 1) ≡ b → not b ≡ false → IsNext id (Some next)
    by true same f = record { next = next; at = refl; is = eqb-true next.0 (id.0 + 1) same }
    by false other f = (let g : true ≡ false = f in cc)

module _ (ids : List TypeId) (table other : Table) where
  fit_at : (number last : ℕ) → number < last → fit_first ids table other last ≡ true → fits_at ids (merged other ids table number) other number ≡ true
  fit_at number zero low e = absurd (omega arith)
  fit_at number (suc last) low e =
      let parts = both_true (fit_first ids table other last) (fits_at ids (merged other ids table last) other last) e in
      by (nat_lt number last) refl parts.1 (λ before. fit_at number last before parts.0)
    where
      by : (b : Bool) → nat_lt number last ≡ b → fits_at ids (merged other ids table last) other last ≡ true → (number < last → fits_at ids (merged other ids table number) other number ≡ true)
          → fits_at ids (merged other ids table number) other number ≡ true
      by true is here before = before (ltb-true number last is)
      by false is here before =
          let high = ltb-false number last is in
          let same : last ≡ number = omega arith in
          subst (λ (n : ℕ). fits_at ids (merged other ids table n) other n ≡ true) same here

-- ---- the types of an interface

module _ (table other : Table) (level : length other.origins ≡ length other.types) (fits : types_fit table other ≡ true) where
  abbrev ids : List TypeId
  ids = ids_in table other

  by_cond : (b : Bool) (one two : Table) → (b ≡ true → IsOrdered one) → IsOrdered two → IsOrdered (cond b one two)
  by_cond true one two h k = h refl
  by_cond false one two h k = k

  ordered_to : (number : ℕ) → number ≤ length other.types → IsOrdered table → IsOrdered (with_first table other number)
  ordered_to zero low h = h
  ordered_to (suc number) low h =
      let one = has other.types number (omega arith) in
      let o = has other.origins number (omega arith) in
      let now = with_first table other number in
      let before = ordered_to number (omega arith) h in
      let key = key_of other.units o.one in
      let new = added_type ids now key one.one in
      let added = with_type now key.unit key.number new in
      let fit = fit_at ids table other number (length other.types) (omega arith) fits in
      let listed : is_new ids now number ≡ true → listed_stands ids now other.units (slice_get other.types number) (slice_get other.origins number) ≡ true =
      λ is. stood (is_new ids now number) (is_torn ids other number) (listed_stands ids now other.units (slice_get other.types number) (slice_get other.origins number)) fit is in
      let there : is_new ids now number ≡ true → stands now key.unit new ≡ true =
      λ is. subst (λ (x : Option Origin). listed_stands ids now other.units (Some one.one) x ≡ true) o.at
      (subst (λ (x : Option TypeDef). listed_stands ids now other.units x (slice_get other.origins number) ≡ true) one.at (listed is)) in
      let next : with_first table other (suc number) ≡ cond (is_new ids now number) added now =
      ap (λ (x : Option TypeDef). cond (is_new ids now number) (with_listed ids now other.units x (slice_get other.origins number)) now) one.at
      ∙ ap (λ (x : Option Origin). cond (is_new ids now number) (with_listed ids now other.units (Some one.one) x) now) o.at in
      subst IsOrdered (sym next) (by_cond (is_new ids now number) added now (λ is. stands_ordered now key.unit key.number new before (there is)) before)

pub ordered_behind : (table other : Table) → length other.origins ≡ length other.types → types_fit table other ≡ true → IsOrdered table → IsOrdered (with_first table other (length other.types))
ordered_behind table other level fits h = ordered_to table other level fits (length other.types) (omega arith) h

pub together : (table other : Table) → length table.origins ≡ length table.types → length other.origins ≡ length other.types → types_fit table other ≡ true → AreTogether table other
together table other paired level fits number least greatest at new =
    let ids = ids_in table other in
    let one = Ordinal host.Enumeration least greatest in
    let low = slice_get_within other.types number one at in
    let before = with_first table other number in
    let id = get_or ids number (record { 0 = number }) in
    let whole : is_torn ids other number ≡ false =
    untorn (is_new ids before number) (is_torn ids other number)
    (listed_stands ids before other.units (slice_get other.types number) (slice_get other.origins number))
    (fit_at ids table other number (length other.types) low fits) new in
    let apart : not (follows id (slice_get ids (number + 1))) ≡ false =
    subst (λ (o : Option TypeDef). (is_enumeration o && not (follows id (slice_get ids (number + 1)))) ≡ false) at whole in
    let n = next_of id (slice_get ids (number + 1)) apart in
    let there : slice_get ids (suc number) ≡ Some n.next = subst (λ (k : ℕ). slice_get ids k ≡ Some n.next) (add-one number) n.at in
    let d : TypeId = record { 0 = suc number } in
    let next_is : (get_or ids (suc number) d).0 ≡ n.next.0 = ap (λ (ty : TypeId). ty.0) (get_or_from_slice_get ids (suc number) n.next d there) in
    let m = met table other paired level number one at low in
    let added = with_type before m.unit m.count (renumbered ids m.place one) in
    let after = with_first table other (suc number) in
    let long : length after.types ≡ length before.types + 1 =
    ap (λ (t : Table). length t.types) (m.is ∙ chosen (is_new ids before number) added before new)
    ∙ omega (arith, length-append before.types (renumbered ids m.place one ∷ [])) in
    let lowest : id.0 < length after.types = m.id (record { 0 = number }) in
    let past : length before.types ≤ id.0 = not_below id.0 (length before.types) new in
    let is = n.is in
    ap not (le-ltb (get_or ids (suc number) d).0 (length after.types) (omega arith))
  where
    chosen : (b : Bool) (one two : Table) → b ≡ true → cond b one two ≡ one
    chosen true one two e = refl
    chosen false one two e = (let f : false ≡ true = e in cc)

    not_below : (m n : ℕ) → not (nat_lt m n) ≡ true → n ≤ m
    not_below m n e = by (nat_lt m n) refl e
      where
        by : (b : Bool) → nat_lt m n ≡ b → not b ≡ true → n ≤ m
        by true is f = (let g : false ≡ true = f in cc)
        by false is f = ltb-false m n is
