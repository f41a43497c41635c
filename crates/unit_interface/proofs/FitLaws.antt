-- The test on the types of an interface tells what fits and what does not.
use Rattle.std.proofs.Common.{◌≡◌, ◌∙◌, ℕ, zero, suc, ◌+◌, ◌-◌, ◌<◌, ◌≤◌, ℤ, pos, Bool, true, false, ◌&&◌, ◌||◌, not, List, [], ◌∷◌, length, Option, Some, None, get_or, refl, subst, arith, inl, inr, add-one}
use Rattle.std.specs.Prelude.{All, Result, Ok, Err, OnOk, IfErr, ◌≤ℤ◌, int_le, nat_le, nat_lt, nat_eq, slice_get}
use Rattle.std.specs.List.{list_all}
use Rattle.std.proofs.lemmas.Int.{ints}
use Rattle.std.proofs.lemmas.List.Elements.{All-cons, All-head, All-tail}
use Rattle.std.proofs.lemmas.Option.{slice_get_within}
use Rattle.type_layout.specs.declared.definitions.TypeId.{TypeId}
use Rattle.type_layout.specs.declared.definitions.Field.{Field}
use Rattle.type_layout.specs.declared.definitions.Method.{Method}
use Rattle.type_layout.specs.declared.definitions.TypeDef.{TypeDef}
use Rattle.type_layout.specs.declared.definitions.TypeDef.TheVariants.{Ordinal, Str, SetOf, ArrayOf, RecordOf, PointerTo, ObjectOf, Procedural}
use Rattle.type_layout.specs.declared.definitions.Origin.{Origin}
use Rattle.type_layout.specs.Storage.{least_of, greatest_of}
use Rattle.type_layout.specs.Layouts.{size_over}
use Rattle.type_layout.specs.Table.{Table, IsOrdinal, IsByteRange, IsObject, IsAncestor, IsDefinedOver, HasMethodsOf, IsAddable, place_of}
use Rattle.unit_interface.specs.Merge.{renumbered, is_new, merged, ids_in}
use Rattle.unit_interface.specs.declared.merge.MergeError.{MergeError}
use Rattle.unit_interface.specs.declared.merge.MergeError.TheVariants.{Mismatch, NoMemory}
use Rattle.unit_interface.specs.Misfits.{is_enumeration, follows, is_torn, IsMisfit, IsUnfit, IsTorn, IsOutOfPlace, IsMisfitting, IsMergeCause}
use Rattle.unit_interface.specs.Fitting.{is_ordinal, is_byte_range, is_object, is_ancestor, is_known, is_defined, is_of_unit, has_methods, stands, fits_at, fit_first, types_fit, TellsFit}

-- a test tells whether something holds
record Decides (test : Bool) (P : Type 0) : Type 0 where
  yes : test ≡ true → P
  back : P → test ≡ true

never : Decides false ⊥
never = record { yes = λ e. (let f : false ≡ true = e in cc); back = λ h. absurd h }

always : Decides true (Unit {0})
always = record { yes = λ e. tt; back = λ h. refl }

both : {P Q : Type 0} (a b : Bool) → Decides a P → Decides b Q → Decides (a && b) (P × Q)
both true b p q = record { yes = λ e. (p.yes refl, q.yes e); back = λ h. q.back h.1 }
both false b p q = record { yes = λ e. (let f : false ≡ true = e in cc); back = λ h. p.back h.0 }

three : {P Q R : Type 0} {test : Bool} → Decides test (P × (Q × R)) → Decides test (P × Q × R)
three d = record { yes = λ e. (let h = d.yes e in (h.0, h.1.0, h.1.1)); back = λ h. d.back (h.0, (h.1, h.2)) }

at_most : (m n : ℕ) → Decides (nat_le m n) (m ≤ n)
at_most m n = record { yes = λ e. grind arith; back = λ l. grind arith }

below : (m n : ℕ) → Decides (nat_lt m n) (m < n)
below m n = record { yes = λ e. grind arith; back = λ l. grind arith }

equal : (m n : ℕ) → Decides (nat_eq m n) (m ≡ n)
equal m n = record { yes = λ e. grind arith; back = λ l. grind arith }

rises : (m n : ℤ) → Decides (int_le m n) (m ≤ℤ n)
rises m n = record { yes = λ e. grind (arith, ints); back = λ l. grind (arith, ints) }

all : {X : Type 0} (p : X → Bool) (P : X → Type 0) → ((x : X) → Decides (p x) (P x)) → (xs : List X) → Decides (list_all p xs) (All P xs)
all p P tells [] = record { yes = λ e k d l. absurd (omega arith); back = λ h. refl }
all p P tells (x ∷ xs) =
    let here = both (p x) (list_all p xs) (tells x) (all p P tells xs) in
    record {
      yes = λ e. (let h = here.yes e in All-cons P x xs h.0 h.1);
      back = λ h. here.back (All-head P x xs h, All-tail P x xs h);
    }

not_above : (m n : ℕ) → (m < n → ⊥) → n ≤ m
not_above m n none = by (nat_lt m n) refl
  where
    by : (b : Bool) → nat_lt m n ≡ b → n ≤ m
    by true e = absurd (none ((below m n).yes e))
    by false e = grind arith

-- ---- what a table asks of a type

ordinal : (o : Option TypeDef) → Decides (is_ordinal o) (IsOrdinal o)
ordinal None = never
ordinal (Some (Ordinal host low high)) = always
ordinal (Some (Str max)) = never
ordinal (Some (SetOf base)) = never
ordinal (Some (ArrayOf index element)) = never
ordinal (Some (RecordOf fields)) = never
ordinal (Some (PointerTo target)) = never
ordinal (Some (ObjectOf parent dynamic fields methods)) = never
ordinal (Some (Procedural header)) = never

byte_range : (o : Option TypeDef) → Decides (is_byte_range o) (IsByteRange o)
byte_range None = never
byte_range (Some (Ordinal host low high)) = both (int_le (pos 0) low) (int_le high (pos 255)) (rises (pos 0) low) (rises high (pos 255))
byte_range (Some (Str max)) = never
byte_range (Some (SetOf base)) = never
byte_range (Some (ArrayOf index element)) = never
byte_range (Some (RecordOf fields)) = never
byte_range (Some (PointerTo target)) = never
byte_range (Some (ObjectOf parent dynamic fields methods)) = never
byte_range (Some (Procedural header)) = never

object : (o : Option TypeDef) → Decides (is_object o) (IsObject o)
object None = never
object (Some (Ordinal host low high)) = never
object (Some (Str max)) = never
object (Some (SetOf base)) = never
object (Some (ArrayOf index element)) = never
object (Some (RecordOf fields)) = never
object (Some (PointerTo target)) = never
object (Some (ObjectOf parent dynamic fields methods)) = always
object (Some (Procedural header)) = never

ancestor : (types : List TypeDef) (parent : Option TypeId) → Decides (is_ancestor types parent) (IsAncestor types parent)
ancestor types None = always
ancestor types (Some parent) = object (slice_get types parent.0)

module _ (types : List TypeDef) where
  known : (fields : List Field) → Decides (list_all (is_known types) fields) (All (λ (field : Field). field.ty.0 < length types) fields)
  known fields = all (is_known types) (λ (field : Field). field.ty.0 < length types) (λ field. below field.ty.0 (length types)) fields

  defined : (one : TypeDef) → Decides (is_defined types one) (IsDefinedOver types one)
  defined (Ordinal host low high) =
      three (both (int_le (least_of host) low) (int_le low high && int_le high (greatest_of host)) (rises (least_of host) low)
      (both (int_le low high) (int_le high (greatest_of host)) (rises low high) (rises high (greatest_of host))))
  defined (Str max) = at_most 1 max
  defined (SetOf base) = byte_range (slice_get types base.0)
  defined (ArrayOf index element) =
      both (is_ordinal (slice_get types index.0)) (nat_lt element.0 (length types)) (ordinal (slice_get types index.0)) (below element.0 (length types))
  defined (RecordOf fields) = known fields
  defined (PointerTo target) = always
  defined (ObjectOf parent dynamic fields methods) = both (is_ancestor types parent) (list_all (is_known types) fields) (ancestor types parent) (known fields)
  defined (Procedural header) = always

of_unit : (unit : ℕ) (one : TypeDef) → Decides (has_methods unit one) (HasMethodsOf unit one)
of_unit unit (Ordinal host low high) = always
of_unit unit (Str max) = always
of_unit unit (SetOf base) = always
of_unit unit (ArrayOf index element) = always
of_unit unit (RecordOf fields) = always
of_unit unit (PointerTo target) = always
of_unit unit (ObjectOf parent dynamic fields methods) =
    all (is_of_unit unit) (λ (method : Method). method.routine.unit ≡ unit) (λ method. equal method.routine.unit unit) methods
of_unit unit (Procedural header) = always

no : {P : Type 0} (test : Bool) → Decides test P → (P → ⊥) → test ≡ false
no true d none = absurd (none (d.yes refl))
no false d none = refl

module _ (table : Table) (origin : List ℕ) (one : TypeDef) where
  abbrev Asked : Type 0
  Asked = IsDefinedOver table.types one × (HasMethodsOf (place_of table.units origin) one × (size_over table.types one ≤ 65520))

  told : Decides (stands table origin one) Asked
  told =
      let unit = place_of table.units origin in
      both (is_defined table.types one) (has_methods unit one && nat_le (size_over table.types one) 65520) (defined table.types one)
      (both (has_methods unit one) (nat_le (size_over table.types one) 65520) (of_unit unit one) (at_most (size_over table.types one) 65520))

  pub stands_there : IsAddable table origin one → (65520 < size_over table.types one → ⊥) → stands table origin one ≡ true
  stands_there addable small = told.back (addable.defined, (addable.methods, not_above 65520 (size_over table.types one) small))

  misfit_fails : IsMisfit table origin one → stands table origin one ≡ false
  misfit_fails (inl none) = no (stands table origin one) told (λ a. none (record { defined = a.0; methods = a.1.0 }))
  misfit_fails (inr large) = no (stands table origin one) told (λ a. (let l = a.1.1 in omega arith))

-- ---- types of another table

ends : (b c : Bool) → c ≡ false → (b && c) ≡ false
ends true c e = e
ends false c e = refl

module _ (ids : List TypeId) (table other : Table) where
  unfit_fails : (number : ℕ) (now : Table) → IsUnfit ids now other number → fits_at ids now other number ≡ false
  unfit_fails number now u = rw (u.new) (ends (not (is_torn ids other number)) _ (rw (u.stands, u.declared) (misfit_fails now _ _ u.misfit)))

  torn_fails : (number : ℕ) (now : Table) → IsTorn ids now other number → fits_at ids now other number ≡ false
  torn_fails number now u = rw (u.new, u.torn) refl

  misplaced_fails : (number : ℕ) (now : Table) → IsOutOfPlace ids now other number → fits_at ids now other number ≡ false
  misplaced_fails number now (inl u) = unfit_fails number now u
  misplaced_fails number now (inr u) = torn_fails number now u

  -- the number of a type that is out of place is one of the table
  misplaced_low : (number : ℕ) (now : Table) → IsOutOfPlace ids now other number → number < length other.types
  misplaced_low number now (inl u) = slice_get_within other.types number u.one u.stands
  misplaced_low number now (inr u) = enumeration_low (slice_get other.types number) refl u.torn
    where
      enumeration_low : (o : Option TypeDef) → slice_get other.types number ≡ o → (is_enumeration o && not (follows (get_or ids number (record { 0 = number })) (slice_get ids (number + 1)))) ≡ true → number < length other.types
      enumeration_low None is e = (let f : false ≡ true = e in cc)
      enumeration_low (Some one) is e = slice_get_within other.types number one is

  -- what fails among the first types fails among more of them
  fails_on : (more number last : ℕ) → number + more ≡ last → fit_first ids table other number ≡ false → fit_first ids table other last ≡ false
  fails_on zero number last at e = subst (λ (n : ℕ). fit_first ids table other n ≡ false) (let same : number ≡ last = omega arith in same) e
  fails_on (suc more) number zero at e = absurd (omega arith)
  fails_on (suc more) number (suc last) at e = rw (fails_on more number last (omega arith) e) refl

  pub misfitting_fails : IsMisfitting ids table other → fit_first ids table other (length other.types) ≡ false
  misfitting_fails m =
      let low = misplaced_low m.number (merged other ids table m.number) m.unfit in
      fails_on (length other.types - suc m.number) (suc m.number) (length other.types) (omega arith) (fails_here m.number (misplaced_fails m.number (merged other ids table m.number) m.unfit))
    where
      fails_here : (number : ℕ) → fits_at ids (merged other ids table number) other number ≡ false → fit_first ids table other (suc number) ≡ false
      fails_here number e = ends (fit_first ids table other number) (fits_at ids (merged other ids table number) other number) e

-- ---- steps of the loop over them

or_last : (a b : Bool) → b ≡ true → (a || b) ≡ true
or_last true b e = refl
or_last false b e = e

-- a type that was added fits
pub type-fits : (ids : List TypeId) (table other : Table) (number : ℕ) (one added : TypeDef) (origin : Origin) (name : List ℕ)
    → slice_get other.types number ≡ Some one → slice_get other.origins number ≡ Some origin → name ≡ get_or other.units origin.unit []
    → added ≡ renumbered ids (place_of table.units name) one → is_torn ids other number ≡ false → stands table name added ≡ true → fits_at ids table other number ≡ true
type-fits ids table other number one added origin name at from named is whole fits =
    let own : stands table (get_or other.units origin.unit []) (renumbered ids (place_of table.units (get_or other.units origin.unit [])) one) ≡ true =
    rw (← named, ← is) fits in
    or_last (not (is_new ids table number)) _ (rw whole (rw (at, from) own))

pub first-fit : (ids : List TypeId) (table now other : Table) (number : ℕ) → now ≡ merged other ids table number → fit_first ids table other number ≡ true
    → fits_at ids now other number ≡ true → fit_first ids table other (number + 1) ≡ true
first-fit ids table now other number so_far before here = rw (add-one, before, ← so_far) here

-- what is answered of the types of an interface tells whether they fit
pub told-fit : (table other : Table) (fits : Bool) (result : Result (Unit {0}) MergeError) → fits ≡ types_fit table other
    → OnOk result (types_fit table other ≡ true) → IfErr result (IsMergeCause table other) → TellsFit fits result
told-fit table other fits (Ok done) is all cause = is ∙ all
told-fit table other fits (Err Mismatch) is all cause = is ∙ misfitting_fails (ids_in table other) table other cause
told-fit table other fits (Err NoMemory) is all cause = tt
