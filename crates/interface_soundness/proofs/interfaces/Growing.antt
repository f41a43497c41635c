-- Tables that only grow.
use Rattle.std.proofs.Common.{◌≡◌, ◌∙◌, ℕ, zero, suc, ◌<◌, ◌≤◌, Bool, true, false, List, [], ◌∷◌, ◌++◌, Option, Some, None, length, refl, sym, ap, subst, arith, append_assoc, append-nil, length-append}
use Rattle.std.specs.Prelude.{position, slice_get}
use Rattle.std.proofs.lemmas.List.Elements.{All-push, All-weaker}
use Rattle.std.proofs.lemmas.List.Quantifiers.{position-Some}
use Rattle.front_end.specs.type_layout.declared.definitions.TypeDef.{TypeDef}
use Rattle.front_end.specs.type_layout.declared.definitions.Origin.{Origin}
use Rattle.front_end.specs.type_layout.Words.{same_bytes}
use Rattle.front_end.specs.type_layout.Table.{Table, place_of, with_unit, with_type}
use Rattle.front_end.specs.scopes.Environment.{Environment}
use Rattle.front_end.specs.unit_interface.Misfits.{is_enumeration}
use Rattle.front_end.specs.declaration_checker.type_denoters.Additions.{count_of, with_type_of}
use Rattle.interface_soundness.specs.interfaces.Agreement.{IsPaired}
use Rattle.interface_soundness.specs.interfaces.Declared.{with_declared, AreFollowed, IsOfOneUnit, AreOfOneUnit, Declares}

-- a table with further types, in which each has its origin if each had in the first
pub record Grows (before after : Table) : Type 0 where
  pub types : List TypeDef
  pub origins : List Origin
  pub units : List (List ℕ)
  pub has_types : after.types ≡ before.types ++ types
  pub has_origins : after.origins ≡ before.origins ++ origins
  pub has_units : after.units ≡ before.units ++ units
  pub pairs : IsPaired before → IsPaired after

pub stays : (table : Table) → Grows table table
stays table = record {
  types = [];
  origins = [];
  units = [];
  has_types = sym (append-nil table.types);
  has_origins = sym (append-nil table.origins);
  has_units = sym (append-nil table.units);
  pairs = λ h. h;
}

pub then : (one two three : Table) → Grows one two → Grows two three → Grows one three
then one two three first second = record {
  types = first.types ++ second.types;
  origins = first.origins ++ second.origins;
  units = first.units ++ second.units;
  has_types = second.has_types ∙ ap (λ (l : List TypeDef). l ++ second.types) first.has_types ∙ append_assoc one.types first.types second.types;
  has_origins = second.has_origins ∙ ap (λ (l : List Origin). l ++ second.origins) first.has_origins ∙ append_assoc one.origins first.origins second.origins;
  has_units = second.has_units ∙ ap (λ (l : List (List ℕ)). l ++ second.units) first.has_units ∙ append_assoc one.units first.units second.units;
  pairs = λ h. second.pairs (first.pairs h);
}

-- the units behind one that is found or added
record IsPlaced (units : List (List ℕ)) (unit : List ℕ) : Type 0 where
  more : List (List ℕ)
  grows : with_unit units unit ≡ units ++ more
  within : place_of units unit < length (with_unit units unit)

placed : (units : List (List ℕ)) (unit : List ℕ) → IsPlaced units unit
placed units unit = by (position (same_bytes unit) units) refl
  where
    by : (o : Option ℕ) → position (same_bytes unit) units ≡ o → IsPlaced units unit
    by None e = record {
      more = unit ∷ [];
      grows = rw e refl;
      within = rw e (omega (arith, length-append units (unit ∷ [])));
    }
    by (Some i) e = record {
      more = [];
      grows = rw e (sym (append-nil units));
      within = rw e (position-Some (same_bytes unit) units i [] e).0;
    }

pub adds : (table : Table) (origin : List ℕ) (number : ℕ) (one : TypeDef) → Grows table (with_type table origin number one)
adds table origin number one =
    let p = placed table.units origin in
    let o : Origin = record { unit = place_of table.units origin; number = number } in
    let more : length table.units ≤ length (with_unit table.units origin) = omega (arith, ap length p.grows, length-append table.units p.more) in
    record {
      types = one ∷ [];
      origins = o ∷ [];
      units = p.more;
      has_types = refl;
      has_origins = refl;
      has_units = p.grows;
      pairs = λ h. record {
        paired = omega (arith, h.paired, length-append table.origins (o ∷ []), length-append table.types (one ∷ []));
        known = All-push (λ (x : Origin). x.unit < length (with_unit table.units origin)) table.origins o
            (All-weaker (λ (x : Origin). x.unit < length table.units) (λ (x : Origin). x.unit < length (with_unit table.units origin)) (λ x k. omega (arith, more)) table.origins h.known)
            p.within;
      };
    }

-- ---- what a unit declares

pub declared_grows : (unit : List ℕ) (table : Table) (types : List TypeDef) → Grows table (with_declared unit table types)
declared_grows unit table [] = stays table
declared_grows unit table (one ∷ rest) =
    let next = with_type table unit (count_of table unit) one in
    then table next (with_declared unit next rest) (adds table unit (count_of table unit) one) (declared_grows unit next rest)

pub with_both : (unit : List ℕ) (table : Table) (first second : List TypeDef) → with_declared unit table (first ++ second) ≡ with_declared unit (with_declared unit table first) second
with_both unit table [] second = refl
with_both unit table (one ∷ rest) second = with_both unit (with_type table unit (count_of table unit) one) rest second

followed_tail : (one : TypeDef) (rest : List TypeDef) → AreFollowed (one ∷ rest) → AreFollowed rest
followed_tail one rest all place is = omega (arith, all (suc place) is)

followed_behind : (one : TypeDef) (first second : List TypeDef) → AreFollowed (one ∷ first) → AreFollowed (first ++ second) → AreFollowed (one ∷ (first ++ second))
followed_behind one first second all rest zero is = omega (arith, all zero is, length-append first second)
followed_behind one first second all rest (suc place) is = omega (arith, rest place is)

followed_both : (first second : List TypeDef) → AreFollowed first → AreFollowed second → AreFollowed (first ++ second)
followed_both [] second one two = two
followed_both (x ∷ first) second one two = followed_behind x first second one (followed_both first second (followed_tail x first one) two)

methods_both : (first second : List TypeDef) → AreOfOneUnit first → AreOfOneUnit second → AreOfOneUnit (first ++ second)
methods_both [] second one two place found at = two place found at
methods_both (x ∷ first) second one two zero found at = one zero found at
methods_both (x ∷ first) second one two (suc place) found at = methods_both first second (λ k f is. one (suc k) f is) two place found at

pub declares_none : (unit : List ℕ) (before after : Table) → after ≡ before → Declares unit before after
declares_none unit before after same = record { types = []; is = same; followed = λ place is. absurd (none place is); methods = λ place one at. absurd (nothing place one at) }
  where
    none : (place : ℕ) → is_enumeration (slice_get [] place) ≡ true → ⊥
    none place is = let bad : false ≡ true = is in cc

    nothing : (place : ℕ) (one : TypeDef) → slice_get [] place ≡ Some one → ⊥
    nothing place one at = cc

declares_both : (unit : List ℕ) (one two three : Table) → Declares unit one two → Declares unit two three → Declares unit one three
declares_both unit one two three first second = record {
  types = first.types ++ second.types;
  is = second.is ∙ ap (λ (table : Table). with_declared unit table second.types) first.is ∙ sym (with_both unit one first.types second.types);
  followed = followed_both first.types second.types first.followed second.followed;
  methods = methods_both first.types second.types first.methods second.methods;
}

same_kind : (one found : TypeDef) → Some one ≡ Some found → IsOfOneUnit one → IsOfOneUnit found
same_kind one found same h = let is : one ≡ found = cc in subst IsOfOneUnit is h

not_both : (b : Bool) → b ≡ true → b ≡ false → ⊥
not_both b here absent = cc

declares_one : (unit : List ℕ) (table : Table) (one : TypeDef) → is_enumeration (Some one) ≡ false → IsOfOneUnit one → Declares unit table (with_type table unit (count_of table unit) one)
declares_one unit table one other whole = record { types = one ∷ []; is = refl; followed = at; methods = of }
  where
    at : AreFollowed (one ∷ [])
    at zero is = absurd (not_both (is_enumeration (Some one)) is other)
    at (suc place) is = let bad : false ≡ true = is in absurd (cc)

    of : AreOfOneUnit (one ∷ [])
    of zero found is = same_kind one found is whole
    of (suc place) found is = absurd (cc)

-- any type, and another one behind it
declares_two : (unit : List ℕ) (table : Table) (one two : TypeDef) → is_enumeration (Some two) ≡ false → IsOfOneUnit one → IsOfOneUnit two
    → (let next : Table = with_type table unit (count_of table unit) one in Declares unit table (with_type next unit (count_of next unit) two))
declares_two unit table one two other whole behind = record { types = one ∷ two ∷ []; is = refl; followed = at; methods = of }
  where
    at : AreFollowed (one ∷ two ∷ [])
    at zero is = omega arith
    at (suc zero) is = absurd (not_both (is_enumeration (Some two)) is other)
    at (suc (suc place)) is = let bad : false ≡ true = is in absurd (cc)

    of : AreOfOneUnit (one ∷ two ∷ [])
    of zero found is = same_kind one found is whole
    of (suc zero) found is = same_kind two found is behind
    of (suc (suc place)) found is = absurd (cc)

-- ---- what is known

-- the table has what the unit declares besides, and the names of units are the same
pub record GrowsTo (unit : List ℕ) (g h : Environment) : Type 0 where
  pub declares : Declares unit g.types h.types
  pub names : h.units ≡ g.units

-- so the table grew
pub grown : (unit : List ℕ) (g h : Environment) → GrowsTo unit g h → Grows g.types h.types
grown unit g h grows = subst (λ (table : Table). Grows g.types table) (sym grows.declares.is) (declared_grows unit g.types grows.declares.types)

pub unchanged : (unit : List ℕ) (g h : Environment) → h.types ≡ g.types → h.units ≡ g.units → GrowsTo unit g h
unchanged unit g h same named = record { declares = declares_none unit g.types h.types same; names = named }

pub same_table : (unit : List ℕ) (g h k : Environment) → k ≡ h → GrowsTo unit g h → GrowsTo unit g k
same_table unit g h k e grows = let P : Environment → Type 0 = λ x. GrowsTo unit g x in subst P (sym e) grows

pub next : (unit : List ℕ) (g h k : Environment) → GrowsTo unit g h → GrowsTo unit h k → GrowsTo unit g k
next unit g h k one two = record { declares = declares_both unit g.types h.types k.types one.declares two.declares; names = two.names ∙ one.names }

-- a type is added, which is no ordinal type of an enumeration
pub one_more : (unit : List ℕ) (g : Environment) (one : TypeDef) → is_enumeration (Some one) ≡ false → IsOfOneUnit one → GrowsTo unit g (with_type_of unit g one)
one_more unit g one other whole = record { declares = declares_one unit g.types one other whole; names = refl }

-- or any type with another one behind it
pub two_more : (unit : List ℕ) (g : Environment) (one two : TypeDef) → is_enumeration (Some two) ≡ false → IsOfOneUnit one → IsOfOneUnit two
    → GrowsTo unit g (with_type_of unit (with_type_of unit g one) two)
two_more unit g one two other whole behind = record { declares = declares_two unit g.types one two other whole behind; names = refl }
