-- The table that every source begins with is told.
use Rattle.std.proofs.Common.{◌≡◌, ◌∙◌, ℕ, zero, suc, ℤ, true, false, List, [], ◌∷◌, Some, refl, sym, ap, subst}
use Rattle.std.specs.Prelude.{slice_get}
use Rattle.tables_closed.specs.type_layout.declared.definitions.Host.TheVariants as host
use Rattle.tables_closed.specs.type_layout.declared.definitions.TypeDef.{TypeDef}
use Rattle.tables_closed.specs.type_layout.declared.definitions.TypeDef.TheVariants as type
use Rattle.tables_closed.specs.type_layout.Table.{Table}
use Rattle.tables_closed.specs.scopes.Predeclared.{system, type_list, type_table}
use Rattle.tables_closed.specs.unit_interface.declared.keys.Key.{Key}
use Rattle.tables_closed.specs.unit_interface.declared.interfaces.Interface.{Interface}
use Rattle.tables_closed.specs.unit_interface.Merge.{keys_of, renumbered}
use Rattle.tables_closed.specs.unit_interface.Misfits.{is_enumeration}
use Rattle.tables_closed.proofs.unit_interface_proofs.KeyLaws.{keyed_first}
use Rattle.imported_types_agree.specs.consistent_types.Consistency.{home_of, between, AreAtHome, AreAlike, next_key, AreFronted, IsConsistent}
use Rattle.imported_types_agree.proofs.consistent_types.Arrived.{some_is}

-- each element of a list
abbrev Each : {A : Type 0} → (A → Type 0) → List A → Type 0
Each P [] = Unit {0}
Each P (x ∷ xs) = P x × Each P xs

at_each : {A : Type 0} → (P : A → Type 0) (xs : List A) (number : ℕ) (x : A) → Each P xs → slice_get xs number ≡ Some x → P x
at_each P [] zero x all at = cc
at_each P [] (suc number) x all at = cc
at_each P (y ∷ ys) zero x all at = let same : y ≡ x = cc in subst P same all.0
at_each P (y ∷ ys) (suc number) x all at = at_each P ys number x all.1 at

-- ---- the predeclared types

abbrev OfSystem : Key → Type 0
OfSystem key = key.unit ≡ system

all_of_system : Each OfSystem (keys_of type_table)
all_of_system = (refl, (refl, (refl, (refl, (refl, (refl, (refl, (refl, (refl, (refl, (refl, tt)))))))))))

abbrev StaysItself : TypeDef → Type 0
StaysItself one = one ≡ renumbered (between type_table type_table) 0 one

all_themselves : Each StaysItself type_list
all_themselves = (refl, (refl, (refl, (refl, (refl, (refl, (refl, (refl, (refl, (refl, (refl, tt)))))))))))

abbrev IsNoEnumeration : TypeDef → Type 0
IsNoEnumeration one = is_enumeration (Some one) ≡ false

no_enumerations : Each IsNoEnumeration type_list
no_enumerations = (refl, (refl, (refl, (refl, (refl, (refl, (refl, (refl, (refl, (refl, (refl, tt)))))))))))

no_enumeration : (number : ℕ) (low high : ℤ) → slice_get type_table.types number ≡ Some (type.Ordinal host.Enumeration low high) → ⊥
no_enumeration number low high at = contrary (at_each IsNoEnumeration type_list number (type.Ordinal host.Enumeration low high) no_enumerations at)
  where
    contrary : true ≡ false → ⊥
    contrary e = cc

-- ---- its home is itself

home_is : (have : List Interface) (unit : List ℕ) (home : Table) → unit ≡ system → home_of have unit ≡ Some home → type_table ≡ home
home_is have unit home of is = same home (ap (home_of have) (sym of) ∙ is)
  where
    same : (home : Table) → home_of have system ≡ Some home → type_table ≡ home
    same home e = cc

unit_at : (number : ℕ) (key : Key) → slice_get (keys_of type_table) number ≡ Some key → key.unit ≡ system
unit_at number key at = at_each OfSystem (keys_of type_table) number key all_of_system at

alike_first : (have : List Interface) → AreAlike have type_table
alike_first have number place key home first one at stands is there f =
    let h : type_table ≡ home = home_is have key.unit home (unit_at number key at) is in
    let there_too : slice_get (keys_of type_table) place ≡ Some key = subst (λ (t : Table). slice_get (keys_of t) place ≡ Some key) (sym h) there in
    let f_too : slice_get type_table.types place ≡ Some first = subst (λ (t : Table). slice_get t.types place ≡ Some first) (sym h) f in
    let spot : number ≡ place = keyed_first.apart number place key at there_too in
    let same : one ≡ first = some_is one first (sym stands ∙ ap (slice_get type_table.types) spot ∙ f_too) in
    let itself : first ≡ renumbered (between type_table type_table) 0 first = at_each StaysItself type_list place first all_themselves f_too in
    record { unit = 0; is = same ∙ itself ∙ ap (λ (t : Table). renumbered (between t type_table) 0 first) h }

fronted_first : (have : List Interface) → AreFronted have type_table
fronted_first have number place key home low high at is there f =
    let h : type_table ≡ home = home_is have key.unit home (unit_at number (next_key key) at) is in
    absurd (no_enumeration place low high (subst (λ (t : Table). slice_get t.types place ≡ Some (type.Ordinal host.Enumeration low high)) (sym h) f))

pub first_told : (have : List Interface) → IsConsistent have type_table
first_told have = record {
  keyed = keyed_first;
  alike = alike_first have;
  followed = λ number low high key stands at. absurd (no_enumeration number low high stands);
  fronted = fronted_first have;
}

pub first_home : (have : List Interface) → AreAtHome have type_table
first_home have number key at = record {
  home = type_table;
  is = ap (home_of have) (unit_at number key at) ∙ itself;
  stands = record { place = number; at = at };
}
  where
    itself : home_of have system ≡ Some type_table
    itself = refl
