-- The table of the units, and that both units have it.
use Rattle.std.proofs.Common.{◌≡◌, ℕ, zero, suc, ◌≤◌, ◌<◌, Bool, true, false, cond, nat_eq, [], ◌∷◌, Some, None, refl, sym, ap, subst, ◌∙◌, arith}
use Rattle.std.specs.Prelude.{All, slice_get, if◌then◌else◌}
use Rattle.std.proofs.lemmas.Option.{same_Some}
use Rattle.std.proofs.lemmas.Int.{ints}
use Rattle.std.proofs.lemmas.List.Elements.{All-nil, All-cons}
use Rattle.unit_references.specs.type_layout.declared.definitions.TypeId.{TypeId}
use Rattle.unit_references.specs.type_layout.declared.definitions.Field.{Field}
use Rattle.unit_references.specs.type_layout.declared.definitions.Origin.{Origin}
use Rattle.unit_references.specs.type_layout.declared.definitions.TypeDef.{TypeDef}
use Rattle.unit_references.specs.type_layout.declared.definitions.TypeDef.TheVariants as type
use Rattle.unit_references.specs.type_layout.declared.layout.Layout.{Layout}
use Rattle.unit_references.specs.type_layout.Layouts.{plain}
use Rattle.unit_references.specs.type_layout.Words.{same_bytes}
use Rattle.unit_references.specs.typed_tree.declared.statements.Stmt.{Stmt}
use Rattle.unit_references.specs.typed_tree.declared.units.Unit.{Unit as TypedUnit}
use Rattle.unit_references.specs.tp_meaning.Trees.{Key}
use Rattle.unit_references.specs.tp_meaning.Programs.{Sort}
use Rattle.unit_references.specs.store_typing.types.Declared.{declared}
use Rattle.unit_references.specs.store_typing.types.Agreement.{IsUnit, IsKnown, IsShort, IsLawful, AreConsistent}
use Rattle.unit_references.proofs.store_typing_proofs.units.Single.{single_agrees}
use Rattle.program_samples.specs.Sample.{id, types, table, unit_a, unit_p, sample}

pub one_element : {X : Type 0} (P : X → Type 0) (x : X) → P x → All P (x ∷ [])
one_element P x h = All-cons P x [] h (All-nil P)

five : {X : Type 0} (P : X → Type 0) (a b c d e : X) → P a → P b → P c → P d → P e → All P (a ∷ b ∷ c ∷ d ∷ e ∷ [])
five P a b c d e pa pb pc pd pe =
    All-cons P a (b ∷ c ∷ d ∷ e ∷ []) pa (All-cons P b (c ∷ d ∷ e ∷ []) pb (All-cons P c (d ∷ e ∷ []) pc (All-cons P d (e ∷ []) pd (one_element P e pe))))

-- ---- the table

-- what holds of each type of the table, case by case
pub each_type : (P : ℕ → TypeDef → Type 0)
    → ((one : TypeDef) → slice_get types 0 ≡ Some one → P 0 one) → ((one : TypeDef) → slice_get types 1 ≡ Some one → P 1 one) → ((one : TypeDef) → slice_get types 2 ≡ Some one → P 2 one)
    → ((one : TypeDef) → slice_get types 3 ≡ Some one → P 3 one) → ((one : TypeDef) → slice_get types 4 ≡ Some one → P 4 one)
    → (k : ℕ) (one : TypeDef) → slice_get types k ≡ Some one → P k one
each_type P a b c d e zero one is = a one is
each_type P a b c d e (suc zero) one is = b one is
each_type P a b c d e (suc (suc zero)) one is = c one is
each_type P a b c d e (suc (suc (suc zero))) one is = d one is
each_type P a b c d e (suc (suc (suc (suc zero)))) one is = e one is
each_type P a b c d e (suc (suc (suc (suc (suc k))))) one is = absurd cc

short : (k : ℕ) (one : TypeDef) → slice_get types k ≡ Some one → IsShort one
short = each_type (λ k one. IsShort one)
    (λ one is. subst IsShort (same_Some _ one is) tt)
    (λ one is. subst IsShort (same_Some _ one is) tt)
    (λ one is. subst IsShort (same_Some _ one is) (omega arith))
    (λ one is. subst IsShort (same_Some _ one is) tt)
    (λ one is. subst IsShort (same_Some _ one is) tt)

targets : (k : ℕ) (target : TypeId) → slice_get types k ≡ Some (type.PointerTo target) → target.0 < 5
targets k target is = each_type (λ k one. one ≡ type.PointerTo target → target.0 < 5)
    (λ one is e. absurd cc)
    (λ one is e. absurd cc)
    (λ one is e. absurd cc)
    (λ one is e. absurd cc)
    (λ one is e. absurd cc)
    k _ is refl

abbrev IsSmall : Layout → Type 0
IsSmall layout = layout.size ≤ 65520

abbrev IsOfTable : Origin → Type 0
IsOfTable origin = origin.unit < 2

abbrev origin : ℕ → ℕ → Origin
origin unit number = record { unit = unit; number = number }

lawful : IsLawful table
lawful = record {
  well_formed = record {
    defined = (
      (omega (arith, ints), omega (arith, ints), omega (arith, ints)),
      (
        (omega (arith, ints), omega (arith, ints), omega (arith, ints)),
        (omega arith, ((omega (arith, ints), omega (arith, ints)), ((tt, one_element (λ (field : Field). field.ty.0 < 4) _ (omega arith)), tt))),
      ),
    );
    fits = five IsSmall (plain 1) (plain 1) (plain 256) (plain 32) (record { size = 3; class_field = Some 1 }) (omega arith) (omega arith) (omega arith) (omega arith) (omega arith);
    origins = refl;
    known = five IsOfTable (origin 0 1) (origin 0 6) (origin 0 7) (origin 0 8) (origin 1 0) (omega arith) (omega arith) (omega arith) (omega arith) (omega arith);
    few = omega arith;
    few_units = omega arith;
  };
  short = short;
  targets = targets;
}

-- the number of a type, by its number in the unit that declares it
abbrev place_by : ℕ → ℕ
place_by n = cond (nat_eq n 1) 0 (cond (nat_eq n 6) 1 (cond (nat_eq n 7) 2 (cond (nat_eq n 8) 3 4)))

placed : (k : ℕ) (key : Key) → declared table (id k) ≡ Some key → place_by key.number ≡ k
placed zero key is = ap (λ (x : Key). place_by x.number) (sym (same_Some _ key is))
placed (suc zero) key is = ap (λ (x : Key). place_by x.number) (sym (same_Some _ key is))
placed (suc (suc zero)) key is = ap (λ (x : Key). place_by x.number) (sym (same_Some _ key is))
placed (suc (suc (suc zero))) key is = ap (λ (x : Key). place_by x.number) (sym (same_Some _ key is))
placed (suc (suc (suc (suc zero)))) key is = ap (λ (x : Key). place_by x.number) (sym (same_Some _ key is))
placed (suc (suc (suc (suc (suc k))))) key is = absurd cc

apart : (a b : TypeId) (key : Key) → declared table a ≡ Some key → declared table b ≡ Some key → a ≡ b
apart a b key ea eb = ap (λ (n : ℕ). id n) (sym (placed a.0 key ea) ∙ placed b.0 key eb)

-- ---- the units

module _ (init tell main : Stmt) where
  pub each_unit : (P : TypedUnit → Type 0) → P (unit_a init tell) → P (unit_p main) → (unit : TypedUnit) → IsUnit (sample init tell main) unit → P unit
  each_unit P a p unit is = by (same_bytes unit.name (unit_a init tell).name) (same_bytes unit.name (unit_p main).name) is
    where
      by : (first second : Bool) → (if first then Some (unit_a init tell) else if second then Some (unit_p main) else None) ≡ Some unit → P unit
      by true second e = subst P (same_Some (unit_a init tell) unit e) a
      by false true e = subst P (same_Some (unit_p main) unit e) p
      by false false e = absurd cc

  pub the_table : (sort : Sort) → IsKnown (sample init tell main) sort → sort.table ≡ table
  the_table sort known = known.table ∙ each_unit (λ unit. unit.types ≡ table) refl refl known.unit known.listed

  known_alone : (sort : Sort) → IsKnown (sample init tell main) sort → IsKnown (record { units = unit_a init tell ∷ []; start = 0 }) sort
  known_alone sort known = record { unit = unit_a init tell; listed = refl; table = the_table sort known; one = known.one; is = known.is }

  pub agreed : AreConsistent (sample init tell main)
  agreed = record {
    lawful = each_unit (λ unit. IsLawful unit.types) lawful lawful;
    alike = λ a b one other ka kb.
        (single_agrees (record { units = unit_a init tell ∷ []; start = 0 }) (unit_a init tell) (record { units = refl; lawful = lawful; apart = apart })).alike a b one other (known_alone a ka) (known_alone b kb);
  }
