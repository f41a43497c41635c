-- What a table keeps while a unit declares types.
use Rattle.std.proofs.Common.{◌≡◌, ℕ, false, List, Some, sym, subst}
use Rattle.unit_references.specs.type_layout.declared.definitions.TypeDef.{TypeDef}
use Rattle.unit_references.specs.type_layout.Table.{Table, IsAddable, with_type}
use Rattle.units_well_formed.specs.scopes.Environment.{Environment}
use Rattle.units_well_formed.specs.unit_interface.Misfits.{is_enumeration}
use Rattle.units_well_formed.specs.declaration_checker.type_denoters.Additions.{count_of, with_type_of}
use Rattle.shared_types_agree.specs.programs.Methods.{HasDeclaredMethods}

-- a table with a further type of a unit
abbrev pub with_own : List ℕ → Table → TypeDef → Table
with_own unit table one = with_type table unit (count_of table unit) one

-- A property that stays with each type of a unit that the table takes, alone or, if it is an enumeration, with the set behind it.
pub record Stays (unit : List ℕ) (P : Table → Type 0) : Type 0 where
  pub one : (table : Table) (one : TypeDef) → is_enumeration (Some one) ≡ false → HasDeclaredMethods one → IsAddable table unit one → P table → P (with_own unit table one)
  pub two : (table : Table) (one other : TypeDef) → is_enumeration (Some other) ≡ false → HasDeclaredMethods one → HasDeclaredMethods other → IsAddable table unit one
      → IsAddable (with_own unit table one) unit other → P table → P (with_own unit (with_own unit table one) other)

-- from one scope to another each such property stays
pub record KeepsTo (unit : List ℕ) (g h : Environment) : Type 1 where
  pub keeps : (P : Table → Type 0) → Stays unit P → P g.types → P h.types

pub unchanged : (unit : List ℕ) (g h : Environment) → h.types ≡ g.types → KeepsTo unit g h
unchanged unit g h same = record { keeps = λ P s p. subst P (sym same) p }

pub same_table : (unit : List ℕ) (g h k : Environment) → k ≡ h → KeepsTo unit g h → KeepsTo unit g k
same_table unit g h k e one = record { keeps = λ P s p. subst (λ (x : Environment). P x.types) (sym e) (one.keeps P s p) }

pub next : (unit : List ℕ) (g h k : Environment) → KeepsTo unit g h → KeepsTo unit h k → KeepsTo unit g k
next unit g h k one two = record { keeps = λ P s p. two.keeps P s (one.keeps P s p) }

-- a type is added, which is no ordinal type of an enumeration
pub one_more : (unit : List ℕ) (g : Environment) (one : TypeDef) → is_enumeration (Some one) ≡ false → HasDeclaredMethods one → IsAddable g.types unit one → KeepsTo unit g (with_type_of unit g one)
one_more unit g one other methods fits = record { keeps = λ P s p. s.one g.types one other methods fits p }

-- or any type with another one behind it
pub two_more : (unit : List ℕ) (g : Environment) (one two : TypeDef) → is_enumeration (Some two) ≡ false → HasDeclaredMethods one → HasDeclaredMethods two → IsAddable g.types unit one
    → IsAddable (with_own unit g.types one) unit two → KeepsTo unit g (with_type_of unit (with_type_of unit g one) two)
two_more unit g one two other methods last fits behind = record { keeps = λ P s p. s.two g.types one two other methods last fits behind p }
