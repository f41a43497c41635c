-- Types that a unit adds to the table, and names that it puts into the innermost block.
use Rattle.std.specs.Prelude.{◌≡◌, ℕ, ◌-◌, ◌^◌, ◌≤◌, pos, Bool, true, false, not, ◌&&◌, ◌==◌, cond, min, nat_lt, nat_le, int_le, List, Option, Some, None, length, slice_get, sum_by}
use Rattle.std.specs.List.{list_all}
use Rattle.type_layout.specs.declared.definitions.TypeId.{TypeId}
use Rattle.type_layout.specs.declared.definitions.Field.{Field}
use Rattle.type_layout.specs.declared.definitions.Method.{Method}
use Rattle.type_layout.specs.declared.definitions.Origin.{Origin}
use Rattle.type_layout.specs.declared.definitions.TypeDef.{TypeDef}
use Rattle.type_layout.specs.declared.definitions.TypeDef.TheVariants.{Ordinal, Str, SetOf, ArrayOf, RecordOf, PointerTo, ObjectOf, Procedural}
use Rattle.type_layout.specs.declared.texts.Place.{Place}
use Rattle.type_layout.specs.Storage.{least_of, greatest_of}
use Rattle.type_layout.specs.Layouts.{size_over}
use Rattle.type_layout.specs.Table.{Table, IsAddable, place_of, with_type}
use Rattle.scopes.specs.declared.entries.Entry.{Entry}
use Rattle.scopes.specs.Predeclared.{type_id}
use Rattle.scopes.specs.Environment.{Environment, has_innermost, with_name}
use Rattle.typing_rules.specs.declared.faults.Rule.{Rule}
use Rattle.typing_rules.specs.declared.faults.Rule.TheVariants as rules
use Rattle.typing_rules.specs.Faults.{broken, too_large}
use Rattle.typing_rules.specs.Judgements.{Judgement, rule}
use Rattle.typing_rules.specs.Selectors.{asking}

-- ---- whether a table takes a type

abbrev pub is_ordinal : Option TypeDef → Bool
is_ordinal (Some (Ordinal host low high)) = true
is_ordinal _ = false

abbrev pub is_byte_range : Option TypeDef → Bool
is_byte_range (Some (Ordinal host low high)) = int_le (pos 0) low && int_le high (pos 255)
is_byte_range _ = false

abbrev pub is_object : Option TypeDef → Bool
is_object (Some (ObjectOf parent dynamic fields methods)) = true
is_object _ = false

abbrev pub is_ancestor : List TypeDef → Option TypeId → Bool
is_ancestor types None = true
is_ancestor types (Some parent) = is_object (slice_get types parent.0)

abbrev pub are_known : List TypeDef → List Field → Bool
are_known types fields = list_all (λ (field : Field). nat_lt field.ty.0 (length types)) fields

abbrev pub is_defined_over : List TypeDef → TypeDef → Bool
is_defined_over types (Ordinal host low high) = int_le (least_of host) low && (int_le low high && int_le high (greatest_of host))
is_defined_over types (Str max) = nat_le 1 max
is_defined_over types (SetOf base) = is_byte_range (slice_get types base.0)
is_defined_over types (ArrayOf index element) = is_ordinal (slice_get types index.0) && nat_lt element.0 (length types)
is_defined_over types (RecordOf fields) = are_known types fields
is_defined_over types (PointerTo target) = true
is_defined_over types (ObjectOf parent dynamic fields methods) = is_ancestor types parent && are_known types fields
is_defined_over types (Procedural header) = true

abbrev pub has_methods_of : ℕ → TypeDef → Bool
has_methods_of unit (ObjectOf parent dynamic fields methods) = list_all (λ (method : Method). method.routine.unit == unit) methods
has_methods_of unit _ = true

unfoldable pub is_addable : Table → List ℕ → TypeDef → Bool
is_addable table origin one = is_defined_over table.types one && has_methods_of (place_of table.units origin) one

-- ---- adding

abbrev pub one_of : ℕ → Origin → ℕ
one_of unit origin = cond (origin.unit == unit) 1 0

-- how many types of a unit a table has
abbrev pub count_of : Table → List ℕ → ℕ
count_of table unit = sum_by (one_of (place_of table.units unit)) table.origins

-- a type of a unit, which is numbered by how many of that unit there are before it
abbrev pub with_type_of : List ℕ → Environment → TypeDef → Environment
with_type_of unit g one = record g { types = with_type g.types unit (count_of g.types unit) one }

-- a type with what is known where it is in the table
pub record Denoted : Type 0 where
  pub ty : TypeId
  pub scope : Environment

abbrev pub denoted : TypeId → Environment → Denoted
denoted ty g = record { ty = ty; scope = g }

-- the bytes of a further type; what passes 64 bits is counted as the greatest number of these
abbrev pub bytes_of : Environment → TypeDef → ℕ
bytes_of g one = min (size_over g.types.types one) (2 ^ 64 - 1)

-- A type of a unit that begins at a place. Its parts are in the table and of the right kind, which a rule asks, and its size
-- keeps the limit.
unfoldable pub added : List ℕ → Environment → Place → Rule → TypeDef → Judgement Denoted
added unit g place asked one =
    asking (rule (broken place asked) (is_addable g.types unit one) (IsAddable g.types unit one) tt)
    (rule (too_large place (bytes_of g one)) (nat_le (bytes_of g one) 65520) (bytes_of g one ≤ 65520)
    (denoted (type_id (length g.types.types)) (with_type_of unit g one)))

-- a name that is new in the innermost block
unfoldable pub entered : Environment → Place → List ℕ → Entry → Judgement Environment
entered g place name entry =
    rule (broken place rules.Duplicate) (not (has_innermost g name)) (has_innermost g name ≡ false) (with_name g name entry)
