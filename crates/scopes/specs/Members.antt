-- Members of records and objects, by their names.
use Rattle.std.specs.Prelude.{ℕ, zero, suc, ◌+◌, min, false, true, List, Option, Some, None, length, slice_get, position, option_map}
use Rattle.type_layout.specs.declared.definitions.TypeId.{TypeId}
use Rattle.type_layout.specs.declared.definitions.Field.{Field}
use Rattle.type_layout.specs.declared.definitions.Method.{Method}
use Rattle.type_layout.specs.declared.definitions.TypeDef.{TypeDef}
use Rattle.type_layout.specs.declared.definitions.TypeDef.TheVariants.{RecordOf, ObjectOf}
use Rattle.type_layout.specs.Words.{same_bytes}
use Rattle.scopes.specs.declared.members.Member.{Member}

-- the first of two findings
abbrev pub first_of : {A : Type 0} → Option A → Option A → Option A
first_of (Some first) second = Some first
first_of None second = second

abbrev pub definition : List TypeDef → TypeId → Option TypeDef
definition types ty = slice_get types ty.0

abbrev pub parent_of : Option TypeDef → Option TypeId
parent_of (Some (ObjectOf parent dynamic fields methods)) = parent
parent_of _ = None

-- how many fields a type declares itself
abbrev pub own_fields : Option TypeDef → ℕ
own_fields (Some (RecordOf fields)) = length fields
own_fields (Some (ObjectOf parent dynamic fields methods)) = length fields
own_fields _ = 0

-- a number, or the greatest of 32 bits where it passes that
abbrev pub narrow : ℕ → ℕ
narrow number = min number 4294967295

-- a field behind so many others
abbrev pub field_of : ℕ → TypeId → List Field → List ℕ → Option Member
field_of before class fields name =
    option_map (λ place. record { class = class; number = narrow (before + place); method = false }) (position (λ field. same_bytes name field.name) fields)

abbrev pub method_of : TypeId → List Method → List ℕ → Option Member
method_of class methods name =
    option_map (λ place. record { class = class; number = narrow place; method = true }) (position (λ method. same_bytes name method.name) methods)

-- what a type declares itself under a name; so many fields of its ancestors come before its own
abbrev pub own_member : ℕ → TypeId → Option TypeDef → List ℕ → Option Member
own_member before class (Some (RecordOf fields)) name = field_of 0 class fields name
own_member before class (Some (ObjectOf parent dynamic fields methods)) name =
    first_of (field_of before class fields name) (method_of class methods name)
own_member before class _ name = None

-- how many fields the line of a type has, of which at most so many types are looked at
abbrev pub fields_within : ℕ → List TypeDef → Option TypeId → ℕ
fields_within zero types ty = 0
fields_within (suc room) types None = 0
fields_within (suc room) types (Some ty) =
    own_fields (definition types ty) + fields_within room types (parent_of (definition types ty))

-- what the nearest type of a line declares under a name, where at most so many types are looked at
abbrev pub member_within : ℕ → List TypeDef → Option TypeId → List ℕ → Option Member
member_within zero types ty name = None
member_within (suc room) types None name = None
member_within (suc room) types (Some ty) name =
    first_of (own_member (fields_within room types (parent_of (definition types ty))) ty (definition types ty) name)
    (member_within room types (parent_of (definition types ty)) name)

-- The member of a record, or of an object's line, that has a name: of the line, the nearest type's. A line has no more
-- types than the table.
abbrev pub member_of : List TypeDef → Option TypeId → List ℕ → Option Member
member_of types ty name = member_within (length types) types ty name
