-- Where a rule on fields or overrides fails, and dispatch by class, over whole tables.
use Rattle.std.specs.Prelude.{◌≡◌, ◌⊎◌, ℕ, ◌<◌, Bool, true, false, List, Some, length, take, slice_get}
use Rattle.type_layout.specs.declared.definitions.TypeId.{TypeId}
use Rattle.type_layout.specs.declared.definitions.Field.{Field}
use Rattle.type_layout.specs.declared.definitions.Method.{Method}
use Rattle.type_layout.specs.declared.definitions.TypeDef.{TypeDef}
use Rattle.type_layout.specs.declared.definitions.TypeDef.TheVariants.{ObjectOf}
use Rattle.object_vmt.specs.declared.faults.ClassError.{ClassError}
use Rattle.object_vmt.specs.declared.faults.ClassError.TheVariants.{BadOverride, MissingVirtual, DuplicateField, NoMemory}
use Rattle.object_vmt.specs.Members.{Members, members_of, members_in, has_field, has_method, nearest}
use Rattle.object_vmt.specs.Slots.{slots_of}
use Rattle.object_vmt.specs.Rules.{same_header, first_virtual}

-- a field of a line that has the name of a field before it
pub record IsFieldAgain (fields : List Field) (name : List ℕ) : Type 0 where
  pub place : ℕ
  pub field : Field
  pub stands : slice_get fields place ≡ Some field
  pub named : field.name ≡ name
  pub before : has_field (take place fields) name ≡ true

-- a field and a method of one line have this name
pub record IsFieldAndMethod (members : Members) (name : List ℕ) : Type 0 where
  pub field : has_field members.fields name ≡ true
  pub method : has_method members.methods name ≡ true

-- a method of a line, before which a virtual method has its name
pub record IsOverride (methods : List Method) (name : List ℕ) : Type 0 where
  pub place : ℕ
  pub method : Method
  pub above : Method
  pub stands : slice_get methods place ≡ Some method
  pub named : method.name ≡ name
  pub overrides : first_virtual (take place methods) name ≡ Some above

pub record IsStaticOverride (methods : List Method) (name : List ℕ) : Type 0 where
  pub is : IsOverride methods name
  pub lacks : is.method.is_virtual ≡ false

pub record IsOtherOverride (methods : List Method) (name : List ℕ) : Type 0 where
  pub is : IsOverride methods name
  pub differs : same_header is.above.header is.method.header ≡ false

-- where a rule fails in a line: at a name that a field shares, or at an override
abbrev pub FailsIn : Members → ClassError → Type 0
FailsIn members (DuplicateField name) = IsFieldAgain members.fields name ⊎ IsFieldAndMethod members name
FailsIn members (MissingVirtual name) = IsStaticOverride members.methods name
FailsIn members (BadOverride name) = IsOtherOverride members.methods name
FailsIn members NoMemory = ⊥

-- a rule on fields or overrides fails in the line of a type of the table
pub record Fails (types : List TypeDef) (error : ClassError) : Type 0 where
  pub class : TypeId
  pub known : class.0 < length types
  pub here : FailsIn (members_in (members_of types) class) error

-- nothing fails
abbrev pub IsLawful : List TypeDef → Type 0
IsLawful types = (error : ClassError) → Fails types error → ⊥

-- what may be answered besides Ok: a rule that fails, or that there is no memory
abbrev pub IsCause : List TypeDef → ClassError → Type 0
IsCause types (DuplicateField name) = Fails types (DuplicateField name)
IsCause types (MissingVirtual name) = Fails types (MissingVirtual name)
IsCause types (BadOverride name) = Fails types (BadOverride name)
IsCause types NoMemory = Unit {0}

-- each slot of a class has a nearest declaration, and a class has its ancestor's slots at the same numbers
pub record IsDispatch (types : List TypeDef) : Type 0 where
  pub answered : (class : TypeId) (slot : ℕ) (name : List ℕ)
      → slice_get (slots_of (members_in (members_of types) class).methods) slot ≡ Some name
      → (method : Method) × (nearest (members_in (members_of types) class).methods name ≡ Some method)
  pub kept : (class parent : TypeId) (dynamic : Bool) (fields : List Field) (methods : List Method) (slot : ℕ) (name : List ℕ)
      → slice_get types class.0 ≡ Some (ObjectOf (Some parent) dynamic fields methods)
      → slice_get (slots_of (members_in (members_of types) parent).methods) slot ≡ Some name
      → slice_get (slots_of (members_in (members_of types) class).methods) slot ≡ Some name

-- the method that answers a slot is virtual, and has the header with which the slot was taken
abbrev pub AreAnsweredAlike : List Method → Type 0
AreAnsweredAlike methods = (name : List ℕ) (first last : Method) → first_virtual methods name ≡ Some first → nearest methods name ≡ Some last
    → (last.is_virtual ≡ true) × (same_header first.header last.header ≡ true)

-- so it is in each class
abbrev pub AnswersAlike : List TypeDef → Type 0
AnswersAlike types = (class : TypeId) → AreAnsweredAlike (members_in (members_of types) class).methods
