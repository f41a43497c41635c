-- The first rule on fields and overrides that a table of types breaks.
use Rattle.std.specs.Prelude.{◌≡◌, cond, List, [], ◌∷◌, ◌++◌, Option, Some, None}
use Rattle.type_layout.specs.declared.definitions.Field.{Field}
use Rattle.type_layout.specs.declared.definitions.Method.{Method}
use Rattle.type_layout.specs.declared.definitions.TypeDef.{TypeDef}
use Rattle.type_layout.specs.declared.definitions.TypeDef.TheVariants.{Ordinal, Str, SetOf, ArrayOf, RecordOf, PointerTo, ObjectOf, Procedural}
use Rattle.object_vmt.specs.declared.faults.ClassError.{ClassError}
use Rattle.object_vmt.specs.declared.faults.ClassError.TheVariants.{BadOverride, MissingVirtual, DuplicateField, NoMemory}
use Rattle.object_vmt.specs.Members.{Members, with_fields, with_methods, inherited, members_by, has_field}
use Rattle.object_vmt.specs.Rules.{same_header, first_virtual, is_taken}

abbrev pub first_of : Option ClassError → Option ClassError → Option ClassError
first_of (Some fault) rest = Some fault
first_of None rest = rest

-- a field behind these members
abbrev pub field_fault : Members → Field → Option ClassError
field_fault members field = cond (is_taken members field.name) (Some (DuplicateField field.name)) None

abbrev pub override_fault : Option Method → Method → Option ClassError
override_fault None method = None
override_fault (Some above) method =
    cond method.is_virtual
    (cond (same_header above.header method.header) None (Some (BadOverride method.name)))
    (Some (MissingVirtual method.name))

-- a method behind these members
abbrev pub method_fault : Members → Method → Option ClassError
method_fault members method =
    cond (has_field members.fields method.name) (Some (DuplicateField method.name))
    (override_fault (first_virtual members.methods method.name) method)

abbrev pub fields_fault : Members → List Field → Option ClassError
fields_fault members [] = None
fields_fault members (field ∷ fields) = first_of (field_fault members field) (fields_fault (with_fields members (field ∷ [])) fields)

abbrev pub methods_fault : Members → List Method → Option ClassError
methods_fault members [] = None
methods_fault members (method ∷ methods) =
    first_of (method_fault members method) (methods_fault (with_methods members (method ∷ [])) methods)

-- the members that a type declares itself, behind those of its ancestors
abbrev pub type_fault : List Members → TypeDef → Option ClassError
type_fault classes (ObjectOf parent dynamic fields methods) =
    first_of (fields_fault (inherited classes parent) fields) (methods_fault (with_fields (inherited classes parent) fields) methods)
type_fault classes (Ordinal host low high) = None
type_fault classes (Str max) = None
type_fault classes (SetOf base) = None
type_fault classes (ArrayOf index element) = None
type_fault classes (RecordOf fields) = None
type_fault classes (PointerTo target) = None
type_fault classes (Procedural header) = None

abbrev pub faults_from : List Members → List TypeDef → Option ClassError
faults_from classes [] = None
faults_from classes (one ∷ types) = first_of (type_fault classes one) (faults_from (classes ++ members_by classes one ∷ []) types)

abbrev pub first_fault : List TypeDef → Option ClassError
first_fault types = faults_from [] types

-- an answer other than Ok tells the fault, or that there is no memory
abbrev pub IsAnswerTo : Option ClassError → ClassError → Type 0
IsAnswerTo fault NoMemory = Unit {0}
IsAnswerTo fault (BadOverride method) = fault ≡ Some (BadOverride method)
IsAnswerTo fault (MissingVirtual method) = fault ≡ Some (MissingVirtual method)
IsAnswerTo fault (DuplicateField name) = fault ≡ Some (DuplicateField name)
