-- Methods of object types as object declarations make them.
use Rattle.std.specs.Prelude.{◌≡◌, Bool, List, map}
use Rattle.std.specs.List.{IsDistinct}
use Rattle.unit_references.specs.type_layout.declared.definitions.Method.{Method}
use Rattle.unit_references.specs.type_layout.declared.definitions.TypeDef.{TypeDef}
use Rattle.unit_references.specs.type_layout.declared.definitions.TypeDef.TheVariants as type
use Rattle.unit_references.specs.type_layout.Words.{same_bytes}
use Rattle.units_well_formed.specs.declaration_checker.type_parts.Objects.{is_dynamic}

-- no two of them have one name
abbrev pub AreOnce : List Method → Type 0
AreOnce methods = IsDistinct same_bytes (map (λ (method : Method). method.name) methods)

-- and the type is dynamic where one of them is virtual, a constructor or a destructor
pub record AreDeclared (dynamic : Bool) (methods : List Method) : Type 0 where
  pub once : AreOnce methods
  pub told : dynamic ≡ is_dynamic methods

abbrev pub HasDeclaredMethods : TypeDef → Type 0
HasDeclaredMethods (type.ObjectOf parent dynamic fields methods) = AreDeclared dynamic methods
HasDeclaredMethods one = Unit {0}
