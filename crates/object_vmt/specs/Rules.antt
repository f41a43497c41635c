-- The rules on fields and overrides, as tests of one member against those before it in the line.
use Rattle.std.specs.Prelude.{ℕ, Bool, true, false, not, ◌&&◌, ◌||◌, nat_eq, cond, List, [], ◌∷◌, Option, Some, None}
use Rattle.type_layout.specs.declared.definitions.TypeId.{TypeId}
use Rattle.type_layout.specs.declared.definitions.Kind.{Kind}
use Rattle.type_layout.specs.declared.definitions.Kind.TheVariants.{Procedure, Function, Constructor, Destructor}
use Rattle.type_layout.specs.declared.definitions.Param.{Param}
use Rattle.type_layout.specs.declared.definitions.Header.{Header}
use Rattle.type_layout.specs.declared.definitions.Method.{Method}
use Rattle.type_layout.specs.Words.{same_bytes}
use Rattle.object_vmt.specs.Members.{Members, has_field, has_method}

abbrev pub kind_number : Kind → ℕ
kind_number Procedure = 0
kind_number Function = 1
kind_number Constructor = 2
kind_number Destructor = 3

abbrev pub same_flag : Bool → Bool → Bool
same_flag true other = other
same_flag false other = not other

-- parameters of one type that are both `var` or both not; their names do not count
abbrev pub same_param : Param → Param → Bool
same_param one other = same_flag one.by_ref other.by_ref && nat_eq one.ty.0 other.ty.0

abbrev pub same_params : List Param → List Param → Bool
same_params [] [] = true
same_params [] (other ∷ others) = false
same_params (one ∷ ones) [] = false
same_params (one ∷ ones) (other ∷ others) = same_param one other && same_params ones others

abbrev pub same_result : Option TypeId → Option TypeId → Bool
same_result None None = true
same_result None (Some other) = false
same_result (Some one) None = false
same_result (Some one) (Some other) = nat_eq one.0 other.0

abbrev pub same_header : Header → Header → Bool
same_header one other =
    nat_eq (kind_number one.kind) (kind_number other.kind) && same_params one.params other.params
    && same_result one.result other.result

-- the first virtual declaration of a method
abbrev pub first_virtual : List Method → List ℕ → Option Method
first_virtual [] name = None
first_virtual (method ∷ methods) name = cond (method.is_virtual && same_bytes name method.name) (Some method) (first_virtual methods name)

-- a name that a field or method before this field has
abbrev pub is_taken : Members → List ℕ → Bool
is_taken members name = has_field members.fields name || has_method members.methods name
