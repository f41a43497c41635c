-- The law on members: a search in a line goes from the type itself to its ancestors, one by one.
use Rattle.std.specs.Prelude.{◌≡◌, ℕ, ◌+◌, List, Option, Some, None, length, slice_get}
use Rattle.type_layout.specs.declared.definitions.TypeId.{TypeId}
use Rattle.type_layout.specs.declared.definitions.TypeDef.{TypeDef}
use Rattle.scopes.specs.Members.{first_of, parent_of, own_fields, own_member, fields_within, member_of}

-- how many fields a line has
abbrev pub fields_of : List TypeDef → Option TypeId → ℕ
fields_of types ty = fields_within (length types) types ty

pub record IsLineSearch (types : List TypeDef) : Type 0 where
  -- outside a line there is nothing
  pub nothing : (name : List ℕ) → member_of types None name ≡ None
  pub no_fields : fields_of types None ≡ 0
  -- a type of the table: its own members, behind them those of its ancestor
  pub member : (ty : TypeId) (one : TypeDef) (name : List ℕ) → slice_get types ty.0 ≡ Some one
      → member_of types (Some ty) name
      ≡ first_of (own_member (fields_of types (parent_of (Some one))) ty (Some one) name) (member_of types (parent_of (Some one)) name)
  pub fields : (ty : TypeId) (one : TypeDef) → slice_get types ty.0 ≡ Some one
      → fields_of types (Some ty) ≡ own_fields (Some one) + fields_of types (parent_of (Some one))
