-- What declarations of types add to a scope.
use Rattle.std.specs.Prelude.{◌≡◌, ◌+◌, List, [], ◌∷◌, ◌++◌, Some}
use Rattle.bodies_well_formed.specs.type_layout.declared.definitions.TypeId.{TypeId}
use Rattle.bodies_well_formed.specs.type_layout.declared.definitions.TypeDef.{TypeDef}
use Rattle.bodies_well_formed.specs.type_layout.declared.definitions.TypeDef.TheVariants as type
use Rattle.bodies_well_formed.specs.type_layout.Table.{Table}
use Rattle.bodies_well_formed.specs.typed_tree.declared.expressions.Value.TheVariants as value
use Rattle.bodies_well_formed.specs.typed_tree.type_fits.Fits.{definition, IsValue}
use Rattle.bodies_well_formed.specs.scopes.declared.entries.Entry.{Entry}
use Rattle.bodies_well_formed.specs.scopes.declared.entries.Entry.TheVariants as entry
use Rattle.bodies_well_formed.specs.scopes.Predeclared.{type_id}
use Rattle.bodies_well_formed.specs.scopes.Symbols.{SymbolList}
use Rattle.bodies_well_formed.specs.scopes.Environment.{Environment, with_name}

-- the same with another table
abbrev pub typing : Environment → Table → Environment
typing g types = record g { types = types }

-- further names in the innermost block
abbrev pub with_names : Environment → SymbolList → Environment
with_names g [] = g
with_names g (one ∷ rest) = with_names (with_name g one.0 one.1) rest

-- the set over a type stands behind it in the table
abbrev pub HasSet : List TypeDef → TypeId → Type 0
HasSet types ty = definition types (type_id (ty.0 + 1)) ≡ Some (type.SetOf ty)

-- the name of a type, or of a value of an enumeration, which has its set behind it
abbrev pub IsOfType : List TypeDef → Entry → Type 0
IsOfType types (entry.Ty ty) = Unit {0}
IsOfType types (entry.Const ty (value.Number n)) = IsValue types (value.Number n) (definition types ty) × HasSet types ty
IsOfType types _ = ⊥

abbrev pub AreOfTypes : List TypeDef → SymbolList → Type 0
AreOfTypes types [] = Unit {0}
AreOfTypes types (one ∷ rest) = IsOfType types one.1 × AreOfTypes types rest

-- Types at the end of the table, and such names in the innermost block.
pub record Declares (g h : Environment) : Type 0 where
  pub names : SymbolList
  pub whole : h ≡ with_names (typing g h.types) names
  pub more : (back : List TypeDef) × (h.types.types ≡ g.types.types ++ back)
  pub known : AreOfTypes h.types.types names
