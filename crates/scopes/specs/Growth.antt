-- Tables of types, as they grow from an empty one.
use Rattle.std.specs.Prelude.{◌≡◌, ℕ, ◌<◌, All, List, [], ◌∷◌, length, get_or}
use Rattle.type_layout.specs.declared.definitions.TypeDef.{TypeDef}
use Rattle.type_layout.specs.declared.definitions.Origin.{Origin}
use Rattle.type_layout.specs.Table.{Table, IsAddable, with_type}

-- a type with the unit that declares it and its number there
pub record Addition : Type 0 where
  pub origin : List ℕ
  pub number : ℕ
  pub one : TypeDef

abbrev pub empty : Table
empty = record { types = []; origins = []; units = [] }

abbrev pub with_addition : Table → Addition → Table
with_addition table addition = with_type table addition.origin addition.number addition.one

-- a table after these were added, one after the other
abbrev pub grown : Table → List Addition → Table
grown table [] = table
grown table (addition ∷ additions) = grown (with_addition table addition) additions

-- each can be added when those before it were
abbrev pub AreAddable : Table → List Addition → Type 0
AreAddable table [] = Unit {0}
AreAddable table (addition ∷ additions) =
    IsAddable table addition.origin addition.one × AreAddable (with_addition table addition) additions

abbrev pub addition_of : List (List ℕ) → TypeDef → Origin → Addition
addition_of units one origin = record { origin = get_or units origin.unit []; number = origin.number; one = one }

abbrev pub additions_in : List (List ℕ) → List TypeDef → List Origin → List Addition
additions_in units [] origins = []
additions_in units (one ∷ types) [] = []
additions_in units (one ∷ types) (origin ∷ origins) = addition_of units one origin ∷ additions_in units types origins

-- what was added to a table, in order
abbrev pub additions : Table → List Addition
additions table = additions_in table.units table.types table.origins

-- a table that was grown from the empty one
pub record IsGrown (table : Table) : Type 0 where
  pub whole : grown empty (additions table) ≡ table
  pub addable : AreAddable empty (additions table)
  pub paired : length table.origins ≡ length table.types
  pub known : All (λ (origin : Origin). origin.unit < length table.units) table.origins
