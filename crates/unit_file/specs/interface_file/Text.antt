-- The bytes of an interface, and which interfaces have them.
use Rattle.std.specs.Prelude.{ℕ, ◌+◌, ◌<◌, ◌≤◌, List, [], ◌∷◌, ◌++◌, length}
use Rattle.type_layout.specs.Words.{IsName}
use Rattle.typed_tree.specs.declared.units.Item.{Item}
use Rattle.typed_tree.specs.declared.units.Item.TheVariants as item
use Rattle.typed_tree.specs.declared.expressions.Value.{Value}
use Rattle.typed_tree.specs.declared.expressions.Value.TheVariants as value
use Rattle.unit_interface.specs.declared.interfaces.Interface.{Interface}
use Rattle.object_file.specs.file_parts.Spelling.{long_text, signed_text, name_text, bytes_text, list_text, FitInTurn, FitEach, IsLong, IsSigned}
use Rattle.unit_file.specs.type_file.Text.{id_text, header_text, types_text, IsId, IsHeader, AreTypes, HasResult}

-- a constant's value
abbrev pub value_tag : Value → ℕ
value_tag (value.Number number) = 0
value_tag (value.Chars text) = 1
value_tag value.Nil = 2
value_tag (value.Elements elements) = 3

abbrev pub value_parts : Value → List ℕ
value_parts (value.Number number) = signed_text number
value_parts (value.Chars text) = bytes_text text
value_parts value.Nil = []
value_parts (value.Elements elements) = bytes_text elements

unfoldable pub value_text : Value → List ℕ
value_text one = value_tag one ∷ value_parts one

-- an item
abbrev pub item_tag : Item → ℕ
item_tag (item.Const name ty constant) = 0
item_tag (item.Ty name ty) = 1
item_tag (item.Var name ty number) = 2
item_tag (item.Code name header number) = 3

abbrev pub item_parts : Item → List ℕ
item_parts (item.Const name ty constant) = name_text name ++ (id_text ty ++ value_text constant)
item_parts (item.Ty name ty) = name_text name ++ id_text ty
item_parts (item.Var name ty number) = name_text name ++ (id_text ty ++ long_text number)
item_parts (item.Code name header number) = name_text name ++ (header_text header ++ long_text number)

unfoldable pub item_text : Item → List ℕ
item_text one = item_tag one ∷ item_parts one

unfoldable pub interface_text : Interface → List ℕ
interface_text interface = name_text interface.name ++ (types_text interface.types ++ list_text item_text interface.items)

-- a set constant's elements rise
abbrev pub IsElement : ℕ → ℕ → Type 0
IsElement least element = (least ≤ element) × (element < 256)

abbrev pub IsValue : Value → Type 0
IsValue (value.Number number) = IsSigned number
IsValue (value.Chars text) = IsLong (length text)
IsValue value.Nil = Unit {0}
IsValue (value.Elements elements) = IsLong (length elements) × FitInTurn IsElement (λ _ element. element + 1) 0 elements

abbrev pub IsItem : ℕ → Item → Type 0
IsItem count (item.Const name ty constant) = IsName name × IsId count ty × IsValue constant
IsItem count (item.Ty name ty) = IsName name × IsId count ty
IsItem count (item.Var name ty number) = IsName name × IsId count ty × IsLong number
IsItem count (item.Code name header number) = IsName name × IsHeader count header × IsLong number

-- an interface that a file can hold
pub record IsInterface (interface : Interface) : Type 0 where
  pub name : IsName interface.name
  pub types : AreTypes interface.types
  pub items : IsLong (length interface.items)
  pub each_item : FitEach (IsItem (length interface.types.types)) interface.items

-- What can be written: the result of a header, where it has one, has a number above it.
abbrev pub HasOptions : Item → Type 0
HasOptions (item.Code name header number) = HasResult header
HasOptions (item.Const name ty constant) = Unit {0}
HasOptions (item.Ty name ty) = Unit {0}
HasOptions (item.Var name ty number) = Unit {0}
