-- Reading an interface from the front of what is left.
use Rattle.std.specs.Prelude.{ℕ, zero, suc, ◌+◌, nat_le, List, length, Ok}
use Rattle.type_layout.specs.declared.definitions.TypeId.{TypeId}
use Rattle.type_layout.specs.declared.definitions.Header.{Header}
use Rattle.type_layout.specs.Table.{Table}
use Rattle.typed_tree.specs.declared.units.Item.{Item}
use Rattle.typed_tree.specs.declared.units.Item.TheVariants as item
use Rattle.typed_tree.specs.declared.expressions.Value.{Value}
use Rattle.typed_tree.specs.declared.expressions.Value.TheVariants as value
use Rattle.unit_interface.specs.declared.interfaces.Interface.{Interface}
use Rattle.object_file.specs.file_parts.Parts.{Reader, ◌▷◌, ruled, followed, made, tagged, any, byte_at, long_at, signed_at, bytes_where, list_where, list_of, name_at}
use Rattle.unit_file.specs.type_file.Reading.{unread, id_at, header_at, types_at}

-- elements rise
unfoldable pub elements_at : Reader (List ℕ)
elements_at bytes = list_where any (λ least. ruled (nat_le least) byte_at) (λ _ element. element + 1) 0 bytes

abbrev pub nothing_at : Reader (Unit {0})
nothing_at bytes = Ok (tt, bytes)

abbrev pub value_parts_at : ℕ → Reader Value
value_parts_at zero = made value.Number signed_at
value_parts_at (suc zero) = made value.Chars (bytes_where any)
value_parts_at (suc (suc zero)) = made (λ _. value.Nil) nothing_at
value_parts_at (suc (suc (suc zero))) = made value.Elements elements_at
value_parts_at (suc (suc (suc (suc tag)))) = unread

unfoldable pub value_at : Reader Value
value_at bytes = tagged 4 value_parts_at bytes

abbrev pub const_of : List ℕ × (TypeId × Value) → Item
const_of parts = item.Const parts.0 parts.1.0 parts.1.1

abbrev pub ty_of : List ℕ × TypeId → Item
ty_of parts = item.Ty parts.0 parts.1

abbrev pub var_of : List ℕ × (TypeId × ℕ) → Item
var_of parts = item.Var parts.0 parts.1.0 parts.1.1

abbrev pub code_of : List ℕ × (Header × ℕ) → Item
code_of parts = item.Code parts.0 parts.1.0 parts.1.1

abbrev pub item_parts_at : ℕ → ℕ → Reader Item
item_parts_at count zero = made const_of (name_at ▷ (id_at count ▷ value_at))
item_parts_at count (suc zero) = made ty_of (name_at ▷ id_at count)
item_parts_at count (suc (suc zero)) = made var_of (name_at ▷ (id_at count ▷ long_at))
item_parts_at count (suc (suc (suc zero))) = made code_of (name_at ▷ (header_at count ▷ long_at))
item_parts_at count (suc (suc (suc (suc tag)))) = unread

unfoldable pub item_at : ℕ → Reader Item
item_at count bytes = tagged 4 (item_parts_at count) bytes

abbrev pub interface_of : List ℕ × (Table × List Item) → Interface
interface_of parts = record { name = parts.0; types = parts.1.0; items = parts.1.1 }

unfoldable pub interface_at : Reader Interface
interface_at bytes = made interface_of (name_at ▷ followed types_at (λ table. list_of (item_at (length table.types)))) bytes
