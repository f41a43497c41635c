-- How the values of expressions lie in their slots, and the words that they have there.
use Rattle.std.specs.Prelude.{ℕ, nat_le, if◌then◌else◌, ℤ, List, [], ◌∷◌, Option, Some, None}
use Rattle.type_layout.specs.Storage.{width_of}
use Rattle.type_layout.specs.declared.definitions.TypeId.{TypeId}
use Rattle.type_layout.specs.declared.definitions.TypeDef.{TypeDef}
use Rattle.typed_tree.specs.declared.expressions.Value.TheVariants as value
use Rattle.typed_tree.specs.declared.expressions.Arg.{Arg}
use Rattle.typed_tree.specs.declared.expressions.Arg.TheVariants as arg
use Rattle.typed_tree.specs.Expressions.{Expression, Const, view_expr, type_of}
use Rattle.typed_tree.specs.Slots.{slot_of}
use Rattle.flat_code.specs.declared.tree.Address.{Address}
use Rattle.flat_code.specs.declared.tree.Address.TheVariants.{Local}
use Rattle.flat_code.specs.Tree.{Expr, Number, SegmentOf, AddressOf}
use Rattle.lower_places.specs.Reaches.{slot_below}
use Rattle.lower_places.specs.declared.sorts.Shape.{Shape}
use Rattle.lower_places.specs.declared.sorts.Shape.TheVariants as shape
use Rattle.lower_places.specs.Shapes.{shape_of}
use Rattle.lower_values.specs.declared.forms.Form.{Form}
use Rattle.lower_values.specs.declared.forms.Form.TheVariants as form
use Rattle.lower_values.specs.Nodes.{word, extension}

abbrev pub form_bytes : Form → ℕ
form_bytes (form.Word host) = 2
form_bytes form.Long = 4
form_bytes form.Text = 256
form_bytes form.Literal = 4
form_bytes form.Set = 32
form_bytes form.Far = 4

abbrev pub form_of_shape : Shape → Form
form_of_shape (shape.Number host low high) = if nat_le (width_of host) 2 then form.Word host else form.Long
form_of_shape (shape.Text max) = form.Text
form_of_shape (shape.Set first bytes) = form.Set
form_of_shape shape.Far = form.Far
form_of_shape (shape.Whole size class) = form.Far

abbrev pub form_of_known : Option Shape → Form
form_of_known None = form.Far
form_of_known (Some shape) = form_of_shape shape

-- how values of a type lie
abbrev pub form_in : List TypeDef → TypeId → Form
form_in types ty = form_of_known (shape_of types ty)

abbrev pub form_of_result : List TypeDef → Option TypeId → Form
form_of_result types None = form.Far
form_of_result types (Some ty) = form_in types ty

-- how the value of an expression lies
abbrev pub form_of : List TypeDef → Expression → Form
form_of types (Const ty (value.Chars bytes)) = form.Literal
form_of types e = form_of_result types (type_of e)

-- the bytes of an argument's slot
abbrev pub slot_of_arg : List TypeDef → Arg → ℕ
slot_of_arg types (arg.Value value) = slot_of types (view_expr value)
slot_of_arg types (arg.Place place) = 4

-- ---- slots, below so many bytes of locals and so many other slots

abbrev pub slot_at : ℕ → ℕ → ℕ → ℤ
slot_at locals slot bytes = slot_below locals slot bytes

abbrev pub slot_place : ℕ → ℕ → ℕ → Address
slot_place locals slot bytes = Local (slot_at locals slot bytes)

-- the word in a slot of 2 bytes, and the upper one of 4
abbrev pub word_in : ℕ → ℕ → Expr
word_in locals slot = word (slot_at locals slot 2)

-- the lower word of 4 bytes
abbrev pub low_in : ℕ → ℕ → Expr
low_in locals slot = word (slot_at locals slot 4)

-- the segment and the offset of a string
abbrev pub text_words : ℕ → Form → ℕ → Expr × Expr
text_words locals form.Text slot = (SegmentOf (slot_place locals slot 256), AddressOf (slot_place locals slot 256))
text_words locals _ slot = (word_in locals slot, low_in locals slot)

-- the lower and the upper word of an ordinal, as a LongInt
abbrev pub long_words : ℕ → Form → ℕ → Expr × Expr
long_words locals (form.Word host) slot = (word_in locals slot, extension host (word_in locals slot))
long_words locals _ slot = (low_in locals slot, word_in locals slot)

-- the low word of an ordinal
abbrev pub low_word : ℕ → Form → ℕ → Expr
low_word locals (form.Word host) slot = word_in locals slot
low_word locals _ slot = low_in locals slot

-- the words of two LongInts, each the lower one first
abbrev pub two_longs : ℕ → ℕ → ℕ → List Expr
two_longs locals first second = low_in locals first ∷ word_in locals first ∷ low_in locals second ∷ word_in locals second ∷ []
