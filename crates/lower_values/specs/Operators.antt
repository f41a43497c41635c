-- Operators, by how their operands lie in slots.
use Rattle.std.specs.Prelude.{ℕ, Bool, true, false, if◌then◌else◌}
use Rattle.type_layout.specs.declared.definitions.Host.{Host}
use Rattle.type_layout.specs.declared.definitions.Host.TheVariants as host
use Rattle.typed_tree.specs.declared.expressions.BinaryOp.{BinaryOp}
use Rattle.typed_tree.specs.declared.expressions.BinaryOp.TheVariants as binary_op
use Rattle.typed_tree.specs.declared.expressions.UnaryOp.{UnaryOp}
use Rattle.flat_code.specs.Tree.{Code, ◌then◌}
use Rattle.lower_values.specs.declared.forms.Form.{Form}
use Rattle.lower_values.specs.declared.forms.Form.TheVariants as form
use Rattle.lower_values.specs.Conversions.{fitted}
use Rattle.lower_values.specs.WordOperators.{is_shift, word_binary, word_unary}
use Rattle.lower_values.specs.LongOperators.{long_binary, long_shift, long_unary}
use Rattle.lower_values.specs.Texts.{text_binary, pointer_binary}
use Rattle.lower_values.specs.Sets.{set_binary, membership}

-- what stores the result of an operator on words
abbrev pub host_of : Form → Host
host_of (form.Word host) = host
host_of _ = host.Integer

abbrev pub is_membership : BinaryOp → Bool
is_membership binary_op.In = true
is_membership _ = false

-- by the left operand
abbrev pub binary_by : ℕ → BinaryOp → Form → Form → Form → ℕ → Code
binary_by locals operator (form.Word host) right stored slot = word_binary locals operator host right (host_of stored) slot
binary_by locals operator form.Long right stored slot = if is_shift operator then long_shift locals operator right slot else long_binary locals operator slot
binary_by locals operator form.Text right stored slot = text_binary locals operator form.Text right slot
binary_by locals operator form.Literal right stored slot = text_binary locals operator form.Literal right slot
binary_by locals operator form.Set right stored slot = set_binary locals operator slot
binary_by locals operator form.Far right stored slot = pointer_binary locals operator slot

-- an operator on the values in two slots
abbrev pub binary : ℕ → BinaryOp → Form → Form → Form → ℕ → Code
binary locals operator left right stored slot = if is_membership operator then membership locals left slot else binary_by locals operator left right stored slot

abbrev pub unary_by : ℕ → UnaryOp → Form → ℕ → Code
unary_by locals operator (form.Word host) slot = word_unary locals operator host slot
unary_by locals operator _ slot = long_unary locals operator slot

-- an operator on the value in a slot
abbrev pub unary : ℕ → UnaryOp → Form → Form → ℕ → Code
unary locals operator operand stored slot = fitted locals operand stored slot then unary_by locals operator stored slot
