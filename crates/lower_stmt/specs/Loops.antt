-- Loops. `Leave 1` leaves the innermost one.
use Rattle.std.specs.Prelude.{ℕ, ◌+◌, ◌%◌, Bool, false, if◌then◌else◌, ℤ}
use Rattle.type_layout.specs.declared.definitions.Host.{Host}
use Rattle.flat_code.specs.declared.tree.Address.{Address}
use Rattle.flat_code.specs.Tree.{Code, End, Do, Copy, Leave, Loop, ◌then◌}
use Rattle.lower_places.specs.declared.reach.Reach.TheVariants.{At}
use Rattle.lower_places.specs.declared.sorts.Shape.TheVariants as shape
use Rattle.lower_values.specs.Nodes.{single, when}
use Rattle.lower_values.specs.Forms.{form_bytes, slot_place, word_in}
use Rattle.lower_values.specs.Access.{store}
use Rattle.lower_stmt.specs.Counters.{form_of_host, less_code, less_word, bounds_tested, last_code, last_word, stepped}

abbrev pub leave : Code
leave = single (Leave 1)

-- the body has a loop of its own, whose turn comes between the test and the body
abbrev pub while_held : ℕ → Code → Code → ℕ → Code
while_held locals test body slot = Loop (test then when (word_in locals slot) (Loop (body then leave) End) leave) End

abbrev pub repeated : ℕ → Code → Code → ℕ → Code
repeated locals body test slot = Loop (body then (test then when (word_in locals slot) leave End)) End

-- the end of a turn: the variable is compared with the last value, which stands in a slot, and stepped
abbrev pub turned : ℕ → Host → Address → Bool → ℕ → Address → Code
turned locals host at down slot scratch = last_code locals host at slot scratch then when (last_word locals host at slot scratch) leave (single (stepped host at down))

-- the slot behind that of a value of the variable
abbrev pub next_value : Host → ℕ → ℕ
next_value host slot = slot + form_bytes (form_of_host host)

-- the first value, in a slot, isn't past the last one, in the next slot; that one moves down
abbrev pub turns : ℕ → Host → ℤ → ℤ → Address → Bool → Code → ℕ → Address → Code
turns locals host low high at down body slot scratch =
    store locals (At at) (shape.Number host low high) slot false
    then Do (Copy (slot_place locals slot (form_bytes (form_of_host host))) (slot_place locals (next_value host slot) (form_bytes (form_of_host host))) (form_bytes (form_of_host host) % 65536))
    (Loop (body then turned locals host at down slot scratch) End)

-- where the lower and the upper bound stand
abbrev pub least_slot : Host → Bool → ℕ → ℕ
least_slot host down slot = if down then next_value host slot else slot

abbrev pub greatest_slot : Host → Bool → ℕ → ℕ
greatest_slot host down slot = if down then slot else next_value host slot

abbrev pub tests : ℕ → Host → ℤ → ℤ → Bool → Bool → ℕ → Code
tests locals host low high down checked slot =
    if checked then bounds_tested locals host low high (least_slot host down slot) (greatest_slot host down slot) else End

-- a `for`, behind code that leaves its bounds in two slots
abbrev pub counted : ℕ → Host → ℤ → ℤ → Address → Bool → Bool → Code → Code → ℕ → Address → Code
counted locals host low high at down checked bounds body slot scratch =
    bounds then (less_code locals (form_of_host host) (greatest_slot host down slot) (least_slot host down slot) scratch
    then when (less_word locals (form_of_host host) (greatest_slot host down slot) (least_slot host down slot) scratch) End
    (tests locals host low high down checked slot then turns locals host low high at down body slot scratch))
