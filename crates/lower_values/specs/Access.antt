-- Loads and stores, and pointers to places.
use Rattle.std.specs.Prelude.{ℕ, ◌-◌, ◌==◌, nat_le, Bool, true, false, ◌&&◌, if◌then◌else◌, ℤ, pos, ◌+ℤ◌, List, [], ◌∷◌}
use Rattle.std.specs.Ordering.{int_eq}
use Rattle.type_layout.specs.declared.definitions.Host.{Host}
use Rattle.type_layout.specs.declared.definitions.Host.TheVariants as host
use Rattle.type_layout.specs.Storage.{width_of}
use Rattle.flat_code.specs.declared.tree.Address.{Address}
use Rattle.flat_code.specs.declared.tree.Address.TheVariants.{Global, Local, Outer, Through}
use Rattle.flat_code.specs.Tree.{Expr, Number, Byte, Word, AddressOf, SegmentOf, StoreByte, StoreWord, Copy, Step, Code, End, ◌then◌}
use Rattle.runtime_units.specs.declared.numbers.numbers.RuntimeRoutine.{RuntimeRoutine}
use Rattle.runtime_units.specs.declared.numbers.numbers.RuntimeRoutine.TheVariants as routine
use Rattle.lower_places.specs.declared.reach.Reach.{Reach}
use Rattle.lower_places.specs.declared.reach.Reach.TheVariants.{At, Beyond}
use Rattle.lower_places.specs.declared.sorts.Shape.{Shape}
use Rattle.lower_places.specs.declared.sorts.Shape.TheVariants as shape
use Rattle.lower_places.specs.Reaches.{further}
use Rattle.lower_values.specs.declared.forms.Form.{Form}
use Rattle.lower_values.specs.declared.forms.Form.TheVariants as form
use Rattle.lower_values.specs.Nodes.{single, pair, signed_byte, runtime, with_result, clear, set}
use Rattle.lower_values.specs.Forms.{slot_at, slot_place, word_in, low_in, text_words}

abbrev pub segment_of : Reach → Expr
segment_of (At at) = SegmentOf at
segment_of (Beyond pointer) = Word (further pointer 2)

abbrev pub offset_of : Reach → Expr
offset_of (At at) = AddressOf at
offset_of (Beyond pointer) = Word pointer

abbrev pub place_words : Reach → List Expr
place_words reach = segment_of reach ∷ offset_of reach ∷ []

abbrev pub moved_by_call : Reach → Reach → ℕ → Code
moved_by_call to from bytes = single (runtime routine.Move (segment_of to ∷ offset_of to ∷ segment_of from ∷ offset_of from ∷ Number bytes ∷ []))

-- bytes from a place to another
abbrev pub moved : Reach → Reach → ℕ → Code
moved (At to) (At from) bytes = single (Copy to from bytes)
moved to from bytes = moved_by_call to from bytes

-- the number of a host that lies at a place, as a word
abbrev pub stored_word : Host → Address → Expr
stored_word host.ShortInt at = signed_byte (Byte at)
stored_word host.Byte at = Byte at
stored_word host.Char at = Byte at
stored_word host.Boolean at = Byte at
stored_word host.Enumeration at = Byte at
stored_word host.Integer at = Word at
stored_word host.Word at = Word at
stored_word host.LongInt at = Word at

abbrev pub loading : Host → RuntimeRoutine
loading host.ShortInt = routine.LoadShort
loading host.Byte = routine.LoadByte
loading host.Char = routine.LoadByte
loading host.Boolean = routine.LoadByte
loading host.Enumeration = routine.LoadByte
loading host.Integer = routine.LoadWord
loading host.Word = routine.LoadWord
loading host.LongInt = routine.LoadWord

abbrev pub load_word : ℕ → Reach → Host → ℕ → Code
load_word locals (At at) host slot = single (set (slot_at locals slot 2) (stored_word host at))
load_word locals (Beyond pointer) host slot = single (with_result (loading host) (place_words (Beyond pointer)) (slot_at locals slot 2) 2)

-- a string is assigned to one of a size
abbrev pub assigned : Reach → ℕ → Expr → Expr → Step
assigned to max segment offset = runtime routine.Assign (segment_of to ∷ offset_of to ∷ Number max ∷ segment ∷ offset ∷ [])

abbrev pub load_text : ℕ → Reach → ℕ → Code
load_text locals from slot = single (assigned (At (slot_place locals slot 256)) 255 (segment_of from) (offset_of from))

-- so many bytes become zeros, if there are any
abbrev pub cleared : ℤ → ℕ → Code
cleared at count = if count == 0 then End else single (clear at count)

abbrev pub is_through : Reach → ℤ → Bool
is_through (At (Through pointer plus)) slot = int_eq pointer slot
is_through _ slot = false

abbrev pub set_part : ℕ → ℕ → ℕ → ℤ
set_part locals first slot = slot_at locals slot 32 +ℤ pos first

-- the bytes round some of a set become zeros
abbrev pub cleared_around : ℕ → ℕ → ℕ → ℕ → Code
cleared_around locals first bytes slot = cleared (slot_at locals slot 32) first then cleared (set_part locals first slot +ℤ pos bytes) (32 - first - bytes)

abbrev pub set_moved : ℕ → Reach → ℕ → ℕ → ℕ → Code
set_moved locals from first bytes slot = moved (At (Local (set_part locals first slot))) from bytes

-- some bytes of a set of 32; those round them are zeros. A pointer in the slot itself is used before they are.
abbrev pub load_set : ℕ → Reach → ℕ → ℕ → ℕ → Code
load_set locals from first bytes slot =
    if is_through from (slot_at locals slot 4)
    then set_moved locals from first bytes slot then cleared_around locals first bytes slot
    else cleared (slot_at locals slot 32) 32 then set_moved locals from first bytes slot

abbrev pub pointed_at : ℕ → Address → ℕ → Code
pointed_at locals at slot = pair (set (slot_at locals slot 4) (AddressOf at)) (set (slot_at locals slot 2) (SegmentOf at))

-- a far pointer; one that lies in the slot already stays
abbrev pub point : ℕ → Reach → ℕ → Code
point locals (At (Through pointer plus)) slot =
    if plus == 0 && int_eq pointer (slot_at locals slot 4) then End else pointed_at locals (Through pointer plus) slot
point locals (At (Global unit number plus)) slot = pointed_at locals (Global unit number plus) slot
point locals (At (Local at)) slot = pointed_at locals (Local at) slot
point locals (At (Outer levels at)) slot = pointed_at locals (Outer levels at) slot
point locals (Beyond pointer) slot = single (Copy (slot_place locals slot 4) pointer 4)

abbrev pub load_number : ℕ → Reach → Host → ℕ → Code
load_number locals from host slot = if nat_le (width_of host) 2 then load_word locals from host slot else moved (At (slot_place locals slot 4)) from 4

-- the value at a place goes to a slot; of a structured value a far pointer to it
abbrev pub load : ℕ → Reach → Shape → ℕ → Code
load locals from (shape.Number host low high) slot = load_number locals from host slot
load locals from shape.Far slot = moved (At (slot_place locals slot 4)) from 4
load locals from (shape.Text max) slot = load_text locals from slot
load locals from (shape.Set first bytes) slot = load_set locals from first bytes slot
load locals from (shape.Whole size class) slot = point locals from slot

abbrev pub stored_so : Bool → Address → Expr → Step
stored_so true to value = StoreByte to value
stored_so false to value = StoreWord to value

abbrev pub store_word : ℕ → Reach → Host → ℕ → Code
store_word locals (At to) host slot = single (stored_so (width_of host == 1) to (word_in locals slot))
store_word locals (Beyond pointer) host slot = moved (Beyond pointer) (At (slot_place locals slot 2)) (if width_of host == 1 then 1 else 2)

abbrev pub store_number : ℕ → Reach → Host → ℕ → Code
store_number locals to host slot = if nat_le (width_of host) 2 then store_word locals to host slot else moved to (At (slot_place locals slot 4)) 4

abbrev pub store_text : ℕ → Reach → ℕ → Form → ℕ → Code
store_text locals to max form slot = single (assigned to max (text_words locals form slot).0 (text_words locals form slot).1)

-- the value in a slot goes to a place that is no record, array or object; a string may be a constant
abbrev pub store : ℕ → Reach → Shape → ℕ → Bool → Code
store locals to (shape.Number host low high) slot literal = store_number locals to host slot
store locals to shape.Far slot literal = moved to (At (slot_place locals slot 4)) 4
store locals to (shape.Text max) slot literal = store_text locals to max (if literal then form.Literal else form.Text) slot
store locals to (shape.Set first bytes) slot literal = moved to (At (Local (set_part locals first slot))) bytes
store locals to (shape.Whole size class) slot literal = End

-- the far pointer in a slot of 4 bytes
abbrev pub pointer_words : ℕ → ℕ → List Expr
pointer_words locals slot = word_in locals slot ∷ low_in locals slot ∷ []
