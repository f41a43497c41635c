-- The routines that write strings, characters, Booleans and ends of lines, as flat code.
use Rattle.std.specs.Prelude.{ℕ, ◌+◌, List, [], ◌∷◌, pos, negsuc, codes}
use Rattle.flat_code.specs.Tree.{Expr, Number, StoreByte, Code, End, Do, If, ◌then◌}
use Rattle.flat_code.specs.Program.{Routine}
use Rattle.runtime_proofs.specs.string_loops.Pieces.{procedure_of, word, behind, set_word}
use Rattle.runtime_proofs.specs.text_memory.Pieces.{item_at, item_offset, item_segment, set_segment, print}
use Rattle.rt_text.specs.write_text.Showing.{show_text}

-- ---- a string: its place at 10 and 8

abbrev pub begin_string : Code
begin_string =
    set_word (negsuc 1) (word (pos 10))
    (set_word (negsuc 3) (word (pos 8))
    (set_word (negsuc 5) (behind (negsuc 3) 0)
    End))

abbrev pub write_string_routine : Routine
write_string_routine = procedure_of 6 14 (begin_string then show_text)

-- ---- texts that are made at the end of the item buffer: a character or a Boolean at 8

abbrev pub set_item : ℕ → Expr → Code → Code
set_item plus value next = Do (StoreByte (item_at plus) value) next

-- the text has so many bytes
abbrev pub begin_made : ℕ → Code
begin_made count = set_word (negsuc 5) (Number count) (set_word (negsuc 3) (item_offset 496) (set_segment (negsuc 1) End))

abbrev pub make_char : Code
make_char = set_item 497 (word (pos 8)) (begin_made 1)

abbrev pub write_char_routine : Routine
write_char_routine = procedure_of 4 14 (make_char then show_text)

-- these bytes from a place on
abbrev pub set_items : ℕ → List ℕ → Code → Code
set_items plus [] next = next
set_items plus (byte ∷ bytes) next = set_item plus (Number byte) (set_items (plus + 1) bytes next)

abbrev pub make_boolean : Code
make_boolean = If (word (pos 8)) (set_items 497 (codes "TRUE") (begin_made 4)) (set_items 497 (codes "FALSE") (begin_made 5)) End

abbrev pub write_boolean_routine : Routine
write_boolean_routine = procedure_of 4 14 (make_boolean then show_text)

-- ---- the end of a line

abbrev pub write_line_code : Code
write_line_code = set_items 497 (13 ∷ 10 ∷ []) (print item_segment (item_offset 497) (Number 2) End)

abbrev pub write_line_routine : Routine
write_line_routine = procedure_of 0 0 write_line_code
