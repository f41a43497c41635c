-- How a text goes to the output in a field of a width, as flat code.
-- A routine that writes has its width as its last argument, at 6. At -2 and -4 it keeps a pointer to the byte before the text, the segment uppermost, at -6 how long the text is, at -8 how many blanks are due before it, at -10 and -12 a pointer into the item buffer, and at -14 how many bytes are left to move there.
use Rattle.std.specs.Prelude.{pos, negsuc}
use Rattle.flat_code.specs.declared.tree.FlatOp.TheVariants as op
use Rattle.flat_code.specs.Tree.{Number, Op, Code, End, If, Loop, ◌then◌}
use Rattle.runtime_proofs.specs.string_loops.Pieces.{word, set_word, lessen, leave, forward}
use Rattle.runtime_proofs.specs.text_memory.Pieces.{item_offset, item_segment, set_segment, print}

-- no blanks yet, and the pointer leads to the byte before the buffer's room
abbrev pub begin_item : Code
begin_item =
    set_word (negsuc 7) (Number 0)
    (set_word (negsuc 13) (word (negsuc 5))
    (set_word (negsuc 11) (item_offset 255)
    (set_segment (negsuc 9)
    End)))

abbrev pub set_due : Code
set_due = If (Op op.Less (word (negsuc 5)) (word (pos 6))) (set_word (negsuc 7) (Op op.Sub (word (pos 6)) (word (negsuc 5))) End) End End

-- blanks that don't fit before the room
abbrev pub blanks_round : Code
blanks_round =
    If (Op op.Below (Number 256) (word (negsuc 7)))
    (print item_segment (item_offset 0) (Number 256) (lessen (negsuc 7) (Number 256) End))
    leave End

abbrev pub print_blanks : Code
print_blanks = Loop blanks_round End

abbrev pub move_text : Code
move_text = forward (negsuc 11) (negsuc 3) (negsuc 13) End

-- the other blanks and the text, in one go
abbrev pub print_item : Code
print_item = print item_segment (Op op.Sub (item_offset 256) (word (negsuc 7))) (Op op.Add (word (negsuc 7)) (word (negsuc 5))) End

abbrev pub print_padded : Code
print_padded = print_blanks then (move_text then print_item)

-- no blank is due
abbrev pub print_plain : Code
print_plain = print (word (negsuc 1)) (Op op.Add (word (negsuc 3)) (Number 1)) (word (negsuc 5)) End

abbrev pub print_text : Code
print_text = If (word (negsuc 7)) print_padded print_plain End

abbrev pub show_text : Code
show_text = begin_item then (set_due then print_text)
