-- Two overlays that call each other in a buffer that holds one of them. The main part calls A, which calls B, which calls A again. So A and B take turns: the
-- first return into A goes out and comes back twice. Then A calls a routine of the image that clears the buffer, with the return into A pending.
use Rattle.std.specs.Prelude.{ℕ, zero, suc, ◌*◌, ◌==◌, ◌||◌, Bool, true, nat_le, nat_lt, if◌then◌else◌, List, [], ◌∷◌, ◌++◌, Option, None, Some}
use Rattle.x86_table.specs.declared.instr.Instr.TheVariants as instr
use Rattle.x86_table.specs.declared.instr.Pair.TheVariants as pair
use Rattle.x86_table.specs.declared.operand.WordOperand.TheVariants as word_rm
use Rattle.x86_table.specs.declared.operand.WordReg.TheVariants as word
use Rattle.cpu_8086.specs.Memory.{address}
use Rattle.frame_links.specs.Links.{Link}
use Rattle.mz_file.specs.declared.executable.Exe.{Exe}
use Rattle.mz_file.specs.Load.{paragraphs_taken}
use Rattle.overlay_file.specs.declared.overlay.OvrEntry.{OvrEntry}
use Rattle.resident_machine.specs.Program.{Program}
use Rattle.overlay_correctness.specs.Held.{overlays_in}
use Rattle.resident_tries.specs.Tries.{Move, move, framed_move}

abbrev pub zeros : ℕ → List ℕ
zeros zero = []
zeros (suc n) = 0 ∷ zeros n

-- ## Code

-- CALL FAR 0072:0020; MOV AX,4C00; INT 21h
abbrev pub main_code : List ℕ
main_code = 0x9A ∷ 0x20 ∷ 0 ∷ 0x72 ∷ 0 ∷ 0xB8 ∷ 0 ∷ 0x4C ∷ 0xCD ∷ 0x21 ∷ []

-- INT 60h; RETF
abbrev pub clear_code : List ℕ
clear_code = 0xCD ∷ 0x60 ∷ 0xCB ∷ []

-- the first lines of a far routine, and its last ones
abbrev pub first_lines : List ℕ
first_lines = 0x45 ∷ 0x55 ∷ 0x8B ∷ 0xEC ∷ []

abbrev pub last_lines : List ℕ
last_lines = 0x5D ∷ 0x4D ∷ 0xCB ∷ []

-- A has two routines. The first calls FAR 0075:0020 and FAR 0071:0000, the second calls nothing.
abbrev pub a_code : List ℕ
a_code = first_lines ++ (0x9A ∷ 0x20 ∷ 0 ∷ 0x75 ∷ 0 ∷ 0x9A ∷ 0 ∷ 0 ∷ 0x71 ∷ 0 ∷ last_lines ++ (first_lines ++ last_lines))

-- B has one, which calls FAR 0072:0025.
abbrev pub b_code : List ℕ
b_code = first_lines ++ (0x9A ∷ 0x25 ∷ 0 ∷ 0x72 ∷ 0 ∷ last_lines)

-- ## The files

-- the fields of a stub
abbrev pub stub_front : ℕ → ℕ → ℕ → List ℕ
stub_front place size entries = 0xCD ∷ 0x3F ∷ 0 ∷ 0 ∷ place ∷ 0 ∷ 0 ∷ 0 ∷ size ∷ 0 ∷ 0 ∷ 0 ∷ entries ∷ 0 ∷ zeros 18

abbrev pub trap_entry : ℕ → List ℕ
trap_entry routine = 0xCD ∷ 0x3F ∷ routine ∷ 0 ∷ 0 ∷ []

-- The image: the main part, the routine that clears, the stubs of A and B, and data, of which the first byte is the installed flag.
abbrev pub turns_image : List ℕ
turns_image =
    main_code ++ (zeros 6 ++ (clear_code ++ (zeros 13
    ++ (stub_front 0 24 2 ++ (trap_entry 0 ++ (trap_entry 17 ++ (zeros 6
    ++ (stub_front 24 12 1 ++ (trap_entry 0 ++ (zeros 11
    ++ (1 ∷ zeros 15)))))))))))

abbrev pub turns_exe : Exe
turns_exe = record {
  image = turns_image;
  relocations = [];
  entry = record { offset = 0; segment = 0 };
  stack = record { offset = 0x200; segment = 8 };
  extra = 0x30;
  block = record {
    stubs = 2 ∷ 5 ∷ [];
    largest = 2;
    error_routine = record { offset = 0; segment = 1 };
    installed = record { offset = 0; segment = 8 };
    stack = 0x200;
    heap = 0;
    data_segment = 8;
    data_bytes = 16;
    marked = true;
  };
}

-- the bytes of the overlay file that are code, and where
abbrev pub turns_bytes : List ℕ
turns_bytes = a_code ++ b_code

abbrev pub a_entry : OvrEntry
a_entry = record { name = []; place = 0; size = 24; fixups = 0 }

abbrev pub b_entry : OvrEntry
b_entry = record { name = []; place = 24; size = 12; fixups = 0 }

abbrev pub turns_entries : List OvrEntry
turns_entries = a_entry ∷ b_entry ∷ []

-- ## The program

abbrev pub turns_segment : ℕ → Option (List ℕ)
turns_segment number = if number == 0x70 then Some main_code else (if number == 0x71 then Some clear_code else None)

abbrev pub turns : Program
turns = record {
  image = turns_segment;
  overlays = overlays_in turns_image turns_bytes (2 ∷ 5 ∷ []) turns_entries;
  installed = address 0x78 0;
  error_routine = record { offset = 0; segment = 0x71 };
  marked = true;
}

-- code, stubs, and all behind the extra memory
abbrev pub turns_kept : ℕ → Bool
turns_kept at = nat_lt at 0x780 || nat_le (16 * paragraphs_taken turns_exe) at

-- ## Its run

abbrev pub begun_by : List Move → List Move
begun_by moves = move (instr.Inc word.Bp) ∷ move (instr.Push word.Bp) ∷ move (instr.Mov (pair.WordRm word.Bp (word_rm.Reg word.Sp))) ∷ moves

abbrev pub left_by : List Move → List Move
left_by moves = move (instr.Pop word.Bp) ∷ move (instr.Dec word.Bp) ∷ moves

-- the frames of the first routine of A, and of B above it
abbrev pub one_frame : List Link
one_frame = record { at = 506; far = true } ∷ []

abbrev pub two_frames : List Link
two_frames = record { at = 500; far = true } ∷ one_frame

abbrev pub turns_moves : List Move
turns_moves =
    move (instr.CallFar 0x20 0x72) ∷ begun_by (framed_move (instr.CallFar 0x20 0x75) one_frame ∷ begun_by (framed_move (instr.CallFar 0x25 0x72) two_frames ∷ begun_by (left_by (framed_move instr.RetFar two_frames
    ∷ left_by (framed_move instr.RetFar one_frame
    ∷ move (instr.CallFar 0 0x71) ∷ framed_move (instr.Int 96) one_frame ∷ framed_move instr.RetFar one_frame
    ∷ left_by (move instr.RetFar ∷ move (instr.MovWord word.Ax 0x4C00) ∷ move (instr.Int 33) ∷ []))))))
