-- Small pieces of flat code, and their bytes as the processor's manual gives them.
use Rattle.std.specs.Prelude.{ℕ, true, false, pos, negsuc, List, [], ◌∷◌, Some, None}
use Rattle.x86_table.specs.Lines.{assembled}
use Rattle.flat_code.specs.declared.tree.Address.TheVariants.{Global, Local, Outer, Through}
use Rattle.flat_code.specs.declared.tree.FlatOp.TheVariants as op
use Rattle.flat_code.specs.Tree.{Number, Word, Op, StoreWord, Copy, Leave, Call, Return, End, Do, If, Loop}
use Rattle.flat_code.specs.Program.{Routine, UnitCode}
use Rattle.resident_machine.specs.machine_lines.Straight.{ones}
use Rattle.code_templates.specs.code_lines.Addresses.{Addresses, Context}
use Rattle.code_templates.specs.code_lines.Expressions.{expr_code, op_code}
use Rattle.code_templates.specs.code_lines.Lines.{step_lines, routine_lines}

-- each datum at 0100h, the error routine at 0080:0010
abbrev pub somewhere : Addresses
somewhere = record {
  data_segment = 0x300;
  datum = λ key. 0x100;
  vmt = λ key. 0x200;
  near = λ key. 0;
  far = λ key. record { segment = 0x90; offset = 0 };
  error_routine = record { segment = 0x80; offset = 0x10 };
  clear_routine = record { segment = 0x80; offset = 0 };
  flag_routine = record { segment = 0x80; offset = 4 };
}

-- a far function that adds 1 to its argument
abbrev pub successor : Routine
successor = record {
  far = true;
  arguments = 2;
  locals = 2;
  frame = 10;
  result = Some (record { at = Local (negsuc 1); bytes = 2 });
  body = Do (StoreWord (Local (negsuc 1)) (Op op.Add (Word (Local (pos 6))) (Number 1))) (Do Return End);
}

-- a near routine of the runtime that calls the other one as long as a word of a datum is less than 10
abbrev pub repeated : Routine
repeated = record {
  far = false;
  arguments = 0;
  locals = 0;
  frame = 0;
  result = None;
  body = Loop (If (Op op.Less (Word (Global 0 0 2)) (Number 10)) (Do (Call 0 1 [] None) End) (Do (Leave 1) End) End) End;
}

abbrev pub example_unit : UnitCode
example_unit = record { names = []; routines = repeated ∷ successor ∷ []; globals = []; vmts = []; initial = None }

abbrev pub in_far : Context
in_far = record { addresses = somewhere; own = []; unit = example_unit; far = true }

abbrev pub in_near : Context
in_near = record { addresses = somewhere; own = []; unit = example_unit; far = false }

-- INC BP; PUSH BP; MOV BP,SP; CMP SP,514; JAE +8; MOV AX,202; JMP FAR 0080:0010; SUB SP,2;
-- MOV AX,[BP+6]; PUSH AX; MOV AX,1; MOV CX,AX; POP AX; ADD AX,CX; MOV [BP-2],AX; JMP +0;
-- MOV AX,[BP-2]; MOV SP,BP; POP BP; DEC BP; RETF 2
abbrev pub successor_bytes : List ℕ
successor_bytes =
    0x45 ∷ 0x55 ∷ 0x8B ∷ 0xEC ∷ 0x81 ∷ 0xFC ∷ 0x02 ∷ 0x02 ∷ 0x73 ∷ 0x08 ∷ 0xB8 ∷ 0xCA ∷ 0x00 ∷ 0xEA ∷ 0x10 ∷ 0x00 ∷ 0x80 ∷ 0x00 ∷ 0x81 ∷ 0xEC ∷ 0x02 ∷ 0x00
    ∷ 0x8B ∷ 0x46 ∷ 0x06 ∷ 0x50 ∷ 0xB8 ∷ 0x01 ∷ 0x00 ∷ 0x8B ∷ 0xC8 ∷ 0x58 ∷ 0x03 ∷ 0xC1 ∷ 0x89 ∷ 0x46 ∷ 0xFE ∷ 0xE9 ∷ 0x00 ∷ 0x00
    ∷ 0x8B ∷ 0x46 ∷ 0xFE ∷ 0x8B ∷ 0xE5 ∷ 0x5D ∷ 0x4D ∷ 0xCA ∷ 0x02 ∷ 0x00 ∷ []

-- PUSH BP; MOV BP,SP; SUB SP,0; CLD; MOV AX,[0102]; PUSH AX; MOV AX,10; MOV CX,AX; POP AX; CMP AX,CX; MOV AX,0; JGE +1; INC AX;
-- OR AX,AX; JNE +3; JMP +7; PUSH CS; CALL (to be filled); JMP +3; JMP +3; JMP -40; MOV SP,BP; POP BP; RET
abbrev pub repeated_bytes : List ℕ
repeated_bytes =
    0x55 ∷ 0x8B ∷ 0xEC ∷ 0x81 ∷ 0xEC ∷ 0x00 ∷ 0x00 ∷ 0xFC ∷ 0x8B ∷ 0x06 ∷ 0x02 ∷ 0x01 ∷ 0x50 ∷ 0xB8 ∷ 0x0A ∷ 0x00 ∷ 0x8B ∷ 0xC8 ∷ 0x58
    ∷ 0x3B ∷ 0xC1 ∷ 0xB8 ∷ 0x00 ∷ 0x00 ∷ 0x7D ∷ 0x01 ∷ 0x40 ∷ 0x0B ∷ 0xC0 ∷ 0x75 ∷ 0x03 ∷ 0xE9 ∷ 0x07 ∷ 0x00 ∷ 0x0E ∷ 0xE8 ∷ 0x0D ∷ 0x00
    ∷ 0xE9 ∷ 0x03 ∷ 0x00 ∷ 0xE9 ∷ 0x03 ∷ 0x00 ∷ 0xE9 ∷ 0xD8 ∷ 0xFF ∷ 0x8B ∷ 0xE5 ∷ 0x5D ∷ 0xC3 ∷ []

-- LES DI,[BP-4]; ADD DI,2; PUSH DS; LDS SI,[BP+8]; ADD SI,1; MOV CX,5; REP MOVSB; POP DS
abbrev pub copy_bytes : List ℕ
copy_bytes =
    0xC4 ∷ 0x7E ∷ 0xFC ∷ 0x81 ∷ 0xC7 ∷ 0x02 ∷ 0x00 ∷ 0x1E ∷ 0xC5 ∷ 0x76 ∷ 0x08 ∷ 0x81 ∷ 0xC6 ∷ 0x01 ∷ 0x00 ∷ 0xB9 ∷ 0x05 ∷ 0x00 ∷ 0xF3 ∷ 0xA4 ∷ 0x1F ∷ []

-- MOV BX,[BP+4]; MOV BX,SS:[BX]; MOV AX,SS:[BX-6]
abbrev pub outer_bytes : List ℕ
outer_bytes = 0x8B ∷ 0x5E ∷ 0x04 ∷ 0x36 ∷ 0x8B ∷ 0x1F ∷ 0x36 ∷ 0x8B ∷ 0x47 ∷ 0xFA ∷ []

-- MOV BX,AX; CMP CX,0; JNE +8; MOV AX,200; JMP FAR 0080:0010; JNS +4; NEG CX; NOT BX; CMP AX,0; JNS +2; NEG AX; MOV DX,0; DIV CX;
-- CMP BX,0; JNS +2; NEG AX
abbrev pub quotient_bytes : List ℕ
quotient_bytes =
    0x8B ∷ 0xD8 ∷ 0x83 ∷ 0xF9 ∷ 0x00 ∷ 0x75 ∷ 0x08 ∷ 0xB8 ∷ 0xC8 ∷ 0x00 ∷ 0xEA ∷ 0x10 ∷ 0x00 ∷ 0x80 ∷ 0x00 ∷ 0x79 ∷ 0x04 ∷ 0xF7 ∷ 0xD9 ∷ 0xF7 ∷ 0xD3
    ∷ 0x83 ∷ 0xF8 ∷ 0x00 ∷ 0x79 ∷ 0x02 ∷ 0xF7 ∷ 0xD8 ∷ 0xBA ∷ 0x00 ∷ 0x00 ∷ 0xF7 ∷ 0xF1 ∷ 0x83 ∷ 0xFB ∷ 0x00 ∷ 0x79 ∷ 0x02 ∷ 0xF7 ∷ 0xD8 ∷ []

abbrev pub successor_code : List ℕ
successor_code = assembled (routine_lines in_far 0 successor)

abbrev pub repeated_code : List ℕ
repeated_code = assembled (routine_lines in_near 0 repeated)

abbrev pub copy_code : List ℕ
copy_code = assembled (step_lines in_near (record { home = 0; ends = [] }) 0 (Copy (Through (negsuc 3) 2) (Through (pos 8) 1) 5))

abbrev pub outer_code : List ℕ
outer_code = assembled (ones (expr_code in_near (Word (Outer 2 (negsuc 5)))))

abbrev pub quotient_code : List ℕ
quotient_code = assembled (ones (op_code in_near op.Div))
