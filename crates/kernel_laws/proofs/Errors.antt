-- The error routine, its text's offsets filled in.
use Rattle.std.proofs.Common.{◌≡◌, ℕ, ◌+◌, ◌%◌, ◌<◌, List, [], ◌∷◌, ◌++◌, refl, ap, ◌∙◌, arith}
use Rattle.x86_table.specs.declared.instr.Cond.TheVariants as cond
use Rattle.x86_table.specs.declared.instr.Instr.TheVariants as instr
use Rattle.x86_table.specs.declared.line.Line.{Line}
use Rattle.x86_table.specs.declared.line.Line.TheVariants.{Label, JumpShort}
use Rattle.x86_table.specs.declared.operand.ByteReg.TheVariants as byte
use Rattle.x86_table.specs.declared.operand.WordReg.TheVariants as word
use Rattle.x86_table.specs.declared.instr.AluOp.TheVariants as alu
use Rattle.x86_table.specs.Lines.{assembled}
use Rattle.x86_table.specs.Spelling.{word_bytes, memory_modrm, byte_modrm, word_modrm, pair_form, pair_body, pair_override, immediate_width, immediate_body, immediate_override, target_width, target_body, target_override}
use Rattle.flat_code.specs.Program.{Name}
use Rattle.resident_machine.specs.machine_lines.Straight.{div_cx, ones}
use Rattle.code_templates.specs.code_lines.Addresses.{Addresses}
use Rattle.code_templates.specs.code_lines.Expressions.{move, apply}
use Rattle.effect_simulation.specs.errors.Routine.{to_divide, store_digit, end_with, call_dos, error_lines}
use Rattle.kernel_code.specs.Errors.{error_of}
use Rattle.kernel_laws.specs.Laws.{part_of, filled}

-- the error routine with these three offsets: behind the text's digits, of the text, and behind the text
lines_with : ℕ → ℕ → ℕ → List Line
lines_with digits text end =
    ones (move word.Si word.Ax ∷ instr.MovWord word.Di digits ∷ [])
    ++ (Label 0
    ∷ (ones (to_divide ++ (div_cx ∷ store_digit))
    ++ (JumpShort cond.NotEqual 0
    ∷ ones ((instr.MovWord word.Bx 2 ∷ instr.MovWord word.Cx 14 ∷ instr.MovWord word.Dx text ∷ instr.MovByte byte.Ah 0x40 ∷ [])
    ++ (call_dos ++ ((move word.Dx word.Di ∷ instr.MovWord word.Cx end ∷ apply alu.Sub word.Cx word.Di ∷ instr.MovByte byte.Ah 0x40 ∷ []) ++ (call_dos ++ (end_with ++ call_dos))))))))

-- what is filled in are words
words_filled : (a : Addresses) (own : Name) (names : List Name) (kernel : Name) (p : ℕ) → let text = a.datum (part_of own names kernel 0) in
    filled a own names p (error_of kernel) ≡ assembled (lines_with ((text + 19) % 65536) ((text + 0) % 65536) ((text + 21) % 65536))
unfolding lines_with word_bytes memory_modrm byte_modrm word_modrm pair_form pair_body pair_override immediate_width immediate_body immediate_override target_width target_body target_override
words_filled a own names kernel p = refl

small : (text k : ℕ) → text + k < 65536 → (text + k) % 65536 ≡ text + k
small text k h = omega (arith, h)

pub error_filled : (a : Addresses) (own : Name) (names : List Name) (kernel : Name) (p : ℕ) → a.datum (part_of own names kernel 0) + 21 < 65536
    → filled a own names p (error_of kernel) ≡ assembled (error_lines (a.datum (part_of own names kernel 0)))
unfolding lines_with
error_filled a own names kernel p h =
    let text = a.datum (part_of own names kernel 0) in
    let first = small text 19 (omega (arith, h)) in
    let second : (text + 0) % 65536 ≡ text = omega (arith, h) in
    let third = small text 21 h in
    words_filled a own names kernel p
    ∙ ap (λ (w : ℕ). assembled (lines_with w ((text + 0) % 65536) ((text + 21) % 65536))) first
    ∙ ap (λ (w : ℕ). assembled (lines_with (text + 19) w ((text + 21) % 65536))) second
    ∙ ap (λ (w : ℕ). assembled (lines_with (text + 19) text w)) third
