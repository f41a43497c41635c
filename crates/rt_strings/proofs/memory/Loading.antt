-- The routines that load through a pointer.
use Rattle.std.proofs.Common.{◌≡◌, ℕ, suc, ◌-◌, ◌≤◌, ◌<◌, ◌⊎◌, inl, inr, List, [], ◌∷◌, Ok, pos, negsuc, refl, sym, ap, ◌∙◌, arith}
use Rattle.std.specs.Prelude.{nat_lt}
use Rattle.std.proofs.lemmas.Bool.Decides.{nat_tests}
use Rattle.std.proofs.lemmas.Int.{ints}
use Rattle.common_values.specs.integers.Words.{w8, w16, cast_signed, word_of, wrapping_sub, wrapping_mul}
use Rattle.flat_code.specs.declared.tree.Address.TheVariants.{Through}
use Rattle.flat_code.specs.declared.tree.FlatOp.TheVariants as op
use Rattle.flat_code.specs.Tree.{Expr, Number, Word, Op, End}
use Rattle.flat_code.specs.Memory.{Cells, Found, place_after, word_bytes}
use Rattle.flat_code.specs.Program.{FlatProgram, Choice, UnitCode, runtime_key}
use Rattle.flat_code.specs.Meaning.{Frame, truth, activation_bytes, frame_of}
use Rattle.flat_code.specs.Legal.{StackFits}
use Rattle.flat_code.specs.Gives.{KeepsRest}
use Rattle.runtime_proofs.specs.routine_proofs.Activation.{Slot, Shut, Free, Holds, Activation}
use Rattle.runtime_proofs.specs.routine_proofs.Straight.{Onward, seen_value, code_size}
use Rattle.runtime_proofs.specs.routine_proofs.Entry.{entered, memory_without}
use Rattle.runtime_proofs.specs.routine_proofs.Specifications.{IsHeld}
use Rattle.runtime_proofs.proofs.routine_proofs.Doing.{weaker-does, straight-does}
use Rattle.runtime_proofs.proofs.routine_proofs.Calls.{call-ends, placed, starts}
use Rattle.runtime_proofs.specs.strings_in_memory.Strings.{HasBytes, place}
use Rattle.runtime_proofs.proofs.strings_in_memory.Cells.{byte-read, plus-none}
use Rattle.runtime_proofs.specs.string_loops.Pieces.{behind, set_word}
use Rattle.runtime_proofs.proofs.string_loops.Seen.{op-so, set-so}
use Rattle.rt_strings.specs.set_relations.Routines.{function_of}
use Rattle.rt_strings.specs.memory.Routines.{short_value, load_byte_routine, load_short_routine, load_word_routine}
use Rattle.rt_strings.specs.memory.Specifications.{load_byte_number, load_short_number, load_word_number, Loads, LoadsByte, LoadsShort, LoadsWord}
use Rattle.rt_strings.proofs.memory.Words.{bytes-plus, bytes-inside, word-read}

-- ---- ShortInts

signed-so : (x : ℕ) → x < 128 → cast_signed w8 x ≡ pos x
signed-so x h = grind (arith, nat_tests, ints)

signed-negative : (x n : ℕ) → 128 ≤ x → x < 256 → 256 - x ≡ suc n → cast_signed w8 x ≡ negsuc n
signed-negative x n h l e = grind (arith, nat_tests, ints)

sign : (b : ℕ) → ((b < 128) × (truth (nat_lt 127 b) ≡ 0)) ⊎ ((128 ≤ b) × (truth (nat_lt 127 b) ≡ 1))
sign b = grind (arith, nat_tests)

abbrev with_sign : ℕ → ℕ → ℕ
with_sign b negative = wrapping_sub w16 b (wrapping_mul w16 negative 256)

short-is : (b : ℕ) → b < 256 → with_sign b (truth (nat_lt 127 b)) ≡ word_of w16 (cast_signed w8 b)
short-is b small = elim (sign b) [
  | inl h ↦ ap (with_sign b) h.1 ∙ positive b h.0 ∙ ap (word_of w16) (sym (signed-so b h.0))
  | inr h ↦ ap (with_sign b) h.1 ∙ negative b h.0 small ∙ ap (word_of w16) (sym (signed-negative b (255 - b) h.0 small (omega (arith, small))))
]
  where
    positive : (b : ℕ) → b < 128 → with_sign b 0 ≡ word_of w16 (pos b)
    positive b h = omega (arith, h)

    negative : (b : ℕ) → 128 ≤ b → b < 256 → with_sign b 1 ≡ word_of w16 (negsuc (255 - b))
    negative b h l = omega (arith, h, l)

-- ---- the routine's one statement

-- in the routine: the pointer, and what stands at -2
abbrev at : Activation → ℕ → ℕ → Cells → Slot → Activation
at e segment offset m result = record e { words = Holds segment ∷ Holds offset ∷ Shut ∷ Shut ∷ Shut ∷ result ∷ []; memory = m }

-- from such bytes an expression is this word, wherever the pointer leads
abbrev Gives : Choice → Expr → List ℕ → ℕ → Type 0
Gives choice value bytes v =
    (own : Frame) (e : Activation) (segment offset : ℕ) (m : Cells) → HasBytes m (place segment offset) 0 bytes → seen_value choice own 10 (at e segment offset m Free) value ≡ Ok v

loads : (program : FlatProgram) (choice : Choice) (unit : UnitCode) (number : ℕ) (value : Expr) (bytes : List ℕ) (v : ℕ) → code_size (set_word (negsuc 1) value End) ≤ 16 → StackFits program choice → IsHeld program (runtime_key number) unit (function_of 4 2 (set_word (negsuc 1) value End)) → Gives choice value bytes v → Loads program choice number bytes v
loads program choice unit number value bytes v small fits held_so gives segment offset f s words stack can =
    let key = runtime_key number in
    let code = set_word (negsuc 1) value End in
    let r = function_of 4 2 code in
    let room : activation_bytes r ≤ f.sp = omega (arith, stack.room) in
    let args = segment ∷ offset ∷ [] in
    let own = frame_of key.unit unit r f in
    let here = placed program choice key unit r held_so fits args f s refl room stack.inside in
    let start = entered choice f.sp 2 args s in
    let m = memory_without choice f.sp s.cells in
    let has = bytes-inside choice f.sp s.cells (place segment offset) bytes can.off can.there in
    let a = at start segment offset m Free in
    let b = at start segment offset m (Holds v) in
    let does = weaker-does program choice own f.sp code 0 (code_size code) 0 16 a Onward b (omega arith) small
    (straight-does program choice own f.sp 10 here code a Onward b (set-so choice own 10 (negsuc 1) value End a b v (gives own start segment offset m has) refl)) in
    call-ends program choice key unit r held_so fits args f s refl room stack.inside
    (λ address. ⊥) (λ after given. (given ≡ word_bytes v) × KeepsRest s after) 0 16 Onward b (word_bytes v) tt
    (does _ (starts program choice key unit r held_so fits args f s refl room stack.inside 2 words))
    refl
    (λ x free. refl)
    (λ after left. (refl, record { flag = left.flag; input = left.input; out = left.out; err = left.err }))

-- ---- what each loads

byte-gives : (choice : Choice) (byte : ℕ) → Gives choice (behind (pos 6) 0) (byte ∷ []) byte
byte-gives choice byte own e segment offset m has = byte-read m (place_after (place segment offset) 0) 0 byte (ap m (plus-none segment offset 0) ∙ has.0) has.1

short-gives : (choice : Choice) (byte : ℕ) → Gives choice short_value (byte ∷ []) (word_of w16 (cast_signed w8 byte))
short-gives choice byte own e segment offset m has =
    let a = at e segment offset m Free in
    let loaded = byte-gives choice byte own e segment offset m has in
    let below = op-so choice own 10 op.Below (Number 127) (behind (pos 6) 0) a 127 byte refl loaded in
    let less = op-so choice own 10 op.Mul (Op op.Below (Number 127) (behind (pos 6) 0)) (Number 256) a (truth (nat_lt 127 byte)) 256 below refl in
    op-so choice own 10 op.Sub (behind (pos 6) 0) (Op op.Mul (Op op.Below (Number 127) (behind (pos 6) 0)) (Number 256)) a byte (wrapping_mul w16 (truth (nat_lt 127 byte)) 256) loaded less
    ∙ ap (λ n. let r : Found ℕ = Ok n in r) (short-is byte has.1)

word-gives : (choice : Choice) (value : ℕ) → value < 65536 → Gives choice (Word (Through (pos 6) 0)) (word_bytes value) value
word-gives choice value small own e segment offset m has = word-read m (place_after (place segment offset) 0) value small (bytes-plus m segment offset 0 0 (word_bytes value) has)

-- ---- the promises

pub loads-byte : (program : FlatProgram) (choice : Choice) (unit : UnitCode) → StackFits program choice → IsHeld program (runtime_key load_byte_number) unit load_byte_routine → LoadsByte program choice
loads-byte program choice unit fits held_so byte = loads program choice unit load_byte_number (behind (pos 6) 0) (byte ∷ []) byte (omega arith) fits held_so (byte-gives choice byte)

pub loads-short : (program : FlatProgram) (choice : Choice) (unit : UnitCode) → StackFits program choice → IsHeld program (runtime_key load_short_number) unit load_short_routine → LoadsShort program choice
loads-short program choice unit fits held_so byte = loads program choice unit load_short_number short_value (byte ∷ []) (word_of w16 (cast_signed w8 byte)) (omega arith) fits held_so (short-gives choice byte)

pub loads-word : (program : FlatProgram) (choice : Choice) (unit : UnitCode) → StackFits program choice → IsHeld program (runtime_key load_word_number) unit load_word_routine → LoadsWord program choice
loads-word program choice unit fits held_so value small = loads program choice unit load_word_number (Word (Through (pos 6) 0)) (word_bytes value) value (omega arith) fits held_so (word-gives choice value small)
