-- Standard procedures, behind their arguments, which stand in slots one behind another; of a variable a far pointer stands there.
use Rattle.std.specs.Prelude.{ℕ, ◌+◌, ◌==◌, Bool, if◌then◌else◌, pos, List, [], ◌∷◌, Option, Some, None}
use Rattle.type_layout.specs.declared.definitions.Host.{Host}
use Rattle.type_layout.specs.Storage.{width_of}
use Rattle.flat_code.specs.declared.tree.Address.{Address}
use Rattle.flat_code.specs.declared.tree.Address.TheVariants.{Through}
use Rattle.flat_code.specs.Tree.{Expr, Number, Byte, Word, Op, Step, StoreByte, StoreWord, Code, ◌then◌}
use Rattle.runtime_units.specs.declared.numbers.numbers.RuntimeRoutine.{RuntimeRoutine}
use Rattle.runtime_units.specs.declared.numbers.numbers.RuntimeRoutine.TheVariants as routine
use Rattle.lower_values.specs.declared.forms.Form.{Form}
use Rattle.lower_values.specs.Nodes.{single, pair, number, runtime}
use Rattle.lower_values.specs.Forms.{form_bytes, slot_at, word_in, low_in, low_word, long_words, text_words}
use Rattle.lower_stmt.specs.Words.{computed}
use Rattle.lower_stmt.specs.Counters.{step_op}
use Rattle.lower_stmt.specs.Items.{kept_scratch}

-- what the far pointer in a slot leads to, some bytes on
abbrev pub through : ℕ → ℕ → ℕ → Address
through locals slot plus = Through (slot_at locals slot 4) plus

-- ---- Inc and Dec: by 1, or by the number in a slot

abbrev pub step_word : ℕ → Option Form → ℕ → Expr
step_word locals None slot = number (pos 1)
step_word locals (Some form) slot = low_word locals form slot

abbrev pub step_words : ℕ → Option Form → ℕ → Expr × Expr
step_words locals None slot = (number (pos 1), number (pos 0))
step_words locals (Some form) slot = long_words locals form slot

abbrev pub long_step : Bool → RuntimeRoutine
long_step down = if down then routine.Difference else routine.Sum

abbrev pub long_moved : ℕ → Option Form → Bool → ℕ → Step
long_moved locals by down slot =
    computed (long_step down) (Word (through locals slot 0) ∷ Word (through locals slot 2) ∷ (step_words locals by (slot + 4)).0 ∷ (step_words locals by (slot + 4)).1 ∷ []) (through locals slot 0) 4

abbrev pub word_moved : ℕ → ℕ → Option Form → Bool → ℕ → Step
word_moved locals width by down slot =
    if width == 1 then StoreByte (through locals slot 0) (Op (step_op down) (Byte (through locals slot 0)) (step_word locals by (slot + 4)))
    else StoreWord (through locals slot 0) (Op (step_op down) (Word (through locals slot 0)) (step_word locals by (slot + 4)))

abbrev pub moved : ℕ → Host → Option Form → Bool → ℕ → Code
moved locals host by down slot =
    if width_of host == 4 then single (long_moved locals by down slot) else single (word_moved locals (width_of host) by down slot)

-- ---- strings

abbrev pub deleted : ℕ → Form → Form → ℕ → Code
deleted locals place count slot =
    single (runtime routine.Delete (word_in locals slot ∷ low_in locals slot
    ∷ (long_words locals place (slot + 4)).0 ∷ (long_words locals place (slot + 4)).1
    ∷ (long_words locals count (slot + 4 + form_bytes place)).0 ∷ (long_words locals count (slot + 4 + form_bytes place)).1 ∷ []))

abbrev pub inserted : ℕ → Form → ℕ → Form → ℕ → Code
inserted locals part max place slot =
    single (runtime routine.Insert ((text_words locals part slot).0 ∷ (text_words locals part slot).1
    ∷ word_in locals (slot + form_bytes part) ∷ low_in locals (slot + form_bytes part)
    ∷ (long_words locals place (slot + form_bytes part + 4)).0 ∷ (long_words locals place (slot + form_bytes part + 4)).1 ∷ Number max ∷ []))

abbrev pub width_word : ℕ → Option Form → ℕ → Expr
width_word locals None slot = number (pos 0)
width_word locals (Some form) slot = low_word locals form slot

abbrev pub behind_width : Option Form → ℕ → ℕ
behind_width None slot = slot
behind_width (Some form) slot = slot + form_bytes form

abbrev pub told_to : ℕ → Form → Expr → ℕ → ℕ → ℕ → Code
told_to locals value width max slot to =
    single (runtime routine.Str (word_in locals to ∷ low_in locals to ∷ Number max ∷ (long_words locals value slot).0 ∷ (long_words locals value slot).1 ∷ width ∷ []))

abbrev pub told : ℕ → Form → Option Form → ℕ → ℕ → Code
told locals value width max slot =
    told_to locals value (width_word locals width (slot + form_bytes value)) max slot (behind_width width (slot + form_bytes value))

abbrev pub valued : ℕ → RuntimeRoutine → Form → ℕ → Address → ℕ → Step
valued locals routine text bytes scratch slot = computed routine ((text_words locals text slot).0 ∷ (text_words locals text slot).1 ∷ []) scratch bytes

-- the value, and then the place of the fault, above which stands a word 0
abbrev pub val_stored : ℕ → Form → Host → Host → Address → Address → ℕ → Code
val_stored locals text host place scratch above slot =
    pair (valued locals routine.ValValue text 4 scratch slot) (kept_scratch (width_of host) scratch (through locals (slot + form_bytes text) 0))
    then (pair (valued locals routine.ValPlace text 2 scratch slot) (StoreWord above (number (pos 0)))
    then single (kept_scratch (width_of place) scratch (through locals (slot + form_bytes text + 4) 0)))
