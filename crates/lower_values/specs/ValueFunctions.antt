-- Standard functions, behind their arguments.
use Rattle.std.specs.Prelude.{ℕ, ◌==◌, ◌||◌, if◌then◌else◌, Bool, List, [], ◌∷◌}
use Rattle.type_layout.specs.declared.definitions.Host.{Host}
use Rattle.type_layout.specs.declared.definitions.TypeDef.{TypeDef}
use Rattle.typed_tree.specs.Standard as standard
use Rattle.typed_tree.specs.Expressions.{Expression}
use Rattle.flat_code.specs.declared.tree.FlatOp.TheVariants as op
use Rattle.flat_code.specs.Tree.{Expr, Number, Op, Code, End, ◌then◌}
use Rattle.runtime_units.specs.declared.numbers.numbers.RuntimeRoutine.{RuntimeRoutine}
use Rattle.runtime_units.specs.declared.numbers.numbers.RuntimeRoutine.TheVariants as routine
use Rattle.lower_values.specs.declared.forms.Form.{Form}
use Rattle.lower_values.specs.declared.forms.Form.TheVariants as form
use Rattle.lower_values.specs.Nodes.{single, pair, kept, is_signed, with_result, set, when}
use Rattle.lower_values.specs.Forms.{form_of, slot_at, word_in, low_in, low_word, two_longs}
use Rattle.lower_values.specs.Conversions.{fitted}
use Rattle.lower_values.specs.LongOperators.{long_result, long_negation}
use Rattle.lower_values.specs.TextFunctions.{length_of}

-- ---- functions of a number

abbrev pub absolute_word : ℕ → Host → ℕ → Code
absolute_word locals host slot =
    if is_signed host
    then when (Op op.Less (word_in locals slot) (Number 0)) (single (set (slot_at locals slot 2) (kept host (Op op.Sub (Number 0) (word_in locals slot))))) End
    else End

abbrev pub word_function : ℕ → ℕ → ℕ → Expr
word_function locals number slot =
    if number == standard.sqr then Op op.Mul (word_in locals slot) (word_in locals slot)
    else (if number == standard.succ then Op op.Add (word_in locals slot) (Number 1) else Op op.Sub (word_in locals slot) (Number 1))

abbrev pub of_word : ℕ → ℕ → Host → ℕ → Code
of_word locals number host slot =
    if number == standard.abs then absolute_word locals host slot
    else single (set (slot_at locals slot 2) (kept host (word_function locals number slot)))

abbrev pub absolute_long : ℕ → ℕ → Code
absolute_long locals slot = when (Op op.Less (word_in locals slot) (Number 0)) (long_negation locals slot) End

-- a routine of the runtime on a LongInt and 1
abbrev pub with_one : ℕ → RuntimeRoutine → ℕ → Code
with_one locals routine slot = long_result locals routine (low_in locals slot ∷ word_in locals slot ∷ Number 1 ∷ Number 0 ∷ []) slot

abbrev pub of_long : ℕ → ℕ → ℕ → Code
of_long locals number slot =
    if number == standard.abs then absolute_long locals slot
    else (if number == standard.sqr then long_result locals routine.Product (two_longs locals slot slot) slot
    else (if number == standard.succ then with_one locals routine.Sum slot else with_one locals routine.Difference slot))

-- by how the result lies
abbrev pub of_number_in : ℕ → ℕ → Form → ℕ → Code
of_number_in locals number (form.Word host) slot = of_word locals number host slot
of_number_in locals number _ slot = of_long locals number slot

abbrev pub of_number : ℕ → ℕ → Form → ℕ → Code
of_number locals number stored slot = if number == standard.ord then End else of_number_in locals number stored slot

-- ---- functions of the low word of a number

abbrev pub swapped : Expr → Expr
swapped word = Op op.Or (Op op.Shl word (Number 8)) (Op op.Shr word (Number 8))

abbrev pub word_of : ℕ → Expr → Expr
word_of number low =
    if number == standard.odd then Op op.And low (Number 1)
    else (if number == standard.chr || number == standard.lo then Op op.And low (Number 255)
    else (if number == standard.hi then Op op.Shr low (Number 8) else swapped low))

-- a word that is no negative number goes to a slot
abbrev pub given_word : ℕ → Expr → Form → ℕ → Code
given_word locals value (form.Word host) slot = single (set (slot_at locals slot 2) (kept host value))
given_word locals value _ slot = pair (set (slot_at locals slot 4) value) (set (slot_at locals slot 2) (Number 0))

abbrev pub of_low_word : ℕ → ℕ → Form → Form → ℕ → Code
of_low_word locals number form stored slot = given_word locals (word_of number (low_word locals form slot)) stored slot

-- ---- the others

-- a routine of the runtime without arguments gives a word to a slot
abbrev pub asked : ℕ → RuntimeRoutine → ℕ → Code
asked locals routine slot = single (with_result routine [] (slot_at locals slot 2) 2)

abbrev pub upper : ℕ → ℕ → Code
upper locals slot = single (with_result routine.UpCase (word_in locals slot ∷ []) (slot_at locals slot 2) 2)

abbrev pub is_of_low_word : ℕ → Bool
is_of_low_word number = number == standard.odd || (number == standard.chr || (number == standard.hi || (number == standard.lo || number == standard.swap)))

-- a function of one ordinal or string
abbrev pub of_value_in : ℕ → ℕ → Form → Form → ℕ → Code
of_value_in locals number form stored slot =
    if number == standard.up_case then upper locals slot
    else (if number == standard.length then length_of locals form slot
    else (if is_of_low_word number then of_low_word locals number form stored slot
    else fitted locals form stored slot then of_number locals number stored slot))

abbrev pub of_value : ℕ → List TypeDef → ℕ → Expression → Form → ℕ → Code
of_value locals types number value stored slot = of_value_in locals number (form_of types value) stored slot
