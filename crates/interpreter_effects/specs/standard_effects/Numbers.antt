-- The standard functions and procedures, by their kinds.
use Rattle.std.specs.Prelude.{◌%◌, ◌==◌, ℤ, pos, ◌+ℤ◌, ◌-ℤ◌, ◌*ℤ◌, neg_ℤ, unsigned_abs, List, Ok}
use Rattle.common_values.specs.integers.Words.{w8, word_of, low_byte, high_byte}
use Rattle.typed_tree.specs.declared.units.Program.{Program}
use Rattle.interpreter_effects.specs.declared.standard_effects.functions.Kept.{Kept}
use Rattle.interpreter_effects.specs.declared.standard_effects.functions.Kept.TheVariants as kept
use Rattle.interpreter_effects.specs.declared.standard_effects.functions.Plain.{Plain}
use Rattle.interpreter_effects.specs.declared.standard_effects.functions.Plain.TheVariants as plain
use Rattle.interpreter_effects.specs.declared.standard_effects.functions.Texts.{Texts}
use Rattle.interpreter_effects.specs.declared.standard_effects.functions.Texts.TheVariants as texts
use Rattle.interpreter_effects.specs.declared.standard_effects.changes.Change.{Change}
use Rattle.interpreter_effects.specs.declared.standard_effects.changes.Change.TheVariants as change
use Rattle.common_values.specs.Strings.{upper}
use Rattle.tp_meaning.specs.Trees.{Value, Text}
use Rattle.tp_meaning.specs.Found.{Found, ◌>>=◌}
use Rattle.tp_meaning.specs.Store.{Store}
use Rattle.tp_meaning.specs.Operators.{truth_number}
use Rattle.tp_meaning.specs.Standard.{Operand, value_arg, value_given, number_given, place_given, text_assigned, size_of_variable, low_word, swapped, length_of, copy_of, position_in, all_joined, moving, deleting, inserting, telling, valuing, disposing}

-- what is kept of it is the function's result
abbrev pub kept_of : Kept → ℤ → ℤ
kept_of kept.Abs z = pos (unsigned_abs z)
kept_of kept.Sqr z = z *ℤ z
kept_of kept.Succ z = z +ℤ pos 1
kept_of kept.Pred z = z -ℤ pos 1
kept_of kept.Swap z = pos (swapped (low_word z))

abbrev pub plain_of : Plain → ℤ → ℤ
plain_of plain.Odd z = truth_number (word_of w8 z % 2 == 1)
plain_of plain.Ord z = z
plain_of plain.Chr z = pos (word_of w8 z)
plain_of plain.Hi z = pos (high_byte (low_word z))
plain_of plain.Lo z = pos (low_byte (low_word z))
plain_of plain.UpCase z = pos (upper (word_of w8 z))

-- the functions of texts
abbrev pub texts_of : Texts → List Operand → Found Value
texts_of texts.Length args = length_of args
texts_of texts.Copy args = copy_of args
texts_of texts.Concat args = all_joined args >>= λ text. Ok (Text text)
texts_of texts.Pos args = position_in args

-- Str without a width, and with one
abbrev pub telling_plain : List Operand → Store → Found Store
telling_plain args store = value_given args 0 >>= λ x. place_given args 1 >>= λ at. text_assigned at x.0 x.1 (pos 0) store

abbrev pub telling_wide : List Operand → Store → Found Store
telling_wide args store = value_given args 0 >>= λ x. number_given args 1 >>= λ width. place_given args 2 >>= λ at. text_assigned at x.0 x.1 width store

-- the procedures that change a variable or dispose of a block
abbrev pub change_of : Change → List Operand → Store → Found Store
change_of change.Inc args = moving (λ by. by) args
change_of change.Dec args = moving neg_ℤ args
change_of change.Delete args = deleting args
change_of change.Insert args = inserting args
change_of change.Str args = telling args
change_of change.Val args = valuing args
change_of change.Dispose args = disposing args

-- the value of an argument
abbrev pub value_only : Operand → Found Value
value_only one = value_arg one >>= λ x. Ok x.1

-- the size of the variable that the first argument names
abbrev pub size_at : Program → List Operand → Store → Found Value
size_at program args store = place_given args 0 >>= λ at. size_of_variable program at store
