-- What standard procedures ask of their arguments.
use Rattle.std.specs.Prelude.{ℕ, ◌==◌, Bool, false, ◌&&◌, ◌||◌, cond, List, [], ◌∷◌, Option, Some, None}
use Rattle.typed_tree.specs.Standard as routine
use Rattle.call_rules.specs.declared.standard_rules.signatures.Want.TheVariants.{Integer, Text}
use Rattle.call_rules.specs.declared.procedure_rules.rows.Slot.{Slot}
use Rattle.call_rules.specs.declared.procedure_rules.rows.Slot.TheVariants.{Value, Pointer, Ordinal, Whole, Line, Link}
use Rattle.call_rules.specs.declared.procedure_rules.rows.Slots.{Slots}
use Rattle.call_rules.specs.declared.procedure_rules.rows.Slots.TheVariants.{One, Pair, Triple}

-- The standard procedures by their numbers, once for each count of arguments. Str, whose first argument may have a width, has a
-- judgement of its own; Write, WriteLn, Read, ReadLn, Halt and Exit are statements of their own; New and Dispose with a constructor
-- or a destructor have rules of their own.
unfoldable pub rows : List (ℕ × Slots)
rows =
    (routine.inc, One Ordinal) ∷ (routine.inc, Pair Ordinal (Value Integer)) ∷
    (routine.dec, One Ordinal) ∷ (routine.dec, Pair Ordinal (Value Integer)) ∷
    (routine.delete, Triple Line (Value Integer) (Value Integer)) ∷
    (routine.insert, Triple (Value Text) Line (Value Integer)) ∷
    (routine.val, Triple (Value Text) Whole Whole) ∷
    (routine.new, One Link) ∷ (routine.dispose, One Pointer) ∷
    []

-- in order
abbrev pub listed : Slots → List Slot
listed (One a) = a ∷ []
listed (Pair a b) = a ∷ (b ∷ [])
listed (Triple a b c) = a ∷ (b ∷ (c ∷ []))

abbrev pub count_of : Slots → ℕ
count_of (One a) = 1
count_of (Pair a b) = 2
count_of (Triple a b c) = 3

-- the slots of the first row with a number and so many arguments
abbrev pub slots_in : List (ℕ × Slots) → ℕ → ℕ → Option Slots
slots_in [] number count = None
slots_in (row ∷ all) number count = cond (row.0 == number && count_of row.1 == count) (Some row.1) (slots_in all number count)

abbrev pub slots_of : ℕ → ℕ → Option Slots
slots_of number count = slots_in rows number count

-- all standard procedures by their numbers, also those that have no row
unfoldable pub procedures : List ℕ
procedures =
    routine.inc ∷ routine.dec ∷ routine.delete ∷ routine.insert ∷ routine.str ∷ routine.val ∷
    routine.write ∷ routine.write_ln ∷ routine.read ∷ routine.read_ln ∷
    routine.new ∷ routine.dispose ∷ routine.halt ∷ routine.exit ∷
    []

abbrev pub is_listed : List ℕ → ℕ → Bool
is_listed [] number = false
is_listed (one ∷ all) number = one == number || is_listed all number

-- whether a standard routine is a procedure
abbrev pub is_procedure : ℕ → Bool
is_procedure number = is_listed procedures number
