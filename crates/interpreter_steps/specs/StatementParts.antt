-- Parts of statements that run no others.
use Rattle.std.specs.Prelude.{ℕ, ℤ, Bool, Option}
use Rattle.type_layout.specs.declared.definitions.TypeId.{TypeId}
use Rattle.type_layout.specs.declared.definitions.TypeDef.{TypeDef}
use Rattle.typed_tree.specs.declared.expressions.Variable.{Variable}
use Rattle.typed_tree.specs.declared.units.Program.{Program}
use Rattle.tp_meaning.specs.Trees.{Value, Ordinal}
use Rattle.tp_meaning.specs.Store.{disposed}
use Rattle.tp_meaning.specs.Programs.{Sort, definition, sort_in}
use Rattle.tp_meaning.specs.Outcomes.{Does, ◌>>=◌, ◌>>◌, give, found, looked, changed, printed}
use Rattle.tp_meaning.specs.Activations.{Reached, Activation, assigned}
use Rattle.tp_meaning.specs.Calls.{Flow, Next}
use Rattle.tp_meaning.specs.Standard.{number_assigned, field_text, text_of, size_freed}
use Rattle.tp_meaning.specs.Statements.{tested, numeral_or_error, counter}

-- a loop's variable gets a value
abbrev pub counted_at : Program → Activation → Variable → ℤ → Does (Unit {0})
counted_at p f variable low = counter p f variable >>= λ at. changed (assigned at (Ordinal low))

-- a loop begins at a first value of its variable, and its last value is given
abbrev pub begun_at : Program → Activation → Variable → TypeId → Bool → ℤ → ℤ → Does ℤ
begun_at program f variable ty checked first last = do
  low ← tested checked (definition (sort_in f.unit ty)) first
  high ← tested checked (definition (sort_in f.unit ty)) last
  at ← counter program f variable
  changed (assigned at (Ordinal low))
  give high

-- a number is stored that lies in the bounds of a type, where that is checked; and the number that a numeral tells
abbrev pub stored_within : Bool → Reached → Option TypeDef → ℤ → Does (Unit {0})
stored_within checked at ty z = tested checked ty z >>= λ w. changed (number_assigned at w)

abbrev pub numeral_stored : Bool → Reached → Option TypeDef → Option ℤ → Does (Unit {0})
numeral_stored checked at ty numeral = numeral_or_error numeral >>= stored_within checked at ty

-- a value is written in a field of a width
abbrev pub printed_in : Sort → Value → ℤ → Does (Unit {0})
printed_in sort v width = found (text_of (definition sort) v) >>= λ text. printed (field_text width text)

-- the block of an instance is freed
abbrev pub freed_at : Program → Reached → Does Flow
freed_at program at = do
  bytes ← looked (size_freed program at)
  changed (λ store. disposed store at.spot.object bytes)
  give Next
