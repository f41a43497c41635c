-- What statements mean.
use Rattle.std.specs.Prelude.{ℕ, Bool, true, false, if◌then◌else◌, ℤ, pos, negsuc, ◌+ℤ◌, int_lt, List, [], ◌∷◌, ◌++◌, map, Option, Some, None, Ok, Err}
use Rattle.std.specs.List.{list_any}
use Rattle.std.specs.Ordering.{int_eq}
use Rattle.common_values.specs.behaviour.Seen.{Ended}
use Rattle.common_values.specs.integers.Words.{w8, word_of}
use Rattle.type_layout.specs.declared.definitions.Host.{Host}
use Rattle.type_layout.specs.declared.definitions.Host.TheVariants as host
use Rattle.type_layout.specs.declared.definitions.TypeDef.{TypeDef}
use Rattle.type_layout.specs.declared.definitions.TypeDef.TheVariants as type
use Rattle.type_layout.specs.Layouts.{bounds_of}
use Rattle.typed_tree.specs.declared.expressions.Variable.{Variable}
use Rattle.typed_tree.specs.declared.statements.LabelRange.{LabelRange}
use Rattle.typed_tree.specs.declared.statements.Destructor.{Destructor}
use Rattle.typed_tree.specs.declared.statements.Destructor.TheVariants as destructor
use Rattle.typed_tree.specs.declared.units.Program.{Program}
use Rattle.typed_tree.specs.Expressions.{Expression, Arguments}
use Rattle.typed_tree.specs.Statements.{Written, Taken, Statement, Assign, CopyAll, Run, If, While, Repeat, Block, Case, For, With, WriteItems, ReadItems, Halt, Exit, Unmake, Statements, NoStatements, Then, Arms, NoArms, Branch}
use Rattle.common_values.specs.Written.{line_end}
use Rattle.common_values.specs.Input.{char_read, string_read, number_read, after_line}
use Rattle.tp_meaning.specs.Trees.{Key, Value, Ordinal, Text, Nil, unset}
use Rattle.tp_meaning.specs.Found.{Found, Error}
use Rattle.tp_meaning.specs.Store.{followed, number_of, replaced, disposed}
use Rattle.tp_meaning.specs.Programs.{definition, sort_in, routine_key}
use Rattle.tp_meaning.specs.Outcomes.{Over, Does, ◌>>=◌, ◌>>◌, give, raised, stuck, found, known, spending, looked, changed, printed, taking}
use Rattle.tp_meaning.specs.Operators.{is_true, within, is_between}
use Rattle.tp_meaning.specs.Activations.{Reached, Activation, whole, variable_at, assigned, copied, number_in}
use Rattle.tp_meaning.specs.Calls.{Flow, Next, Left, Task, Do, Turns, Runs, entered, method_of}
use Rattle.tp_meaning.specs.Standard.{Operand, handed, field_text, text_of, number_assigned, target, size_freed}
use Rattle.tp_meaning.specs.Expressions.{value, place, operands, sort_of}

-- ---- parts

-- the next statement, unless the routine is left
abbrev pub then_next : Flow → Does Flow → Does Flow
then_next Next go = go
then_next Left go = give Left

abbrev pub chosen : Bool → Does Flow → Does Flow → Does Flow
chosen true taken other = taken
chosen false taken other = other

abbrev pub number : Program → Runs → Activation → Expression → Does ℤ
number program again f e = value program again f e >>= λ v. found (number_of v)

abbrev pub condition : Program → Runs → Activation → Expression → Does Bool
condition program again f e = number program again f e >>= λ z. give (is_true z)

abbrev pub covers : ℤ → LabelRange → Bool
covers z label = is_between label.low label.high z

-- under range checks a value must lie in the bounds of a type
abbrev pub tested : Bool → Option TypeDef → ℤ → Does ℤ
tested true ty z = found (within (bounds_of ty).0 (bounds_of ty).1 z)
tested false ty z = give z

-- ---- Write and Read: one item after another

abbrev pub width_of : Program → Runs → Activation → Option Expression → Does ℤ
width_of program again f None = give (pos 0)
width_of program again f (Some width) = number program again f width

-- an item and its width are evaluated, and then it is written
abbrev pub written : Program → Runs → Activation → List Written → Does (Unit {0})
written program again f [] = give tt
written program again f (item ∷ items) = do
  sort ← sort_of f item.value
  v ← value program again f item.value
  width ← width_of program again f item.width
  text ← found (text_of (definition sort) v)
  printed (field_text width text)
  written program again f items

abbrev pub line_written : Bool → Does Flow
line_written true = printed line_end >> give Next
line_written false = give Next

-- error 106 where the input has no numeral
abbrev pub numeral_or_error : Option ℤ → Does ℤ
numeral_or_error None = raised 106
numeral_or_error (Some z) = give z

abbrev pub number_taken : Bool → Reached → Option TypeDef → Does (Unit {0})
number_taken checked at ty = do
  numeral ← taking number_read
  z ← numeral_or_error numeral
  w ← tested checked ty z
  changed (number_assigned at w)

abbrev pub char_taken : Reached → Does (Unit {0})
char_taken at = taking char_read >>= λ byte. changed (assigned at (Ordinal (pos byte)))

abbrev pub text_taken : Reached → ℕ → Does (Unit {0})
text_taken at size = taking (string_read size) >>= λ text. changed (assigned at (Text text))

abbrev pub ordinal_taken : Bool → Reached → Host → Option TypeDef → Does (Unit {0})
ordinal_taken checked at host.ShortInt ty = number_taken checked at ty
ordinal_taken checked at host.Byte ty = number_taken checked at ty
ordinal_taken checked at host.Integer ty = number_taken checked at ty
ordinal_taken checked at host.Word ty = number_taken checked at ty
ordinal_taken checked at host.LongInt ty = number_taken checked at ty
ordinal_taken checked at host.Char ty = char_taken at
ordinal_taken checked at host.Boolean ty = stuck
ordinal_taken checked at host.Enumeration ty = stuck

-- a place is filled by its type
abbrev pub taken_as : Bool → Reached → Option TypeDef → Does (Unit {0})
taken_as checked at (Some (type.Ordinal h low high)) = ordinal_taken checked at h (Some (type.Ordinal h low high))
taken_as checked at (Some (type.Str max)) = text_taken at max
taken_as checked at _ = stuck

-- a place is evaluated, and then it is filled
abbrev pub read : Program → Runs → Activation → List Taken → Does (Unit {0})
read program again f [] = give tt
read program again f (item ∷ items) = do
  at ← place program again f item.at
  taken_as item.checked at (definition (sort_in f.unit item.ty))
  read program again f items

abbrev pub line_read : Bool → Does Flow
line_read true = taking (λ input. (Next, after_line input))
line_read false = give Next

-- ---- loops

-- the variable of a `for`
abbrev pub counter : Program → Activation → Variable → Does Reached
counter program f variable = looked (variable_at program f variable)

abbrev pub is_past : Bool → ℤ → ℤ → Bool
is_past false first last = int_lt last first
is_past true first last = int_lt first last

abbrev pub step : Bool → ℤ
step false = pos 1
step true = negsuc 0

-- behind the last turn of a `for` its variable is unset
abbrev pub counted : Program → Activation → Variable → Does Flow
counted program f variable = do
  at ← counter program f variable
  changed (λ store. replaced store at.spot unset)
  give Next

-- the end of a turn: the variable is compared with the last value, and then it is stepped
abbrev pub turned : Program → Runs → Activation → Variable → ℤ → Bool → Statement → Does Flow
turned program again f variable last down body = do
  at ← counter program f variable
  z ← looked (number_in at)
  chosen (int_eq z last) (counted program f variable)
      (changed (number_assigned at (z +ℤ step down)) >> again (Turns variable last down body) f)

-- a turn of a `for`, whose body does this
abbrev pub turn : Program → Runs → Activation → Variable → ℤ → Bool → Statement → Does Flow → Does Flow
turn program again f variable last down body go = spending (go >>= λ flow. then_next flow (turned program again f variable last down body))

-- ---- Dispose with a destructor

-- error 204 for nil
abbrev pub unless_nil : Value → Found (Unit {0})
unless_nil Nil = Err (Error 204)
unless_nil v = Ok tt

abbrev pub destructor_of : Program → Activation → Reached → Destructor → Does Key
destructor_of program f at (destructor.Routine routine) = known (routine_key f.unit routine)
destructor_of program f at (destructor.Slot slot checked) = method_of program at slot checked

-- the destructor is called, and then the size of the class that the instance has is freed
abbrev pub freed : Program → Runs → Activation → Destructor → List Operand → ℕ → Reached → Does Flow
freed program again f with args serial at = do
  spending (destructor_of program f at with >>= λ key. entered program again f key (Some at.spot) None (map handed args))
  bytes ← looked (size_freed program at)
  changed (λ store. disposed store serial bytes)
  give Next

-- the block to which a pointer leads is freed so
abbrev pub unmade_at : Program → Runs → Activation → Expression → Destructor → List Operand → Value → Does Flow
unmade_at program again f pointer with args v = do
  serial ← looked (λ store. followed store v)
  sort ← sort_of f pointer
  to ← found (target sort)
  freed program again f with args serial (record { spot = whole serial; sort = to })

-- the pointer is followed behind the arguments
abbrev pub unmade : Program → Runs → Activation → Expression → Destructor → Arguments → Does Flow
unmade program again f pointer with args = do
  v ← value program again f pointer
  found (unless_nil v)
  xs ← operands program again f args
  unmade_at program again f pointer with xs v

-- ---- the meaning of each form

abbrev pub halted : ℤ → Does Flow
halted z s = Over (Ended (word_of w8 z)) s

-- inside a `with` over a place
abbrev pub with_held : Activation → Reached → Activation
with_held f at = record f { withs = f.withs ++ at ∷ [] }

abbrev mutual
  pub statement : Program → Runs → Activation → Statement → Does Flow
  statement program again f (Assign to from) = do
    at ← place program again f to
    v ← value program again f from
    changed (assigned at v)
    give Next
  statement program again f (CopyAll to from) = do
    at ← place program again f to
    of ← place program again f from
    changed (copied at of.spot)
    give Next
  statement program again f (Run call) = value program again f call >> give Next
  statement program again f (If test taken other) = do
    b ← condition program again f test
    chosen b (statement program again f taken) (statement program again f other)
  statement program again f (While test body) = do
    b ← condition program again f test
    chosen b (spending (statement program again f body >>= λ flow. then_next flow (again (Do (While test body)) f))) (give Next)
  statement program again f (Repeat body test) = spending do
    flow ← statement program again f body
    then_next flow (condition program again f test >>= λ b. chosen b (give Next) (again (Do (Repeat body test)) f))
  statement program again f (Block parts) = statements program again f parts
  statement program again f (Case selector arms other) = do
    z ← number program again f selector
    branches program again f arms z (statement program again f other)
  statement program again f (For variable ty from to down checked body) = do
    first ← number program again f from
    last ← number program again f to
    chosen (is_past down first last) (give Next) do
      low ← tested checked (definition (sort_in f.unit ty)) first
      high ← tested checked (definition (sort_in f.unit ty)) last
      at ← counter program f variable
      changed (assigned at (Ordinal low))
      turn program again f variable high down body (statement program again f body)
  statement program again f (With of body) = do
    at ← place program again f of
    statement program again (with_held f at) body
  statement program again f (WriteItems items line) = written program again f items >> line_written line
  statement program again f (ReadItems items line) = read program again f items >> line_read line
  statement program again f (Halt code) = number program again f code >>= halted
  statement program again f Exit = give Left
  statement program again f (Unmake pointer with args) = unmade program again f pointer with args

  pub statements : Program → Runs → Activation → Statements → Does Flow
  statements program again f NoStatements = give Next
  statements program again f (Then one rest) = statement program again f one >>= λ flow. then_next flow (statements program again f rest)

  -- the first branch that has a label for the value
  pub branches : Program → Runs → Activation → Arms → ℤ → Does Flow → Does Flow
  branches program again f NoArms z other = other
  branches program again f (Branch labels body rest) z other =
      chosen (list_any (covers z) labels) (statement program again f body) (branches program again f rest z other)

-- what a task does, where `again` is what tasks do with fewer turns
abbrev pub task : Program → Runs → Task → Activation → Does Flow
task program again (Do one) f = statement program again f one
task program again (Turns variable last down body) f = turn program again f variable last down body (statement program again f body)
