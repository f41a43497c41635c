-- What is left to do of a run, as the meaning has it.
use Rattle.std.specs.Prelude.{◌≡◌, ℕ, ◌-◌, ℤ, pos, Bool, List, [], ◌∷◌, ◌++◌, length, take, map, Option, Some, None, Result, Ok, Err}
use Rattle.std.specs.Option.{option_map}
use Rattle.typed_tree.specs.declared.units.Program.{Program}
use Rattle.type_layout.specs.declared.definitions.TypeId.{TypeId}
use Rattle.type_layout.specs.declared.definitions.RoutineId.{RoutineId}
use Rattle.typed_tree.specs.declared.expressions.BinaryOp.{BinaryOp}
use Rattle.typed_tree.specs.declared.statements.Destructor.{Destructor}
use Rattle.typed_tree.specs.Expressions.{view_boxed, Expression, Place, Elements as Listed, Arguments, view_expr, view_place, view_elements, view_args}
use Rattle.typed_tree.specs.Statements.{Written, Taken, Statement, Arms, While, Repeat, view_stmt, view_stmts, view_arms, view_written, view_taken}
use Rattle.typed_tree.specs.type_fits.Fits.{stored_as}
use Rattle.common_values.specs.Sets.{with_range}
use Rattle.tp_meaning.specs.Trees.{Value, Ordinal, Block}
use Rattle.tp_meaning.specs.Store.{number_of}
use Rattle.tp_meaning.specs.Programs.{Sort, definition, sort_in, routine_key, class_key}
use Rattle.tp_meaning.specs.Outcomes.{State, Outcome, Done, Does, and_then, ◌>>=◌, ◌>>◌, give, stuck, found, known, spending, looked, changed, printed}
use Rattle.tp_meaning.specs.Operators.{is_true, unary, binary, decided, converted, ranged, element_of, spanned}
use Rattle.tp_meaning.specs.Activations.{Reached, Activation, loaded, length_held, assigned, copied}
use Rattle.tp_meaning.specs.Calls.{Flow, Next, Do, Runs}
use Rattle.tp_meaning.specs.Standard.{Operand, Given, Named, field_text, text_of}
use Rattle.tp_meaning.specs.Expressions.{Instance, value, place, elements, operands, called, called_by_class, called_through, unless, storage, field_at, instance_at}
use Rattle.tp_meaning.specs.Statements.{statement, statements, branches, number, condition, chosen, then_next, tested, counter, turn, turned, is_past, width_of, written, line_written, taken_as, read, line_read, halted, unless_nil, unmade_at, with_held}
use Rattle.tp_meaning.specs.Meaning.{run}
use Rattle.interpreter_store.specs.cell_store.Views.{view_value}
use Rattle.interpreter_store.specs.typed_cells.Sorts.{view_sort, view_reached}
use Rattle.interpreter_effects.specs.activations.Views.{view_activation, view_callee}
use Rattle.interpreter_effects.specs.standard_effects.Operands.{view_operand}
use Rattle.interpreter_steps.specs.declared.state.Over.{Over}
use Rattle.interpreter_steps.specs.declared.state.Over.TheVariants as over
use Rattle.interpreter_steps.specs.Running.{view_flow, view_instance, Ends}
use Rattle.interpreter_steps.specs.Places.{followed_to, indexed, performed}
use Rattle.interpreter_steps.specs.Entering.{new_instance, ended}
use Rattle.interpreter_steps.specs.StatementParts.{freed_at}
use Rattle.interpreter_steps.specs.declared.interpreter_frames.callable.Callable.{Callable}
use Rattle.interpreter_steps.specs.declared.interpreter_frames.callable.Callable.TheVariants as callable
use Rattle.interpreter_steps.specs.declared.interpreter_frames.frames.Counting.{Counting}
use Rattle.interpreter_steps.specs.declared.interpreter_frames.frames.OnValue.{OnValue}
use Rattle.interpreter_steps.specs.declared.interpreter_frames.frames.OnValue.TheVariants as on_value
use Rattle.interpreter_steps.specs.declared.interpreter_frames.frames.OnPlace.{OnPlace}
use Rattle.interpreter_steps.specs.declared.interpreter_frames.frames.OnPlace.TheVariants as on_place
use Rattle.interpreter_steps.specs.declared.interpreter_frames.frames.OnFlow.{OnFlow}
use Rattle.interpreter_steps.specs.declared.interpreter_frames.frames.OnFlow.TheVariants as on_flow
use Rattle.interpreter_steps.specs.declared.interpreter_frames.frames.Frame.{Frame}
use Rattle.interpreter_steps.specs.declared.interpreter_frames.frames.Frame.TheVariants as frame
use Rattle.interpreter_steps.specs.declared.interpreter_frames.frames.Next.{Next as NextStep}
use Rattle.interpreter_steps.specs.declared.interpreter_frames.frames.Next.TheVariants as next
use Rattle.interpreter_steps.specs.declared.interpreter_frames.frames.Step.{Step}
use Rattle.interpreter_steps.specs.declared.interpreter_frames.frames.Step.TheVariants as step
use Rattle.interpreter_steps.specs.declared.interpreter_frames.work.Work.{Work}

-- the rest of a run, by what it goes on with: a value, a place, or how a statement ended
pub record Rest : Type 0 where
  pub value : Value → Activation → Does Value
  pub place : Reached → Activation → Does Value
  pub flow : Flow → Activation → Does Value

-- a part of the run, and then the rest
abbrev pub with_value : Rest → Activation → Does Value → Does Value
with_value rest f go = go >>= λ v. rest.value v f

abbrev pub with_place : Rest → Activation → Does Reached → Does Value
with_place rest f go = go >>= λ at. rest.place at f

abbrev pub with_flow : Rest → Activation → Does Flow → Does Value
with_flow rest f go = go >>= λ flow. rest.flow flow f

-- ---- parts of expressions

-- an operator behind its left side
abbrev pub operated : Program → Activation → TypeId → BinaryOp → Value → Expression → Bool → Does Value
operated p f ty op v right early =
    unless (decided op early v) (value p (run p) f right >>= λ w. looked (binary op (stored_as (storage f ty)) v w))

-- a set behind the value of an element, and behind the first and the last value of a span
abbrev pub element_added : Program → Activation → Listed → List ℕ → Value → Does Value
element_added p f more set v = found (element_of v) >>= λ n. elements p (run p) f more (with_range set n n)

abbrev pub span_added : Program → Activation → Value → Listed → List ℕ → Value → Does Value
span_added p f first more set last = found (spanned set first last) >>= λ all. elements p (run p) f more all

abbrev pub span_begun : Program → Activation → Expression → Listed → List ℕ → Value → Does Value
span_begun p f last more set first = value p (run p) f last >>= λ v. span_added p f first more set v

-- the arguments that are left, behind one
abbrev pub arguments_behind : Program → Activation → Operand → Arguments → Does (List Operand)
arguments_behind p f one args = operands p (run p) f args >>= λ xs. give (one ∷ xs)

-- the length of a variable, where that is what is asked for, and something else otherwise
abbrev pub measured_at : Program → Runs → Activation → Option Place → Does Value → Does Value
measured_at p again f None other = other
measured_at p again f (Some from) other = place p again f from >>= λ at. looked (length_held at)

-- ---- parts of statements

-- what a value tells as a condition
abbrev pub holds : Value → Does Bool
holds v = found (number_of v) >>= λ z. give (is_true z)

-- the statement that a condition chooses
abbrev pub branched : Program → Activation → Statement → Statement → Value → Does Flow
branched p f first second v = holds v >>= λ b. chosen b (statement p (run p) f first) (statement p (run p) f second)

abbrev pub selected : Program → Activation → Arms → Statement → Value → Does Flow
selected p f arms other v = found (number_of v) >>= λ z. branches p (run p) f arms z (statement p (run p) f other)

-- a `while` behind the value of its condition, and a `repeat` behind its body and behind the value of its condition
abbrev pub while_turned : Program → Activation → Expression → Statement → Value → Does Flow
while_turned p f test body v =
    holds v >>= λ b. chosen b (spending (statement p (run p) f body >>= λ flow. then_next flow (run p (Do (While test body)) f))) (give Next)

abbrev pub until_turned : Program → Activation → Statement → Expression → Value → Does Flow
until_turned p f body test v = holds v >>= λ b. chosen b (give Next) (run p (Do (Repeat body test)) f)

abbrev pub repeat_followed : Program → Activation → Statement → Expression → Flow → Does Flow
repeat_followed p f body test flow =
    then_next flow (condition p (run p) f test >>= λ b. chosen b (give Next) (run p (Do (Repeat body test)) f))

-- the turns of a `for` between two values
abbrev pub counting_from : Program → Counting → Activation → ℤ → ℤ → Does Flow
counting_from p c f first last =
    chosen (is_past c.down first last) (give Next) do
      low ← tested c.checked (definition (sort_in f.unit c.ty)) first
      high ← tested c.checked (definition (sort_in f.unit c.ty)) last
      at ← counter p f c.variable
      changed (assigned at (Ordinal low))
      turn p (run p) f c.variable high c.down (view_stmt c.body.now.value) (statement p (run p) f (view_stmt c.body.now.value))

-- a `for` behind its first and behind its last value
abbrev pub counting_to : Program → Counting → Activation → ℤ → Value → Does Flow
counting_to p c f first v = found (number_of v) >>= λ last. counting_from p c f first last

abbrev pub counting_up : Program → Counting → Activation → Expression → Value → Does Flow
counting_up p c f to v = found (number_of v) >>= λ first. number p (run p) f to >>= λ last. counting_from p c f first last

-- a value whose width is known is written, and then the items behind it
abbrev pub printed_then : Program → Activation → Sort → Value → List Written → ℤ → Does (Unit {0})
printed_then p f sort v rest width = do
  text ← found (text_of (definition sort) v)
  printed (field_text width text)
  written p (run p) f rest

abbrev pub item_printed : Program → Activation → Sort → Value → List Written → Bool → ℤ → Does Flow
item_printed p f sort v rest line width = printed_then p f sort v rest width >> line_written line

-- the same behind the value of its width, and where the width comes next
abbrev pub wide_printed : Program → Activation → Sort → Value → List Written → Bool → Value → Does Flow
wide_printed p f sort item rest line v = (found (number_of v) >>= λ width. printed_then p f sort item rest width) >> line_written line

abbrev pub item_widened : Program → Activation → Sort → Value → Option Expression → List Written → Bool → Does Flow
item_widened p f sort v width rest line = (width_of p (run p) f width >>= λ width. printed_then p f sort v rest width) >> line_written line

abbrev pub all_written : Program → Activation → List Written → Bool → Does Flow
all_written p f items line = written p (run p) f items >> line_written line

abbrev pub all_read : Program → Activation → List Taken → Bool → Does Flow
all_read p f items line = read p (run p) f items >> line_read line

-- an item is read, and then those behind it
abbrev pub item_read : Program → Activation → Bool → TypeId → Reached → List Taken → Bool → Does Flow
item_read p f checked ty at rest line = (taken_as checked at (definition (sort_in f.unit ty)) >> read p (run p) f rest) >> line_read line

abbrev pub halted_by : Value → Does Flow
halted_by v = found (number_of v) >>= halted

-- the block to which a value leads is disposed of by a destructor, whose arguments come first
abbrev pub disposed_with : Program → Activation → Expression → Destructor → Arguments → Value → Does Flow
disposed_with p f pointer destructor args v = do
  found (unless_nil v)
  xs ← operands p (run p) f args
  unmade_at p (run p) f pointer destructor xs v

-- the activation behind the body of a `with`
abbrev pub released : Activation → Activation
released f = record f { withs = take (length f.withs - 1) f.withs }

-- ---- calls, once their arguments are known

abbrev pub called_named : Program → Activation → RoutineId → Instance → List Operand → Does Value
called_named p f routine instance xs = known (routine_key f.unit routine) >>= λ key. called p (run p) f key instance xs

-- the arguments of a method come behind its instance
abbrev pub called_on : Program → Activation → RoutineId → Instance → Arguments → Does Value
called_on p f routine instance args = operands p (run p) f args >>= λ xs. called_named p f routine instance xs

-- the constructor of a new block is called, to which a pointer is then given
abbrev pub constructed : Program → Activation → RoutineId → ℕ → Sort → List Operand → Does Value
constructed p f routine serial sort xs = do
  key ← known (routine_key f.unit routine)
  instance ← new_instance serial sort
  called p (run p) f key instance xs
  give (Block serial)

abbrev pub on_operands : Program → Rest → Callable → List Operand → Activation → Does Value
on_operands p rest (callable.Named routine instance) xs f = with_value rest f (called_named p f routine (view_instance instance) xs)
on_operands p rest (callable.OfClass at slot checked) xs f = with_value rest f (called_by_class p (run p) f (view_reached at) slot checked xs)
on_operands p rest (callable.Held at) xs f = with_value rest f (called_through p (run p) f (view_reached at) xs)
on_operands p rest (callable.Standard ty number) xs f = with_value rest f (performed p f ty number xs)
on_operands p rest (callable.Constructor routine serial sort) xs f = with_value rest f (constructed p f routine serial (view_sort sort) xs)
on_operands p rest (callable.Destructor pointer block destructor) xs f =
    with_flow rest f (unmade_at p (run p) f (view_expr pointer.now.value) destructor xs (view_value block))

-- the arguments that are left, and then the call
abbrev pub on_arguments : Program → Rest → Callable → List Operand → Activation → Does (List Operand) → Does Value
on_arguments p rest call front f go = go >>= λ xs. on_operands p rest call (front ++ xs) f

-- ---- frames

abbrev pub resumed_value : Program → Rest → OnValue → Value → Activation → Does Value
resumed_value p rest (on_value.Unary ty op) v f = with_value rest f (found (unary op (stored_as (storage f ty)) v))
resumed_value p rest (on_value.Left ty op right early) v f = with_value rest f (operated p f ty op v (view_expr right.now.value) early)
resumed_value p rest (on_value.Right ty op left) v f = with_value rest f (looked (binary op (stored_as (storage f ty)) (view_value left) v))
resumed_value p rest (on_value.Convert ty) v f = with_value rest f (found (converted (storage f ty) v))
resumed_value p rest (on_value.Range low high) v f = with_value rest f (found (ranged low high v))
resumed_value p rest (on_value.Element more set) v f = with_value rest f (element_added p f (view_elements more.now) set.items v)
resumed_value p rest (on_value.First last more set) v f = with_value rest f (span_begun p f (view_expr last.now) (view_elements more.now) set.items v)
resumed_value p rest (on_value.Last first more set) v f = with_value rest f (span_added p f (view_value first) (view_elements more.now) set.items v)
resumed_value p rest (on_value.Deref pointer) v f = with_place rest f (followed_to f (view_expr pointer.now.value) v)
resumed_value p rest (on_value.Index at checked) v f = with_place rest f (indexed (view_reached at) checked v)
resumed_value p rest (on_value.Argument sort more front call) v f =
    on_arguments p rest call (map view_operand front.items) f (arguments_behind p f (Given (view_sort sort) v) (view_args more.now))
resumed_value p rest (on_value.Made serial) v f = rest.value (Block serial) f
resumed_value p rest (on_value.Freed at) v f = with_flow rest f (freed_at p (view_reached at))
resumed_value p rest (on_value.Assign at) v f = with_flow rest f (changed (assigned (view_reached at) v) >> give Next)
resumed_value p rest on_value.Run v f = rest.flow Next f
resumed_value p rest (on_value.If taken other) v f = with_flow rest f (branched p f (view_stmt taken.now.value) (view_stmt other.now.value) v)
resumed_value p rest (on_value.While test body) v f = with_flow rest f (while_turned p f (view_expr test.now.value) (view_stmt body.now.value) v)
resumed_value p rest (on_value.Until body test) v f = with_flow rest f (until_turned p f (view_stmt body.now.value) (view_expr test.now.value) v)
resumed_value p rest (on_value.Case arms other) v f = with_flow rest f (selected p f (view_arms arms.now) (view_stmt other.now.value) v)
resumed_value p rest (on_value.From counting to) v f = with_flow rest f (counting_up p counting f (view_expr to.now.value) v)
resumed_value p rest (on_value.To counting first) v f = with_flow rest f (counting_to p counting f first v)
resumed_value p rest (on_value.Write sort width more line) v f =
    with_flow rest f (item_widened p f (view_sort sort) v (option_map view_boxed width.now) (map view_written more.now) line)
resumed_value p rest (on_value.Width sort item more line) v f =
    with_flow rest f (wide_printed p f (view_sort sort) (view_value item) (map view_written more.now) line v)
resumed_value p rest on_value.Halt v f = with_flow rest f (halted_by v)
resumed_value p rest (on_value.Unmake pointer destructor args) v f =
    with_flow rest f (disposed_with p f (view_expr pointer.now.value) destructor (view_args args.now) v)

abbrev pub resumed_place : Program → Rest → OnPlace → Reached → Activation → Does Value
resumed_place p rest on_place.Load at f = with_value rest f (looked (loaded at))
resumed_place p rest on_place.Length at f = with_value rest f (looked (length_held at))
resumed_place p rest (on_place.Indexed index checked) at f =
    with_place rest f (value p (run p) f (view_expr index.now.value) >>= λ v. indexed at checked v)
resumed_place p rest (on_place.Field number) at f = with_place rest f (field_at at number)
resumed_place p rest (on_place.Own routine own args) at f =
    with_value rest f (called_on p f routine (instance_at f (view_place own.now.value) at) (view_args args.now))
resumed_place p rest (on_place.OfClass slot checked args) at f = with_value rest f do
  xs ← operands p (run p) f (view_args args.now)
  called_by_class p (run p) f at slot checked xs
resumed_place p rest (on_place.Through args) at f = with_value rest f do
  xs ← operands p (run p) f (view_args args.now)
  called_through p (run p) f at xs
resumed_place p rest (on_place.Argument more front call) at f =
    on_arguments p rest call (map view_operand front.items) f (arguments_behind p f (Named at) (view_args more.now))
resumed_place p rest (on_place.AssignTo from) at f = with_flow rest f do
  v ← value p (run p) f (view_expr from.now.value)
  changed (assigned at v)
  give Next
resumed_place p rest (on_place.CopyTo from) at f = with_flow rest f do
  of ← place p (run p) f (view_place from.now.value)
  changed (copied at of.spot)
  give Next
resumed_place p rest (on_place.CopyFrom to) at f = with_flow rest f (changed (copied (view_reached to) at.spot) >> give Next)
resumed_place p rest (on_place.With body) at f = with_flow rest f (statement p (run p) (with_held f at) (view_stmt body.now.value))
resumed_place p rest (on_place.Read item more line) at f =
    with_flow rest f (item_read p f item.now.checked item.now.ty at (map view_taken more.now) line)

abbrev pub resumed_flow : Program → Rest → OnFlow → Flow → Activation → Does Value
resumed_flow p rest (on_flow.Block more) flow f = with_flow rest f (then_next flow (statements p (run p) f (view_stmts more.now)))
resumed_flow p rest (on_flow.While test body) flow f =
    with_flow rest f (then_next flow (run p (Do (While (view_expr test.now.value) (view_stmt body.now.value))) f))
resumed_flow p rest (on_flow.Repeat body test) flow f = with_flow rest f (repeat_followed p f (view_stmt body.now.value) (view_expr test.now.value) flow)
resumed_flow p rest (on_flow.Turn c last) flow f =
    with_flow rest f (then_next flow (turned p (run p) f c.variable last c.down (view_stmt c.body.now.value)))
resumed_flow p rest on_flow.With flow f = rest.flow flow (released f)
resumed_flow p rest (on_flow.Return back) flow f =
    with_value rest (view_activation back.value.caller) (ended (view_callee back.value.callee) back.value.first)

-- a frame, and the rest behind it
abbrev pub framed : Program → Rest → Frame → Rest
framed p rest (frame.Value one) = record { value = resumed_value p rest one; place = λ at f. stuck; flow = λ flow f. stuck }
framed p rest (frame.Place one) = record { value = λ v f. stuck; place = resumed_place p rest one; flow = λ flow f. stuck }
framed p rest (frame.Flow one) = record { value = λ v f. stuck; place = λ at f. stuck; flow = resumed_flow p rest one }

-- where nothing is left, a value is what the run gives
abbrev pub nothing_left : Rest
nothing_left = record { value = λ v f. give v; place = λ at f. stuck; flow = λ flow f. stuck }

-- frames, the last of which is the next, and the rest behind them
abbrev pub frames_over : Program → Rest → List Frame → Rest
frames_over p rest [] = rest
frames_over p rest (one ∷ more) = frames_over p (framed p rest one) more

abbrev pub rest_of : Program → Work → Rest
rest_of p work = frames_over p nothing_left work.frames.items

-- the rest that the last frame belonged to
abbrev pub popped : Program → Rest → Option Frame → Rest
popped p rest None = nothing_left
popped p rest (Some one) = framed p rest one

-- a part that runs in the current activation, and then what is left
abbrev pub then_value : Program → Work → (Activation → Does Value) → Does Value
then_value p work go = with_value (rest_of p work) (view_activation work.f) (go (view_activation work.f))

abbrev pub then_place : Program → Work → (Activation → Does Reached) → Does Value
then_place p work go = with_place (rest_of p work) (view_activation work.f) (go (view_activation work.f))

abbrev pub then_flow : Program → Work → (Activation → Does Flow) → Does Value
then_flow p work go = with_flow (rest_of p work) (view_activation work.f) (go (view_activation work.f))

-- ---- steps

abbrev pub next_of : Program → Rest → Activation → NextStep → Does Value
next_of p rest f (next.Evaluate e) = with_value rest f (value p (run p) f (view_expr e.now))
next_of p rest f (next.Locate e) = with_place rest f (place p (run p) f (view_place e.now))
next_of p rest f (next.Execute one) = with_flow rest f (statement p (run p) f (view_stmt one.now))
next_of p rest f (next.Value v) = rest.value (view_value v) f
next_of p rest f (next.Place at) = rest.place (view_reached at) f
next_of p rest f (next.Flow flow) = rest.flow (view_flow flow) f

-- a step leaves what gives the same outcome, or it ended the run as the outcome says
abbrev pub Goes : Program → Result NextStep Over → Work → State → Outcome Value → Type 0
Goes p (Ok one) work s o = o ≡ next_of p (rest_of p work) (view_activation work.f) one s
Goes p (Err over) work s o = Ends over s o

-- a step of the whole: it goes on so, or the run gave a value
abbrev pub Steps : Program → Result Step Over → Work → State → Outcome Value → Type 0
Steps p (Ok (step.Goes one)) work s o = o ≡ next_of p (rest_of p work) (view_activation work.f) one s
Steps p (Ok (step.Gave v)) work s o = o ≡ Done (view_value v) s
Steps p (Err over) work s o = Ends over s o
