-- Expressions and statements do the same in activations that are alike, in two programs whose units are seen alike.
use Rattle.std.proofs.Common.{◌≡◌, ◌==◌, ℕ, ℤ, ◌+ℤ◌, Bool, if◌then◌else◌, List, [], ◌∷◌, map, Option, Some, None, Ok, Err, zero, nat_lt, ◌++◌, refl, ap, ◌∙◌}
use Rattle.std.specs.Prelude.{pos}
use Rattle.std.specs.List.{list_any}
use Rattle.std.specs.Option.{option_map}
use Rattle.std.specs.Ordering.{int_eq}
use Rattle.tp_check_decl.specs.type_layout.declared.definitions.TypeId.{TypeId}
use Rattle.tp_check_decl.specs.type_layout.declared.definitions.RoutineId.{RoutineId}
use Rattle.tp_check_decl.specs.typed_tree.declared.expressions.Variable.{Variable}
use Rattle.tp_check_decl.specs.typed_tree.declared.statements.Destructor.{Destructor}
use Rattle.tp_check_decl.specs.typed_tree.declared.statements.Destructor.TheVariants as destructor
use Rattle.tp_check_decl.specs.typed_tree.declared.units.Program.{Program}
use Rattle.tp_check_decl.specs.typed_tree.Expressions.{Expression, Const, RoutineValue, Load, Unary, Binary, Convert, Range, SetOf, Call, CallVirtual, CallThrough, Std, Make, Place, Var, Deref, Index, FieldOf, Receiver, NoReceiver, Own, Elements as Listed, NoElements, One, Span, Arguments, NoArguments, ByValue, ByPlace, type_of}
use Rattle.tp_check_decl.specs.typed_tree.Standard as routine
use Rattle.tp_check_decl.specs.typed_tree.Statements.{Written, Taken, Statement, Assign, CopyAll, Run, If, While, Repeat, Block as Listing, Case, For, With, WriteItems, ReadItems, Halt, Exit, Unmake, Statements, NoStatements, Then, Arms, NoArms, Branch}
use Rattle.tp_meaning.specs.common_values.Sets.{with_range}
use Rattle.tp_meaning.specs.common_values.Blocks.{block_sum}
use Rattle.tp_check_decl.specs.typed_tree.type_fits.Fits.{stored_as}
use Rattle.tp_check_decl.specs.Units.{view_unit}
use Rattle.tp_meaning.specs.Trees.{Key, Value, Ordinal, Text, Block, Code, unset}
use Rattle.tp_meaning.specs.Found as finding
use Rattle.tp_meaning.specs.Found.{Error}
use Rattle.tp_meaning.specs.Shapes.{parts_at, class_place}
use Rattle.tp_meaning.specs.Store.{Store, next_serial, followed, number_of, replaced, disposed}
use Rattle.tp_meaning.specs.Programs.{routine_key, Sort, definition, sort_in, class_key, is_overlay}
use Rattle.tp_meaning.specs.Outcomes.{Does, ◌>>=◌, ◌>>◌, give, found, known, spending, looked, changed, printed}
use Rattle.tp_meaning.specs.Operators.{unary, binary, decided, converted, ranged, is_true, element_of, spanned}
use Rattle.tp_meaning.specs.Activations.{Reached, Activation, whole, loaded, length_held, held_routine, class_at, assigned, copied, number_in}
use Rattle.tp_meaning.specs.Calls.{Flow, Next, Task, Do, Turns, Runs, method_of, dispatched_by, dispatched_in, is_file, installed_if, overlay_called}
use Rattle.tp_meaning.specs.Standard.{Operand, Given, Named, handed, Standard, SizeOf, New, standard, Effect, Gives, Changes, Makes, Asks, effect_of, target, made, within_heap, made_for, with_new_block, instance_size, size_freed, size_by, size_of_variable, place_given, new_of, number_assigned, field_text, text_of}
use Rattle.tp_meaning.specs.Expressions.{sort_of, storage, field_at, element_in, Instance, class_for, instance_at, called, called_by_class, called_through, block_made, effect_done, standard_done, unless, value, measured, place, receiver, elements, operands}
use Rattle.tp_meaning.specs.Statements.{then_next, chosen, number, condition, covers, tested, width_of, written, line_written, taken_as, read, line_read, counter, is_past, step, counted, turned, turn, unless_nil, destructor_of, freed, unmade_at, unmade, halted, with_held, statement, statements, branches, task}
use Rattle.address_independence.proofs.congruence.Units.{unit_as, heap_alike, file_alike, class_alike, size_alike}
use Rattle.address_independence.proofs.congruence.Activations.{IsAlike, RunAlike, self_alike, variable_alike, entered_alike}

-- ---- what names lead to in a unit

module _ (f g : Activation) (a : IsAlike f g) where
  sort_alike : (ty : TypeId) → sort_in f.unit ty ≡ sort_in g.unit ty
  sort_alike ty i = sort_in (unit_as (a.unit i) f.unit.routines) ty

  key_alike : (routine : RoutineId) → routine_key f.unit routine ≡ routine_key g.unit routine
  key_alike routine i = routine_key (unit_as (a.unit i) f.unit.routines) routine

  storage_alike : (ty : TypeId) → storage f ty ≡ storage g ty
  storage_alike ty i = definition (sort_alike ty i)

  sort_of_alike : (e : Expression) → sort_of f e ≡ sort_of g e
  sort_of_alike e i = known (type_of e) >>= λ ty. give (sort_alike ty i)

  class_for_alike : (own : Place) (sort : Sort) → class_for f own sort ≡ class_for g own sort
  class_for_alike (Var variable) sort = λ i. if self_alike f g a variable i then None else class_key sort
  class_for_alike (Deref pointer) sort = refl
  class_for_alike (Index of index checked) sort = refl
  class_for_alike (FieldOf of number) sort = refl

  instance_alike : (own : Place) (at : Reached) → instance_at f own at ≡ instance_at g own at
  instance_alike own at i = record { own = Some at.spot; class = class_for_alike own at.sort i }

  with_alike : (at : Reached) → IsAlike (with_held f at) (with_held g at)
  with_alike at = record { unit = a.unit; levels = a.levels; withs = λ i. a.withs i ++ at ∷ []; sum = a.sum }

-- ---- two programs

module _ (p q : Program) (units : map view_unit p.units ≡ map view_unit q.units) (start : p.start ≡ q.start) where
  -- ---- classes and the heap

  dispatched_alike : (slot : ℕ) (checked : Bool) (class : Option Key) → dispatched_by p slot checked class ≡ dispatched_by q slot checked class
  dispatched_alike slot checked None = refl
  dispatched_alike slot checked (Some class) = λ i. dispatched_in slot (class_alike p q units start class i)

  method_alike : (at : Reached) (slot : ℕ) (checked : Bool) → method_of p at slot checked ≡ method_of q at slot checked
  method_alike at slot checked i = looked (class_at at) >>= λ class. dispatched_alike slot checked class i

  within_heap_alike : (store : Store) → within_heap p store ≡ within_heap q store
  within_heap_alike store i = if nat_lt (heap_alike p q units start i) (block_sum store.rows) then Err (Error 203) else Ok store

  made_alike : (sort : Sort) (store : Store) → made p sort store ≡ made q sort store
  made_alike sort store = within_heap_alike (with_new_block store sort)

  made_for_alike : (at : Reached) (store : Store) → made_for p at store ≡ made_for q at store
  made_for_alike at store i = finding.◌>>=◌ (target at.sort) (λ sort. finding.◌>>=◌ (made_alike sort store i) (assigned at (Block (next_serial store))))

  instance_size_alike : (class : Option Key) → instance_size p class ≡ instance_size q class
  instance_size_alike None = refl
  instance_size_alike (Some class) = λ i. finding.known (size_alike p q units start class i)

  freed_alike : (at : Reached) (store : Store) → size_freed p at store ≡ size_freed q at store
  freed_alike at store i = finding.◌>>=◌ (class_at at store) (λ class. instance_size_alike class i)

  size_by_alike : (at : Reached) (place : Option ℕ) (store : Store) → size_by p at place store ≡ size_by q at place store
  size_by_alike at None store = refl
  size_by_alike at (Some place) store = freed_alike at store

  size_of_alike : (at : Reached) (store : Store) → size_of_variable p at store ≡ size_of_variable q at store
  size_of_alike at store i = finding.◌>>=◌ (size_by_alike at (class_place (parts_at at.sort.table.types at.sort.ty)) store i) (λ bytes. Ok (Ordinal (pos bytes)))

  -- ---- standard routines

  new_alike : (result : Option Sort) (args : List Operand) → new_of p result args ≡ new_of q result args
  new_alike (Some pointer) [] = refl
  new_alike (Some pointer) (one ∷ args) = λ i. Changes (λ store. finding.◌>>=◌ (place_given (one ∷ args) 0) (λ at. made_for_alike at store i))
  new_alike None args = λ i. Changes (λ store. finding.◌>>=◌ (place_given args 0) (λ at. made_for_alike at store i))

  effect_alike : (one : Standard) (result : Option Sort) (args : List Operand) → effect_of p one result args ≡ effect_of q one result args
  effect_alike SizeOf result args = λ i. Gives (λ store. finding.◌>>=◌ (place_given args 0) (λ at. size_of_alike at store i))
  effect_alike New result args = new_alike result args
  effect_alike other result args = refl

  block_made_alike : (sort : Sort) → block_made p sort ≡ block_made q sort
  block_made_alike sort i = do
    serial ← looked (λ store. Ok (next_serial store))
    changed (λ store. made_alike sort store i)
    give serial

  done_alike : (effect : Effect) → effect_done p effect ≡ effect_done q effect
  done_alike (Gives look) = refl
  done_alike (Changes change) = refl
  done_alike (Makes pointer) = λ i. (found (target pointer) >>= λ sort. block_made_alike sort i) >>= λ serial. give (Block serial)
  done_alike (Asks look) = refl

  standard_alike : (result result' : Option Sort) → result ≡ result' → (args : List Operand) (one : Standard) → standard_done p result args one ≡ standard_done q result' args one
  standard_alike result result' same args one =
      ap (λ (r : Option Sort). effect_done p (effect_of p one r args)) same ∙ ap (effect_done p) (effect_alike one result' args) ∙ done_alike (effect_of q one result' args)

  -- ---- the unit Overlay

  overlay_alike : (number : ℕ) (args : List Value) → overlay_called p number args ≡ overlay_called q number args
  overlay_alike zero (Text name ∷ []) = λ i. installed_if (is_file (file_alike p q units start i) name)
  overlay_alike number args = refl

  -- ---- calls

  module _ (again again' : Runs) (runs : RunAlike again again') where
    called_alike : (f g : Activation) → IsAlike f g → (key : Key) (instance : Instance) (args : List Operand) → called p again f key instance args ≡ called q again' g key instance args
    called_alike f g a key instance args i =
        if is_overlay key.unit then overlay_alike key.number (map handed args) i
        else spending (entered_alike p q units start f g a again again' runs key instance.own instance.class (map handed args) i)

    called_by_class_alike : (f g : Activation) → IsAlike f g → (at : Reached) (slot : ℕ) (checked : Bool) (args : List Operand) → called_by_class p again f at slot checked args ≡ called_by_class q again' g at slot checked args
    called_by_class_alike f g a at slot checked args i = spending do
      key ← method_alike at slot checked i
      entered_alike p q units start f g a again again' runs key (Some at.spot) None (map handed args) i

    called_through_alike : (f g : Activation) → IsAlike f g → (at : Reached) (args : List Operand) → called_through p again f at args ≡ called_through q again' g at args
    called_through_alike f g a at args i = spending do
      key ← looked (held_routine at)
      entered_alike p q units start f g a again again' runs key None None (map handed args) i

    -- ---- expressions

    mutual
      value_alike : (f g : Activation) → IsAlike f g → (e : Expression) → value p again f e ≡ value q again' g e
      value_alike f g a (Const ty v) = refl
      value_alike f g a (RoutineValue ty routine) = λ i. known (key_alike f g a routine i) >>= λ key. give (Code key)
      value_alike f g a (Load ty from) = λ i. place_alike f g a from i >>= λ at. looked (loaded at)
      value_alike f g a (Unary ty op operand) = λ i. do
        v ← value_alike f g a operand i
        found (unary op (stored_as (storage_alike f g a ty i)) v)
      value_alike f g a (Binary ty op left right early) = λ i. do
        x ← value_alike f g a left i
        unless (decided op early x) (value_alike f g a right i >>= λ y. looked (binary op (stored_as (storage_alike f g a ty i)) x y))
      value_alike f g a (Convert ty operand) = λ i. do
        v ← value_alike f g a operand i
        found (converted (storage_alike f g a ty i) v)
      value_alike f g a (Range ty operand low high) = λ i. do
        v ← value_alike f g a operand i
        found (ranged low high v)
      value_alike f g a (SetOf ty listed) = elements_alike f g a listed []
      value_alike f g a (Call ty routine own args) = λ i. do
        instance ← receiver_alike f g a own i
        xs ← operands_alike f g a args i
        key ← known (key_alike f g a routine i)
        called_alike f g a key instance xs i
      value_alike f g a (CallVirtual ty own slot checked args) = λ i. do
        at ← place_alike f g a own i
        xs ← operands_alike f g a args i
        called_by_class_alike f g a at slot checked xs i
      value_alike f g a (CallThrough ty through args) = λ i. do
        at ← place_alike f g a through i
        xs ← operands_alike f g a args i
        called_through_alike f g a at xs i
      value_alike f g a (Std ty number args) = measured_alike f g a number args (λ i. do
        xs ← operands_alike f g a args i
        one ← known (standard number)
        standard_alike (option_map (sort_in f.unit) ty) (option_map (sort_in g.unit) ty) (λ j. option_map (sort_in (unit_as (a.unit j) f.unit.routines)) ty) xs one i)
      value_alike f g a (Make ty routine args) = λ i. do
        sort ← found (target (sort_alike f g a ty i))
        serial ← block_made_alike sort i
        xs ← operands_alike f g a args i
        key ← known (key_alike f g a routine i)
        class ← known (class_key sort)
        called_alike f g a key (record { own = Some (whole serial); class = Some class }) xs i
        give (Block serial)

      measured_alike : (f g : Activation) → IsAlike f g → (number : ℕ) (args : Arguments) {other other' : Does Value} → other ≡ other' → measured p again f number args other ≡ measured q again' g number args other'
      measured_alike f g a number (ByValue (Load ty from) NoArguments) same = λ i. if number == routine.length then (place_alike f g a from i >>= λ at. looked (length_held at)) else same i
      measured_alike f g a number args same = same

      place_alike : (f g : Activation) → IsAlike f g → (e : Place) → place p again f e ≡ place q again' g e
      place_alike f g a (Var variable) = λ i. looked (variable_alike p q units start f g a variable i)
      place_alike f g a (Deref pointer) = λ i. do
        v ← value_alike f g a pointer i
        serial ← looked (λ store. followed store v)
        sort ← sort_of_alike f g a pointer i
        to ← found (target sort)
        give (record { spot = whole serial; sort = to })
      place_alike f g a (Index of index checked) = λ i. do
        at ← place_alike f g a of i
        v ← value_alike f g a index i
        z ← found (number_of v)
        element_in at checked z (definition at.sort)
      place_alike f g a (FieldOf of number) = λ i. place_alike f g a of i >>= λ at. field_at at number

      receiver_alike : (f g : Activation) → IsAlike f g → (own : Receiver) → receiver p again f own ≡ receiver q again' g own
      receiver_alike f g a NoReceiver = refl
      receiver_alike f g a (Own own) = λ i. place_alike f g a own i >>= λ at. give (instance_alike f g a own at i)

      elements_alike : (f g : Activation) → IsAlike f g → (listed : Listed) (set : List ℕ) → elements p again f listed set ≡ elements q again' g listed set
      elements_alike f g a NoElements set = refl
      elements_alike f g a (One one rest) set = λ i. do
        v ← value_alike f g a one i
        n ← found (element_of v)
        elements_alike f g a rest (with_range set n n) i
      elements_alike f g a (Span low high rest) set = λ i. do
        v ← value_alike f g a low i
        w ← value_alike f g a high i
        more ← found (spanned set v w)
        elements_alike f g a rest more i

      operands_alike : (f g : Activation) → IsAlike f g → (args : Arguments) → operands p again f args ≡ operands q again' g args
      operands_alike f g a NoArguments = refl
      operands_alike f g a (ByValue one rest) = λ i. do
        sort ← sort_of_alike f g a one i
        v ← value_alike f g a one i
        xs ← operands_alike f g a rest i
        give (Given sort v ∷ xs)
      operands_alike f g a (ByPlace one rest) = λ i. do
        at ← place_alike f g a one i
        xs ← operands_alike f g a rest i
        give (Named at ∷ xs)

    -- ---- parts of statements

    module _ (f g : Activation) (a : IsAlike f g) where
      number_alike : (e : Expression) → number p again f e ≡ number q again' g e
      number_alike e i = value_alike f g a e i >>= λ v. found (number_of v)

      condition_alike : (e : Expression) → condition p again f e ≡ condition q again' g e
      condition_alike e i = number_alike e i >>= λ z. give (is_true z)

      width_alike : (width : Option Expression) → width_of p again f width ≡ width_of q again' g width
      width_alike None = refl
      width_alike (Some width) = number_alike width

      written_alike : (items : List Written) → written p again f items ≡ written q again' g items
      written_alike [] = refl
      written_alike (item ∷ items) = λ i. do
        sort ← sort_of_alike f g a item.value i
        v ← value_alike f g a item.value i
        width ← width_alike item.width i
        text ← found (text_of (definition sort) v)
        printed (field_text width text)
        written_alike items i

      read_alike : (items : List Taken) → read p again f items ≡ read q again' g items
      read_alike [] = refl
      read_alike (item ∷ items) = λ i. do
        at ← place_alike f g a item.at i
        taken_as item.checked at (definition (sort_alike f g a item.ty i))
        read_alike items i

      counter_alike : (variable : Variable) → counter p f variable ≡ counter q g variable
      counter_alike variable i = looked (variable_alike p q units start f g a variable i)

      counted_alike : (variable : Variable) → counted p f variable ≡ counted q g variable
      counted_alike variable i = do
        at ← counter_alike variable i
        changed (λ store. replaced store at.spot unset)
        give Next

      turned_alike : (variable : Variable) (last : ℤ) (down : Bool) (body : Statement) → turned p again f variable last down body ≡ turned q again' g variable last down body
      turned_alike variable last down body i = do
        at ← counter_alike variable i
        z ← looked (number_in at)
        chosen (int_eq z last) (counted_alike variable i) (changed (number_assigned at (z +ℤ step down)) >> runs (Turns variable last down body) f g a i)

      turn_alike : (variable : Variable) (last : ℤ) (down : Bool) (body : Statement) (go go' : Does Flow) → go ≡ go' → turn p again f variable last down body go ≡ turn q again' g variable last down body go'
      turn_alike variable last down body go go' same i = spending (same i >>= λ flow. then_next flow (turned_alike variable last down body i))

      destructor_alike : (at : Reached) (with : Destructor) → destructor_of p f at with ≡ destructor_of q g at with
      destructor_alike at (destructor.Routine routine) = λ i. known (key_alike f g a routine i)
      destructor_alike at (destructor.Slot slot checked) = method_alike at slot checked

      freed_by_alike : (with : Destructor) (args : List Operand) (serial : ℕ) (at : Reached) → freed p again f with args serial at ≡ freed q again' g with args serial at
      freed_by_alike with args serial at i = do
        spending (destructor_alike at with i >>= λ key. entered_alike p q units start f g a again again' runs key (Some at.spot) None (map handed args) i)
        bytes ← looked (λ store. freed_alike at store i)
        changed (λ store. disposed store serial bytes)
        give Next

      unmade_at_alike : (pointer : Expression) (with : Destructor) (args : List Operand) (v : Value) → unmade_at p again f pointer with args v ≡ unmade_at q again' g pointer with args v
      unmade_at_alike pointer with args v i = do
        serial ← looked (λ store. followed store v)
        sort ← sort_of_alike f g a pointer i
        to ← found (target sort)
        freed_by_alike with args serial (record { spot = whole serial; sort = to }) i

      unmade_alike : (pointer : Expression) (with : Destructor) (args : Arguments) → unmade p again f pointer with args ≡ unmade q again' g pointer with args
      unmade_alike pointer with args i = do
        v ← value_alike f g a pointer i
        found (unless_nil v)
        xs ← operands_alike f g a args i
        unmade_at_alike pointer with xs v i

    -- ---- statements

    mutual
      statement_alike : (f g : Activation) → IsAlike f g → (e : Statement) → statement p again f e ≡ statement q again' g e
      statement_alike f g a (Assign to from) = λ i. do
        at ← place_alike f g a to i
        v ← value_alike f g a from i
        changed (assigned at v)
        give Next
      statement_alike f g a (CopyAll to from) = λ i. do
        at ← place_alike f g a to i
        of ← place_alike f g a from i
        changed (copied at of.spot)
        give Next
      statement_alike f g a (Run call) = λ i. value_alike f g a call i >> give Next
      statement_alike f g a (If test taken other) = λ i. do
        b ← condition_alike f g a test i
        chosen b (statement_alike f g a taken i) (statement_alike f g a other i)
      statement_alike f g a (While test body) = λ i. do
        b ← condition_alike f g a test i
        chosen b (spending (statement_alike f g a body i >>= λ flow. then_next flow (runs (Do (While test body)) f g a i))) (give Next)
      statement_alike f g a (Repeat body test) = λ i. spending do
        flow ← statement_alike f g a body i
        then_next flow (condition_alike f g a test i >>= λ b. chosen b (give Next) (runs (Do (Repeat body test)) f g a i))
      statement_alike f g a (Listing parts) = statements_alike f g a parts
      statement_alike f g a (Case selector arms other) = λ i. do
        z ← number_alike f g a selector i
        branches_alike f g a arms z (statement p again f other) (statement q again' g other) (statement_alike f g a other) i
      statement_alike f g a (For variable ty from to down checked body) = λ i. do
        first ← number_alike f g a from i
        last ← number_alike f g a to i
        chosen (is_past down first last) (give Next) do
          low ← tested checked (definition (sort_alike f g a ty i)) first
          high ← tested checked (definition (sort_alike f g a ty i)) last
          at ← counter_alike f g a variable i
          changed (assigned at (Ordinal low))
          turn_alike f g a variable high down body (statement p again f body) (statement q again' g body) (statement_alike f g a body) i
      statement_alike f g a (With of body) = λ i. do
        at ← place_alike f g a of i
        statement_alike (with_held f at) (with_held g at) (with_alike f g a at) body i
      statement_alike f g a (WriteItems items line) = λ i. written_alike f g a items i >> line_written line
      statement_alike f g a (ReadItems items line) = λ i. read_alike f g a items i >> line_read line
      statement_alike f g a (Halt code) = λ i. number_alike f g a code i >>= halted
      statement_alike f g a Exit = refl
      statement_alike f g a (Unmake pointer with args) = unmade_alike f g a pointer with args

      statements_alike : (f g : Activation) → IsAlike f g → (e : Statements) → statements p again f e ≡ statements q again' g e
      statements_alike f g a NoStatements = refl
      statements_alike f g a (Then one rest) = λ i. statement_alike f g a one i >>= λ flow. then_next flow (statements_alike f g a rest i)

      branches_alike : (f g : Activation) → IsAlike f g → (arms : Arms) (z : ℤ) (other other' : Does Flow) → other ≡ other' → branches p again f arms z other ≡ branches q again' g arms z other'
      branches_alike f g a NoArms z other other' same = same
      branches_alike f g a (Branch labels body rest) z other other' same = λ i. chosen (list_any (covers z) labels) (statement_alike f g a body i) (branches_alike f g a rest z other other' same i)

    pub task_alike : (t : Task) (f g : Activation) → IsAlike f g → task p again t f ≡ task q again' t g
    task_alike (Do one) f g a = statement_alike f g a one
    task_alike (Turns variable last down body) f g a = turn_alike f g a variable last down body (statement p again f body) (statement q again' g body) (statement_alike f g a body)
