-- What expressions and places mean. Parts are evaluated from left to right, and a call's instance or variable before its
-- arguments.
use Rattle.std.specs.Prelude.{ℕ, Bool, true, false, ◌==◌, if◌then◌else◌, ℤ, pos, ◌-ℤ◌, unsigned_abs, List, [], ◌∷◌, map, Option, Some, None, Ok}
use Rattle.std.specs.Option.{option_map}
use Rattle.type_layout.specs.declared.definitions.TypeId.{TypeId}
use Rattle.type_layout.specs.declared.definitions.TypeDef.{TypeDef}
use Rattle.type_layout.specs.declared.definitions.TypeDef.TheVariants as type
use Rattle.type_layout.specs.Layouts.{bounds_at}
use Rattle.typed_tree.specs.declared.expressions.Value.{Value as Constant}
use Rattle.typed_tree.specs.declared.expressions.Value.TheVariants as constant
use Rattle.typed_tree.specs.declared.units.Program.{Program}
use Rattle.typed_tree.specs.Expressions.{Expression, Const, RoutineValue, Load, Unary, Binary, Convert, Range, SetOf, Call, CallVirtual, CallThrough, Std, Make, Place, Var, Deref, Index, FieldOf, Receiver, NoReceiver, Own, Elements as Listed, NoElements, One, Span, Arguments, NoArguments, ByValue, ByPlace, type_of}
use Rattle.common_values.specs.Sets.{with_range}
use Rattle.typed_tree.specs.Standard as routine
use Rattle.typed_tree.specs.type_fits.Fits.{stored_as, field_type}
use Rattle.tp_meaning.specs.Trees.{Key, Spot, Value, Ordinal, Text, Elements, Nil, Block, Code, Void}
use Rattle.tp_meaning.specs.Shapes.{parts_at, field_place}
use Rattle.tp_meaning.specs.Store.{next_serial, followed, number_of}
use Rattle.tp_meaning.specs.Programs.{routine_key, Sort, definition, beside, sort_in, class_key, is_overlay, char_sort}
use Rattle.tp_meaning.specs.Outcomes.{Does, ◌>>=◌, ◌>>◌, give, raised, undefined, stuck, found, known, spending, looked, changed, ahead}
use Rattle.tp_meaning.specs.Operators.{unary, binary, decided, converted, ranged, is_between, element_of, spanned}
use Rattle.tp_meaning.specs.Activations.{Reached, Activation, whole, inside, variable_at, is_self, loaded, length_held, held_routine}
use Rattle.tp_meaning.specs.Calls.{Runs, entered, method_of, overlay_called}
use Rattle.tp_meaning.specs.Standard.{Operand, Given, Named, handed, Standard, standard, Effect, Gives, Changes, Makes, Asks, effect_of, target, made}

-- ---- constants, pointers, fields and elements

abbrev pub constant_value : Constant → Value
constant_value (constant.Number z) = Ordinal z
constant_value (constant.Chars bytes) = Text bytes
constant_value constant.Nil = Nil
constant_value (constant.Elements elements) = Elements elements

-- the type that an expression has in its unit
abbrev pub sort_of : Activation → Expression → Does Sort
sort_of f e = known (type_of e) >>= λ ty. give (sort_in f.unit ty)

-- what is stored as a value of a type of the unit
abbrev pub storage : Activation → TypeId → Option TypeDef
storage f ty = definition (sort_in f.unit ty)

abbrev pub field_of : Reached → ℕ → Option TypeId → Does Reached
field_of at number None = stuck
field_of at number (Some ty) =
    give (record { spot = inside at.spot (field_place (parts_at at.sort.table.types at.sort.ty) number); sort = beside at.sort ty })

-- a field of a record or an object, those of ancestors counted first
abbrev pub field_at : Reached → ℕ → Does Reached
field_at at number = field_of at number (field_type at.sort.table.types at.sort.ty number)

-- outside its bounds an index is error 201 where it is checked
abbrev pub outside : Bool → Does Reached
outside true = raised 201
outside false = undefined 3

abbrev pub element_between : Reached → ℤ × ℤ → Sort → Bool → ℤ → Does Reached
element_between at bounds sort checked z =
    if is_between bounds.0 bounds.1 z then give (record { spot = inside at.spot (unsigned_abs (z -ℤ bounds.0)); sort = sort }) else outside checked

abbrev pub element_in : Reached → Bool → ℤ → Option TypeDef → Does Reached
element_in at checked z (Some (type.ArrayOf index element)) = element_between at (bounds_at at.sort.table.types index) (beside at.sort element) checked z
element_in at checked z (Some (type.Str max)) = element_between at (pos 0, pos max) char_sort checked z
element_in at checked z _ = stuck

-- ---- calls

-- the instance of a method, and the class that a constructor gives it
pub record Instance : Type 0 where
  pub own : Option Spot
  pub class : Option Key

abbrev pub no_instance : Instance
no_instance = record { own = None; class = None }

-- A constructor gives an instance the type of its place. Of Self the class stays as it is.
abbrev pub class_for : Activation → Place → Sort → Option Key
class_for f (Var variable) sort = if is_self f variable then None else class_key sort
class_for f at sort = class_key sort

abbrev pub instance_at : Activation → Place → Reached → Instance
instance_at f at of = record { own = Some of.spot; class = class_for f at of.sort }

-- a call of a routine of the sources spends a turn
abbrev pub called : Program → Runs → Activation → Key → Instance → List Operand → Does Value
called program again f key instance args =
    if is_overlay key.unit then overlay_called program key.number (map handed args)
    else spending (entered program again f key instance.own instance.class (map handed args))

-- a call by class
abbrev pub called_by_class : Program → Runs → Activation → Reached → ℕ → Bool → List Operand → Does Value
called_by_class program again f at slot checked args = spending do
  key ← method_of program at slot checked
  entered program again f key (Some at.spot) None (map handed args)

-- the routine that a variable holds is known behind the arguments
abbrev pub called_through : Program → Runs → Activation → Reached → List Operand → Does Value
called_through program again f at args = spending do
  key ← looked (held_routine at)
  entered program again f key None None (map handed args)

-- a new block for what a pointer type points to
abbrev pub block_made : Program → Sort → Does ℕ
block_made program sort = do
  serial ← looked (λ store. Ok (next_serial store))
  changed (made program sort)
  give serial

abbrev pub effect_done : Program → Effect → Does Value
effect_done program (Gives look) = looked look
effect_done program (Changes change) = changed change >> give Void
effect_done program (Makes pointer) = found (target pointer) >>= block_made program >>= λ serial. give (Block serial)
effect_done program (Asks look) = ahead look

-- a standard routine with a result of this type, if it has one
abbrev pub standard_done : Program → Option Sort → List Operand → Standard → Does Value
standard_done program result args one = effect_done program (effect_of program one result args)

-- the right side, unless the left one decides
abbrev pub unless : Option Value → Does Value → Does Value
unless (Some v) go = give v
unless None go = go

-- ---- the meaning of each form

abbrev mutual
  pub value : Program → Runs → Activation → Expression → Does Value
  value program again f (Const ty v) = give (constant_value v)
  value program again f (RoutineValue ty routine) = known (routine_key f.unit routine) >>= λ key. give (Code key)
  value program again f (Load ty from) = place program again f from >>= λ at. looked (loaded at)
  value program again f (Unary ty op operand) = do
    v ← value program again f operand
    found (unary op (stored_as (storage f ty)) v)
  value program again f (Binary ty op left right early) = do
    a ← value program again f left
    unless (decided op early a) (value program again f right >>= λ b. looked (binary op (stored_as (storage f ty)) a b))
  value program again f (Convert ty operand) = do
    v ← value program again f operand
    found (converted (storage f ty) v)
  value program again f (Range ty operand low high) = do
    v ← value program again f operand
    found (ranged low high v)
  value program again f (SetOf ty listed) = elements program again f listed []
  value program again f (Call ty routine own args) = do
    instance ← receiver program again f own
    xs ← operands program again f args
    key ← known (routine_key f.unit routine)
    called program again f key instance xs
  value program again f (CallVirtual ty own slot checked args) = do
    at ← place program again f own
    xs ← operands program again f args
    called_by_class program again f at slot checked xs
  value program again f (CallThrough ty through args) = do
    at ← place program again f through
    xs ← operands program again f args
    called_through program again f at xs
  value program again f (Std ty number args) = measured program again f number args do
    xs ← operands program again f args
    one ← known (standard number)
    standard_done program (option_map (sort_in f.unit) ty) xs one
  value program again f (Make ty routine args) = do
    sort ← found (target (sort_in f.unit ty))
    serial ← block_made program sort
    xs ← operands program again f args
    key ← known (routine_key f.unit routine)
    class ← known (class_key sort)
    called program again f key (record { own = Some (whole serial); class = Some class }) xs
    give (Block serial)

  -- Length of a variable reads the length of its text alone
  pub measured : Program → Runs → Activation → ℕ → Arguments → Does Value → Does Value
  measured program again f number (ByValue (Load ty from) NoArguments) other =
      if number == routine.length then (place program again f from >>= λ at. looked (length_held at)) else other
  measured program again f number args other = other

  pub place : Program → Runs → Activation → Place → Does Reached
  place program again f (Var variable) = looked (variable_at program f variable)
  place program again f (Deref pointer) = do
    v ← value program again f pointer
    serial ← looked (λ store. followed store v)
    sort ← sort_of f pointer
    to ← found (target sort)
    give (record { spot = whole serial; sort = to })
  place program again f (Index of index checked) = do
    at ← place program again f of
    v ← value program again f index
    z ← found (number_of v)
    element_in at checked z (definition at.sort)
  place program again f (FieldOf of number) = place program again f of >>= λ at. field_at at number

  pub receiver : Program → Runs → Activation → Receiver → Does Instance
  receiver program again f NoReceiver = give no_instance
  receiver program again f (Own own) = place program again f own >>= λ at. give (instance_at f own at)

  -- the set that holds the elements before, and those that are listed
  pub elements : Program → Runs → Activation → Listed → List ℕ → Does Value
  elements program again f NoElements set = give (Elements set)
  elements program again f (One one rest) set = do
    v ← value program again f one
    n ← found (element_of v)
    elements program again f rest (with_range set n n)
  elements program again f (Span low high rest) set = do
    v ← value program again f low
    w ← value program again f high
    more ← found (spanned set v w)
    elements program again f rest more

  pub operands : Program → Runs → Activation → Arguments → Does (List Operand)
  operands program again f NoArguments = give []
  operands program again f (ByValue one rest) = do
    sort ← sort_of f one
    v ← value program again f one
    xs ← operands program again f rest
    give (Given sort v ∷ xs)
  operands program again f (ByPlace one rest) = do
    at ← place program again f one
    xs ← operands program again f rest
    give (Named at ∷ xs)
