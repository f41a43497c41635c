-- Calls, expressions and places with more turns.
use Rattle.std.proofs.Common.{ℕ, zero, suc, ◌&&◌, ◌==◌, Bool, true, false, List, [], ◌∷◌, Option, Some, None}
use Rattle.std.specs.Prelude.{ℤ, pos, negsuc, map, not, length, Ok}
use Rattle.std.specs.Option.{option_map}
use Rattle.type_layout.specs.declared.definitions.TypeId.{TypeId}
use Rattle.type_layout.specs.declared.definitions.TypeDef.{TypeDef}
use Rattle.type_layout.specs.declared.definitions.TypeDef.TheVariants as type
use Rattle.type_layout.specs.Layouts.{bounds_at}
use Rattle.typed_tree.specs.declared.units.Program.{Program}
use Rattle.typed_tree.specs.Statements.{view_stmt}
use Rattle.typed_tree.specs.Expressions.{Expression, Const, RoutineValue, Load, Unary, Binary, Convert, Range, SetOf, Call, CallVirtual, CallThrough, Std, Make, Place, Var, Deref, Index, FieldOf, Receiver, NoReceiver, Own, Elements as Listed, NoElements, One, Span, Arguments, NoArguments, ByValue, ByPlace, type_of}
use Rattle.common_values.specs.Sets.{with_range}
use Rattle.typed_tree.specs.type_fits.Fits.{stored_as, field_type}
use Rattle.typed_tree.specs.type_fits.Routines.{variables_of}
use Rattle.typed_tree.specs.Standard as routine
use Rattle.tp_meaning.specs.Trees.{Key, Spot, Value, Ordinal, Text, Elements, Block, Code, Void}
use Rattle.tp_meaning.specs.Shapes.{parts_at, field_place}
use Rattle.tp_meaning.specs.Store.{next_serial, followed, number_of, without}
use Rattle.tp_meaning.specs.Programs.{routine_key, Sort, definition, beside, sort_in, class_key, is_overlay, is_overlaid, char_sort, class_sort, method_in}
use Rattle.tp_meaning.specs.Outcomes.{Does}
use Rattle.tp_meaning.specs.Operators.{unary, binary, decided, converted, ranged, is_between, element_of, spanned}
use Rattle.tp_meaning.specs.Activations.{Reached, Activation, Callee, callee_of, whole, inside, variable_at, loaded, length_held, held_routine, opened, class_set, class_at, levels_around, result_of, assigned}
use Rattle.tp_meaning.specs.Calls.{Task, Do, Runs, activation_of, activated, is_too_deep, entered, without_class, with_method, dispatched_in, dispatched_by, method_of, with_overlay_result, overlay_variable, installed_if, is_file, overlay_called}
use Rattle.tp_meaning.specs.Programs.{overlay_file}
use Rattle.tp_meaning.specs.Standard.{Operand, Given, Named, handed, standard, Effect, Gives, Changes, Makes, Asks, effect_of, target, made}
use Rattle.tp_meaning.specs.Expressions.{constant_value, sort_of, storage, field_of, outside, element_between, element_in, Instance, no_instance, instance_at, called, called_by_class, called_through, effect_done, block_made, unless, value, measured, place, receiver, elements, operands}
use Rattle.tp_meaning.proofs.Turns.{Like, like_bind, like_then, like_spending, like_give, like_stuck, like_undefined, like_raised, like_found, like_known, like_raised_if, like_looked, like_changed, like_ahead, like_is_installed, like_install, like_if}

-- tasks are alike in each activation
abbrev pub Alike : ℕ → ℕ → ℕ → Runs → Runs → Type 0
Alike k m n A B = (one : Task) (f : Activation) → Like k m n (A one f) (B one f)

-- ---- calls

pub like_activated : {k m n : ℕ} {A B : Runs} → Alike k m n A B → (callee : Callee) (f : Activation) (own : Option Spot) (class : Option Key) (args : List Value) → Like k m n (activated A callee f own class args) (activated B callee f own class args)
like_activated alike callee f own class args =
    like_bind (like_found (levels_around callee.routine.outer f.levels)) (λ levels.
    like_bind (like_looked (λ store. Ok (next_serial store))) (λ first.
    like_then (like_changed (opened callee own args)) (
    like_then (like_changed (class_set callee own class)) (
    like_then (alike (Do (view_stmt callee.routine.body)) (activation_of callee levels first f.sum)) (
    like_bind (like_looked (result_of callee first)) (λ result.
    like_then (like_changed (λ store. Ok (without store first (length (variables_of callee.routine))))) (like_give result)))))))

pub like_entered : {k m n : ℕ} {A B : Runs} → Alike k m n A B → (program : Program) (f : Activation) (key : Key) (own : Option Spot) (class : Option Key) (args : List Value) → Like k m n (entered program A f key own class args) (entered program B f key own class args)
like_entered alike program f key own class args =
    like_bind (like_found (callee_of program key)) (λ callee.
    like_bind like_is_installed (λ installed.
    like_then (like_raised_if (is_overlaid program key.unit && not installed) 208) (
    like_then (like_raised_if (is_too_deep program callee f.sum) 202)
    (like_activated alike callee f own class args))))

like_without_class : {k m n : ℕ} (checked : Bool) → Like k m n (without_class checked) (without_class checked)
like_without_class true = like_raised 210
like_without_class false = like_undefined 4

like_with_method : {k m n : ℕ} (key : Option Key) → Like k m n (with_method key) (with_method key)
like_with_method None = like_undefined 4
like_with_method (Some key) = like_give key

like_dispatched_in : {k m n : ℕ} (slot : ℕ) (sort : Option Sort) → Like k m n (dispatched_in slot sort) (dispatched_in slot sort)
like_dispatched_in slot None = like_stuck
like_dispatched_in slot (Some sort) = like_with_method (method_in slot sort)

pub like_dispatched_by : {k m n : ℕ} (program : Program) (slot : ℕ) (checked : Bool) (class : Option Key) → Like k m n (dispatched_by program slot checked class) (dispatched_by program slot checked class)
like_dispatched_by program slot checked None = like_without_class checked
like_dispatched_by program slot checked (Some class) = like_dispatched_in slot (class_sort program class)

pub like_method_of : {k m n : ℕ} (program : Program) (at : Reached) (slot : ℕ) (checked : Bool) → Like k m n (method_of program at slot checked) (method_of program at slot checked)
like_method_of program at slot checked = like_bind (like_looked (class_at at)) (like_dispatched_by program slot checked)

like_result : {k m n : ℕ} (z : ℤ) → Like k m n (with_overlay_result z) (with_overlay_result z)
like_result z = like_then (like_changed (assigned overlay_variable (Ordinal z))) (like_give Void)

like_installed_if : {k m n : ℕ} (b : Bool) → Like k m n (installed_if b) (installed_if b)
like_installed_if true = like_then like_install (like_result (pos 0))
like_installed_if false = like_result (negsuc 1)

like_overlay_called : {k m n : ℕ} (program : Program) (number : ℕ) (args : List Value) → Like k m n (overlay_called program number args) (overlay_called program number args)
like_overlay_called program zero (Text name ∷ []) = like_installed_if (is_file (overlay_file program) name)
like_overlay_called program (suc zero) (Ordinal size ∷ []) = like_result (pos 0)
like_overlay_called program (suc (suc zero)) [] = like_result (pos 0)
like_overlay_called program number args = like_stuck

pub like_called : {k m n : ℕ} {A B : Runs} → Alike k m n A B → (program : Program) (f : Activation) (key : Key) (instance : Instance) (args : List Operand) → Like k (suc m) (suc n) (called program A f key instance args) (called program B f key instance args)
like_called alike program f key instance args =
    like_if (is_overlay key.unit) (like_overlay_called program key.number (map handed args))
    (like_spending (like_entered alike program f key instance.own instance.class (map handed args)))

pub like_called_by_class : {k m n : ℕ} {A B : Runs} → Alike k m n A B → (program : Program) (f : Activation) (at : Reached) (slot : ℕ) (checked : Bool) (args : List Operand) → Like k (suc m) (suc n) (called_by_class program A f at slot checked args) (called_by_class program B f at slot checked args)
like_called_by_class alike program f at slot checked args =
    like_spending (like_bind (like_method_of program at slot checked) (λ key. like_entered alike program f key (Some at.spot) None (map handed args)))

pub like_called_through : {k m n : ℕ} {A B : Runs} → Alike k m n A B → (program : Program) (f : Activation) (at : Reached) (args : List Operand) → Like k (suc m) (suc n) (called_through program A f at args) (called_through program B f at args)
like_called_through alike program f at args =
    like_spending (like_bind (like_looked (held_routine at)) (λ key. like_entered alike program f key None None (map handed args)))

-- ---- parts that run nothing

pub like_block_made : {k m n : ℕ} (program : Program) (sort : Sort) → Like k m n (block_made program sort) (block_made program sort)
like_block_made program sort =
    like_bind (like_looked (λ store. Ok (next_serial store))) (λ serial. like_then (like_changed (made program sort)) (like_give serial))

like_effect_done : {k m n : ℕ} (program : Program) (effect : Effect) → Like k m n (effect_done program effect) (effect_done program effect)
like_effect_done program (Gives look) = like_looked look
like_effect_done program (Changes change) = like_then (like_changed change) (like_give Void)
like_effect_done program (Makes pointer) = like_bind (like_bind (like_found (target pointer)) (like_block_made program)) (λ serial. like_give (Block serial))
like_effect_done program (Asks look) = like_ahead look

pub like_sort_of : {k m n : ℕ} (f : Activation) (e : Expression) → Like k m n (sort_of f e) (sort_of f e)
like_sort_of f e = like_bind (like_known (type_of e)) (λ ty. like_give (sort_in f.unit ty))

like_field_of : {k m n : ℕ} (at : Reached) (number : ℕ) (ty : Option TypeId) → Like k m n (field_of at number ty) (field_of at number ty)
like_field_of at number None = like_stuck
like_field_of at number (Some ty) = like_give (record { spot = inside at.spot (field_place (parts_at at.sort.table.types at.sort.ty) number); sort = beside at.sort ty })

like_outside : {k m n : ℕ} (checked : Bool) → Like k m n (outside checked) (outside checked)
like_outside true = like_raised 201
like_outside false = like_undefined 3

like_element_between : {k m n : ℕ} (at : Reached) (bounds : ℤ × ℤ) (sort : Sort) (checked : Bool) (z : ℤ) → Like k m n (element_between at bounds sort checked z) (element_between at bounds sort checked z)
like_element_between at bounds sort checked z =
    like_if (is_between bounds.0 bounds.1 z) (like_give _) (like_outside checked)

like_element_in : {k m n : ℕ} (at : Reached) (checked : Bool) (z : ℤ) (ty : Option TypeDef) → Like k m n (element_in at checked z ty) (element_in at checked z ty)
like_element_in at checked z (Some (type.ArrayOf index element)) = like_element_between at (bounds_at at.sort.table.types index) (beside at.sort element) checked z
like_element_in at checked z (Some (type.Str max)) = like_element_between at (pos 0, pos max) char_sort checked z
like_element_in at checked z _ = like_stuck

like_unless : {k m n : ℕ} {a b : Does Value} (v : Option Value) → Like k m n a b → Like k m n (unless v a) (unless v b)
like_unless (Some v) p = like_give v
like_unless None p = p

-- ---- the forms

mutual
  pub like_value : {k m n : ℕ} {A B : Runs} → Alike k m n A B → (program : Program) (f : Activation) (e : Expression) → Like k (suc m) (suc n) (value program A f e) (value program B f e)
  like_value alike program f (Const ty v) = like_give (constant_value v)
  like_value alike program f (RoutineValue ty routine) = like_bind (like_known (routine_key f.unit routine)) (λ key. like_give (Code key))
  like_value alike program f (Load ty from) = like_bind (like_place alike program f from) (λ at. like_looked (loaded at))
  like_value alike program f (Unary ty op operand) = like_bind (like_value alike program f operand) (λ v. like_found (unary op (stored_as (storage f ty)) v))
  like_value alike program f (Binary ty op left right early) =
      like_bind (like_value alike program f left) (λ a.
      like_unless (decided op early a) (like_bind (like_value alike program f right) (λ b. like_looked (binary op (stored_as (storage f ty)) a b))))
  like_value alike program f (Convert ty operand) = like_bind (like_value alike program f operand) (λ v. like_found (converted (storage f ty) v))
  like_value alike program f (Range ty operand low high) = like_bind (like_value alike program f operand) (λ v. like_found (ranged low high v))
  like_value alike program f (SetOf ty listed) = like_elements alike program f listed []
  like_value alike program f (Call ty routine own args) =
      like_bind (like_receiver alike program f own) (λ instance.
      like_bind (like_operands alike program f args) (λ xs.
      like_bind (like_known (routine_key f.unit routine)) (λ key.
      like_called alike program f key instance xs)))
  like_value alike program f (CallVirtual ty own slot checked args) =
      like_bind (like_place alike program f own) (λ at.
      like_bind (like_operands alike program f args) (λ xs.
      like_called_by_class alike program f at slot checked xs))
  like_value alike program f (CallThrough ty through args) =
      like_bind (like_place alike program f through) (λ at.
      like_bind (like_operands alike program f args) (λ xs.
      like_called_through alike program f at xs))
  like_value alike program f (Std ty number args) =
      like_measured alike program f number args (
      like_bind (like_operands alike program f args) (λ xs.
      like_bind (like_known (standard number)) (λ one.
      like_effect_done program (effect_of program one (option_map (sort_in f.unit) ty) xs))))
  like_value alike program f (Make ty routine args) =
      like_bind (like_found (target (sort_in f.unit ty))) (λ sort.
      like_bind (like_block_made program sort) (λ serial.
      like_bind (like_operands alike program f args) (λ xs.
      like_bind (like_known (routine_key f.unit routine)) (λ key.
      like_bind (like_known (class_key sort)) (λ class.
      like_then (like_called alike program f key (record { own = Some (whole serial); class = Some class }) xs)
      (like_give (Block serial)))))))

  like_measured : {k m n : ℕ} {A B : Runs} → Alike k m n A B → (program : Program) (f : Activation) (number : ℕ) (args : Arguments) {a b : Does Value} → Like k (suc m) (suc n) a b → Like k (suc m) (suc n) (measured program A f number args a) (measured program B f number args b)
  like_measured alike program f number (ByValue (Load ty from) NoArguments) other =
      like_if (number == routine.length) (like_bind (like_place alike program f from) (λ at. like_looked (length_held at))) other
  like_measured alike program f number args other = other

  pub like_place : {k m n : ℕ} {A B : Runs} → Alike k m n A B → (program : Program) (f : Activation) (p : Place) → Like k (suc m) (suc n) (place program A f p) (place program B f p)
  like_place alike program f (Var variable) = like_looked (variable_at program f variable)
  like_place alike program f (Deref pointer) =
      like_bind (like_value alike program f pointer) (λ v.
      like_bind (like_looked (λ store. followed store v)) (λ serial.
      like_bind (like_sort_of f pointer) (λ sort.
      like_bind (like_found (target sort)) (λ to.
      like_give (record { spot = whole serial; sort = to })))))
  like_place alike program f (Index of index checked) =
      like_bind (like_place alike program f of) (λ at.
      like_bind (like_value alike program f index) (λ v.
      like_bind (like_found (number_of v)) (λ z.
      like_element_in at checked z (definition at.sort))))
  like_place alike program f (FieldOf of number) =
      like_bind (like_place alike program f of) (λ at. like_field_of at number (field_type at.sort.table.types at.sort.ty number))

  pub like_receiver : {k m n : ℕ} {A B : Runs} → Alike k m n A B → (program : Program) (f : Activation) (own : Receiver) → Like k (suc m) (suc n) (receiver program A f own) (receiver program B f own)
  like_receiver alike program f NoReceiver = like_give no_instance
  like_receiver alike program f (Own own) = like_bind (like_place alike program f own) (λ at. like_give (instance_at f own at))

  pub like_elements : {k m n : ℕ} {A B : Runs} → Alike k m n A B → (program : Program) (f : Activation) (listed : Listed) (set : List ℕ) → Like k (suc m) (suc n) (elements program A f listed set) (elements program B f listed set)
  like_elements alike program f NoElements set = like_give (Elements set)
  like_elements alike program f (One one rest) set =
      like_bind (like_value alike program f one) (λ v.
      like_bind (like_found (element_of v)) (λ n.
      like_elements alike program f rest (with_range set n n)))
  like_elements alike program f (Span low high rest) set =
      like_bind (like_value alike program f low) (λ v.
      like_bind (like_value alike program f high) (λ w.
      like_bind (like_found (spanned set v w)) (λ more.
      like_elements alike program f rest more)))

  pub like_operands : {k m n : ℕ} {A B : Runs} → Alike k m n A B → (program : Program) (f : Activation) (args : Arguments) → Like k (suc m) (suc n) (operands program A f args) (operands program B f args)
  like_operands alike program f NoArguments = like_give []
  like_operands alike program f (ByValue one rest) =
      like_bind (like_sort_of f one) (λ sort.
      like_bind (like_value alike program f one) (λ v.
      like_bind (like_operands alike program f rest) (λ xs.
      like_give (Given sort v ∷ xs))))
  like_operands alike program f (ByPlace one rest) =
      like_bind (like_place alike program f one) (λ at.
      like_bind (like_operands alike program f rest) (λ xs.
      like_give (Named at ∷ xs)))
