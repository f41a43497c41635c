-- The store with which a program begins.
use Rattle.std.proofs.Common.{◌≡◌, ℕ, zero, suc, ◌+◌, ◌<◌, Bool, true, false, List, [], ◌∷◌, ◌++◌, length, map, Some, None, refl, ap, subst, arith}
use Rattle.std.specs.Prelude.{pos, All, Option, slice_get, if◌then◌else◌, option_and_then}
use Rattle.std.specs.List.{flat_map}
use Rattle.std.specs.Option.{option_map}
use Rattle.std.proofs.lemmas.List.Elements.{All-head, All-tail}
use Rattle.program_typing.specs.type_layout.declared.definitions.TypeDef.{TypeDef}
use Rattle.program_typing.specs.type_layout.Words.{same_bytes}
use Rattle.program_typing.specs.type_layout.Table.{AllDefined}
use Rattle.program_typing.specs.typed_tree.declared.units.Global.{Global}
use Rattle.program_typing.specs.typed_tree.declared.units.Unit.{Unit as TypedUnit}
use Rattle.program_typing.specs.typed_tree.declared.units.Program.{Program}
use Rattle.program_typing.specs.typed_tree.type_fits.Fits.{IsSome}
use Rattle.program_typing.specs.well_formed.WellFormed.{IsOfUnit}
use Rattle.program_typing.specs.tp_meaning.Trees.{Key, Ordinal, holding}
use Rattle.program_typing.specs.tp_meaning.Shapes.{first_tree}
use Rattle.program_typing.specs.tp_meaning.Store.{Object, Store}
use Rattle.program_typing.specs.tp_meaning.Programs.{Sort, sort_in, integer_sort, is_overlay, unit_in, globals_before, global_in}
use Rattle.program_typing.specs.tp_meaning.Activations.{variable_object}
use Rattle.program_typing.specs.tp_meaning.Meaning.{unit_objects, start_store}
use Rattle.program_typing.specs.store_typing.types.Agreement.{IsUnit}
use Rattle.program_typing.proofs.store_typing_proofs.types.Agreed.{get_within}
use Rattle.program_typing.specs.store_typing.stores.Worlds.{Made, Own, World}
use Rattle.program_typing.specs.store_typing.stores.Stores.{AreMade, IsTypedStore}
use Rattle.program_typing.proofs.store_typing_proofs.stores.Kept.{with_new_keeps}
use Rattle.program_typing.specs.lvalues.Frames.{HasGlobals}
use Rattle.program_typing.specs.programs.Outcomes.{world}
use Rattle.program_typing.specs.programs.WellTyped.{HasFirst, IsWellTyped}
use Rattle.type_soundness.specs.starts.Laws.{globals_made, start_made, HasSoundStart}
use Rattle.type_soundness.proofs.starts.FirstTrees.{first_has}

-- ---- the objects

are_append : (w : World) (xs ys : List Made) (rs bs : List (Option Object)) → AreMade w xs rs → AreMade w ys bs → AreMade w (xs ++ ys) (rs ++ bs)
are_append w [] ys [] bs p q = q
are_append w [] ys (a ∷ rs) bs p q = absurd p
are_append w (x ∷ xs) ys [] bs p q = absurd p
are_append w (x ∷ xs) ys (a ∷ rs) bs p q = (p.0, are_append w xs ys rs bs p.1 q)

abbrev global_objects : TypedUnit → List Global → List (Option Object)
global_objects unit globals = map (λ (global : Global). variable_object (first_tree unit.types.types global.ty global.first)) globals

abbrev made_of : TypedUnit → List Global → List Made
made_of unit globals = map (λ (global : Global). Own (sort_in unit global.ty)) globals

-- a type that is there
type_within : (types : List TypeDef) (k : ℕ) (o : Option TypeDef) → slice_get types k ≡ o → IsSome o → k < length types
type_within types k (Some one) e is = get_within types k one e
type_within types k None e is = absurd is

globals_are : (w : World) (unit : TypedUnit) → AllDefined [] unit.types.types → (globals : List Global) → All (IsOfUnit unit) globals → All (HasFirst unit) globals → AreMade w (made_of unit globals) (global_objects unit globals)
globals_are w unit defined [] has first = tt
globals_are w unit defined (global ∷ globals) has first =
    let one = All-head (IsOfUnit unit) global globals has in
    let within = type_within unit.types.types global.ty.0 (slice_get unit.types.types global.ty.0) refl one.has in (
      first_has w unit.types defined global.ty within global.first (All-head (HasFirst unit) global globals first),
      globals_are w unit defined globals (All-tail (IsOfUnit unit) global globals has) (All-tail (HasFirst unit) global globals first),
    )

units_are : (w : World) (program : Program) → IsWellTyped program → (units : List TypedUnit) → All (IsUnit program) units → AreMade w (flat_map globals_made units) (flat_map unit_objects units)
units_are w program typed [] each = tt
units_are w program typed (unit ∷ units) each =
    let listed = All-head (IsUnit program) unit units each in
    let one = typed.units unit listed in
    let law = typed.agreed.lawful unit listed in
    are_append w (globals_made unit) (flat_map globals_made units) (unit_objects unit) (flat_map unit_objects units) (globals_are w unit law.well_formed.defined unit.globals one.well_formed.globals one.globals)
    (units_are w program typed units (All-tail (IsUnit program) unit units each))

abbrev no_store : Store
no_store = record { objects = []; rows = [] }

no_objects : (program : Program) → IsTypedStore (world program []) no_store
no_objects program = record { count = refl; objects = λ serial made slot e e'. absurd cc }

first_store : (program : Program) → IsWellTyped program → IsTypedStore (world program (start_made program)) (start_store program)
first_store program typed =
    let v : World = world program (start_made program) in
    with_new_keeps (world program []) no_store (no_objects program) (start_made program) (variable_object (holding (Ordinal (pos 0))) ∷ flat_map unit_objects program.units)
    (refl, units_are v program typed program.units typed.listed)

-- ---- globals by their serial numbers

get_front : {X : Type 0} (xs ys : List X) (n : ℕ) (x : X) → slice_get xs n ≡ Some x → slice_get (xs ++ ys) n ≡ Some x
get_front [] ys n x e = absurd cc
get_front (y ∷ xs) ys zero x e = e
get_front (y ∷ xs) ys (suc n) x e = get_front xs ys n x e

get_behind : {X : Type 0} (xs ys : List X) (n : ℕ) (x : X) → slice_get ys n ≡ Some x → slice_get (xs ++ ys) (length xs + n) ≡ Some x
get_behind [] ys n x e = subst (λ k. slice_get ys k ≡ Some x) next e where
  next : n ≡ 0 + n
  next = omega arith
get_behind (y ∷ xs) ys n x e = subst (λ k. slice_get (y ∷ (xs ++ ys)) k ≡ Some x) next (get_behind xs ys n x e) where
  next : suc (length xs + n) ≡ length (y ∷ xs) + n
  next = omega arith

-- a global of a unit
own_global : (unit : TypedUnit) (globals : List Global) (number : ℕ) (sort : Sort) → option_map (λ (global : Global). sort_in unit global.ty) (slice_get globals number) ≡ Some sort → slice_get (made_of unit globals) number ≡ Some (Own sort)
own_global unit [] number sort e = absurd cc
own_global unit (global ∷ globals) zero sort e = ap (option_map Own) e
own_global unit (global ∷ globals) (suc number) sort e = own_global unit globals number sort e

count_made : (unit : TypedUnit) (globals : List Global) → length (made_of unit globals) ≡ length globals
count_made unit [] = refl
count_made unit (global ∷ globals) = ap suc (count_made unit globals)

-- a global of a unit, or of those behind it
at_unit : (unit : TypedUnit) (units : List TypedUnit) (name : List ℕ) (number : ℕ) (sort : Sort)
    → (option_and_then (global_in number) (unit_in units name) ≡ Some sort → slice_get (flat_map globals_made units) (globals_before units name + number) ≡ Some (Own sort))
    → (b : Bool) → option_and_then (global_in number) (if b then Some unit else unit_in units name) ≡ Some sort
    → slice_get (globals_made unit ++ flat_map globals_made units) ((if b then 0 else length unit.globals + globals_before units name) + number) ≡ Some (Own sort)
at_unit unit units name number sort rec true e =
    let next : number ≡ 0 + number = omega arith in
    subst (λ k. slice_get (globals_made unit ++ flat_map globals_made units) k ≡ Some (Own sort)) next
    (get_front (globals_made unit) (flat_map globals_made units) number (Own sort) (own_global unit unit.globals number sort e))
at_unit unit units name number sort rec false e =
    let next : length (globals_made unit) + (globals_before units name + number) ≡ (length unit.globals + globals_before units name) + number = omega (arith, count_made unit unit.globals) in
    subst (λ k. slice_get (globals_made unit ++ flat_map globals_made units) k ≡ Some (Own sort)) next
    (get_behind (globals_made unit) (flat_map globals_made units) (globals_before units name + number) (Own sort) (rec e))

at_global : (units : List TypedUnit) (name : List ℕ) (number : ℕ) (sort : Sort) → option_and_then (global_in number) (unit_in units name) ≡ Some sort
    → slice_get (flat_map globals_made units) (globals_before units name + number) ≡ Some (Own sort)
at_global [] name number sort e = absurd cc
at_global (unit ∷ units) name number sort e = at_unit unit units name number sort (λ e'. at_global units name number sort e') (same_bytes name unit.name) e

module _ (program : Program) where
  global_by : (key : Key) (sort : Sort) (b : Bool) → (if b then Some integer_sort else option_and_then (global_in key.number) (unit_in program.units key.unit)) ≡ Some sort
      → slice_get (start_made program) (if b then 0 else 1 + globals_before program.units key.unit + key.number) ≡ Some (Own sort)
  global_by key sort true e = ap (option_map Own) e
  global_by key sort false e =
      let next : suc (globals_before program.units key.unit + key.number) ≡ 1 + globals_before program.units key.unit + key.number = omega arith in
      subst (λ k. slice_get (start_made program) k ≡ Some (Own sort)) next (at_global program.units key.unit key.number sort e)

  -- every global is where its serial number says
  first_globals : HasGlobals (world program (start_made program))
  first_globals = record { globals = λ key sort e. global_by key sort (is_overlay key.unit) e }

  -- the start of a well-typed program
  pub sound_start : IsWellTyped program → HasSoundStart program
  sound_start typed = record { store = first_store program typed; globals = first_globals }
