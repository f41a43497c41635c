-- What the names and numbers in units lead to, in programs whose units are seen alike.
use Rattle.std.proofs.Common.{◌≡◌, ℕ, ◌+◌, ◌%◌, min, Bool, true, false, if◌then◌else◌, List, [], ◌∷◌, ◌++◌, length, map, Option, Some, None, Ok, Err, codes, refl, sym, ap, ◌∙◌}
use Rattle.std.specs.Prelude.{slice_get, option_and_then}
use Rattle.std.specs.List.{list_any}
use Rattle.std.specs.Option.{option_map}
use Rattle.std.proofs.lemmas.Option.{slice_get-map}
use Rattle.tp_check_decl.specs.type_layout.Words.{same_bytes}
use Rattle.tp_check_decl.specs.typed_tree.declared.statements.Stmt.{Stmt}
use Rattle.tp_check_decl.specs.typed_tree.declared.units.Routine.{Routine}
use Rattle.tp_check_decl.specs.typed_tree.declared.units.Unit.{Unit as TypedUnit}
use Rattle.tp_check_decl.specs.typed_tree.declared.units.Program.{Program}
use Rattle.tp_check_decl.specs.Units.{Finished, view_routine, Whole, view_unit}
use Rattle.tp_meaning.specs.Trees.{Key}
use Rattle.tp_meaning.specs.Found.{Found, ◌>>=◌, known}
use Rattle.tp_meaning.specs.Programs.{unit_in, unit_named, main_unit, overlaid_by, overlaid, is_overlaid, stack_by, stack_of, heap_by, heap_of, file_name_by, overlay_file, is_overlay, sort_by, class_sort, class_size, size_in, globals_before, overlay_result, global_serial, integer_sort, global_in, global_sort}
use Rattle.tp_meaning.specs.Activations.{Callee, callee_of}

-- ---- units and routines that are seen alike

abbrev pub AreUnits : TypedUnit → TypedUnit → Type 0
AreUnits u v = view_unit u ≡ view_unit v

abbrev pub AreRoutines : Routine → Routine → Type 0
AreRoutines r s = view_routine r ≡ view_routine s

-- a routine of what is seen, with some body; and a unit with some routines
abbrev pub routine_as : Finished → Stmt → Routine
routine_as seen body = record {
  name = seen.name;
  header = seen.header;
  owner = seen.owner;
  outer = seen.outer;
  far = seen.far;
  locals = seen.locals;
  body = body;
}

abbrev pub unit_as : Whole → List Routine → TypedUnit
unit_as seen routines = record {
  name = seen.name;
  names = seen.names;
  types = seen.types;
  items = seen.items;
  globals = seen.globals;
  routines = routines;
  initial = seen.initial;
  uses = seen.uses;
  overlayable = seen.overlayable;
  overlaid = seen.overlaid;
  stack = seen.stack;
  heap = seen.heap;
}

-- ---- units that are looked up

-- what is made of a unit that may be there
pub of_both : {X V R : Type 0} (view : V → R) (F : Option V → X) → ((u v : V) → view u ≡ view v → F (Some u) ≡ F (Some v)) → (o o' : Option V) → option_map view o ≡ option_map view o' → F o ≡ F o'
of_both view F both None None same = refl
of_both view F both None (Some v) same = absurd (cc)
of_both view F both (Some u) None same = absurd (cc)
of_both {R = R} view F both (Some u) (Some v) same = both u v (is (view u) (view v) same)
  where
    is : (a b : R) → Some a ≡ Some b → a ≡ b
    is a b e = cc

whole_in : List Whole → List ℕ → Option Whole
whole_in [] name = None
whole_in (unit ∷ units) name = if same_bytes name unit.name then Some unit else whole_in units name

seen_if : (b : Bool) (u : TypedUnit) (o : Option TypedUnit) (w : Option Whole) → option_map view_unit o ≡ w → option_map view_unit (if b then Some u else o) ≡ (if b then Some (view_unit u) else w)
seen_if true u o w same = refl
seen_if false u o w same = same

unit_seen : (units : List TypedUnit) (name : List ℕ) → option_map view_unit (unit_in units name) ≡ whole_in (map view_unit units) name
unfolding whole_in
unit_seen [] name = refl
unit_seen (u ∷ us) name = seen_if (same_bytes name u.name) u (unit_in us name) (whole_in (map view_unit us) name) (unit_seen us name)

whole_before : List Whole → List ℕ → ℕ
whole_before [] name = 0
whole_before (unit ∷ units) name = if same_bytes name unit.name then 0 else length unit.globals + whole_before units name

before_seen : (units : List TypedUnit) (name : List ℕ) → globals_before units name ≡ whole_before (map view_unit units) name
unfolding whole_before
before_seen [] name = refl
before_seen (u ∷ us) name = λ i. if same_bytes name u.name then 0 else length u.globals + before_seen us name i

-- one of a list, by its number
pub one_at : {V R : Type 0} (view : V → R) (xs ys : List V) → map view xs ≡ map view ys → (n : ℕ) → option_map view (slice_get xs n) ≡ option_map view (slice_get ys n)
one_at {V = V} {R = R} view xs ys same n = sym (slice_get-map view xs n) ∙ ap (λ (zs : List R). slice_get zs n) same ∙ slice_get-map view ys n

-- ---- the parts of a routine that is called

pub record AreCallees (c d : Callee) : Type 0 where
  pub unit : AreUnits c.unit d.unit
  pub number : c.number ≡ d.number
  pub routine : AreRoutines c.routine d.routine

abbrev pub AreFoundCallees : Found Callee → Found Callee → Type 0
AreFoundCallees (Ok c) (Ok d) = AreCallees c d
AreFoundCallees (Err t) (Err u) = t ≡ u
AreFoundCallees (Ok c) (Err u) = ⊥
AreFoundCallees (Err t) (Ok d) = ⊥

routine_found : (u v : TypedUnit) → AreUnits u v → (number : ℕ) (r s : Option Routine) → option_map view_routine r ≡ option_map view_routine s
    → AreFoundCallees (known r >>= λ routine. Ok (record { unit = u; number = number; routine = routine })) (known s >>= λ routine. Ok (record { unit = v; number = number; routine = routine }))
routine_found u v same number None None both = refl
routine_found u v same number None (Some s) both = absurd (cc)
routine_found u v same number (Some r) None both = absurd (cc)
routine_found u v same number (Some r) (Some s) both = record { unit = same; number = refl; routine = is (view_routine r) (view_routine s) both }
  where
    is : (a b : Finished) → Some a ≡ Some b → a ≡ b
    is a b e = cc

callee_found : (key : Key) (o o' : Option TypedUnit) → option_map view_unit o ≡ option_map view_unit o'
    → AreFoundCallees (known o >>= λ unit. known (slice_get unit.routines key.number) >>= λ routine. Ok (record { unit = unit; number = key.number; routine = routine }))
    (known o' >>= λ unit. known (slice_get unit.routines key.number) >>= λ routine. Ok (record { unit = unit; number = key.number; routine = routine }))
callee_found key None None same = refl
callee_found key None (Some v) same = absurd (cc)
callee_found key (Some u) None same = absurd (cc)
callee_found key (Some u) (Some v) same =
    let e = is (view_unit u) (view_unit v) same in
    routine_found u v e key.number (slice_get u.routines key.number) (slice_get v.routines key.number) (one_at view_routine u.routines v.routines (ap (λ (w : Whole). w.routines) e) key.number)
  where
    is : (a b : Whole) → Some a ≡ Some b → a ≡ b
    is a b e = cc

-- ---- two programs

module _ (p q : Program) (units : map view_unit p.units ≡ map view_unit q.units) (start : p.start ≡ q.start) where
  pub named_alike : (name : List ℕ) → option_map view_unit (unit_named p name) ≡ option_map view_unit (unit_named q name)
  named_alike name = unit_seen p.units name ∙ ap (λ (ws : List Whole). whole_in ws name) units ∙ sym (unit_seen q.units name)

  main_alike : option_map view_unit (main_unit p) ≡ option_map view_unit (main_unit q)
  main_alike = one_at view_unit p.units q.units units p.start ∙ ap (λ (n : ℕ). option_map view_unit (slice_get q.units n)) start

  pub overlaid_alike : overlaid p ≡ overlaid q
  overlaid_alike = of_both view_unit overlaid_by (λ u v e i. (e i).overlaid) (main_unit p) (main_unit q) main_alike

  pub is_overlaid_alike : (name : List ℕ) → is_overlaid p name ≡ is_overlaid q name
  is_overlaid_alike name i = list_any (same_bytes name) (overlaid_alike i)

  pub stack_alike : stack_of p ≡ stack_of q
  stack_alike = of_both view_unit stack_by (λ u v e i. (e i).stack + (e i).stack % 2) (main_unit p) (main_unit q) main_alike

  pub heap_alike : heap_of p ≡ heap_of q
  heap_alike = of_both view_unit heap_by (λ u v e i. min (e i).heap 196608) (main_unit p) (main_unit q) main_alike

  file_by_alike : (names : List (List ℕ)) → file_name_by names (main_unit p) ≡ file_name_by names (main_unit q)
  file_by_alike [] = refl
  file_by_alike (name ∷ names) = of_both view_unit (file_name_by (name ∷ names)) (λ u v e i. Some ((e i).name ++ codes ".OVR")) (main_unit p) (main_unit q) main_alike

  pub file_alike : overlay_file p ≡ overlay_file q
  file_alike = file_by_alike (overlaid p) ∙ ap (λ (names : List (List ℕ)). file_name_by names (main_unit q)) overlaid_alike

  pub class_alike : (class : Key) → class_sort p class ≡ class_sort q class
  class_alike class = of_both view_unit (λ o. option_and_then (sort_by class) o) (λ u v e i. sort_by class (unit_as (e i) u.routines)) (unit_named p class.unit) (unit_named q class.unit) (named_alike class.unit)

  pub size_alike : (class : Key) → class_size p class ≡ class_size q class
  size_alike class i = option_map size_in (class_alike class i)

  before_alike : (name : List ℕ) → globals_before p.units name ≡ globals_before q.units name
  before_alike name = before_seen p.units name ∙ ap (λ (ws : List Whole). whole_before ws name) units ∙ sym (before_seen q.units name)

  pub serial_alike : (key : Key) → global_serial p key ≡ global_serial q key
  serial_alike key i = if is_overlay key.unit then overlay_result else 1 + before_alike key.unit i + key.number

  pub global_alike : (key : Key) → global_sort p key ≡ global_sort q key
  global_alike key i = if is_overlay key.unit then Some integer_sort else named i
    where
      named : option_and_then (global_in key.number) (unit_named p key.unit) ≡ option_and_then (global_in key.number) (unit_named q key.unit)
      named = of_both view_unit (λ o. option_and_then (global_in key.number) o) (λ u v e i. global_in key.number (unit_as (e i) u.routines)) (unit_named p key.unit) (unit_named q key.unit) (named_alike key.unit)

  pub callees_alike : (key : Key) → AreFoundCallees (callee_of p key) (callee_of q key)
  callees_alike key = callee_found key (unit_named p key.unit) (unit_named q key.unit) (named_alike key.unit)
