-- The sorts of variables and fields, and the kinds of methods, by where they are found.
use Rattle.std.proofs.Common.{◌≡◌, ℕ, zero, suc, ◌-◌, ◌≤◌, ◌<◌, Bool, true, false, List, [], ◌∷◌, map, Option, Some, None, refl, sym, ap, ◌∙◌, arith}
use Rattle.std.specs.Prelude.{nat_lt, if◌then◌else◌, option_and_then, slice_get}
use Rattle.std.specs.Option.{option_map, option_map_or}
use Rattle.std.proofs.lemmas.Bool.Decides.{nat_tests}
use Rattle.type_layout.specs.declared.definitions.TypeId.{TypeId}
use Rattle.type_layout.specs.declared.definitions.Method.{Method}
use Rattle.typed_tree.specs.declared.expressions.Variable.{Variable}
use Rattle.typed_tree.specs.declared.units.Global.{Global}
use Rattle.typed_tree.specs.declared.units.Routine.{Routine}
use Rattle.typed_tree.specs.declared.units.Unit.{Unit as TypedUnit}
use Rattle.typed_tree.specs.type_fits.Fits.{field_type}
use Rattle.typed_tree.specs.type_fits.Routines.{variables_of}
use Rattle.tp_meaning.specs.Trees.{Key}
use Rattle.tp_meaning.specs.Programs.{Sort as TypeInTable, beside, sort_in, integer_sort, key_of, is_overlay, global_in}
use Rattle.tp_meaning.specs.Activations.{first_held}
use Rattle.lower_places.specs.declared.scene.UnitGlobals.{UnitGlobals}
use Rattle.lower_places.specs.declared.scene.Held.{Held}
use Rattle.lower_places.specs.Sorts.{Surroundings, sort_of_number, held_sort_or, sort_by_level, sort_of_variable, field_sort}
use Rattle.lower_places.specs.Scenes.{HeldPlace, view_sort, view_held, unit_among, sort_among}
use Rattle.lower_places.specs.Reaches.{is_overlay_place}

pub field_found : (sort : TypeInTable) (number : ℕ) (ty : TypeId) → field_type sort.table.types sort.ty number ≡ Some ty → field_sort number sort ≡ Some (beside sort ty)
field_found sort number ty e = ap (option_map (beside sort)) e

pub kind_found : (o : Option Method) (method : Method) → o ≡ Some method → option_map (λ (method : Method). method.header.kind) o ≡ Some method.header.kind
kind_found o method e = ap (option_map (λ (method : Method). method.header.kind)) e

pub overlay_found : (units : List UnitGlobals) (unit : TypedUnit) (place number : ℕ) → is_overlay_place unit place ≡ true
    → option_and_then (sort_among units) (key_of unit place number) ≡ Some integer_sort
overlay_found units unit place number e = by (slice_get unit.names place) e
  where
    named : (t : Bool) (rest : Option TypeInTable) → t ≡ true → (if t then Some integer_sort else rest) ≡ Some integer_sort
    named true rest e = refl
    named false rest e = absurd cc

    by : (o : Option (List ℕ)) → option_map_or is_overlay o false ≡ true
        → option_and_then (sort_among units) (option_map (λ name. let key : Key = record { unit = name; number = number } in key) o) ≡ Some integer_sort
    by None e = absurd cc
    by (Some name) e = named (is_overlay name) (option_and_then (global_in number) (unit_among units name)) e

pub global_found : (units : List UnitGlobals) (unit named : TypedUnit) (place number : ℕ) (name : List ℕ) (global : Global) → is_overlay_place unit place ≡ false → slice_get unit.names place ≡ Some name
    → unit_among units name ≡ Some named → slice_get named.globals number ≡ Some global → option_and_then (sort_among units) (key_of unit place number) ≡ Some (sort_in named global.ty)
global_found units unit named place number name global other at there found =
    ap (λ (o : Option (List ℕ)). option_and_then (sort_among units) (option_map (λ name. let key : Key = record { unit = name; number = number } in key) o)) at
    ∙ by (is_overlay name) (sym (ap (λ (o : Option (List ℕ)). option_map_or is_overlay o false) at) ∙ other)
  where
    by : (t : Bool) → t ≡ false → (if t then Some integer_sort else option_and_then (global_in number) (unit_among units name)) ≡ Some (sort_in named global.ty)
    by true e = absurd cc
    by false e =
        ap (option_and_then (global_in number)) there
        ∙ ap (option_map (λ (global : Global). sort_in named global.ty)) found

pub local_found : (here : Surroundings) (number : ℕ) (routine : Routine) (ty : TypeId) → slice_get (variables_of routine) number ≡ Some ty
    → sort_of_number here number routine ≡ Some (sort_in here.unit ty)
local_found here number routine ty e = ap (option_map (sort_in here.unit)) e

held-at : (withs : List Held) (k : ℕ) (held : Held) → slice_get withs k ≡ Some held
    → slice_get (map (λ (one : HeldPlace). one.sort) (map view_held withs)) k ≡ Some (view_sort held.sort)
held-at [] k held e = absurd cc
held-at (one ∷ withs) zero held e = let same : one ≡ held = cc in ap (λ (h : Held). let o : Option TypeInTable = Some (view_sort h.sort) in o) same
held-at (one ∷ withs) (suc k) held e = held-at withs k held e

pub held_found : (withs : List Held) (k : ℕ) (held : Held) → slice_get withs k ≡ Some held
    → slice_get (map (λ (one : HeldPlace). one.sort) (map view_held withs)) k ≡ Some (view_sort held.sort)
held_found withs k held e = held-at withs k held e

-- ---- by levels

pub global_level : (here : Surroundings) (variable : Variable) → variable.level ≡ 0 → sort_of_variable here variable ≡ option_and_then here.globals (key_of here.unit variable.unit variable.number)
global_level here variable e = ap (λ level. sort_by_level here level variable.unit variable.number) e

pub inner_level : (here : Surroundings) (variable : Variable) → variable.level ≡ 1
    → sort_of_variable here variable ≡ held_sort_or here variable.number (option_and_then (sort_of_number here variable.number) (here.routines 0))
inner_level here variable e = ap (λ level. sort_by_level here level variable.unit variable.number) e

pub outer_level : (here : Surroundings) (variable : Variable) → 1 < variable.level
    → sort_of_variable here variable ≡ option_and_then (sort_of_number here variable.number) (here.routines (variable.level - 1))
outer_level here variable h = by variable.level h
  where
    by : (level : ℕ) → 1 < level → sort_by_level here level variable.unit variable.number ≡ option_and_then (sort_of_number here variable.number) (here.routines (level - 1))
    by zero h = absurd (omega (arith, h))
    by (suc zero) h = absurd (omega (arith, h))
    by (suc (suc links)) h = let e : suc links ≡ suc (suc links) - 1 = omega arith in ap (λ k. option_and_then (sort_of_number here variable.number) (here.routines k)) e

pub held_past : (here : Surroundings) (number : ℕ) (own : Option TypeInTable) (sort : TypeInTable) → 2147483648 ≤ number → slice_get here.withs (number - first_held) ≡ Some sort → held_sort_or here number own ≡ Some sort
held_past here number own sort h e =
    let past : nat_lt number first_held ≡ false = grind (arith, nat_tests) in
    ap (λ (t : Bool). if t then own else slice_get here.withs (number - first_held)) past ∙ e
