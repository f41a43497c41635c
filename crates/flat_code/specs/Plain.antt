-- The program that a list of units makes, and the choice that the interpreter takes.
use Rattle.std.specs.Prelude.{◌≡◌, ◌≤◌, ℕ, zero, suc, ◌+◌, ◌-◌, ◌*◌, ◌%◌, ◌&&◌, Bool, nat_le, nat_lt, if◌then◌else◌, List, [], ◌∷◌, ◌++◌, map, length, Option, Some, None, slice_get, codes}
use Rattle.std.specs.Option.{option_and_then}
use Rattle.std.specs.List.{list_any}
use Rattle.type_layout.specs.Words.{same_bytes}
use Rattle.type_layout.specs.declared.definitions.RoutineId.{RoutineId}
use Rattle.flat_code.specs.declared.unit.FlatRoutine.{FlatRoutine}
use Rattle.flat_code.specs.declared.unit.FlatDatum.{FlatDatum}
use Rattle.flat_code.specs.declared.unit.FlatVmt.{FlatVmt}
use Rattle.flat_code.specs.declared.unit.FlatUnit.{FlatUnit}
use Rattle.flat_code.specs.declared.memory.Place.{Place}
use Rattle.flat_code.specs.View.{view_list}
use Rattle.flat_code.specs.Program.{Name, Key, Routine, Datum, Vmt, UnitCode, FlatProgram, Choice, text_unit, strings_unit, overlay_unit}

-- ---- views

abbrev pub view_routine : FlatRoutine → Routine
view_routine r = record { far = r.far; arguments = r.arguments; locals = r.locals; frame = r.frame; result = r.result; body = view_list r.body.items }

abbrev pub view_datum : FlatDatum → Datum
view_datum d = record { size = d.size; first = d.first }

abbrev pub view_slot : RoutineId → ℕ × ℕ
view_slot id = (id.unit, id.number)

abbrev pub view_vmt : FlatVmt → Vmt
view_vmt v = record { size = v.size; slots = map view_slot v.slots }

abbrev pub view_unit : FlatUnit → UnitCode
view_unit u = record { names = u.names; routines = map view_routine u.routines; globals = map view_datum u.globals; vmts = map view_vmt u.vmts; initial = u.initial }

-- ---- names and positions

abbrev pub first_name : List Name → Name
first_name [] = []
first_name (name ∷ names) = name

-- what a unit is called that stands at a place of the list: the first three are the runtime's
abbrev pub name_at : ℕ → UnitCode → Name
name_at zero unit = text_unit
name_at (suc zero) unit = strings_unit
name_at (suc (suc zero)) unit = overlay_unit
name_at (suc (suc (suc n))) unit = first_name unit.names

-- where the first unit of a name stands, counted on from a place
abbrev pub position_from : ℕ → List UnitCode → Name → Option ℕ
position_from at [] name = None
position_from at (unit ∷ units) name = if same_bytes (name_at at unit) name then Some at else position_from (at + 1) units name

abbrev pub names_from : ℕ → List UnitCode → List Name
names_from at [] = []
names_from at (unit ∷ units) = name_at at unit ∷ names_from (at + 1) units

-- with the unit that stands there
abbrev pub unit_from : ℕ → List UnitCode → Name → Option UnitCode
unit_from at [] name = None
unit_from at (unit ∷ units) name = if same_bytes (name_at at unit) name then Some unit else unit_from (at + 1) units name

abbrev pub last_name : List Name → Name
last_name [] = []
last_name (name ∷ []) = name
last_name (name ∷ next ∷ names) = last_name (next ∷ names)

abbrev pub ovr_name_of : List Name → List Name → List ℕ
ovr_name_of [] names = []
ovr_name_of (unit ∷ overlaid) names = last_name names ++ codes ".OVR"

abbrev pub program_of : List UnitCode → List Name → ℕ → ℕ → FlatProgram
program_of units overlaid stack heap = record {
  unit = unit_from 0 units;
  order = names_from 0 units;
  overlaid = λ name. list_any (λ other. same_bytes name other) overlaid;
  stack = stack;
  heap = heap;
  ovr_name = ovr_name_of overlaid (names_from 0 units);
}

-- ---- places in the data segment, one after the other, each rounded up to even

abbrev pub even : ℕ → ℕ
even n = n + n % 2

abbrev pub data_size : List Datum → ℕ
data_size [] = 0
data_size (datum ∷ rest) = even datum.size + data_size rest

abbrev pub vmt_size : Vmt → ℕ
vmt_size vmt = 4 + 4 * length vmt.slots

abbrev pub vmts_size : List Vmt → ℕ
vmts_size [] = 0
vmts_size (vmt ∷ rest) = vmt_size vmt + vmts_size rest

abbrev pub unit_size : UnitCode → ℕ
unit_size unit = data_size unit.globals + vmts_size unit.vmts

abbrev pub units_size : List UnitCode → ℕ
units_size [] = 0
units_size (unit ∷ units) = unit_size unit + units_size units

abbrev pub datum_from : ℕ → List Datum → ℕ → Option ℕ
datum_from start [] number = None
datum_from start (datum ∷ rest) zero = Some start
datum_from start (datum ∷ rest) (suc number) = datum_from (start + even datum.size) rest number

abbrev pub vmt_from : ℕ → List Vmt → ℕ → Option ℕ
vmt_from start [] number = None
vmt_from start (vmt ∷ rest) zero = Some start
vmt_from start (vmt ∷ rest) (suc number) = vmt_from (start + vmt_size vmt) rest number

abbrev pub datum_of : ℕ → ℕ → List UnitCode → Name → ℕ → Option ℕ
datum_of at start [] name number = None
datum_of at start (unit ∷ units) name number =
    if same_bytes (name_at at unit) name then datum_from start unit.globals number else datum_of (at + 1) (start + unit_size unit) units name number

abbrev pub vmt_of : ℕ → ℕ → List UnitCode → Name → ℕ → Option ℕ
vmt_of at start [] name number = None
vmt_of at start (unit ∷ units) name number =
    if same_bytes (name_at at unit) name then vmt_from (start + data_size unit.globals) unit.vmts number else vmt_of (at + 1) (start + unit_size unit) units name number

-- ---- far pointers

abbrev pub far_if : Bool → ℕ → ℕ → Option Place
far_if far at number = if far && nat_lt number 65536 then Some (record { segment = 61440 + at; offset = number }) else None

abbrev pub far_of : ℕ → List UnitCode → Name → ℕ → Option Place
far_of at [] name number = None
far_of at (unit ∷ units) name number =
    if same_bytes (name_at at unit) name then option_and_then (λ (r : Routine). far_if r.far at number) (slice_get unit.routines number) else far_of (at + 1) units name number

abbrev pub key_if : Bool → Name → ℕ → Option Key
key_if far name number = if far then Some (record { unit = name; number = number }) else None

-- the routine of a far pointer whose segment is so much above the first one
abbrev pub callee_of : ℕ → List UnitCode → ℕ → ℕ → Option Key
callee_of at [] distance number = None
callee_of at (unit ∷ units) zero number = option_and_then (λ (r : Routine). key_if r.far (name_at at unit) number) (slice_get unit.routines number)
callee_of at (unit ∷ units) (suc distance) number = callee_of (at + 1) units distance number

abbrev pub choice_of : List UnitCode → Choice
choice_of units = record {
  data_segment = 4096;
  stack_segment = 8192;
  heap_segment = 12288;
  datum = λ key. datum_of 0 0 units key.unit key.number;
  vmt = λ key. vmt_of 0 0 units key.unit key.number;
  far = λ key. far_of 0 units key.unit key.number;
  callee = λ p. if nat_le 61440 p.segment then callee_of 0 units (p.segment - 61440) p.offset else None;
}

-- no later unit has the name of an earlier one
abbrev pub IsDifferent : ℕ → List UnitCode → Type 0
IsDifferent at [] = Unit {0}
IsDifferent at (unit ∷ units) = (unit_from (at + 1) units (name_at at unit) ≡ None) × IsDifferent (at + 1) units

-- units for which the choice has room: few enough, with different names, data that fit a segment, and numbers of routines that fit an offset
pub record HasPlaces (units : List UnitCode) : Type 0 where
  pub few : length units ≤ 4096
  pub different : IsDifferent 0 units
  pub small : units_size units ≤ 65520
  pub numbered : (name : Name) (unit : UnitCode) → unit_from 0 units name ≡ Some unit → length unit.routines ≤ 65536
