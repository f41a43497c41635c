-- Programs that are the same but for where their statements lie in memory.
use Rattle.std.proofs.Common.{◌≡◌, ℕ, ◌+◌, List, [], ◌∷◌, map, Option, Some, None, refl, sym, ap, ap₂, ◌∙◌}
use Rattle.std.specs.Prelude.{◌%◌, min, slice_get, option_map}
use Rattle.type_layout.specs.declared.definitions.TypeDef.{TypeDef}
use Rattle.typed_tree.specs.declared.units.Unit.{Unit as TypedUnit}
use Rattle.typed_tree.specs.declared.units.Program.{Program}
use Rattle.typed_tree.specs.Statements.{view_stmt}
use Rattle.typed_tree.specs.Statements as typed
use Rattle.tp_meaning.specs.Programs.{stack_by, heap_by}
use Rattle.tp_check_decl.specs.Units.{Whole, view_unit}
use Rattle.literal_programs.specs.literal_code.Image.{paragraphs}
use Rattle.literal_programs.specs.Literals.{said}
use Rattle.address_independence.specs.congruence.Laws.{IsSame}
use Rattle.literal_form_laws.specs.congruence.Laws.{SaysAlike, MemoryAlike, HasMemoryAlike}
use Rattle.literal_form_laws.proofs.congruence.Units.{types_alike, overlaid_alike, main_alike, bodies_alike, one_unit, unit_at}

pub says_alike : SaysAlike
says_alike one other same statements says =
    let units : map view_unit other.units ≡ view_unit says.unit ∷ [] = sym same.units ∙ ap (map view_unit) says.alone in
    let found = one_unit other.units (view_unit says.unit) units in
    let main = main_alike says.unit found.0 found.2 says.routine says.main in
    let types : says.unit.types.types ≡ found.0.types.types = types_alike says.unit found.0 found.2 in
    let body : view_stmt says.routine.body ≡ view_stmt main.0.body = bodies_alike says.unit found.0 found.2 says.routine main.0 main.1 in
    record {
      unit = found.0;
      alone = found.1;
      start = sym same.start ∙ says.start;
      plain = sym (overlaid_alike says.unit found.0 found.2) ∙ says.plain;
      routine = main.0;
      main = main.2;
      says = sym (ap₂ (λ (ts : List TypeDef) (b : typed.Statement). said ts b) types body) ∙ says.says;
      small = says.small;
    }

-- ---- memory

abbrev stack_in : Option Whole → ℕ
stack_in None = 0
stack_in (Some unit) = unit.stack + unit.stack % 2

abbrev heap_in : Option Whole → ℕ
heap_in None = 0
heap_in (Some unit) = min unit.heap 196608

stack_is : (unit : Option TypedUnit) → stack_by unit ≡ stack_in (option_map view_unit unit)
stack_is None = refl
stack_is (Some unit) = refl

heap_is : (unit : Option TypedUnit) → heap_by unit ≡ heap_in (option_map view_unit unit)
heap_is None = refl
heap_is (Some unit) = refl

pub mains_alike : (one other : Program) → IsSame one other → option_map view_unit (slice_get one.units one.start) ≡ option_map view_unit (slice_get other.units other.start)
mains_alike one other same = unit_at one.units other.units same.units one.start ∙ ap (λ (n : ℕ). option_map view_unit (slice_get other.units n)) same.start

pub memory_alike : MemoryAlike
memory_alike one other same =
    let mains = mains_alike one other same in
    let unit = slice_get one.units one.start in
    let found = slice_get other.units other.start in
    (stack_is unit ∙ ap stack_in mains ∙ sym (stack_is found), heap_is unit ∙ ap heap_in mains ∙ sym (heap_is found))

pub has_memory_alike : HasMemoryAlike
has_memory_alike one other same exe has =
    let memory = memory_alike one other same in
    record {
      stack = has.stack ∙ memory.0;
      pointer = has.pointer ∙ memory.0;
      heap = has.heap ∙ memory.1;
      extra = has.extra ∙ ap₂ (λ (stack heap : ℕ). paragraphs stack + paragraphs heap) memory.0 memory.1;
    }
