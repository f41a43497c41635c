-- The numbers by which flat code names the runtime's routines, and its data that others name.
use Rattle.flat_code.specs.Program.{Name, Key, runtime_key, text_unit, strings_unit, overlay_unit, heap_segment_key, heap_bytes_key, ovr_name_key}
use Rattle.std.specs.Prelude.{◌≡◌, ℕ}
use Rattle.rt_text.specs.write_text.Specifications.{write_string_number, write_char_number, write_boolean_number, write_line_number}
use Rattle.rt_text.specs.read_text.Specifications.{eof_number, eoln_number, read_char_number, read_line_number}
use Rattle.rt_text.specs.write_numbers.Specifications.{write_integer_number}
use Rattle.rt_text.specs.read_strings.Specifications.{read_string_number}
use Rattle.rt_text.specs.val_routines.Specifications.{val_value_number, val_place_number}
use Rattle.rt_text.specs.read_numbers.Specifications.{read_number_number}
use Rattle.rt_text.specs.str_routines.Specifications.{str_number}
use Rattle.flat_code.specs.Runtime.{negation_number, product_number, less_number, quotient_number, remainder_number}
use Rattle.rt_strings.specs.long_integers.Numbers.{sum_number, difference_number, equal_number, left_shift_number, right_shift_number, range_number, between_number}
use Rattle.rt_strings.specs.short_strings.Specifications.{assign_number}
use Rattle.rt_strings.specs.string_joins.Specifications.{concat_number, insert_number}
use Rattle.rt_strings.specs.string_parts.Specifications.{copy_number, delete_number, upper_number}
use Rattle.rt_strings.specs.string_compare.Specifications.{compare_number}
use Rattle.rt_strings.specs.string_search.Specifications.{position_number}
use Rattle.rt_strings.specs.sets.Specifications.{union_number, intersection_number}
use Rattle.rt_strings.specs.set_relations.Specifications.{same_number, subset_number, member_number}
use Rattle.rt_strings.specs.set_constructors.Specifications.{include_number}
use Rattle.rt_strings.specs.memory.Specifications.{load_byte_number, load_short_number, load_word_number, move_number}
use Rattle.rt_strings.specs.objects.Specifications.{method_number, class_size_number}
use Rattle.heap_runtime.specs.overlay.Specifications.{init_number, set_buffer_number, clear_buffer_number}
use Rattle.heap_runtime.specs.heap.Specifications.{new_number, dispose_number}
use Rattle.heap_runtime.specs.clear.Specifications.{clear_number}
use Rattle.rt_strings.specs.sets.Specifications as sets
use Rattle.heap_runtime.specs.overlay.Data.{ovr_result_key}
use Rattle.heap_runtime.specs.scratch.Data.{scratch_key}
use Rattle.runtime_units.specs.declared.numbers.numbers.RuntimeUnit.{RuntimeUnit}
use Rattle.runtime_units.specs.declared.numbers.numbers.RuntimeUnit.TheVariants as unit
use Rattle.runtime_units.specs.declared.numbers.numbers.RuntimeRoutine.{RuntimeRoutine}
use Rattle.runtime_units.specs.declared.numbers.numbers.RuntimeRoutine.TheVariants as routine
use Rattle.runtime_units.specs.declared.numbers.numbers.RuntimeGlobal.{RuntimeGlobal}
use Rattle.runtime_units.specs.declared.numbers.numbers.RuntimeGlobal.TheVariants as global

-- the number of a routine
abbrev pub number_of : RuntimeRoutine → ℕ
number_of routine.WriteString = write_string_number
number_of routine.WriteChar = write_char_number
number_of routine.WriteBoolean = write_boolean_number
number_of routine.WriteLine = write_line_number
number_of routine.Eof = eof_number
number_of routine.Eoln = eoln_number
number_of routine.ReadChar = read_char_number
number_of routine.ReadLine = read_line_number
number_of routine.WriteInteger = write_integer_number
number_of routine.ReadString = read_string_number
number_of routine.ValValue = val_value_number
number_of routine.ValPlace = val_place_number
number_of routine.ReadNumber = read_number_number
number_of routine.Str = str_number
number_of routine.Negation = negation_number
number_of routine.Product = product_number
number_of routine.Less = less_number
number_of routine.Quotient = quotient_number
number_of routine.Remainder = remainder_number
number_of routine.Sum = sum_number
number_of routine.Difference = difference_number
number_of routine.Equal = equal_number
number_of routine.LeftShift = left_shift_number
number_of routine.RightShift = right_shift_number
number_of routine.Range = range_number
number_of routine.Assign = assign_number
number_of routine.Concat = concat_number
number_of routine.Insert = insert_number
number_of routine.Copy = copy_number
number_of routine.Delete = delete_number
number_of routine.UpCase = upper_number
number_of routine.Compare = compare_number
number_of routine.Pos = position_number
number_of routine.Union = union_number
number_of routine.SetDifference = sets.difference_number
number_of routine.Intersection = intersection_number
number_of routine.SameSet = same_number
number_of routine.Subset = subset_number
number_of routine.Member = member_number
number_of routine.Include = include_number
number_of routine.LoadByte = load_byte_number
number_of routine.LoadShort = load_short_number
number_of routine.LoadWord = load_word_number
number_of routine.Move = move_number
number_of routine.Between = between_number
number_of routine.Method = method_number
number_of routine.ClassSize = class_size_number
number_of routine.OvrInit = init_number
number_of routine.OvrSetBuf = set_buffer_number
number_of routine.OvrClearBuf = clear_buffer_number
number_of routine.New = new_number
number_of routine.Dispose = dispose_number
number_of routine.Clear = clear_number

-- the unit that holds it
abbrev pub unit_of : RuntimeRoutine → RuntimeUnit
unit_of routine.WriteString = unit.Text
unit_of routine.WriteChar = unit.Text
unit_of routine.WriteBoolean = unit.Text
unit_of routine.WriteLine = unit.Text
unit_of routine.Eof = unit.Text
unit_of routine.Eoln = unit.Text
unit_of routine.ReadChar = unit.Text
unit_of routine.ReadLine = unit.Text
unit_of routine.WriteInteger = unit.Text
unit_of routine.ReadString = unit.Text
unit_of routine.ValValue = unit.Text
unit_of routine.ValPlace = unit.Text
unit_of routine.ReadNumber = unit.Text
unit_of routine.Str = unit.Text
unit_of routine.Negation = unit.Strings
unit_of routine.Product = unit.Strings
unit_of routine.Less = unit.Strings
unit_of routine.Quotient = unit.Strings
unit_of routine.Remainder = unit.Strings
unit_of routine.Sum = unit.Strings
unit_of routine.Difference = unit.Strings
unit_of routine.Equal = unit.Strings
unit_of routine.LeftShift = unit.Strings
unit_of routine.RightShift = unit.Strings
unit_of routine.Range = unit.Strings
unit_of routine.Assign = unit.Strings
unit_of routine.Concat = unit.Strings
unit_of routine.Insert = unit.Strings
unit_of routine.Copy = unit.Strings
unit_of routine.Delete = unit.Strings
unit_of routine.UpCase = unit.Strings
unit_of routine.Compare = unit.Strings
unit_of routine.Pos = unit.Strings
unit_of routine.Union = unit.Strings
unit_of routine.SetDifference = unit.Strings
unit_of routine.Intersection = unit.Strings
unit_of routine.SameSet = unit.Strings
unit_of routine.Subset = unit.Strings
unit_of routine.Member = unit.Strings
unit_of routine.Include = unit.Strings
unit_of routine.LoadByte = unit.Strings
unit_of routine.LoadShort = unit.Strings
unit_of routine.LoadWord = unit.Strings
unit_of routine.Move = unit.Strings
unit_of routine.Between = unit.Strings
unit_of routine.Method = unit.Strings
unit_of routine.ClassSize = unit.Strings
unit_of routine.OvrInit = unit.Overlay
unit_of routine.OvrSetBuf = unit.Overlay
unit_of routine.OvrClearBuf = unit.Overlay
unit_of routine.New = unit.Overlay
unit_of routine.Dispose = unit.Overlay
unit_of routine.Clear = unit.Overlay

abbrev pub name_of : RuntimeUnit → Name
name_of unit.Text = text_unit
name_of unit.Strings = strings_unit
name_of unit.Overlay = overlay_unit

-- a datum that others name
abbrev pub key_of : RuntimeGlobal → Key
key_of global.OvrResult = ovr_result_key
key_of global.HeapSegment = heap_segment_key
key_of global.HeapBytes = heap_bytes_key
key_of global.OvrName = ovr_name_key
key_of global.Scratch = scratch_key

-- A routine's number leads to its unit.
abbrev pub IsInUnit : RuntimeRoutine → Type 0
IsInUnit r = (runtime_key (number_of r)).unit ≡ name_of (unit_of r)

-- The data that others name are in the last unit.
abbrev pub IsInOverlay : RuntimeGlobal → Type 0
IsInOverlay g = (key_of g).unit ≡ overlay_unit
