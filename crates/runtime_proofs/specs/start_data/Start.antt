-- What the data of a program hold as it starts.
use Rattle.std.specs.Prelude.{◌≡◌, ◌≢◌, ℕ, suc, ◌≤◌, ◌<◌, length, Some, Bool, IsTrue, Contains, slice_get, slice_index_or}
use Rattle.flat_code.specs.Program.{Key, Datum, UnitCode, FlatProgram, Choice, heap_segment_key, heap_bytes_key, ovr_name_key}
use Rattle.flat_code.specs.Meaning.{filled, start_cells}
use Rattle.flat_code.specs.Legal.{Mention, TakesData, ToDatum, IsLegal}
use Rattle.runtime_proofs.specs.strings_in_memory.Strings.{HasBytes, place}

-- a datum of a unit that has a place, with its first bytes, which are bytes and fit
pub record IsDatum (program : FlatProgram) (choice : Choice) (key : Key) (unit : UnitCode) (datum : Datum) (offset : ℕ) : Type 0 where
  pub listed : Contains program.order key.unit
  pub unit_is : program.unit key.unit ≡ Some unit
  pub datum_is : slice_get unit.globals key.number ≡ Some datum
  pub placed : choice.datum key ≡ Some offset
  pub fits : length datum.first ≤ datum.size
  pub small : (k : ℕ) → k < length datum.first → slice_index_or datum.first k 0 < 256

-- the runtime's own data get their values last; each is as large as what it gets
pub record FitsRuntime (program : FlatProgram) (choice : Choice) : Type 0 where
  pub segment : (offset : ℕ) → choice.datum heap_segment_key ≡ Some offset → (size : ℕ) × (2 ≤ size) × TakesData program choice (ToDatum heap_segment_key) offset size
  pub bytes : (offset : ℕ) → choice.datum heap_bytes_key ≡ Some offset → (size : ℕ) × (4 ≤ size) × TakesData program choice (ToDatum heap_bytes_key) offset size
  pub name : (offset : ℕ) → choice.datum ovr_name_key ≡ Some offset → (size : ℕ) × (suc (length program.ovr_name) ≤ size) × TakesData program choice (ToDatum ovr_name_key) offset size

-- none of them
pub record IsOther (key : Key) : Type 0 where
  pub segment : key ≢ heap_segment_key
  pub bytes : key ≢ heap_bytes_key
  pub name : key ≢ ovr_name_key

-- its first bytes stand there as the program starts, and zeros behind them
abbrev pub StandsFirst : FlatProgram → Choice → Datum → ℕ → Type 0
StandsFirst program choice datum offset = HasBytes (start_cells program choice) (place choice.data_segment offset) 0 (filled datum.size datum.first)

-- no datum has more first bytes than it is large
abbrev pub FirstsFit : FlatProgram → Type 0
FirstsFit program = (key : Key) (unit : UnitCode) (datum : Datum) → program.unit key.unit ≡ Some unit → slice_get unit.globals key.number ≡ Some datum → length datum.first ≤ datum.size

abbrev pub StartLaw : FlatProgram → Choice → Type 0
StartLaw program choice =
    (reached : Mention → Bool) (key : Key) (unit : UnitCode) (datum : Datum) (offset : ℕ) → IsLegal program choice (λ mention. IsTrue (reached mention)) → FirstsFit program → FitsRuntime program choice → IsDatum program choice key unit datum offset → IsOther key → StandsFirst program choice datum offset
