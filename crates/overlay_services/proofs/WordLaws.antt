-- Writing stubs keeps the size of memory, and what it writes are words.
use Rattle.std.proofs.Common.{◌≡◌, ◌%◌, ◌==◌, ℕ, zero, suc, ◌+◌, ◌<◌, Bool, true, false, List, [], ◌∷◌, length, Option, Some, None, refl, ◌∙◌, arith}
use Rattle.std.specs.Prelude.{slice_index, if◌then◌else◌}
use Rattle.std.specs.List.{AllByRecursion}
use Rattle.cpu_8086.specs.Memory.{load_word, store_word}
use Rattle.cpu_8086.proofs.MemoryLaws.{length-store_word}
use Rattle.overlay_ring.specs.declared.seat.Seat.{Seat}
use Rattle.return_repair.specs.declared.table.Loaded.{Loaded}
use Rattle.overlay_manager.specs.Manager.{buffer_segment, load_segment, next_stub, first_stub, table_from, with_stubs}
use Rattle.overlay_manager.specs.Stubbing.{with_entries, with_stub}
use Rattle.overlay_manager.proofs.EntryLaws.{length-entries}
use Rattle.overlay_services.proofs.SmallLaws.{AreWords}
use Rattle.std.specs.Option.{option_map_or}
use Rattle.overlay_ring.specs.Seats.{place_of}

-- ## Memory keeps its size

length_stub : (was now next stub : ℕ) (memory : List ℕ) → length (with_stub was now next stub memory) ≡ length memory
unfolding with_stub
length_stub was now next stub memory =
    let first : List ℕ = with_entries was now stub memory 32 (load_word memory stub 12) in
    length-store_word (store_word first stub 14 now) stub 16 next ∙ length-store_word first stub 14 now ∙ length-entries was now stub memory 32 (load_word memory stub 12)

pub length_stubs : (numbers : List ℕ) (seats : List Seat) (v : ℕ) (old new : List Loaded) (memory : List ℕ) → length (with_stubs numbers seats v old new memory) ≡ length memory
length_stubs numbers seats v [] new memory = refl
length_stubs numbers seats v (was ∷ old) [] memory = refl
length_stubs numbers seats v (was ∷ old) (now ∷ new) memory =
    let written : List ℕ = with_stub was.load now.load (next_stub numbers seats v) now.stub memory in
    length_stubs numbers seats (v + 1) old new written ∙ length_stub was.load now.load (next_stub numbers seats v) now.stub memory

-- ## Words of a table

load_word_small : (room : ℕ) (seats : List Seat) (v : ℕ) → load_segment room seats v < 65536
load_word_small room seats v = by (place_of v seats)
  where
    by : (at : Option ℕ) → option_map_or (λ (at : ℕ). (buffer_segment room + at) % 65536) at 0 < 65536
    by None = omega arith
    by (Some at) = omega arith

pub words_from : (room : ℕ) (seats : List Seat) (v : ℕ) (stubs : List ℕ) → AreWords (table_from room seats v stubs)
words_from room seats v [] = tt
words_from room seats v (stub ∷ stubs) = (load_word_small room seats v, words_from room seats (v + 1) stubs)

number_small : (stubs : List ℕ) (k : ℕ) → AllByRecursion (λ (stub : ℕ). stub < 65536) stubs → slice_index stubs k < 65536
number_small [] k all = omega arith
number_small (stub ∷ stubs) zero all = all.0
number_small (stub ∷ stubs) (suc k) all = number_small stubs k all.1

pub next_small : (stubs : List ℕ) (seats : List Seat) (v : ℕ) → AllByRecursion (λ (stub : ℕ). stub < 65536) stubs → next_stub stubs seats v < 65536
next_small stubs [] v all = omega arith
next_small stubs (seat ∷ newer) v all = by (seat.overlay == v) (next_small stubs newer v all)
  where
    first : (newer : List Seat) → first_stub stubs newer < 65536
    first [] = omega arith
    first (s ∷ others) = number_small stubs s.overlay all

    by : (here : Bool) → next_stub stubs newer v < 65536 → (if here then first_stub stubs newer else next_stub stubs newer v) < 65536
    by true rest = first newer
    by false rest = rest
