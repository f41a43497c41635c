-- Stubs as they are written when overlays are loaded and sent out.
use Rattle.std.specs.Prelude.{ℕ, zero, suc, ◌+◌, ◌%◌, ◌==◌, if◌then◌else◌, List}
use Rattle.cpu_8086.specs.Memory.{load_word, store_byte, store_word}

-- the offset of the routine that an entry names, by the load segment by which it stands
abbrev pub routine_at : List ℕ → ℕ → ℕ → ℕ → ℕ
routine_at memory stub load at = load_word memory stub ((at + (if load == 0 then 2 else 1)) % 65536)

-- an entry of an overlay that is out, and one of an overlay that is loaded
abbrev pub with_trap : List ℕ → ℕ → ℕ → ℕ → List ℕ
with_trap memory stub at routine =
    store_byte (store_word (store_word memory stub at 0x3FCD) stub ((at + 2) % 65536) routine) stub ((at + 4) % 65536) 0

abbrev pub with_jump : List ℕ → ℕ → ℕ → ℕ → ℕ → List ℕ
with_jump memory stub at routine load =
    store_word (store_word (store_byte memory stub at 0xEA) stub ((at + 1) % 65536) routine) stub ((at + 3) % 65536) load

-- an entry that stood by one load segment and stands by another
unfoldable pub with_entry : ℕ → ℕ → ℕ → List ℕ → ℕ → List ℕ
with_entry was now stub memory at =
    if now == 0 then with_trap memory stub at (routine_at memory stub was at)
    else with_jump memory stub at (routine_at memory stub was at) now

-- so many entries, the first at this offset
abbrev pub with_entries : ℕ → ℕ → ℕ → List ℕ → ℕ → ℕ → List ℕ
with_entries was now stub memory at zero = memory
with_entries was now stub memory at (suc entries) =
    with_entries was now stub (with_entry was now stub memory at) ((at + 5) % 65536) entries

-- A stub whose overlay comes to stand at a segment, or goes out where that is 0, with the stub of the next loaded one.
unfoldable pub with_stub : ℕ → ℕ → ℕ → ℕ → List ℕ → List ℕ
with_stub was now next stub memory =
    store_word (store_word (with_entries was now stub memory 32 (load_word memory stub 12)) stub 14 now) stub 16 next
