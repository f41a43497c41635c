-- Return pairs, and the overlays that they denote by a table.
use Rattle.std.specs.Prelude.{◌≡◌, ℕ, ◌+◌, ◌%◌, ◌==◌, ◌||◌, ◌&&◌, not, Bool, if◌then◌else◌, List, map, position, Option}
use Rattle.cpu_8086.specs.Memory.{load_word, store_word}
use Rattle.cpu_8086.specs.declared.registers.Far.{Far}
use Rattle.return_repair.specs.declared.table.Loaded.{Loaded}

-- the pair at a place: an offset, and above it a segment
abbrev pub pair_at : List ℕ → ℕ → ℕ → Far
pair_at memory ss place = record { offset = load_word memory ss place; segment = load_word memory ss ((place + 2) % 65536) }

abbrev pub with_pair : List ℕ → ℕ → ℕ → Far → List ℕ
with_pair memory ss place pair = store_word (store_word memory ss place pair.offset) ss ((place + 2) % 65536) pair.segment

-- two tables of the same stubs in the same order
abbrev pub HaveSameStubs : List Loaded → List Loaded → Type 0
HaveSameStubs old new = map (λ (overlay : Loaded). overlay.stub) old ≡ map (λ (overlay : Loaded). overlay.stub) new

-- an overlay is out where its load segment is 0
abbrev pub is_out : Loaded → Bool
is_out overlay = overlay.load == 0

-- the segment is that of the overlay's code, or of its stub
abbrev pub has_segment : ℕ → Loaded → Bool
has_segment segment overlay = (not (is_out overlay) && (overlay.load == segment)) || (overlay.stub == segment)

-- the number of the overlay that a pair with this segment denotes
abbrev pub owner : List Loaded → ℕ → Option ℕ
owner table segment = position (has_segment segment) table

-- the offset saved in a stub
abbrev pub saved_at : List ℕ → ℕ → ℕ
saved_at memory stub = load_word memory stub 2

-- the offset that a pair denotes in its overlay: stub:0 denotes the saved one
abbrev pub denoted_offset : List ℕ → Loaded → Far → ℕ
denoted_offset memory overlay pair =
    if (overlay.stub == pair.segment) && (pair.offset == 0) then saved_at memory overlay.stub else pair.offset

-- how a return into an overlay stands. Of the returns into an overlay that is out, the topmost is stub:0.
abbrev pub shown_pair : Loaded → Bool → ℕ → Far
shown_pair overlay met offset =
    if is_out overlay then record { offset = if met then offset else 0; segment = overlay.stub }
    else record { offset = offset; segment = overlay.load }

abbrev pub same_pair : Far → Far → Bool
same_pair a b = (a.offset == b.offset) && (a.segment == b.segment)
