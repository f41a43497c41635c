-- The offset of the topmost return into each overlay, as a list by the segment of the stub.
use Rattle.std.specs.Prelude.{ℕ, List, Option, None, slice_index_or}

abbrev pub by_stub : List (Option ℕ) → ℕ → Option ℕ
by_stub offsets stub = slice_index_or offsets stub None
