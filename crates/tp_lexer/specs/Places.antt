-- Lines and columns.
use Rattle.std.specs.Prelude.{ℕ, ◌+◌, ◌==◌, not, min, count_by, reverse, List, if◌then◌else◌}
use Rattle.std.specs.List.{prefix_len}
use Rattle.type_layout.specs.declared.texts.Place.{Place}

-- the line of the byte behind these: lines end with byte 10, and the first is 1
abbrev pub line_after : List ℕ → ℕ
line_after before = 1 + count_by (λ c. c == 10) before

-- its column: how many bytes of its line stand before it, and 1
abbrev pub column_after : List ℕ → ℕ
column_after before = 1 + prefix_len (λ c. not (c == 10)) (reverse before)

-- places count in 32 bits; what is more is shown as the greatest of these numbers
abbrev pub counted : ℕ → ℕ
counted n = min n 4294967295

-- the place behind these bytes of a text
abbrev pub place_after : ℕ → List ℕ → Place
place_after text before = record { text = counted text; line = counted (line_after before); column = counted (column_after before) }

-- the place one byte further
abbrev pub moved : Place → ℕ → Place
moved place c = if c == 10 then record { text = place.text; line = counted (place.line + 1); column = 1 }
    else record { text = place.text; line = place.line; column = counted (place.column + 1) }
