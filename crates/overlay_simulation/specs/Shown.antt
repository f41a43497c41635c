-- A resident state as a table of overlays shows it: where their code stands, and how return pairs into them do.
use Rattle.std.specs.Prelude.{◌≡◌, ℕ, Bool, false, List, [], ◌∷◌}
use Rattle.cpu_8086.specs.declared.registers.Far.{Far}
use Rattle.cpu_8086.specs.Access.{at_offset}
use Rattle.resident_machine.specs.Program.{Segment, Image, Overlay}
use Rattle.resident_machine.specs.State.{Record, ResidentState}
use Rattle.return_repair.specs.declared.table.Loaded.{Loaded}
use Rattle.return_repair.specs.Follows.{Denoted, Stays, Into, overlay_at, shown}
use Rattle.return_repair.specs.Pairs.{is_out}
use Rattle.overlay_simulation.specs.Laid.{laid}

-- the segment at which code stands that is in memory
abbrev pub number_by : List Loaded → Segment → ℕ
number_by table (Image number) = number
number_by table (Overlay v) = (overlay_at table v).load

-- code of the image always is, that of an overlay where it is loaded
abbrev pub IsIn : List Loaded → Segment → Type 0
IsIn table (Image number) = Unit {0}
IsIn table (Overlay v) = is_out (overlay_at table v) ≡ false

-- what a return pair denotes that leads to an offset in code
abbrev pub denoting : Segment → ℕ → Denoted
denoting (Image number) offset = Stays (record { offset = offset; segment = number })
denoting (Overlay v) offset = Into v offset

-- what the records denote, topmost first
abbrev pub items_of : List Record → List Denoted
items_of [] = []
items_of (x ∷ records) = denoting x.segment x.offset ∷ items_of records

-- How their pairs stand. The stubs that were met are those of which a return above was taken already.
abbrev pub pairs_by : List Loaded → (ℕ → Bool) → List Record → List Far
pairs_by table met records = shown table met (items_of records)

abbrev pub shown_state : List Loaded → (ℕ → Bool) → ResidentState → ResidentState
shown_state table met r = laid (number_by table) (pairs_by table met) r

-- control stands where a pair leads
abbrev pub at_pair : Far → ResidentState → ResidentState
at_pair pair t = record t { registers = at_offset t.registers pair.offset; cs = Image pair.segment }
