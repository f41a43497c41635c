-- How the pairs of records stand by a table, as records are pushed and taken.
use Rattle.std.proofs.Common.{◌≡◌, ◌≢◌, ℕ, ◌==◌, Bool, true, false, List, [], ◌∷◌, refl, ap, ◌∙◌, ne_eqb}
use Rattle.std.specs.Prelude.{if◌then◌else◌}
use Rattle.cpu_8086.specs.declared.registers.Far.{Far}
use Rattle.resident_machine.specs.Program.{Segment, Image, Overlay}
use Rattle.resident_machine.specs.State.{Record}
use Rattle.return_repair.specs.declared.table.Loaded.{Loaded}
use Rattle.return_repair.specs.Follows.{Denoted, Stays, Into, overlay_at, shown, met_too, topmost_into}
use Rattle.return_repair.specs.Pairs.{is_out, shown_pair}
use Rattle.overlay_simulation.specs.Laid.{with_pairs}
use Rattle.overlay_simulation.specs.Shown.{number_by, IsIn, denoting, items_of, pairs_by}

-- how a return into code stands, where the stub was met or not
abbrev pub pair_by : List Loaded → (ℕ → Bool) → Segment → ℕ → Far
pair_by table met (Image number) offset = record { offset = offset; segment = number }
pair_by table met (Overlay v) offset = shown_pair (overlay_at table v) (met (overlay_at table v).stub) offset

abbrev pub met_past : List Loaded → (ℕ → Bool) → Segment → ℕ → Bool
met_past table met (Image number) = met
met_past table met (Overlay v) = met_too (overlay_at table v).stub met

pub shown_first : (table : List Loaded) (met : ℕ → Bool) (segment : Segment) (offset : ℕ) (items : List Denoted) → shown table met (denoting segment offset ∷ items) ≡ pair_by table met segment offset ∷ shown table (met_past table met segment) items
shown_first table met (Image number) offset items = refl
shown_first table met (Overlay v) offset items = refl

-- a return into code that is in memory names its segment
pub pair_in : (table : List Loaded) (met : ℕ → Bool) (segment : Segment) (offset : ℕ) → IsIn table segment → pair_by table met segment offset ≡ record { offset = offset; segment = number_by table segment }
pair_in table met (Image number) offset here = refl
pair_in table met (Overlay v) offset here = rw here refl

-- No overlay that is out has the stub of one that is loaded.
pub record HasOwnStubs (table : List Loaded) : Type 0 where
  pub own : (v w : ℕ) → is_out (overlay_at table v) ≡ false → is_out (overlay_at table w) ≡ true → (overlay_at table w).stub ≢ (overlay_at table v).stub

-- what was met says nothing but of overlays that are out
abbrev MeetsAlike : List Loaded → (ℕ → Bool) → (ℕ → Bool) → Type 0
MeetsAlike table met other = (v : ℕ) → is_out (overlay_at table v) ≡ true → met (overlay_at table v).stub ≡ other (overlay_at table v).stub

met_alike : (table : List Loaded) (met other : ℕ → Bool) (stub : ℕ) → MeetsAlike table met other → MeetsAlike table (met_too stub met) (met_too stub other)
met_alike table met other stub same v out = ap (λ (rest : Bool). if (overlay_at table v).stub == stub then true else rest) (same v out)

pair_alike : (overlay : Loaded) (a b : Bool) (offset : ℕ) → (is_out overlay ≡ true → a ≡ b) → shown_pair overlay a offset ≡ shown_pair overlay b offset
pair_alike overlay a b offset same = by (is_out overlay) refl
  where
    by : (out : Bool) → is_out overlay ≡ out → shown_pair overlay a offset ≡ shown_pair overlay b offset
    by true out = ap (λ (met : Bool). shown_pair overlay met offset) (same out)
    by false out = rw out refl

shown_alike : (table : List Loaded) (met other : ℕ → Bool) (items : List Denoted) → MeetsAlike table met other → shown table met items ≡ shown table other items
shown_alike table met other [] same = refl
shown_alike table met other (Stays pair ∷ items) same = ap (λ (pairs : List Far). pair ∷ pairs) (shown_alike table met other items same)
shown_alike table met other (Into v offset ∷ items) same =
    let stub = (overlay_at table v).stub in
    let first = pair_alike (overlay_at table v) (met stub) (other stub) offset (same v) in
    let rest = shown_alike table (met_too stub met) (met_too stub other) items (met_alike table met other stub same) in
    ap (λ (pair : Far). pair ∷ shown table (met_too stub met) items) first ∙ ap (λ (pairs : List Far). shown_pair (overlay_at table v) (other stub) offset ∷ pairs) rest

-- a return into code that is in memory changes nothing for those below
pub past_in : (table : List Loaded) (met : ℕ → Bool) (segment : Segment) (items : List Denoted) → HasOwnStubs table → IsIn table segment → shown table (met_past table met segment) items ≡ shown table met items
past_in table met (Image number) items own here = refl
past_in table met (Overlay v) items own here =
    shown_alike table (met_too (overlay_at table v).stub met) met items (λ w out. rw (ne_eqb (overlay_at table w).stub (overlay_at table v).stub (own.own v w here out)) refl)

-- ## Records

-- a record as it is laid
abbrev pub laid_record : ℕ → Far → Record
laid_record place pair = record { place = place; segment = Image pair.segment; offset = pair.offset }

pub laid_first : (table : List Loaded) (met : ℕ → Bool) (x : Record) (records : List Record) → with_pairs (x ∷ records) (pairs_by table met (x ∷ records)) ≡ laid_record x.place (pair_by table met x.segment x.offset) ∷ with_pairs records (pairs_by table (met_past table met x.segment) records)
laid_first table met x records = ap (λ (pairs : List Far). with_pairs (x ∷ records) pairs) (shown_first table met x.segment x.offset (items_of records))

-- one that leads into code that is in memory
pub laid_in : (table : List Loaded) (met : ℕ → Bool) (x : Record) (records : List Record) → HasOwnStubs table → IsIn table x.segment → with_pairs (x ∷ records) (pairs_by table met (x ∷ records)) ≡ laid_record x.place (record { offset = x.offset; segment = number_by table x.segment }) ∷ with_pairs records (pairs_by table met records)
laid_in table met x records own here =
    laid_first table met x records
    ∙ ap (λ (pair : Far). laid_record x.place pair ∷ with_pairs records (pairs_by table (met_past table met x.segment) records)) (pair_in table met x.segment x.offset here)
    ∙ ap (λ (pairs : List Far). laid_record x.place (record { offset = x.offset; segment = number_by table x.segment }) ∷ with_pairs records pairs) (past_in table met x.segment (items_of records) own here)

-- ## The topmost return into an overlay that is out

-- Of each overlay that is out the topmost return is the same.
abbrev pub SameTopmost : List Loaded → List Record → List Record → Type 0
SameTopmost table records others = (v : ℕ) → is_out (overlay_at table v) ≡ true → topmost_into table (overlay_at table v).stub (items_of others) ≡ topmost_into table (overlay_at table v).stub (items_of records)

topmost_past : (table : List Loaded) (segment : Segment) (offset v : ℕ) (items : List Denoted) → HasOwnStubs table → IsIn table segment → is_out (overlay_at table v) ≡ true → topmost_into table (overlay_at table v).stub (denoting segment offset ∷ items) ≡ topmost_into table (overlay_at table v).stub items
topmost_past table (Image number) offset v items own here out = refl
topmost_past table (Overlay w) offset v items own here out = rw (ne_eqb (overlay_at table v).stub (overlay_at table w).stub (own.own w v here out)) refl

pub topmost_in : (table : List Loaded) (x : Record) (records : List Record) → HasOwnStubs table → IsIn table x.segment → SameTopmost table records (x ∷ records)
topmost_in table x records own here v out = topmost_past table x.segment x.offset v (items_of records) own here out
