-- Objects in the vector that holds them.
use Rattle.std.proofs.Common.{◌≡◌, ℕ, zero, suc, ◌+◌, ◌-◌, ◌<◌, ◌≤◌, ◌==◌, Bool, true, false, List, [], ◌∷◌, ◌++◌, length, map, get_or, Option, Some, None, refl, sym, ap, subst, ◌∙◌, arith, nat_lt}
use Rattle.std.specs.Prelude.{slice_get, slice_set, if◌then◌else◌, Result, Ok, Err}
use Rattle.std.specs.Option.{option_map, option_flatten}
use Rattle.std.proofs.lemmas.List.{map-set}
use Rattle.std.proofs.lemmas.Option.{slice_get-map, slice_get_past, slice_get-get_or}
use Rattle.interpreter_store.specs.declared.cell_store.objects.Object.{Object}
use Rattle.interpreter_store.specs.declared.cell_store.traps.Trap.{Trap}
use Rattle.interpreter_store.specs.declared.cell_store.traps.Trap.TheVariants as trap
use Rattle.common_values.specs.Blocks.{rounded, block_sum, with_block}
use Rattle.common_values.specs.declared.blocks.Row.{Row}
use Rattle.tp_meaning.specs.Trees.{Spot, Tree, part_at, with_part}
use Rattle.tp_meaning.specs.Found.{Trap as PureTrap, Act, Error, IllTyped, Found, ◌>>=◌, known}
use Rattle.tp_meaning.specs.Store.{Object as PureObject, Store, object_at, with_object, without, without_row, replaced_in, replaced, disposed_in, disposed}
use Rattle.interpreter_store.specs.cell_store.Views.{view_object, view_slot}
use Rattle.interpreter_store.specs.cell_store.Finding.{view_trap, Finds}
use Rattle.interpreter_store.specs.cell_store.Parts.{exchanged_in, rows_with, freed}

-- ---- looking

abbrev store_of : List (Option Object) → List Row → Store
store_of slots rows = record { objects = map view_slot slots; rows = rows }

pub slot_within : (slots : List (Option Object)) (n : ℕ) (d : Option Object) → n < length slots → option_flatten (slice_get (map view_slot slots) n) ≡ view_slot (get_or slots n d)
slot_within slots n d h =
    ap option_flatten (slice_get-map view_slot slots n)
    ∙ ap (λ (slot : Option (Option Object)). option_flatten (option_map view_slot slot)) (slice_get-get_or slots n d h)

pub slot_past : (slots : List (Option Object)) (n : ℕ) → length slots ≤ n → option_flatten (slice_get (map view_slot slots) n) ≡ None
slot_past slots n h =
    ap option_flatten (slice_get-map view_slot slots n)
    ∙ ap (λ (slot : Option (Option Object)). option_flatten (option_map view_slot slot)) (slice_get_past slots n h)

-- ---- writing

-- whether an object was exchanged
abbrev pub Exchanged : Result (Unit {0}) Trap → Option PureObject → Found (Option PureObject) → Type 0
Exchanged done new found = Finds (λ (_ : Unit {0}). new) done found

abbrev pub Replaced : Result (Unit {0}) Trap → Store → Found Store → Type 0
Replaced done new found = Finds (λ (_ : Unit {0}). new) done found

abbrev slot_or : Found (Option PureObject) → Option PureObject
slot_or (Ok slot) = slot
slot_or (Err trap) = None

abbrev trap_or : {A : Type 0} → PureTrap → Found A → PureTrap
trap_or d (Ok x) = d
trap_or d (Err trap) = trap

abbrev Same : {A : Type 0} → Found A → Found A → Type 0
Same a b = a ≡ b

-- a trap is the same, whatever was looked for
same_trap : {A B : Type 0} (a b : PureTrap) → Same {A = A} (Err a) (Err b) → Same {A = B} (Err a) (Err b)
same_trap {A} a b e = ap (λ (found : Found A). Err (trap_or a found)) e

by_part : (done : Result (Unit {0}) Trap) (at : Option Tree) (with : Tree) (bytes n : ℕ) (new : Option PureObject) (store : Store)
    → Exchanged done new ((known at >>= λ old. Ok with) >>= λ tree. Ok (Some (record { tree = tree; bytes = bytes })))
    → Replaced done (with_object store n new) (known at >>= λ old. Ok (with_object store n (Some (record { tree = with; bytes = bytes }))))
by_part (Ok tt) None with bytes n new store e = absurd (cc e)
by_part (Ok tt) (Some old) with bytes n new store e = ap (λ (slot : Found (Option PureObject)). Ok (with_object store n (slot_or slot))) e
by_part (Err t) None with bytes n new store e = same_trap {A = Option PureObject} {B = Store} IllTyped (view_trap t) e
by_part (Err t) (Some old) with bytes n new store e = absurd (cc e)

by_object : (done : Result (Unit {0}) Trap) (o new : Option PureObject) (spot : Spot) (tree : Tree) (store : Store)
    → Exchanged done new (exchanged_in o spot.path tree) → Replaced done (with_object store spot.object new) (replaced_in store spot tree o)
by_object (Ok tt) None new spot tree store e = absurd (cc e)
by_object (Err t) None new spot tree store e = same_trap {A = Option PureObject} {B = Store} (Act 2) (view_trap t) e
by_object done (Some object) new spot tree store e =
    by_part done (part_at object.tree spot.path) (with_part object.tree spot.path tree) object.bytes spot.object new store e

pub replaced_within : (done : Result (Unit {0}) Trap) (slots : List (Option Object)) (rows : List Row) (spot : Spot) (d new : Option Object) (tree : Tree) → spot.object < length slots
    → Exchanged done (view_slot new) (exchanged_in (view_slot (get_or slots spot.object d)) spot.path tree)
    → Replaced done (store_of (slice_set slots spot.object new) rows) (replaced (store_of slots rows) spot tree)
replaced_within done slots rows spot d new tree h e =
    let there = slot_within slots spot.object d h in
    let store = store_of slots rows in
    let done_so : Replaced done (with_object store spot.object (view_slot new)) (replaced store spot tree) =
    by_object done (object_at store spot.object) (view_slot new) spot tree store (subst (λ (o : Option PureObject). Exchanged done (view_slot new) (exchanged_in o spot.path tree)) (sym there) e) in
    subst (λ (objects : List (Option PureObject)). Replaced done (record { objects = objects; rows = rows }) (replaced store spot tree)) (sym (map-set view_slot slots spot.object new)) done_so

pub replaced_past : (slots : List (Option Object)) (rows : List Row) (spot : Spot) (tree : Tree) → length slots ≤ spot.object → replaced (store_of slots rows) spot tree ≡ Err (Act 2)
replaced_past slots rows spot tree h = ap (replaced_in (store_of slots rows) spot tree) (slot_past slots spot.object h)

-- ---- objects that go

-- one more is gone of those that are to go
pub without_more : (slots : List (Option Object)) (rows : List Row) (serial left : ℕ)
    → without (store_of slots rows) serial (suc left) ≡ without (store_of (slice_set slots serial None) rows) (serial + 1) left
without_more slots rows serial left = ap (λ (objects : List (Option PureObject)). without (record { objects = objects; rows = rows }) (serial + 1) left) (sym (map-set view_slot slots serial None))

pub without_all : (slots : List (Option Object)) (rows : List Row) (first count : ℕ) → without (store_of slots rows) first count ≡ without (store_of slots rows) first (first + count - first)
without_all slots rows first count = let same : count ≡ first + count - first = omega arith in ap (without (store_of slots rows) first) same

-- ---- blocks

by_size : (same : Bool) (store : Store) (serial bytes : ℕ)
    → (if same then Ok (without_row (with_object store serial None) bytes) else Err (Act 5)) ≡ ((if same then Ok None else Err (Act 5)) >>= λ object. Ok (without_row (with_object store serial object) bytes))
by_size true store serial bytes = refl
by_size false store serial bytes = refl

disposed_by : (o : Option PureObject) (store : Store) (serial bytes : ℕ) → disposed_in store serial bytes o ≡ (freed o bytes >>= λ object. Ok (without_row (with_object store serial object) bytes))
disposed_by None store serial bytes = refl
disposed_by (Some object) store serial bytes = by_size (object.bytes == bytes) store serial bytes

-- a block is gone where its object is freed
pub disposed_within : (slots : List (Option Object)) (rows : List Row) (serial bytes : ℕ) (d : Option Object) → serial < length slots
    → disposed (store_of slots rows) serial bytes ≡ (freed (view_slot (get_or slots serial d)) bytes >>= λ object. Ok (without_row (with_object (store_of slots rows) serial object) bytes))
disposed_within slots rows serial bytes d h =
    ap (disposed_in (store_of slots rows) serial bytes) (slot_within slots serial d h) ∙ disposed_by (view_slot (get_or slots serial d)) (store_of slots rows) serial bytes

pub disposed_past : (slots : List (Option Object)) (rows : List Row) (serial bytes : ℕ) → length slots ≤ serial → disposed (store_of slots rows) serial bytes ≡ Err (Act 2)
disposed_past slots rows serial bytes h = ap (disposed_in (store_of slots rows) serial bytes) (slot_past slots serial h)
