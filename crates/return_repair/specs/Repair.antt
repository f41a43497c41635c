-- The repair of live returns, one after another.
use Rattle.std.specs.Prelude.{ℕ, ◌+◌, ◌==◌, Bool, if◌then◌else◌, List, [], ◌∷◌, slice_index_or, Option, Some, None, is_some, unwrap_or}
use Rattle.cpu_8086.specs.Memory.{store_word}
use Rattle.cpu_8086.specs.State.{State}
use Rattle.cpu_8086.specs.declared.registers.Far.{Far}
use Rattle.frame_links.specs.Links.{Link}
use Rattle.return_repair.specs.declared.table.Loaded.{Loaded}
use Rattle.return_repair.specs.Chain.{live_places, are_clear}
use Rattle.return_repair.specs.Pairs.{pair_at, with_pair, owner, denoted_offset, shown_pair, is_out, same_pair}

-- what was done so far: the memory, by stub the offset of the topmost return into its overlay, and how many pairs changed
pub record Work : Type 0 where
  pub memory : List ℕ
  pub topmost : ℕ → Option ℕ
  pub changed : ℕ

abbrev pub work : List ℕ → (ℕ → Option ℕ) → Work
work memory topmost = record { memory = memory; topmost = topmost; changed = 0 }

abbrev pub no_overlay : Loaded
no_overlay = record { stub = 0; load = 0 }

-- with the offset of a return, the first of which counts
abbrev pub with_topmost : (ℕ → Option ℕ) → ℕ → ℕ → ℕ → Option ℕ
with_topmost topmost stub offset other = if other == stub then Some (unwrap_or (topmost stub) offset) else topmost other

-- a pair that denotes an overlay, which stood by one entry and stands by another
abbrev pub repaired_pair : ℕ → Loaded → Loaded → Work → ℕ → Far → Work
repaired_pair ss was now w place pair =
    let offset = denoted_offset w.memory was pair in
    let shown = shown_pair now (is_some (w.topmost now.stub)) offset in
    record {
      memory = with_pair w.memory ss place shown;
      topmost = with_topmost w.topmost now.stub offset;
      changed = w.changed + (if same_pair pair shown then 0 else 1);
    }

abbrev pub repaired_by : ℕ → List Loaded → List Loaded → Work → ℕ → Far → Option ℕ → Work
repaired_by ss old new w place pair None = w
repaired_by ss old new w place pair (Some v) =
    repaired_pair ss (slice_index_or old v no_overlay) (slice_index_or new v no_overlay) w place pair

-- the pair at a place
unfoldable pub repaired_place : ℕ → List Loaded → List Loaded → Work → ℕ → Work
repaired_place ss old new w place =
    let pair = pair_at w.memory ss place in
    repaired_by ss old new w place pair (owner old pair.segment)

abbrev pub repaired_places : ℕ → List Loaded → List Loaded → Work → List ℕ → Work
repaired_places ss old new w [] = w
repaired_places ss old new w (place ∷ places) = repaired_places ss old new (repaired_place ss old new w place) places

-- At last the topmost offsets are saved in the stubs of overlays that are out.
abbrev pub saved_by : Option ℕ → List ℕ → ℕ → List ℕ
saved_by None memory stub = memory
saved_by (Some offset) memory stub = store_word memory stub 2 offset

abbrev pub with_saved : (ℕ → Option ℕ) → List Loaded → List ℕ → List ℕ
with_saved topmost [] memory = memory
with_saved topmost (overlay ∷ table) memory =
    with_saved topmost table (if is_out overlay then saved_by (topmost overlay.stub) memory overlay.stub else memory)

-- The repair of a state whose links are these. Where a live pair touches the word of a link nothing is done.
abbrev pub at_start : List ℕ → Work
at_start memory = work memory (λ _. None)

abbrev pub repaired_at : State → Bool → List Loaded → List Loaded → List Link → Work
repaired_at s pending old new links =
    repaired_places s.registers.ss old new (at_start s.memory) (live_places s.registers pending links)

abbrev pub repaired_memory : State → Bool → List Loaded → List Loaded → List Link → List ℕ
repaired_memory s pending old new links =
    if are_clear s.registers pending links then (let w = repaired_at s pending old new links in with_saved w.topmost new w.memory)
    else s.memory

abbrev pub repaired_count : State → Bool → List Loaded → List Loaded → List Link → ℕ
repaired_count s pending old new links =
    if are_clear s.registers pending links then (repaired_at s pending old new links).changed else 0
