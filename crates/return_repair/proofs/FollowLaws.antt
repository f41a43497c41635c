-- Live pairs follow the table.
use Rattle.std.proofs.Common.{◌≡◌, ◌≢◌, ◌⊎◌, inl, inr, ℕ, zero, suc, ◌+◌, ◌-◌, ◌*◌, ◌%◌, ◌<◌, ◌≤◌, Bool, true, false, cond, eqb, eq-eqb, eqb-true, List, [], ◌∷◌, length, map, get_or, Option, Some, None, refl, sym, ap, ap₂, subst, ◌∙◌, arith}
use Rattle.std.specs.Prelude.{is_some, unwrap_or, slice_index_or, position, ◌==◌, ◌&&◌}
use Rattle.std.specs.List.{AllByRecursion}
use Rattle.std.proofs.lemmas.List.Quantifiers.{position-Some}
use Rattle.cpu_8086.specs.Memory.{store_word}
use Rattle.cpu_8086.specs.declared.registers.Far.{Far}
use Rattle.cpu_8086.proofs.MemoryLaws.{length-store_word}
use Rattle.cpu_8086.specs.State.{State}
use Rattle.return_repair.specs.Chain.{chain_of, links_of, live_places}
use Rattle.return_repair.specs.declared.table.Loaded.{Loaded}
use Rattle.return_repair.specs.Pairs.{pair_at, with_pair, HaveSameStubs, is_out, has_segment, owner, denoted_offset, shown_pair, same_pair, saved_at}
use Rattle.return_repair.specs.Repair.{Work, work, at_start, no_overlay, with_topmost, repaired_pair, repaired_by, repaired_place, repaired_places, saved_by, with_saved, repaired_at, repaired_memory, repaired_count}
use Rattle.return_repair.specs.Follows.{Denoted, Stays, Into, overlay_at, denoted_by, denoted, pairs_at, denotations, met_too, shown, none_met, topmost_into, differing, AreApart, ArePlaces, MissesPair, MissesStub, AreStubs, IsOrderly, IsOrderlyState, saved_after, Follow}
use Rattle.return_repair.proofs.PairLaws.{length-with_pair, pair_at-same, pair_at-other, saved-with_pair, pair_at-saved, saved-saved_other, saved-saved_same}

-- what is met, as the work knows it
abbrev met_by : (ℕ → Option ℕ) → ℕ → Bool
met_by topmost stub = is_some (topmost stub)

-- with the topmost offsets of what is still to come
abbrev pub or_else : Option ℕ → Option ℕ → Option ℕ
or_else None other = other
or_else (Some x) other = Some x

-- the stub of an overlay misses a pair
stub_at : (ss : ℕ) (places : List ℕ) (table : List Loaded) (v : ℕ) → v < length table → AreStubs ss places table → AllByRecursion (MissesPair ss (overlay_at table v)) places
stub_at ss places [] v there apart = absurd (omega arith)
stub_at ss places (overlay ∷ table) zero there apart = apart.0
stub_at ss places (overlay ∷ table) (suc v) there apart = stub_at ss places table v (omega arith) apart.2

-- the memory is, for the pairs and stubs that are left, as it was
pub record AsBefore (memory now : List ℕ) (ss : ℕ) (places : List ℕ) (table : List Loaded) : Type 0 where
  pub size : length now ≡ 1048576
  pub pairs : AllByRecursion (λ place. pair_at now ss place ≡ pair_at memory ss place) places
  pub saved : (v : ℕ) → v < length table → saved_at now (overlay_at table v).stub ≡ saved_at memory (overlay_at table v).stub

-- what one place does: its pair is shown, and what is left stays
pub record PlaceDone (memory : List ℕ) (ss place : ℕ) (places : List ℕ) (old new : List Loaded) (w after : Work) (item : Denoted) : Type 0 where
  pub before : AsBefore memory after.memory ss places old
  pub met : (items : List Denoted) → shown new (met_by w.topmost) (item ∷ items) ≡ pair_at after.memory ss place ∷ shown new (met_by after.topmost) items
  pub topmost : (stub : ℕ) (items : List Denoted) → or_else (w.topmost stub) (topmost_into new stub (item ∷ items)) ≡ or_else (after.topmost stub) (topmost_into new stub items)
  pub changed : after.changed ≡ w.changed + cond (same_pair (pair_at memory ss place) (pair_at after.memory ss place)) 0 1
  pub others : (other : ℕ) → other + 4 ≤ 65536 → AreApart place other → pair_at after.memory ss other ≡ pair_at w.memory ss other

-- two pairs that are one
same_itself : (pair : Far) → same_pair pair pair ≡ true
same_itself pair = rw (eq-eqb pair.offset pair.offset refl, eq-eqb pair.segment pair.segment refl) refl

-- marks and topmost offsets
met_more : (topmost : ℕ → Option ℕ) (stub offset : ℕ) → met_too stub (met_by topmost) ≡ met_by (with_topmost topmost stub offset)
met_more topmost stub offset = λ i other. by other (other == stub) i
  where
    by : (other : ℕ) (b : Bool) → cond b true (is_some (topmost other)) ≡ is_some (cond b (Some (unwrap_or (topmost stub) offset)) (topmost other))
    by other true = refl
    by other false = refl

topmost_more : (topmost : ℕ → Option ℕ) (now_stub offset stub : ℕ) (later : Option ℕ) → or_else (topmost stub) (cond (stub == now_stub) (Some offset) later) ≡ or_else (with_topmost topmost now_stub offset stub) later
topmost_more topmost now_stub offset stub later = by (stub == now_stub) refl (topmost stub) refl
  where
    by : (b : Bool) → (stub == now_stub) ≡ b → (known : Option ℕ) → topmost stub ≡ known → or_else known (cond b (Some offset) later) ≡ or_else (cond b (Some (unwrap_or (topmost now_stub) offset)) known) later
    by true is (Some x) known = let same : stub ≡ now_stub = eqb-true stub now_stub is in let here : topmost now_stub ≡ Some x = ap topmost (sym same) ∙ known in rw here refl
    by true is None known = let same : stub ≡ now_stub = eqb-true stub now_stub is in let here : topmost now_stub ≡ None = ap topmost (sym same) ∙ known in rw here refl
    by false is known known_is = refl

-- a place whose pair denotes nothing
stays_done : (memory : List ℕ) (ss place : ℕ) (places : List ℕ) (old new : List Loaded) (w : Work) → AsBefore memory w.memory ss (place ∷ places) old → PlaceDone memory ss place places old new w w (Stays (pair_at memory ss place))
stays_done memory ss place places old new w before = record {
  before = record { size = before.size; pairs = before.pairs.1; saved = before.saved };
  met = λ items. ap (λ (pair : Far). pair ∷ shown new (met_by w.topmost) items) (sym before.pairs.0);
  topmost = λ stub items. refl;
  changed =
      let same : same_pair (pair_at memory ss place) (pair_at w.memory ss place) ≡ true = ap (same_pair (pair_at memory ss place)) before.pairs.0 ∙ same_itself (pair_at memory ss place) in
      let none : w.changed ≡ w.changed + 0 = omega arith in
      none ∙ ap (λ b. w.changed + cond b 0 1) (sym same);
  others = λ other fits apart. refl;
}

-- the pairs and stubs that are left, once a pair was written
left_as_before : (memory : List ℕ) (ss place : ℕ) (places : List ℕ) (now : List ℕ) (pair : Far) → place + 4 ≤ 65536 → AllByRecursion (AreApart place) places → ArePlaces places → AllByRecursion (λ other. pair_at now ss other ≡ pair_at memory ss other) places
    → AllByRecursion (λ other. pair_at (with_pair now ss place pair) ss other ≡ pair_at memory ss other) places
left_as_before memory ss place [] now pair fits apart sound kept = tt
left_as_before memory ss place (other ∷ places) now pair fits apart sound kept =
    (pair_at-other now ss place other pair fits sound.0 apart.0 ∙ kept.0, left_as_before memory ss place places now pair fits apart.1 sound.2 kept.1)

-- a place whose pair denotes an overlay
into_done : (memory : List ℕ) (ss place : ℕ) (places : List ℕ) (old new : List Loaded) (w : Work) (v : ℕ) → v < length old → AsBefore memory w.memory ss (place ∷ places) old → ArePlaces (place ∷ places)
    → ((number : ℕ) → number < length old → MissesPair ss (overlay_at old number) place)
    → PlaceDone memory ss place places old new w (repaired_pair ss (overlay_at old v) (overlay_at new v) w place (pair_at memory ss place)) (Into v (denoted_offset memory (overlay_at old v) (pair_at memory ss place)))
into_done memory ss place places old new w v there before sound misses =
    let was = overlay_at old v in
    let now = overlay_at new v in
    let pair = pair_at memory ss place in
    let offset : ℕ = denoted_offset memory was pair in
    let offset_is : denoted_offset w.memory was pair ≡ offset = ap (λ (saved : ℕ). cond ((was.stub == pair.segment) && (pair.offset == 0)) saved pair.offset) (before.saved v there) in
    let shown_as = shown_pair now (met_by w.topmost now.stub) offset in
    let after : Work = record { memory = with_pair w.memory ss place shown_as; topmost = with_topmost w.topmost now.stub offset; changed = w.changed + cond (same_pair pair shown_as) 0 1 } in
    let whole : repaired_pair ss was now w place pair ≡ after = ap (λ (offset : ℕ). let shown_as = shown_pair now (met_by w.topmost now.stub) offset in let made : Work = record { memory = with_pair w.memory ss place shown_as; topmost = with_topmost w.topmost now.stub offset; changed = w.changed + cond (same_pair pair shown_as) 0 1 } in made) offset_is in
    let read : pair_at after.memory ss place ≡ shown_as = pair_at-same w.memory ss place shown_as before.size sound.0 in
    let done : PlaceDone memory ss place places old new w after (Into v offset) = record {
      before = record {
        size = length-with_pair w.memory ss place shown_as ∙ before.size;
        pairs = left_as_before memory ss place places w.memory shown_as sound.0 sound.1 sound.2 before.pairs.1;
        saved = λ number listed. saved-with_pair w.memory ss place (overlay_at old number) shown_as sound.0 (misses number listed) ∙ before.saved number listed;
      };
      met = λ items. ap₂ (λ (pair : Far) (met : ℕ → Bool). pair ∷ shown new met items) (sym read) (met_more w.topmost now.stub offset);
      topmost = λ stub items. topmost_more w.topmost now.stub offset stub (topmost_into new stub items);
      changed = ap (λ (other : Far). w.changed + cond (same_pair pair other) 0 1) (sym read);
      others = λ other fits apart. pair_at-other w.memory ss place other shown_as sound.0 fits apart;
    } in
    subst (λ (after : Work). PlaceDone memory ss place places old new w after (Into v offset)) (sym whole) done

pub place_done : (memory : List ℕ) (ss place : ℕ) (places : List ℕ) (old new : List Loaded) (w : Work) → AsBefore memory w.memory ss (place ∷ places) old → ArePlaces (place ∷ places) → ((number : ℕ) → number < length old → MissesPair ss (overlay_at old number) place)
    → PlaceDone memory ss place places old new w (repaired_place ss old new w place) (denoted memory old (pair_at memory ss place))
unfolding repaired_place
place_done memory ss place places old new w before sound misses =
    let pair = pair_at memory ss place in
    let P : Far → Type 0 = λ now. PlaceDone memory ss place places old new w (repaired_by ss old new w place now (owner old now.segment)) (denoted memory old pair) in
    subst P (sym before.pairs.0) (by (owner old pair.segment) refl)
  where
    by : (v : Option ℕ) → owner old (pair_at memory ss place).segment ≡ v → PlaceDone memory ss place places old new w (repaired_by ss old new w place (pair_at memory ss place) v) (denoted_by memory old (pair_at memory ss place) v)
    by None is = stays_done memory ss place places old new w before
    by (Some v) is =
        let found = position-Some (has_segment (pair_at memory ss place).segment) old v no_overlay is in
        into_done memory ss place places old new w v found.0 before sound misses

-- all places
pub record PlacesDone (memory : List ℕ) (ss : ℕ) (places : List ℕ) (old new : List Loaded) (w after : Work) (items : List Denoted) : Type 0 where
  pub size : length after.memory ≡ 1048576
  pub saved : (v : ℕ) → v < length old → saved_at after.memory (overlay_at old v).stub ≡ saved_at memory (overlay_at old v).stub
  pub pairs : pairs_at after.memory ss places ≡ shown new (met_by w.topmost) items
  pub topmost : (stub : ℕ) → after.topmost stub ≡ or_else (w.topmost stub) (topmost_into new stub items)
  pub changed : after.changed ≡ w.changed + differing (pairs_at memory ss places) (shown new (met_by w.topmost) items)
  pub others : (other : ℕ) → other + 4 ≤ 65536 → AllByRecursion (λ place. AreApart place other) places → pair_at after.memory ss other ≡ pair_at w.memory ss other

or_none : (known : Option ℕ) → known ≡ or_else known None
or_none None = refl
or_none (Some x) = refl

others_apart : (place : ℕ) (places : List ℕ) → AllByRecursion (AreApart place) places → AllByRecursion (λ other. AreApart other place) places
others_apart place [] apart = tt
others_apart place (other ∷ places) apart = (turned apart.0, others_apart place places apart.1)
  where
    turned : AreApart place other → AreApart other place
    turned (inl below) = inr below
    turned (inr above) = inl above

pub places_done : (memory : List ℕ) (ss : ℕ) (places : List ℕ) (old new : List Loaded) (w : Work) → AsBefore memory w.memory ss places old → ArePlaces places → ((number : ℕ) → number < length old → AllByRecursion (MissesPair ss (overlay_at old number)) places)
    → PlacesDone memory ss places old new w (repaired_places ss old new w places) (denotations memory ss old places)
places_done memory ss [] old new w before sound misses = record {
  size = before.size;
  saved = before.saved;
  pairs = refl;
  topmost = λ stub. or_none (w.topmost stub);
  changed = omega arith;
  others = λ other fits apart. refl;
}
places_done memory ss (place ∷ places) old new w before sound misses =
    let item = denoted memory old (pair_at memory ss place) in
    let items = denotations memory ss old places in
    let first = place_done memory ss place places old new w before sound (λ number listed. (misses number listed).0) in
    let middle = repaired_place ss old new w place in
    let later = places_done memory ss places old new middle first.before sound.2 (λ number listed. (misses number listed).1) in
    let after = repaired_places ss old new middle places in
    let here : pair_at after.memory ss place ≡ pair_at middle.memory ss place = later.others place sound.0 (others_apart place places sound.1) in
    record {
      size = later.size;
      saved = later.saved;
      pairs = ap₂ (λ (pair : Far) (pairs : List Far). pair ∷ pairs) here later.pairs ∙ sym (first.met items);
      topmost = λ stub. later.topmost stub ∙ sym (first.topmost stub items);
      changed =
          let one : ℕ = cond (same_pair (pair_at memory ss place) (pair_at middle.memory ss place)) 0 1 in
          let rest : ℕ = differing (pairs_at memory ss places) (shown new (met_by middle.topmost) items) in
          let sum : w.changed + one + rest ≡ w.changed + (one + rest) = omega arith in
          later.changed ∙ ap (λ (n : ℕ). n + rest) first.changed ∙ sum ∙ ap (λ (others : List Far). w.changed + differing (pair_at memory ss place ∷ pairs_at memory ss places) others) (sym (first.met items));
      others = λ other fits apart. later.others other fits apart.1 ∙ first.others other fits apart.0;
    }

-- saving leaves the pairs
saved_pairs : (ss : ℕ) (places : List ℕ) (topmost : ℕ → Option ℕ) (table : List Loaded) (memory : List ℕ) → ArePlaces places → AreStubs ss places table → pairs_at (with_saved topmost table memory) ss places ≡ pairs_at memory ss places
saved_pairs ss places topmost [] memory sound apart = refl
saved_pairs ss places topmost (overlay ∷ table) memory sound apart = saved_pairs ss places topmost table (cond (is_out overlay) (saved_by (topmost overlay.stub) memory overlay.stub) memory) sound apart.2 ∙ one (is_out overlay) (topmost overlay.stub)
  where
    each : (offset : ℕ) (places : List ℕ) → ArePlaces places → AllByRecursion (MissesPair ss overlay) places → pairs_at (store_word memory overlay.stub 2 offset) ss places ≡ pairs_at memory ss places
    each offset [] sound misses = refl
    each offset (place ∷ places) sound misses = ap₂ (λ (pair : Far) (pairs : List Far). pair ∷ pairs) (pair_at-saved memory ss place overlay offset sound.0 misses.0) (each offset places sound.2 misses.1)

    one : (out : Bool) (offset : Option ℕ) → pairs_at (cond out (saved_by offset memory overlay.stub) memory) ss places ≡ pairs_at memory ss places
    one false offset = refl
    one true None = refl
    one true (Some offset) = each offset places sound apart.0

-- and gives each stub its offset
length-saved_by : (topmost : Option ℕ) (memory : List ℕ) (stub : ℕ) → length (saved_by topmost memory stub) ≡ length memory
length-saved_by None memory stub = refl
length-saved_by (Some offset) memory stub = length-store_word memory stub 2 offset

length-one_saved : (out : Bool) (topmost : Option ℕ) (memory : List ℕ) (stub : ℕ) → length (cond out (saved_by topmost memory stub) memory) ≡ length memory
length-one_saved true topmost memory stub = length-saved_by topmost memory stub
length-one_saved false topmost memory stub = refl

saved_elsewhere : (topmost : ℕ → Option ℕ) (table : List Loaded) (memory : List ℕ) (overlay : Loaded) → AllByRecursion (λ other. MissesStub other overlay) table → saved_at (with_saved topmost table memory) overlay.stub ≡ saved_at memory overlay.stub
saved_elsewhere topmost [] memory overlay misses = refl
saved_elsewhere topmost (other ∷ table) memory overlay misses = saved_elsewhere topmost table (cond (is_out other) (saved_by (topmost other.stub) memory other.stub) memory) overlay misses.1 ∙ one (is_out other) (topmost other.stub)
  where
    one : (out : Bool) (offset : Option ℕ) → saved_at (cond out (saved_by offset memory other.stub) memory) overlay.stub ≡ saved_at memory overlay.stub
    one false offset = refl
    one true None = refl
    one true (Some offset) = saved-saved_other memory other overlay offset misses.0

turned_stubs : (overlay : Loaded) (table : List Loaded) → AllByRecursion (MissesStub overlay) table → AllByRecursion (λ other. MissesStub other overlay) table
turned_stubs overlay [] misses = tt
turned_stubs overlay (other ∷ table) misses = (λ i j low high same. misses.0 j i high low (sym same), turned_stubs overlay table misses.1)

saved_offsets : (ss : ℕ) (places : List ℕ) (topmost : ℕ → Option ℕ) (table : List Loaded) (memory : List ℕ) → length memory ≡ 1048576 → AreStubs ss places table
    → AllByRecursion (λ overlay. saved_at (with_saved topmost table memory) overlay.stub ≡ cond (is_out overlay) (unwrap_or (topmost overlay.stub) (saved_at memory overlay.stub)) (saved_at memory overlay.stub)) table
saved_offsets ss places topmost [] memory size apart = tt
saved_offsets ss places topmost (overlay ∷ table) memory size apart =
    let next : List ℕ = cond (is_out overlay) (saved_by (topmost overlay.stub) memory overlay.stub) memory in
    let size_next : length next ≡ 1048576 = length-one_saved (is_out overlay) (topmost overlay.stub) memory overlay.stub ∙ size in (
      saved_elsewhere topmost table next overlay (turned_stubs overlay table apart.1) ∙ here (is_out overlay) (topmost overlay.stub),
      each (with_saved topmost table next) next table (λ other misses. there (is_out overlay) (topmost overlay.stub) other misses) apart.1 (saved_offsets ss places topmost table next size_next apart.2),
    )
  where
    here : (out : Bool) (offset : Option ℕ) → saved_at (cond out (saved_by offset memory overlay.stub) memory) overlay.stub ≡ cond out (unwrap_or offset (saved_at memory overlay.stub)) (saved_at memory overlay.stub)
    here false offset = refl
    here true None = refl
    here true (Some offset) = saved-saved_same memory overlay offset size

    there : (out : Bool) (offset : Option ℕ) (other : Loaded) → MissesStub overlay other → saved_at (cond out (saved_by offset memory overlay.stub) memory) other.stub ≡ saved_at memory other.stub
    there false offset other misses = refl
    there true None other misses = refl
    there true (Some offset) other misses = saved-saved_other memory overlay other offset misses

    each : (after next : List ℕ) (others : List Loaded) → ((other : Loaded) → MissesStub overlay other → saved_at next other.stub ≡ saved_at memory other.stub) → AllByRecursion (MissesStub overlay) others
        → AllByRecursion (λ other. saved_at after other.stub ≡ cond (is_out other) (unwrap_or (topmost other.stub) (saved_at next other.stub)) (saved_at next other.stub)) others
        → AllByRecursion (λ other. saved_at after other.stub ≡ cond (is_out other) (unwrap_or (topmost other.stub) (saved_at memory other.stub)) (saved_at memory other.stub)) others
    each after next [] same misses done = tt
    each after next (other ∷ others) same misses done =
        (done.0 ∙ ap (λ (saved : ℕ). cond (is_out other) (unwrap_or (topmost other.stub) saved) saved) (same other misses.0), each after next others same misses.1 done.1)

-- two tables of the same stubs
first_same : (a b : ℕ) (xs ys : List ℕ) → a ∷ xs ≡ b ∷ ys → (a ≡ b) × (xs ≡ ys)
first_same a b xs ys same = (cc, cc)

abbrev stubs : List Loaded → List ℕ
stubs table = map (λ (overlay : Loaded). overlay.stub) table

misses_all : (a b : Loaded) (old new : List Loaded) → a.stub ≡ b.stub → stubs old ≡ stubs new → AllByRecursion (MissesStub a) old → AllByRecursion (MissesStub b) new
misses_all a b [] [] same others misses = tt
misses_all a b [] (y ∷ ys) same others misses = absurd cc
misses_all a b (x ∷ xs) [] same others misses = absurd cc
misses_all a b (x ∷ xs) (y ∷ ys) same others misses =
    let parts = first_same x.stub y.stub (stubs xs) (stubs ys) others in
    let P : ℕ → Type 0 = λ stub. MissesStub (record { stub = stub; load = 0 }) y in
    let Q : ℕ → Type 0 = λ stub. MissesStub a (record { stub = stub; load = 0 }) in
    (subst P same (subst Q parts.0 misses.0), misses_all a b xs ys same parts.1 misses.1)

pub same_stubs : (ss : ℕ) (places : List ℕ) (old new : List Loaded) → stubs old ≡ stubs new → AreStubs ss places old → AreStubs ss places new
same_stubs ss places [] [] same apart = tt
same_stubs ss places [] (y ∷ ys) same apart = absurd cc
same_stubs ss places (x ∷ xs) [] same apart = absurd cc
same_stubs ss places (x ∷ xs) (y ∷ ys) same apart =
    let parts = first_same x.stub y.stub (stubs xs) (stubs ys) same in
    let P : ℕ → Type 0 = λ stub. AllByRecursion (MissesPair ss (record { stub = stub; load = 0 })) places in
    (subst P parts.0 apart.0, misses_all x y xs ys parts.0 parts.1 apart.1, same_stubs ss places xs ys parts.1 apart.2)

-- what holds of each overlay of one holds of each of the other
each_saved : (after memory : List ℕ) (old new : List Loaded) → stubs old ≡ stubs new → ((v : ℕ) → v < length old → saved_at after (overlay_at old v).stub ≡ saved_at memory (overlay_at old v).stub)
    → AllByRecursion (λ overlay. saved_at after overlay.stub ≡ saved_at memory overlay.stub) new
each_saved after memory [] [] same kept = tt
each_saved after memory [] (y ∷ ys) same kept = absurd cc
each_saved after memory (x ∷ xs) [] same kept = absurd cc
each_saved after memory (x ∷ xs) (y ∷ ys) same kept =
    let parts = first_same x.stub y.stub (stubs xs) (stubs ys) same in
    let P : ℕ → Type 0 = λ stub. saved_at after stub ≡ saved_at memory stub in
    (subst P parts.0 (kept 0 (omega arith)), each_saved after memory xs ys parts.1 (λ v there. kept (suc v) (omega arith)))

saved_whole : (final after memory : List ℕ) (topmost : ℕ → Option ℕ) (items : List Denoted) (whole table : List Loaded) → ((stub : ℕ) → topmost stub ≡ topmost_into whole stub items)
    → AllByRecursion (λ overlay. saved_at after overlay.stub ≡ saved_at memory overlay.stub) table
    → AllByRecursion (λ overlay. saved_at final overlay.stub ≡ cond (is_out overlay) (unwrap_or (topmost overlay.stub) (saved_at after overlay.stub)) (saved_at after overlay.stub)) table
    → AllByRecursion (λ overlay. saved_at final overlay.stub ≡ saved_after memory items whole overlay) table
saved_whole final after memory topmost items whole [] known kept done = tt
saved_whole final after memory topmost items whole (overlay ∷ table) known kept done = (
  done.0 ∙ ap₂ (λ (offset : Option ℕ) (saved : ℕ). cond (is_out overlay) (unwrap_or offset saved) saved) (known overlay.stub) kept.0,
  saved_whole final after memory topmost items whole table known kept.1 done.1,
)

at_first : (memory : List ℕ) (ss : ℕ) (places : List ℕ) → AllByRecursion (λ place. pair_at memory ss place ≡ pair_at memory ss place) places
at_first memory ss [] = tt
at_first memory ss (place ∷ places) = (refl, at_first memory ss places)

-- In an orderly state the live pairs follow the table.
pub follow : (memory : List ℕ) (ss : ℕ) (places : List ℕ) (old new : List Loaded) → HaveSameStubs old new → IsOrderly memory ss places old
    → Follow memory (with_saved (repaired_places ss old new (at_start memory) places).topmost new (repaired_places ss old new (at_start memory) places).memory) ss places old new (repaired_places ss old new (at_start memory) places).changed
follow memory ss places old new same orderly =
    let w = repaired_places ss old new (at_start memory) places in
    let items = denotations memory ss old places in
    let before : AsBefore memory memory ss places old = record { size = orderly.size; pairs = at_first memory ss places; saved = λ v there. refl } in
    let done = places_done memory ss places old new (at_start memory) before orderly.places_apart (λ number listed. stub_at ss places old number listed orderly.stubs_apart) in
    let apart = same_stubs ss places old new same orderly.stubs_apart in
    let final : List ℕ = with_saved w.topmost new w.memory in
    let none : differing (pairs_at memory ss places) (shown new none_met items) ≡ 0 + differing (pairs_at memory ss places) (shown new none_met items) = omega arith in
    record {
      pairs = saved_pairs ss places w.topmost new w.memory orderly.places_apart apart ∙ done.pairs;
      saved = saved_whole final w.memory memory w.topmost items new new done.topmost (each_saved w.memory memory old new same done.saved) (saved_offsets ss places w.topmost new w.memory done.size apart);
      count = done.changed ∙ sym none;
    }

-- the same for the repair of a state
pub follow_state : (marked : Bool) (s : State) (after : List ℕ) (pending : Bool) (old new : List Loaded) (changed : ℕ) → HaveSameStubs old new
    → after ≡ repaired_memory s pending old new (links_of (chain_of marked s)) → changed ≡ repaired_count s pending old new (links_of (chain_of marked s)) → IsOrderlyState marked s pending old
    → Follow s.memory after s.registers.ss (live_places s.registers pending (links_of (chain_of marked s))) old new changed
follow_state marked s after pending old new changed same after_is changed_is orderly =
    let links = links_of (chain_of marked s) in
    let places = live_places s.registers pending links in
    let w = repaired_at s pending old new links in
    let clear = orderly.clear in
    let memory : repaired_memory s pending old new links ≡ with_saved w.topmost new w.memory = rw clear refl in
    let count : repaired_count s pending old new links ≡ w.changed = rw clear refl in
    let P : List ℕ → ℕ → Type 0 = λ after changed. Follow s.memory after s.registers.ss places old new changed in
    subst (λ (after : List ℕ). P after changed) (sym (after_is ∙ memory)) (subst (λ (changed : ℕ). P (with_saved w.topmost new w.memory) changed) (sym (changed_is ∙ count)) (follow s.memory s.registers.ss places old new same orderly.apart))
