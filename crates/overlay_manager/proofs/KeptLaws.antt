-- Live pairs denote the same after a service.
use Rattle.std.proofs.Common.{◌≡◌, ◌≢◌, ℕ, zero, suc, ◌<◌, Bool, true, false, cond, List, [], ◌∷◌, length, map, Option, Some, None, refl, sym, ap, ap₂, subst, ◌∙◌, arith}
use Rattle.std.specs.Prelude.{unwrap_or, ◌==◌}
use Rattle.std.specs.List.{AllByRecursion}
use Rattle.std.proofs.lemmas.Bool.Decides.{nat_tests}
use Rattle.std.proofs.lemmas.List.Quantifiers.{position-Some}
use Rattle.cpu_8086.specs.declared.registers.Far.{Far}
use Rattle.return_repair.specs.declared.table.Loaded.{Loaded}
use Rattle.return_repair.specs.Pairs.{pair_at, owner, has_segment, is_out, denoted_offset, shown_pair, saved_at, HaveSameStubs}
use Rattle.return_repair.specs.Repair.{no_overlay}
use Rattle.return_repair.specs.Follows.{Denoted, Stays, Into, denoted, denoted_by, denotations, overlay_at, pairs_at, shown, none_met, met_too, topmost_into, saved_after, Follow}
use Rattle.overlay_manager.specs.Kept.{shown_segment, IsFound, AreReturns, DenoteSame, TwoServices}
use Rattle.overlay_manager.proofs.CarriedLaws.{denotations-same}

-- overlays that are denoted are the table's
abbrev IsInside : ℕ → Denoted → Type 0
IsInside count (Stays pair) = Unit {0}
IsInside count (Into v offset) = v < count

denoted-inside : (memory : List ℕ) (table : List Loaded) (pair : Far) → IsInside (length table) (denoted memory table pair)
denoted-inside memory table pair = by (owner table pair.segment) refl
  where
    by : (number : Option ℕ) → owner table pair.segment ≡ number → IsInside (length table) (denoted_by memory table pair number)
    by None is = tt
    by (Some v) is = (position-Some (has_segment pair.segment) table v no_overlay is).0

denotations-inside : (memory : List ℕ) (ss : ℕ) (table : List Loaded) (places : List ℕ) → AllByRecursion (IsInside (length table)) (denotations memory ss table places)
denotations-inside memory ss table [] = tt
denotations-inside memory ss table (place ∷ places) = (denoted-inside memory table (pair_at memory ss place), denotations-inside memory ss table places)

denotations-map : (memory : List ℕ) (ss : ℕ) (table : List Loaded) (places : List ℕ) → denotations memory ss table places ≡ map (denoted memory table) (pairs_at memory ss places)
denotations-map memory ss table [] = refl
denotations-map memory ss table (place ∷ places) = ap (λ (items : List Denoted). denoted memory table (pair_at memory ss place) ∷ items) (denotations-map memory ss table places)

-- how a pair is read that is shown
offset-shown : (memory : List ℕ) (overlay : Loaded) (met : Bool) (offset : ℕ) → offset ≢ 0 → (is_out overlay ≡ false → (overlay.stub == overlay.load) ≡ false) → (is_out overlay ≡ true → met ≡ false → saved_at memory overlay.stub ≡ offset)
    → denoted_offset memory overlay (shown_pair overlay met offset) ≡ offset
offset-shown memory overlay met offset some apart saved = by (is_out overlay) refl met refl
  where
    by : (out : Bool) → is_out overlay ≡ out → (known : Bool) → met ≡ known → denoted_offset memory overlay (cond out (record { offset = cond known offset 0; segment = overlay.stub }) (record { offset = offset; segment = overlay.load })) ≡ offset
    by false out known met_is = let differ : (overlay.stub == overlay.load) ≡ false = apart out in rw differ refl
    by true out true met_is =
        let here : (overlay.stub == overlay.stub) ≡ true = grind (arith, nat_tests) in
        let differ : (offset == 0) ≡ false = grind (arith, nat_tests) in
        rw (here, differ) refl
    by true out false met_is =
        let here : (overlay.stub == overlay.stub) ≡ true = grind (arith, nat_tests) in
        rw here (saved out met_is)

segment-shown : (overlay : Loaded) (met : Bool) (offset : ℕ) → (shown_pair overlay met offset).segment ≡ shown_segment overlay
segment-shown overlay met offset = by (is_out overlay)
  where
    by : (out : Bool) → (let pair : Far = cond out (record { offset = cond met offset 0; segment = overlay.stub }) (record { offset = offset; segment = overlay.load }) in pair.segment) ≡ cond out overlay.stub overlay.load
    by false = refl
    by true = refl

-- what is shown denotes what it was made from
denoted-shown : (memory : List ℕ) (table : List Loaded) (v : ℕ) (met : Bool) (offset : ℕ) → IsFound table → v < length table → offset ≢ 0 → (is_out (overlay_at table v) ≡ true → met ≡ false → saved_at memory (overlay_at table v).stub ≡ offset)
    → denoted memory table (shown_pair (overlay_at table v) met offset) ≡ Into v offset
denoted-shown memory table v met offset found there some saved =
    let overlay = overlay_at table v in
    let pair = shown_pair overlay met offset in
    let owner_is : owner table pair.segment ≡ Some v = ap (owner table) (segment-shown overlay met offset) ∙ found.owners v there in
    ap (denoted_by memory table pair) owner_is ∙ ap (λ (offset : ℕ). Into v offset) (offset-shown memory overlay met offset some (found.loads v there) saved)

-- the topmost offset is saved, of each overlay that is out
abbrev SavesTopmost : List ℕ → List Loaded → List Denoted → Type 0
SavesTopmost memory table whole = (v offset : ℕ) → v < length table → is_out (overlay_at table v) ≡ true → topmost_into table (overlay_at table v).stub whole ≡ Some offset → saved_at memory (overlay_at table v).stub ≡ offset

-- of what was not met all is still to come
abbrev IsToCome : List Loaded → (ℕ → Bool) → List Denoted → List Denoted → Type 0
IsToCome table met items whole = (v : ℕ) → v < length table → met (overlay_at table v).stub ≡ false → topmost_into table (overlay_at table v).stub items ≡ topmost_into table (overlay_at table v).stub whole

pub all-shown : (memory : List ℕ) (table : List Loaded) (whole items : List Denoted) (met : ℕ → Bool) → IsFound table → AllByRecursion (IsInside (length table)) items → AreReturns table items → SavesTopmost memory table whole → IsToCome table met items whole
    → map (denoted memory table) (shown table met items) ≡ items
all-shown memory table whole [] met found inside returns saves to_come = refl
all-shown memory table whole (Stays pair ∷ items) met found inside returns saves to_come =
    ap₂ (λ (item : Denoted) (others : List Denoted). item ∷ others) (ap (denoted_by memory table pair) returns.0) (all-shown memory table whole items met found inside.1 returns.1 saves to_come)
all-shown memory table whole (Into v offset ∷ items) met found inside returns saves to_come =
    let stub = (overlay_at table v).stub in
    let here : (stub == stub) ≡ true = grind (arith, nat_tests) in
    let first : topmost_into table stub (Into v offset ∷ items) ≡ Some offset = rw here refl in
    ap₂ (λ (item : Denoted) (others : List Denoted). item ∷ others)
    (denoted-shown memory table v (met stub) offset found inside.0 returns.0 (λ out unmet. saves v offset inside.0 out (sym (to_come v inside.0 unmet) ∙ first)))
    (all-shown memory table whole items (met_too stub met) found inside.1 returns.1 saves
    (λ w there unmet. later w (overlay_at table w).stub refl ((overlay_at table w).stub == stub) refl unmet (to_come w there)))
  where
    later : (w other : ℕ) → (overlay_at table w).stub ≡ other → (same : Bool) → (other == (overlay_at table v).stub) ≡ same → cond same true (met other) ≡ false → (met other ≡ false → topmost_into table other (Into v offset ∷ items) ≡ topmost_into table other whole)
        → topmost_into table other items ≡ topmost_into table other whole
    later w other is true same unmet before = absurd cc
    later w other is false same unmet before = sym (ap (λ (here : Bool). cond here (Some offset) (topmost_into table other items)) same) ∙ before unmet

saves-topmost : (memory after : List ℕ) (items : List Denoted) (whole table : List Loaded) → AllByRecursion (λ overlay. saved_at after overlay.stub ≡ saved_after memory items whole overlay) table
    → (v offset : ℕ) → v < length table → is_out (overlay_at table v) ≡ true → topmost_into whole (overlay_at table v).stub items ≡ Some offset → saved_at after (overlay_at table v).stub ≡ offset
saves-topmost memory after items whole [] saved v offset there out topmost = absurd (omega arith)
saves-topmost memory after items whole (overlay ∷ table) saved zero offset there out topmost =
    saved.0 ∙ ap (λ (out : Bool). cond out (unwrap_or (topmost_into whole overlay.stub items) (saved_at memory overlay.stub)) (saved_at memory overlay.stub)) out
    ∙ ap (λ (topmost : Option ℕ). unwrap_or topmost (saved_at memory overlay.stub)) topmost
saves-topmost memory after items whole (overlay ∷ table) saved (suc v) offset there out topmost =
    saves-topmost memory after items whole table saved.1 v offset (omega arith) out topmost

same-length : (old new : List Loaded) → HaveSameStubs old new → length old ≡ length new
same-length [] [] same = refl
same-length [] (now ∷ new) same = absurd cc
same-length (was ∷ old) [] same = absurd cc
same-length (was ∷ old) (now ∷ new) same = let others : HaveSameStubs old new = cc in ap suc (same-length old new others)

-- One service: live pairs denote what they denoted.
pub kept : (memory after : List ℕ) (ss : ℕ) (places : List ℕ) (old new : List Loaded) (changed : ℕ) → HaveSameStubs old new → IsFound new → AreReturns new (denotations memory ss old places) → Follow memory after ss places old new changed
    → DenoteSame memory after ss places old new
kept memory after ss places old new changed same found returns follows =
    let items = denotations memory ss old places in
    let inside = subst (λ (count : ℕ). AllByRecursion (IsInside count) items) (same-length old new same) (denotations-inside memory ss old places) in
    denotations-map after ss new places ∙ ap (map (denoted after new)) follows.pairs
    ∙ all-shown after new items items none_met found inside returns (saves-topmost memory after items new new follows.saved) (λ v there unmet. refl)

-- Two services: an overlay goes and comes back, wherever it is put.
pub kept-twice : (memory between later after : List ℕ) (ss : ℕ) (places : List ℕ) (first second third : List Loaded) → HaveSameStubs first second → HaveSameStubs second third → IsFound second → IsFound third
    → AreReturns second (denotations memory ss first places) → AreReturns third (denotations memory ss first places) → TwoServices memory between later after ss places first second third → DenoteSame memory after ss places first third
kept-twice memory between later after ss places first second third same_first same_second found_second found_third returns_second returns_third services =
    let once = kept memory between ss places first second services.changed_first same_first found_second returns_second services.out in
    let left : denotations later ss second places ≡ denotations memory ss first places = denotations-same later between ss second places services.pairs services.saved ∙ once in
    kept later after ss places second third services.changed_second same_second found_third (subst (λ (items : List Denoted). AreReturns third items) (sym left) returns_third) services.back ∙ left
