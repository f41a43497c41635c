-- A call opens an activation as its routine finds it, and gives the result that it leaves.
use Rattle.std.proofs.Common.{◌≡◌, ℕ, zero, suc, ◌+◌, ◌-◌, ◌*◌, ◌/◌, ◌≤◌, ◌<◌, ◌⊎◌, inl, inr, true, List, [], ◌∷◌, ◌++◌, length, map, get_or, refl, sym, ap, subst, ◌∙◌, arith}
use Rattle.std.specs.Prelude.{replicate, if◌then◌else◌}
use Rattle.std.proofs.lemmas.List.{length-append, length-map, length-replicate}
use Rattle.common_values.specs.integers.Words.{low_byte, high_byte}
use Rattle.flat_code.specs.declared.memory.Cell.TheVariants.{Known, Unset, Outside}
use Rattle.flat_code.specs.Memory.{Cells, put, pushed}
use Rattle.flat_code.specs.Program.{Routine, Choice}
use Rattle.flat_code.specs.Meaning.{Frame, State, activation_bytes, opened}
use Rattle.flat_code.specs.Gives.{AreWords}
use Rattle.flat_code.proofs.Shut.{region_in, region_below, region_above}
use Rattle.flat_code.proofs.Bodies.{inside}
use Rattle.flat_code.proofs.Stack.{HasWord, first-argument, word-above, local-unset, not_below, opened-keeps}
use Rattle.runtime_proofs.specs.routine_proofs.Activation.{Slot, Shut, Free, Holds, HoldsSlot, IsSeen}
use Rattle.runtime_proofs.specs.routine_proofs.Entry.{entered_words, memory_without, entered}

-- the slots of a list from an offset downwards
abbrev From : Cells → ℕ → ℕ → List Slot → Type 0
From m seg sp words = (i : ℕ) → i < length words → HoldsSlot m (16 * seg + (sp - 2 * (i + 1))) (get_or words i Shut)

one-more : (m : Cells) (seg sp : ℕ) (slot : Slot) (words : List Slot) → HoldsSlot m (16 * seg + (sp - 2)) slot → From m seg (sp - 2) words → From m seg sp (slot ∷ words)
one-more m seg sp slot words first rest zero h = let e : sp - 2 ≡ sp - 2 * (0 + 1) = omega arith in subst (λ o. HoldsSlot m (16 * seg + o) slot) e first
one-more m seg sp slot words first rest (suc i) h =
    let e : sp - 2 - 2 * (i + 1) ≡ sp - 2 * (suc i + 1) = omega arith in
    subst (λ o. HoldsSlot m (16 * seg + o) (get_or words i Shut)) e (rest i (omega (arith, h)))

-- the arguments, and what comes after them
with-args : (m : Cells) (seg sp : ℕ) (args : List ℕ) (words : List Slot) → ((i : ℕ) → i < length args → HasWord m (16 * seg + (sp - 2 * (i + 1))) (get_or args i 0)) → From m seg (sp - 2 * length args) words → From m seg sp (map Holds args ++ words)
with-args m seg sp [] words has rest = let e : sp - 2 * 0 ≡ sp = omega arith in subst (λ o. From m seg o words) e rest
with-args m seg sp (v ∷ vs) words has rest =
    let e : sp - 2 * (0 + 1) ≡ sp - 2 = omega arith in
    let first = subst (λ o. HasWord m (16 * seg + o) v) e (has 0 (omega arith)) in
    let same : sp - 2 * length (v ∷ vs) ≡ sp - 2 - 2 * length vs = omega arith in
    one-more m seg sp (Holds v) (map Holds vs ++ words) (record { low = first.low; high = first.high; small = first.small })
    (with-args m seg (sp - 2) vs words
    (λ i h. let later : sp - 2 * (suc i + 1) ≡ sp - 2 - 2 * (i + 1) = omega arith in subst (λ o. HasWord m (16 * seg + o) (get_or vs i 0)) later (has (suc i) (omega (arith, h))))
    (subst (λ o. From m seg o words) same rest))

-- the locals
all-free : (m : Cells) (seg sp count : ℕ) → 2 * count ≤ sp → ((x : ℕ) → 16 * seg + (sp - 2 * count) ≤ x → x < 16 * seg + sp → m x ≡ Outside → ⊥) → From m seg sp (replicate count Free)
all-free m seg sp zero fits free = λ i h. absurd (omega (arith, h))
all-free m seg sp (suc count) fits free =
    one-more m seg sp Free (replicate count Free) (free (16 * seg + (sp - 2)) (omega arith) (omega arith), free (16 * seg + (sp - 2) + 1) (omega arith) (omega arith))
    (all-free m seg (sp - 2) count (omega arith) (λ x p q. free x (omega (arith, p)) (omega (arith, q))))

-- the words that were pushed
pushed-there : (m : Cells) (seg sp : ℕ) (args : List ℕ) (n : ℕ) → AreWords n args → 2 * length args ≤ sp → (i : ℕ) → i < length args → HasWord (pushed m seg sp args) (16 * seg + (sp - 2 * (i + 1))) (get_or args i 0)
pushed-there m seg sp [] n words fits i h = absurd (omega (arith, h))
pushed-there m seg sp (v ∷ vs) zero words fits i h = absurd words
pushed-there m seg sp (v ∷ vs) (suc n) words fits zero h =
    let e : sp - 2 ≡ sp - 2 * (0 + 1) = omega arith in subst (λ o. HasWord (pushed m seg sp (v ∷ vs)) (16 * seg + o) v) e (first-argument m seg sp v vs (omega arith) words.0)
pushed-there m seg sp (v ∷ vs) (suc n) words fits (suc i) h =
    let e : sp - 2 - 2 * (i + 1) ≡ sp - 2 * (suc i + 1) = omega arith in
    let k = put (put m (16 * seg + (sp - 2)) (Known (low_byte v))) (16 * seg + (sp - 1)) (Known (high_byte v)) in
    subst (λ o. HasWord (pushed k seg (sp - 2) vs) (16 * seg + o) (get_or vs i 0)) e (pushed-there k seg (sp - 2) vs n words.1 (omega arith) i (omega (arith, h)))

-- a routine of the runtime whose arguments and locals are words
pub record HasWords (r : Routine) (args : List ℕ) : Type 0 where
  pub far : r.far ≡ true
  pub arguments : 2 * length args ≡ r.arguments
  pub locals : 2 * (r.locals / 2) ≡ r.locals

pub activation-is : (r : Routine) → r.far ≡ true → activation_bytes r ≡ r.arguments + 6 + r.locals
activation-is r e = ap (λ b. r.arguments + (if b then 6 else 4) + r.locals) e

words-length : (locals : ℕ) (args : List ℕ) → length (entered_words locals args) ≡ length args + (3 + locals / 2)
words-length locals args = length-append (map Holds args) (Shut ∷ Shut ∷ Shut ∷ replicate (locals / 2) Free) ∙ omega (arith, length-map args Holds, length-replicate (locals / 2) Free)

pub entered-seen : (choice : Choice) (r : Routine) (f : Frame) (args : List ℕ) (n : ℕ) (s : State) → HasWords r args → AreWords n args → activation_bytes r ≤ f.sp → IsSeen choice f.sp (entered choice f.sp r.locals args s) (inside choice r args f s)
entered-seen choice r f args n s has words room = record {
  cells = record {
    fits = omega (arith, size, words-length r.locals args, has.arguments, has.locals, room);
    words = with-args m seg f.sp args (Shut ∷ Shut ∷ Shut ∷ replicate (r.locals / 2) Free)
        (λ i h. word-above k seg low r.locals Unset (16 * seg + (f.sp - 2 * (i + 1))) (get_or args i 0) (omega (arith, size, has.arguments, h, room)) (pushed-there s.cells seg f.sp args n words (omega (arith, size, has.arguments, room)) i h))
        (one-more m seg (f.sp - 2 * length args) Shut (Shut ∷ Shut ∷ replicate (r.locals / 2) Free) tt (one-more m seg (f.sp - 2 * length args - 2) Shut (Shut ∷ replicate (r.locals / 2) Free) tt (one-more m seg (f.sp - 2 * length args - 2 - 2) Shut (replicate (r.locals / 2) Free) tt
        (all-free m seg (f.sp - 2 * length args - 2 - 2 - 2) (r.locals / 2) (omega (arith, size, has.arguments, has.locals, room))
        (λ x p q. local-unset k seg low r.locals x (omega (arith, size, has.arguments, has.locals, room, p)) (omega (arith, size, has.arguments, has.locals, room, q)))))));
    outside = λ x out. outside x (not_below choice f.sp x out);
    below = λ x h. region_in s.cells seg 0 f.sp Outside x (omega (arith, h.0)) (omega (arith, h.1));
  };
  flag = refl;
  input = refl;
  out = refl;
  err = refl;
}
  where
    seg : ℕ
    seg = choice.stack_segment

    size : activation_bytes r ≡ r.arguments + 6 + r.locals
    size = activation-is r has.far

    low : ℕ
    low = f.sp - activation_bytes r

    k : Cells
    k = pushed s.cells choice.stack_segment f.sp args

    m : Cells
    m = opened choice r f args s.cells

    outside : (x : ℕ) → (x < 16 * choice.stack_segment) ⊎ (16 * choice.stack_segment + f.sp ≤ x) → m x ≡ memory_without choice f.sp s.cells x
    outside x way = opened-keeps choice r f args s.cells x (omega (arith, size, has.arguments)) room (omega (arith, size)) way ∙ sym (kept x way)
      where
        kept : (x : ℕ) → (x < 16 * choice.stack_segment) ⊎ (16 * choice.stack_segment + f.sp ≤ x) → memory_without choice f.sp s.cells x ≡ s.cells x
        kept x (inl h) = region_below s.cells choice.stack_segment 0 f.sp Outside x (omega (arith, h))
        kept x (inr h) = region_above s.cells choice.stack_segment 0 f.sp Outside x (omega (arith, h))
