-- The starts of the units one after another, and what is shown then.
use Rattle.std.proofs.Common.{◌≡◌, ℕ, suc, ◌+◌, ◌-◌, ◌*◌, ◌≤◌, List, [], ◌∷◌, ◌++◌, length, map, Option, refl, sym, ap, ◌∙◌, subst, arith}
use Rattle.std.specs.Prelude.{All}
use Rattle.std.proofs.lemmas.List.Elements.{All-head, All-tail}
use Rattle.std.proofs.Math.Nat.{mul-add, add-mul, suc-mul, mul-one}
use Rattle.common_values.specs.behaviour.Seen.{Standing, Ended, Going, Undefined, Stopped, Seen, Shows, Stands, IsUndefined}
use Rattle.typed_tree.specs.declared.units.Unit.{Unit as TypedUnit}
use Rattle.typed_tree.specs.declared.units.Program.{Program}
use Rattle.tp_meaning.specs.Trees.{Value}
use Rattle.tp_meaning.specs.Outcomes as source
use Rattle.tp_meaning.specs.Meaning as meaning
use Rattle.flat_code.specs.Program.{Name, FlatProgram, Choice}
use Rattle.flat_code.specs.Gives.{with_turns}
use Rattle.flat_code.specs.Calls as flat
use Rattle.flat_code.specs.Meaning.{run, start_state, started, initial_of, all_started, FlatSeen, seen_of}
use Rattle.lowering_simulation.specs.Meets.{FlatRun, source_memory, flat_memory, Relation, SameTexts, charge, IsStill, StandsSo, falls_through, Meets}
use Rattle.lowering_simulation.specs.Programs.{Between, PartFollows, HasNoStart, ProgramFollows}
use Rattle.lowering_simulation.proofs.Waits.{zero_turn_laws, around_and_then}
use Rattle.lowering_simulation.proofs.Meets.{none_left, alike, bind}

-- ---- units

-- the outcome of a whole run is no value
abbrev Nothing : Relation Value
Nothing v m n = ⊥

module _ (few weight : ℕ) (program : Program) (target : FlatProgram) (choice : Choice) (R : Between) where
  abbrev starts : List Name → flat.State → flat.Outcome
  starts = all_started target choice (run target choice)

  abbrev name_of : TypedUnit → Name
  name_of unit = unit.name

  abbrev stays : Relation Value
  stays v m n = R m n

  -- the units of the sources
  units_follow : (units : List TypedUnit) → All (PartFollows few weight program target choice R) units → (s : source.State) (t : flat.State) → SameTexts s t → R (source_memory s) (flat_memory t) →
      Meets few (length units * weight) s.turns (starts (map name_of units)) t falls_through Nothing (meaning.all_started program (meaning.run program) units s)
  units_follow [] parts s t x holds = record { spent = 0; end = with_turns t 0; runs = refl; enough = λ z. absurd cc; texts = x; paid = more (charge few 0 t) (charge few s.turns t) (0 * weight) (none_left few s.turns t) }
    where
      more : (a b x : ℕ) → a ≤ b → a ≤ b + x
      more a b x p = omega arith
  units_follow (unit ∷ units) parts s t x holds =
      let total : weight + length units * weight ≡ suc (length units) * weight = swapped weight (length units * weight) (suc (length units) * weight) (suc-mul (length units) weight) in
      subst (λ n. Meets few n s.turns (starts (map name_of (unit ∷ units))) t falls_through Nothing (meaning.all_started program (meaning.run program) (unit ∷ units) s)) total
      (bind few stays Nothing weight (length units * weight) s.turns (started target choice (run target choice) unit.name (initial_of (target.unit unit.name))) (λ o. flat.and_then o (starts (map name_of units))) t falls_through falls_through
      (meaning.started program (meaning.run program) unit unit.initial s) (λ v. meaning.all_started program (meaning.run program) units)
      (around_and_then (starts (map name_of units)) ((zero_turn_laws target choice).units (map name_of units)))
      (All-head (PartFollows few weight program target choice R) unit units parts s t x holds)
      (λ v s' t' fewer x' holds'. units_follow units (All-tail (PartFollows few weight program target choice R) unit units parts) s' t' x' holds'))
    where
      swapped : (a b c : ℕ) → c ≡ b + a → a + b ≡ c
      swapped a b c p = omega (arith, p)

  -- those that have no start come first
  front_silent : (front rest : List Name) → All (HasNoStart target) front → (t : flat.State) → starts (front ++ rest) t ≡ starts rest t
  front_silent [] rest none t = refl
  front_silent (name ∷ front) rest none t =
      ap (λ (initial : Option ℕ). flat.and_then (started target choice (run target choice) name initial t) (starts (front ++ rest))) (All-head (HasNoStart target) name front none)
      ∙ front_silent front rest (All-tail (HasNoStart target) name front none) t

-- ---- what is shown

-- what is left of the input is not paid
paid_at_rate : (few weight turns before after work : ℕ) → work + few * after + few * 0 ≤ few * (turns + before) + weight → work ≤ (few + weight) * (turns + (before - after) + 1)
paid_at_rate few weight turns before after work p =
    let read = turns + (before - after) in
    let more = read + after - (turns + before) in
    let whole : turns + before + more ≡ read + after = omega arith in
    let parts : few * (turns + before) + few * more ≡ few * read + few * after = sym (mul-add few (turns + before) more) ∙ ap (λ n. few * n) whole ∙ mul-add few read after in
    let one : (few + weight) * 1 ≡ few + weight = mul-one (few + weight) in
    let rate : (few + weight) * (read + 1) ≡ few * read + weight * read + (few + weight) = mul-add (few + weight) read 1 ∙ ap (λ n. (few + weight) * read + n) one ∙ ap (λ n. n + (few + weight)) (add-mul few weight read) in
    summed work (few * after) (few * 0) (few * (turns + before)) (few * more) (few * read) (weight * read) few weight ((few + weight) * (read + 1)) p parts rate
  where
    summed : (w a z b k x y few weight r : ℕ) → w + a + z ≤ b + weight → b + k ≡ x + a → r ≡ x + y + (few + weight) → w ≤ r
    summed w a z b k x y few weight r p q e = omega (arith, p, q, e)

-- the target shows what the source does, at a rate
abbrev ShowsAtRate : ℕ → ℕ → ℕ → Seen → FlatSeen → Type 0
ShowsAtRate rate turns m x y = Shows turns m x y.seen × ((IsUndefined x.end → ⊥) → y.work ≤ rate * (turns + y.read + 1))

module _ (few weight turns : ℕ) (f : FlatRun) (t : flat.State) (input : List ℕ) (charged : charge few turns t ≡ few * (turns + length input)) where
  abbrev seen : ℕ → FlatSeen
  seen m = seen_of input (f (with_turns t m))

  stands_shown : (standing : Standing) (s : source.State) (h : StandsSo few weight turns f t standing s) → Stands turns h.spent standing standing → ShowsAtRate (few + weight) turns h.spent (meaning.seen_so standing s) (seen h.spent)
  stands_shown standing s h stands =
      subst (λ o. ShowsAtRate (few + weight) turns h.spent (meaning.seen_so standing s) (seen_of input o)) (sym h.runs) (
        record { out = h.texts.0; err = h.texts.1; stands = stands },
        λ defined. paid_at_rate few weight turns (length input) (length h.end.input) h.end.work (subst (λ n. charge few 0 h.end ≤ n + weight) charged h.paid),
      )

  still_shown : (n m act : ℕ) (s : source.State) (o : flat.Outcome) → IsStill s.out s.err o → Shows n m (meaning.seen_so (Undefined act) s) (seen_of input o).seen
  still_shown n m act s (flat.Next u) p = record { out = p.1.0; err = p.1.1; stands = tt }
  still_shown n m act s (flat.Left loops u) p = record { out = p.1.0; err = p.1.1; stands = tt }
  still_shown n m act s (flat.Returned u) p = record { out = p.1.0; err = p.1.1; stands = tt }
  still_shown n m act s (flat.Over standing u) p = record { out = p.0; err = p.1; stands = tt }

  shown : (r : source.Outcome Value) → Meets few weight turns f t falls_through Nothing r → ((meaning.seen_of r).end ≡ Stopped → ⊥) → (m : ℕ) × ShowsAtRate (few + weight) turns m (meaning.seen_of r) (seen m)
  shown (source.Done v s) h never = absurd h.related
  shown (source.Over (Ended code) s) h never = (h.spent, stands_shown (Ended code) s h refl)
  shown (source.Over Going s) h never = (h.spent, stands_shown Going s h (h.enough refl, refl))
  shown (source.Over (Undefined act) s) h never = (h.spent, (still_shown turns h.spent act s (f (with_turns t h.spent)) h.still, λ defined. absurd (defined tt)))
  shown (source.Over Stopped s) h never = absurd (never refl)

pub program_follows : (R : Between) → ProgramFollows R
program_follows R few weight program target choice input parts holds never turns =
    let rest = map (λ (unit : TypedUnit). unit.name) program.units in
    let total = length program.units * weight in
    let start = start_state target choice input 0 in
    let begun = meaning.start_state program input turns in
    let f : FlatRun = all_started target choice (run target choice) target.order in
    let g : FlatRun = all_started target choice (run target choice) rest in
    let source_run = meaning.all_started program (meaning.run program) program.units begun in
    let same : (left : ℕ) → f (with_turns start left) ≡ g (with_turns start left) =
    λ left. ap (λ (names : List Name). all_started target choice (run target choice) names (with_turns start left)) parts.order
    ∙ front_silent few weight program target choice R parts.front rest parts.silent (with_turns start left) in
    let follows = alike few Nothing total turns f g start falls_through source_run same (units_follow few weight program target choice R program.units parts.parts begun start (refl, refl) holds) in
    let charged : charge few turns start ≡ few * (turns + length input) = swapped (few * length input) (few * turns) ∙ sym (mul-add few turns (length input)) in
    let result = shown few total turns f start input charged source_run follows (never turns) in
    (result.0, result.1.0, result.1.1)
  where
    swapped : (a b : ℕ) → 0 + a + b ≡ b + a
    swapped a b = omega arith
