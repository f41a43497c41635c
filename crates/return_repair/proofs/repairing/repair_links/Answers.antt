use Rattle.std.proofs.Common.{true, Bool, ◌++◌, ◌≡◌, ℕ, ◌+◌, ◌%◌, ◌<◌, ◌≤◌, List, [], ◌∷◌, Option, refl, sym, ap, subst, ◌∙◌, arith}
use Rattle.cpu_8086.specs.State.{State}
use Rattle.frame_links.specs.Links.{Link, link_word, place_if, pair_place, pair_places}
use Rattle.return_repair.specs.declared.table.Loaded.{Loaded}
use Rattle.return_repair.specs.Chain.{word_at, next_link, link_at, chain, chain_of, links_of, are_spaced}
use Rattle.return_repair.specs.Repair.{Work, work, repaired_places}
use Rattle.return_repair.specs.Topmosts.{by_stub}
use Rattle.return_repair.proofs.ChainLaws.{chain-end, FirstLink, first_link, height, height-falls}
use Rattle.return_repair.proofs.LinkLaws.{Kept, Spaced, spaced_parts, kept-behind, kept-at_first, counted_places, places-append}
use Rattle.return_repair.proofs.repairing.repair_links.Invariants.{IsUnderWay, rest_of}
use Rattle.return_repair.proofs.repairing.repair_links.Goals as goal

-- what one turn knows
record Turn (marked : Bool) (old new : List Loaded) (now after : State) (topmost later : ℕ → Option ℕ) (link next : ℕ) (far : Bool) (count : ℕ) : Type 0 where
  some : 0 < link
  fits : next < 65536
  next_is : next ≡ next_link marked now.memory now.registers.ss link
  far_is : far ≡ (word_at marked now.memory now.registers.ss link).far
  after_is : after ≡ record now { memory = (repaired_places now.registers.ss old new (work now.memory topmost) (place_if far (pair_place link))).memory }
  later_is : (stub : ℕ) → later stub ≡ (repaired_places now.registers.ss old new (work now.memory topmost) (place_if far (pair_place link))).topmost stub
  count_is : count ≡ (repaired_places now.registers.ss old new (work now.memory topmost) (place_if far (pair_place link))).changed
  few : count ≤ 1

-- the link, and those from it on
record Here (marked : Bool) (start : State) (link next : ℕ) (far : Bool) : Type 0 where
  first : FirstLink marked start.memory start.registers.ss link next
  links : links_of (chain marked start.memory start.registers.ss link) ≡ record { at = link; far = far } ∷ links_of (chain marked start.memory start.registers.ss next)

here_of : (marked : Bool) (old new : List Loaded) (start now after : State) (begun topmost later : ℕ → Option ℕ) (changed link next : ℕ) (far : Bool) (count : ℕ)
    → IsUnderWay marked old new start begun now topmost changed link → Turn marked old new now after topmost later link next far count → Here marked start link next far
here_of marked old new start now after begun topmost later changed link next far count way turn =
    let segment : now.registers.ss ≡ start.registers.ss = ap (λ (s : State). s.registers.ss) way.same in
    let rough = first_link marked start.memory start.registers.ss link (next_link marked start.memory start.registers.ss link) turn.some way.small refl way.sound in
    let kept : Kept now.memory start.memory start.registers.ss (link_at marked start.memory start.registers.ss link ∷ links_of (chain marked start.memory start.registers.ss (next_link marked start.memory start.registers.ss link))) =
    subst (λ links. Kept now.memory start.memory start.registers.ss links) rough.links way.kept in
    let next_is : next ≡ next_link marked start.memory start.registers.ss link =
    turn.next_is ∙ ap (λ (ss : ℕ). next_link marked now.memory ss link) segment ∙ ap (λ (word : ℕ). (link_word marked (word % 65536)).next) kept.0 in
    let far_is : far ≡ (word_at marked start.memory start.registers.ss link).far =
    turn.far_is ∙ ap (λ (ss : ℕ). (word_at marked now.memory ss link).far) segment ∙ ap (λ (word : ℕ). (link_word marked (word % 65536)).far) kept.0 in
    let first = first_link marked start.memory start.registers.ss link next turn.some way.small next_is way.sound in
    record {
      first = first;
      links = first.links ∙ ap (λ far. let here : Link = record { at = link; far = far } in here ∷ links_of (chain marked start.memory start.registers.ss next)) (sym far_is);
    }

-- one link more
on : (marked : Bool) (old new : List Loaded) (start now after : State) (begun topmost later : ℕ → Option ℕ) (changed link next : ℕ) (far : Bool) (count : ℕ)
    → IsUnderWay marked old new start begun now topmost changed link → Turn marked old new now after topmost later link next far count → IsUnderWay marked old new start begun after later (changed + count) next
on marked old new start now after begun topmost later changed link next far count way turn =
    let ss = start.registers.ss in
    let segment : now.registers.ss ≡ ss = ap (λ (s : State). s.registers.ss) way.same in
    let there = here_of marked old new start now after begun topmost later changed link next far count way turn in
    let first = there.first in
    let here : Link = record { at = link; far = far } in
    let rest : List Link = links_of (chain marked start.memory ss next) in
    let spaced = spaced_parts here rest (subst (λ links. are_spaced links ≡ true) there.links way.spaced) in
    let kept : Kept now.memory start.memory ss (here ∷ rest) = subst (λ links. Kept now.memory start.memory ss links) there.links way.kept in
    let places = place_if far (pair_place link) in
    let w = work now.memory topmost in
    let begun_here : Work = record { memory = now.memory; topmost = topmost; changed = changed } in
    let done_here = repaired_places ss old new w places in
    let memory : after.memory ≡ done_here.memory = ap (λ (s : State). s.memory) turn.after_is ∙ ap (λ (ss : ℕ). (repaired_places ss old new w places).memory) segment in
    let topmosts : later ≡ done_here.topmost = (λ i stub. turn.later_is stub i) ∙ ap (λ (ss : ℕ). (repaired_places ss old new w places).topmost) segment in
    let counts : count ≡ done_here.changed = turn.count_is ∙ ap (λ (ss : ℕ). (repaired_places ss old new w places).changed) segment in
    let whole : ◌≡◌ {A = Work} (record { memory = after.memory; topmost = later; changed = changed + count }) (repaired_places ss old new begun_here places) =
    (λ i. record { memory = memory i; topmost = topmosts i; changed = changed + counts i }) ∙ sym (counted_places ss old new now.memory topmost changed places) in
    let falls = height-falls link next turn.some way.small turn.fits first.on in
    record {
      small = turn.fits;
      same = turn.after_is ∙ ap (λ (s : State). record s { memory = (repaired_places now.registers.ss old new w places).memory }) way.same ∙ ap (λ memory. record start { memory = memory }) (sym (ap (λ (s : State). s.memory) turn.after_is));
      sound = first.sound;
      spaced = spaced.others;
      kept = subst (λ memory. Kept memory start.memory ss rest) (sym memory) (kept-behind ss old new w start.memory rest link far spaced.fits spaced.above kept.1);
      done = ap (λ (w : Work). repaired_places ss old new w (pair_places rest)) whole
          ∙ sym (places-append ss old new begun_here places (pair_places rest))
          ∙ ap (λ (links : List Link). repaired_places ss old new begun_here (pair_places links)) (sym there.links) ∙ way.done;
      few = omega (arith, way.few, falls, turn.few);
    }

-- at the end of the chain
ended : (marked : Bool) (old new : List Loaded) (start now : State) (begun topmost : ℕ → Option ℕ) (changed link : ℕ) → IsUnderWay marked old new start begun now topmost changed link → link ≡ 0
    → ◌≡◌ {A = Work} (record { memory = now.memory; topmost = topmost; changed = changed }) (repaired_places start.registers.ss old new (work start.memory begun) (pair_places (links_of (chain_of marked start))))
ended marked old new start now begun topmost changed link way end =
    let nothing : rest_of marked start link ≡ [] = ap (rest_of marked start) end ∙ ap links_of (chain-end marked start.memory start.registers.ss) in
    ap (λ (links : List Link). repaired_places start.registers.ss old new (record { memory = now.memory; topmost = topmost; changed = changed }) (pair_places links)) (sym nothing) ∙ way.done

pub loop-link-preserved : goal.loop-link-preserved
loop-link-preserved c =
    on c.args.marked c.args.old.now c.args.new.now c.args.machine.now c.loop-link.machine c.repair_if-changed.new.machine (by_stub c.args.topmost.now.offsets) (by_stub c.loop-link.topmost.offsets) (by_stub c.repair_if-changed.new.topmost.offsets)
    c.loop-link.changed c.loop-link.link c.next_link-next.result c.is_far-far.result c.repair_if-changed.result c.loop-link.invariant (record {
      some = omega arith;
      fits = c.next_link-next.type_inv;
      next_is = c.next_link-next.ensures;
      far_is = c.is_far-far.ensures;
      after_is = c.repair_if-changed.ensures.memory;
      later_is = c.repair_if-changed.ensures.topmost;
      count_is = c.repair_if-changed.ensures.changed;
      few = c.repair_if-changed.ensures.few;
    })

pub loop-link-smaller : goal.loop-link-smaller
loop-link-smaller c =
    let there = here_of c.args.marked c.args.old.now c.args.new.now c.args.machine.now c.loop-link.machine c.repair_if-changed.new.machine (by_stub c.args.topmost.now.offsets) (by_stub c.loop-link.topmost.offsets) (by_stub c.repair_if-changed.new.topmost.offsets)
    c.loop-link.changed c.loop-link.link c.next_link-next.result c.is_far-far.result c.repair_if-changed.result c.loop-link.invariant (record {
      some = omega arith;
      fits = c.next_link-next.type_inv;
      next_is = c.next_link-next.ensures;
      far_is = c.is_far-far.ensures;
      after_is = c.repair_if-changed.ensures.memory;
      later_is = c.repair_if-changed.ensures.topmost;
      count_is = c.repair_if-changed.ensures.changed;
      few = c.repair_if-changed.ensures.few;
    }) in
    height-falls c.loop-link.link c.next_link-next.result (omega arith) c.loop-link.invariant.small c.next_link-next.type_inv there.first.on

pub returns-clause-memory : goal.returns-clause-memory
returns-clause-memory c =
    let start = c.args.machine.now in
    let end = ended c.args.marked c.args.old.now c.args.new.now start c.loop-link.machine (by_stub c.args.topmost.now.offsets) (by_stub c.loop-link.topmost.offsets) c.loop-link.changed c.loop-link.link c.loop-link.invariant c.loop-link-test.false in
    c.loop-link.invariant.same ∙ ap (λ (w : Work). let s : State = record start { memory = w.memory } in s) end

pub returns-clause-topmost : goal.returns-clause-topmost
returns-clause-topmost c = λ stub.
    let end = ended c.args.marked c.args.old.now c.args.new.now c.args.machine.now c.loop-link.machine (by_stub c.args.topmost.now.offsets) (by_stub c.loop-link.topmost.offsets) c.loop-link.changed c.loop-link.link c.loop-link.invariant c.loop-link-test.false in
    ap (λ (w : Work). w.topmost stub) end

pub returns-clause-changed : goal.returns-clause-changed
returns-clause-changed c =
    let end = ended c.args.marked c.args.old.now c.args.new.now c.args.machine.now c.loop-link.machine (by_stub c.args.topmost.now.offsets) (by_stub c.loop-link.topmost.offsets) c.loop-link.changed c.loop-link.link c.loop-link.invariant c.loop-link-test.false in
    ap (λ (w : Work). w.changed) end
