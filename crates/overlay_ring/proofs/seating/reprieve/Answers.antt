use Rattle.std.proofs.Common.{length, take, drop, ap, inl, inr, ◌∙◌, arith}
use Rattle.overlay_ring.specs.Seats.{paragraphs}
use Rattle.overlay_ring.specs.Ring.{reprieved}
use Rattle.overlay_ring.proofs.Sizes.{paragraphs-append, went_with}
use Rattle.overlay_ring.proofs.Packing.{reprieved-within, with_reprieved-some, with_reprieved-none}
use Rattle.overlay_ring.proofs.seating.reprieve.Goals as goal

pub pack-requires : goal.pack-requires
pack-requires c =
    let xs = c.args.seats.now.items in
    let list = drop c.args.count xs in
    let done = c.drop_unless_live-went.ensures in
    let chosen = reprieved c.args.live.now c.args.most (paragraphs list) c.args.room (take c.args.count xs) in
    let went = went_with xs c.drop_unless_live-went.new.seats.items chosen c.args.count c.drop_unless_live-went.result done.kept (omega arith) (omega arith) in
    let sizes = ap paragraphs done.kept ∙ paragraphs-append chosen list in
    elim (reprieved-within c.args.live.now c.args.most (paragraphs list) c.args.room (take c.args.count xs))
    [ inl none ↦ absurd (omega (arith, went, ap length none)) | inr within ↦ omega (arith, sizes, within.below_room) ]

pub returns-then-went-count-clause-kept : goal.returns-then-went-count-clause-kept
returns-then-went-count-clause-kept c =
    let xs = c.args.seats.now.items in
    let list = drop c.args.count xs in
    let done = c.drop_unless_live-went.ensures in
    let chosen = reprieved c.args.live.now c.args.most (paragraphs list) c.args.room (take c.args.count xs) in
    let went = went_with xs c.drop_unless_live-went.new.seats.items chosen c.args.count c.drop_unless_live-went.result done.kept (omega arith) (omega arith) in
    c.pack.ensures.packed ∙ rw done.kept (with_reprieved-some chosen list (omega (arith, went)))

pub returns-then-went-count-clause-went : goal.returns-then-went-count-clause-went
returns-then-went-count-clause-went c =
    let xs = c.args.seats.now.items in
    let list = drop c.args.count xs in
    let done = c.drop_unless_live-went.ensures in
    let chosen = reprieved c.args.live.now c.args.most (paragraphs list) c.args.room (take c.args.count xs) in
    went_with xs c.drop_unless_live-went.new.seats.items chosen c.args.count c.drop_unless_live-went.result done.kept (omega arith) (omega arith)

pub returns-else-went-count-clause-kept : goal.returns-else-went-count-clause-kept
returns-else-went-count-clause-kept c =
    let xs = c.args.seats.now.items in
    let list = drop c.args.count xs in
    let done = c.drop_unless_live-went.ensures in
    let chosen = reprieved c.args.live.now c.args.most (paragraphs list) c.args.room (take c.args.count xs) in
    let went = went_with xs c.drop_unless_live-went.new.seats.items chosen c.args.count c.drop_unless_live-went.result done.kept (omega arith) (omega arith) in
    done.kept ∙ with_reprieved-none chosen list (omega (arith, went))

pub returns-else-went-count-clause-went : goal.returns-else-went-count-clause-went
returns-else-went-count-clause-went c =
    let xs = c.args.seats.now.items in
    let list = drop c.args.count xs in
    let done = c.drop_unless_live-went.ensures in
    let chosen = reprieved c.args.live.now c.args.most (paragraphs list) c.args.room (take c.args.count xs) in
    went_with xs c.drop_unless_live-went.new.seats.items chosen c.args.count c.drop_unless_live-went.result done.kept (omega arith) (omega arith)
