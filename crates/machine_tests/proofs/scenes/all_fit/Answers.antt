use Rattle.std.proofs.Common.{ℕ, ◌<◌, ◌≤◌, List, subst, arith}
use Rattle.std.specs.List.{All}
use Rattle.std.proofs.lemmas.List.{take_all}
use Rattle.std.proofs.lemmas.List.Elements.{All-more}
use Rattle.overlay_file.specs.declared.overlay.OvrEntry.{OvrEntry}
use Rattle.overlay_manager.specs.Manager.{paragraphs_of}
use Rattle.machine_tests.proofs.scenes.all_fit.Goals as goal

abbrev FitsIn : ℕ → OvrEntry → Type 0
FitsIn room entry = (0 < paragraphs_of entry) × (paragraphs_of entry ≤ room)

pub loop-entry-preserved : goal.loop-entry-preserved
loop-entry-preserved c =
    let item = c.entry-item.result in
    let fits : FitsIn c.args.room item = (omega (arith, c.paragraphs_of-paragraphs.ensures, c.if-paragraphs-eq0.false), omega (arith, c.paragraphs_of-paragraphs.ensures, c.if-paragraphs-room.false)) in
    All-more (FitsIn c.args.room) c.args.index.now c.loop-entry.entry-index item c.loop-entry-test.true c.loop-entry.invariant (subst (FitsIn c.args.room) c.entry-item.is fits)

pub returns : goal.returns
returns c = λ yes. subst (λ (entries : List OvrEntry). All (FitsIn c.args.room) entries) (take_all c.loop-entry.entry-index c.args.index.now c.loop-entry-test.false) c.loop-entry.invariant
