use Rattle.std.proofs.Common.{◌+◌, ◌*◌, ◌<◌, List, length, get_or, sym, subst}
use Rattle.cpu_8086.specs.State.{State}
use Rattle.cpu_8086.specs.declared.registers.Far.{Far}
use Rattle.mz_file.specs.Load.{with_loaded_segment}
use Rattle.mz_file.proofs.LoadLaws.{IsUnderWay, under_way-next}
use Rattle.mz_file.proofs.loading.relocate_all.Goals as goal

pub loop-far-preserved : goal.loop-far-preserved
loop-far-preserved c =
    let fars = c.args.exe.now.relocations in
    let image = c.args.exe.now.image in
    let index = c.loop-far.far-index in
    let memory = c.loop-far.machine.memory in
    let below = subst (λ (items : List Far). index < length items) c.as_slice-far-items.ensures c.loop-far-test.true in
    let none : Far = record { offset = 0; segment = 0 } in
    let next = under_way-next memory image fars index none c.requires.inside c.requires.room below c.loop-far.invariant in
    let P : List Far → Type 0 = λ items. IsUnderWay (with_loaded_segment memory (0x700 + (16 * (get_or items index none).segment + (get_or items index none).offset))) image fars (index + 1) in
    let Q : State → Type 0 = λ machine. IsUnderWay machine.memory image fars (index + 1) in
    subst Q (sym c.relocate.ensures) (subst P (sym c.as_slice-far-items.ensures) next)
