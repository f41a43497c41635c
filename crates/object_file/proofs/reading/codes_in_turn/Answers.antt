use Rattle.std.proofs.Common.{◌≡◌, ℕ, ◌+◌, ◌-◌, List, [], ◌∷◌, ◌++◌, sym, subst}
use Rattle.std.proofs.lemmas.Result.{err_from_is_err_and}
use Rattle.object_file.specs.declared.object_unit.object.Code8086.{Code8086}
use Rattle.object_file.specs.file_parts.Parts.{in_turn}
use Rattle.object_file.proofs.file_parts.LoopLaws.{with_front, loop-next, loop-stop, loop-end}
use Rattle.object_file.specs.Text.{room_behind}
use Rattle.object_file.specs.Reading.{code_at}
use Rattle.object_file.proofs.reading.codes_in_turn.Goals as goal

pub returns-in_err-routine : goal.returns-in_err-routine
returns-in_err-routine c =
    let p = err_from_is_err_and c.from_residual.result c.from_residual.ensures.1 in
    rw (p.1, p.2) (loop-stop code_at room_behind c.in_err-routine.field-0.0 c.loop.routines c.args.count c.loop.counter c.loop.room c.loop.rest.now (in_turn code_at room_behind c.args.count 65520 c.args.bytes.now) c.loop-test.true c.in_err-routine.ensures c.loop.invariant)

pub loop-preserved : goal.loop-preserved
loop-preserved c =
    let next = loop-next code_at room_behind c.loop.routines c.args.count c.loop.counter c.loop.room c.loop.rest.now c.in_ok-routine.routine c.in_ok-routine.after.now (in_turn code_at room_behind c.args.count 65520 c.args.bytes.now) c.loop-test.true c.in_ok-routine.ensures c.loop.invariant in
    let P : List Code8086 → ℕ → Type 0 = λ routines room. with_front routines (in_turn code_at room_behind (c.args.count - (c.loop.counter + 1)) room c.in_ok-routine.after.now) ≡ in_turn code_at room_behind c.args.count 65520 c.args.bytes.now in
    subst (λ (routines : List Code8086). P routines c.room_behind-room.result) (sym c.in_ok-push.ensures.ok) (subst (λ (room : ℕ). P (c.loop.routines ++ c.in_ok-routine.routine ∷ []) room) (sym c.room_behind-room.ensures) next)

pub returns : goal.returns
returns c = loop-end code_at room_behind c.loop.routines c.args.count c.loop.counter c.loop.room c.loop.rest.now (in_turn code_at room_behind c.args.count 65520 c.args.bytes.now) c.loop-test.false c.loop.invariant
