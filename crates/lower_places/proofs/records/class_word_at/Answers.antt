use Rattle.std.proofs.Common.{arith, ◌≡◌, ◌+◌, ◌∙◌, pos}
use Rattle.std.proofs.lemmas.Int.{ints}
use mir.Syntax.{w32}
use mir.Val.{to_z}
use Rattle.lower_places.proofs.Depths.{class_place}
use Rattle.lower_places.proofs.records.class_word_at.Goals as goal

pub returns : goal.returns
returns c = λ types.
    let small : to_z w32 (c.return_bytes.result + c.static_bytes.result) ≡ pos (c.return_bytes.result + c.static_bytes.result) = omega (arith, ints) in
    small ∙ rw (c.return_bytes.ensures.value, c.static_bytes.ensures.value) (class_place types c.args.routine.now)
