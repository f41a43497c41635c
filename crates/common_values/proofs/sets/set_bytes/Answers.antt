use Rattle.std.proofs.Common.{◌≡◌, ◌+◌, ◌/◌, [], ◌∷◌, ◌++◌, map, ◌∙◌}
use Rattle.std.specs.List.{range_with_len}
use Rattle.common_values.specs.Sets.{set_byte}
use Rattle.common_values.proofs.SetLemmas.{map_range_next}
use Rattle.common_values.proofs.sets.set_bytes.Goals as goal

pub loop-offset-preserved : goal.loop-offset-preserved
loop-offset-preserved c =
    let pushed : c.loop-offset.bytes.items ++ c.set_byte.result ∷ [] ≡ map (set_byte c.args.set.now) (range_with_len (c.args.low / 8) c.loop-offset.offset) ++ set_byte c.args.set.now (c.args.low / 8 + c.loop-offset.offset) ∷ [] = cc (c.loop-offset.invariant, c.set_byte.ensures) in
    c.in_ok-push.ensures.items ∙ pushed ∙ map_range_next (set_byte c.args.set.now) (c.args.low / 8) c.loop-offset.offset
