use Rattle.std.proofs.Common.{◌≡◌, take}
use Rattle.scopes.proofs.copies.copied_blocks.Given as goal

abbrev pub invariant-loop-block : goal.invariant-loop-block
invariant-loop-block l = l.copy ≡ take l.block-index l.blocks
