use Rattle.std.specs.Prelude.{take}
use Rattle.token_provenance.specs.leaves.Written.{AreTexts}
use Rattle.checked_front_end.proofs.known.are_texts.Given as goal

abbrev pub invariant-loop-text : goal.invariant-loop-text
invariant-loop-text l = AreTexts (take l.text-index l.texts)
