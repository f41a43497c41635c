use Rattle.std.proofs.Common.{subst}
use Rattle.std.specs.Prelude.{All}
use Rattle.token_provenance.specs.leaves.Written.{AreTexts}
use Rattle.checked_front_end.specs.Known.{IsKept}
use Rattle.checked_front_end.proofs.sources.are_formed.Goals as goal

pub returns : goal.returns
returns c = record {
  formed = λ yes held name is.
      c.formed_law.ensures held name c.args.found.now is (subst AreTexts c.as_slice.ensures.value c.are_texts.ensures) (subst (All IsKept) c.as_slice-2.ensures c.are_kept.ensures)
      (c.are_numbered.ensures.decides.0 yes) (c.are_numbered.ensures.roomy yes);
}
