use Rattle.front_end.proofs.outcomes.Joined.{joined}
use Rattle.front_end.proofs.outcomes.line.push_why.Goals as goal

pub returns-in-ShortOverlay-clause-text : goal.returns-in-ShortOverlay-clause-text
returns-in-ShortOverlay-clause-text c =
    rw c.in-ShortOverlay.is (joined _ _ _ _ _ c.push_text-in-ShortOverlay.ensures c.push_decimal-in-ShortOverlay.ensures.text)
