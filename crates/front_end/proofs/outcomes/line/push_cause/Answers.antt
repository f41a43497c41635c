use Rattle.front_end.proofs.outcomes.Joined.{joined}
use Rattle.front_end.proofs.outcomes.line.push_cause.Goals as goal

pub returns-in-BadRelocation-clause-text : goal.returns-in-BadRelocation-clause-text
returns-in-BadRelocation-clause-text c =
    rw c.in-BadRelocation.is (joined _ _ _ _ _ c.push_text-in-BadRelocation.ensures c.push_decimal.ensures.text)
