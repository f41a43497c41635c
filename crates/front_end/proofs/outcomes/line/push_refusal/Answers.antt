use Rattle.std.proofs.Common.{ℕ, List, ◌++◌, ◌∙◌, ap, codes}
use Rattle.front_end.specs.outcomes.Line.{named, placed}
use Rattle.front_end.proofs.outcomes.Joined.{joined}
use Rattle.front_end.proofs.outcomes.line.push_refusal.Goals as goal

pub returns-in-MissingFile-clause-text : goal.returns-in-MissingFile-clause-text
returns-in-MissingFile-clause-text c =
    let start = c.args.line.now.items in
    rw c.in-MissingFile.is (c.push_named.ensures ∙ ap (λ (t : List ℕ). start ++ named (codes "MissingFile") t) c.as_bytes.ensures.value)

pub returns-in-NotInProfile-clause-text : goal.returns-in-NotInProfile-clause-text
returns-in-NotInProfile-clause-text c =
    let start = c.args.line.now.items in
    let at = c.in-NotInProfile.at in
    rw c.in-NotInProfile.is (c.push_wrong-in-NotInProfile.ensures.text ∙ ap (λ (t : List ℕ). start ++ named (placed (codes "NotInProfile") at) t) c.feature_text.ensures.text)

pub returns-in-NotExecutable-clause-text : goal.returns-in-NotExecutable-clause-text
returns-in-NotExecutable-clause-text c = rw c.in-NotExecutable.is (joined _ _ _ _ _ c.push_text-in-NotExecutable.ensures c.push_cause.ensures.text)

pub returns-in-OverlayMismatch-clause-text : goal.returns-in-OverlayMismatch-clause-text
returns-in-OverlayMismatch-clause-text c = rw c.in-OverlayMismatch.is c.push_numbered-in-OverlayMismatch.ensures.text
