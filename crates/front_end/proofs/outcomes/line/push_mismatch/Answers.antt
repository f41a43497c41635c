use Rattle.std.proofs.Common.{ℕ, List, ◌++◌, ◌∙◌, ap, codes}
use Rattle.front_end.specs.outcomes.Line.{behind, named}
use Rattle.front_end.proofs.outcomes.Joined.{joined}
use Rattle.front_end.proofs.outcomes.line.push_mismatch.Goals as goal

pub returns-clause-text : goal.returns-clause-text
returns-clause-text c =
    let start = c.args.line.now.items in
    let line1 = c.push_named.new.line.items in
    let first = c.push_named.ensures ∙ ap (λ (t : List ℕ). start ++ named (codes "VersionMismatch") t) c.as_bytes.ensures.value in
    let last = c.push_behind.ensures ∙ ap (λ (t : List ℕ). line1 ++ behind t) c.as_bytes-2.ensures.value in
    joined start line1 c.push_behind.new.line.items (named (codes "VersionMismatch") c.args.unit.now) (behind c.args.import.now) first last
