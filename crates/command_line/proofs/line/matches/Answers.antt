use Rattle.std.proofs.Common.{◌≡◌, ◌∙◌, List, ap, map}
use Rattle.std.specs.Prelude.{string_bytes}
use Rattle.std.proofs.lemmas.Result.{IfOk-weaker}
use Rattle.clap.specs.Words.{App, Text, app_of, fault_of, is_simple, is_simple_and_free, matches_of}
use Rattle.clap.proofs.FaultLemmas.{fails_as}
use Rattle.command_line.specs.Line.{command_line}
use Rattle.command_line.proofs.LineLaws.{simple, free, faults-are, said-is}
use Rattle.command_line.proofs.line.matches.Goals as goal

pub returns-clause-matches : goal.returns-clause-matches
returns-clause-matches c =
    let words : List Text = map string_bytes c.args.words.now in
    let is : app_of c.in_ok-command_line.field-0 ≡ command_line = c.in_ok-command_line.ensures in
    IfOk-weaker c.try_get_matches_from.result _ _
    (λ m has. (has (ap is_simple is ∙ simple)).0 ∙ ap (λ (a : App). matches_of a words) is ∙ said-is words) c.try_get_matches_from.ensures.matches

pub returns-clause-fits : goal.returns-clause-fits
returns-clause-fits c =
    let words : List Text = map string_bytes c.args.words.now in
    let is : app_of c.in_ok-command_line.field-0 ≡ command_line = c.in_ok-command_line.ensures in
    fails_as c.try_get_matches_from.result _ _ (ap (λ (a : App). fault_of a words) is ∙ faults-are words)
    (c.try_get_matches_from.ensures.kinds (ap is_simple_and_free is ∙ free))
