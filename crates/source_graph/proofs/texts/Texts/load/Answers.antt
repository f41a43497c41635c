use Rattle.std.proofs.Common.{◌≡◌, Bool, false, rules}
use Rattle.source_graph.specs.Texts.{leads_out}
use Rattle.source_graph.proofs.FolderLaws.{some_text}
use Rattle.source_graph.proofs.texts.Texts.load.Goals as goal

pub returns-clause-some : goal.returns-clause-some
returns-clause-some g c =
    let inside : leads_out c.args.file.now ≡ false = search rules in
    some_text c.args.absent c.args.self.now c.push.new.self c.args.file.now c.in_ok-bytes.bytes.items c.push.result inside c.push.ensures.told
