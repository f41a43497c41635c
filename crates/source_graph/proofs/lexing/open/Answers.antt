use Rattle.source_graph.proofs.FolderLaws.{some_there}
use Rattle.source_graph.proofs.lexing.open.Goals as goal

pub returns-in-Some-clause-some : goal.returns-in-Some-clause-some
returns-in-Some-clause-some g c = some_there c.args.texts.now c.args.wanted.now c.source_file-file.result c.in-Some.number c.source_file-file.ensures c.in-Some.ensures.exact
