use Rattle.source_graph.proofs.AnswerLaws.{gathered, refused, accepts, refuses, spells_nothing, misspells}
use Rattle.source_graph.proofs.gathering.gather.Goals as goal

pub returns-clause-gathered : goal.returns-clause-gathered
returns-clause-gathered g c = gathered c.args.name.now (g.F.Files.folder c.args.files.now) c.walk.result c.walk.ensures.told

pub returns-clause-refused : goal.returns-clause-refused
returns-clause-refused g c = refused c.args.name.now (g.F.Files.folder c.args.files.now) c.walk.result c.walk.ensures.told

pub returns-clause-accepts : goal.returns-clause-accepts
returns-clause-accepts g c = accepts c.args.name.now (g.F.Files.folder c.args.files.now) c.walk.result c.walk.ensures.told

pub returns-clause-refuses : goal.returns-clause-refuses
returns-clause-refuses g c = refuses c.args.name.now (g.F.Files.folder c.args.files.now) c.walk.result c.walk.ensures.told

pub returns-clause-misspelled : goal.returns-clause-misspelled
returns-clause-misspelled g c = misspells c.args.name.now (g.F.Files.folder c.args.files.now) c.walk.result c.walk.ensures.told

pub returns-clause-nothing : goal.returns-clause-nothing
returns-clause-nothing g c = spells_nothing c.args.name.now (g.F.Files.folder c.args.files.now) c.walk.result c.walk.ensures.told
