use Rattle.token_provenance.proofs.sources.Trees.{tree_kept, sources_kept}
use Rattle.token_provenance.proofs.sources.laws.written_source_laws.Goals as goal

pub returns-clause-tree : goal.returns-clause-tree
returns-clause-tree c = tree_kept

pub returns-clause-sources : goal.returns-clause-sources
returns-clause-sources c = sources_kept
