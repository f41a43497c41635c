-- Sources that are spelled keep what the rules of typing ask of their texts.
use Rattle.std.proofs.Common.{List, [], ◌∷◌, Option, Some, None}
use Rattle.std.proofs.lemmas.List.Elements.{All-weaker}
use Rattle.source_graph.specs.syntax_tree.declared.statement.CompoundStatement.{CompoundStatement}
use Rattle.source_graph.specs.syntax_tree.declared.source_tree.source.InterfaceDeclaration.{InterfaceDeclaration}
use Rattle.source_graph.specs.syntax_tree.declared.source_tree.source.InterfaceDeclaration.TheVariants as i
use Rattle.source_graph.specs.syntax_tree.declared.source_tree.source.Tree.{Tree}
use Rattle.source_graph.specs.syntax_tree.declared.source_tree.source.Tree.TheVariants as t
use Rattle.source_graph.specs.syntax_tree.source_tree.Declarations.{in_interface}
use Rattle.source_graph.specs.syntax_tree.source_tree.Sources.{interface_of, unit_body_of, of_tree}
use Rattle.source_graph.specs.declared.sources.Source.{Source}
use Rattle.units_well_formed.specs.units.Begun.{IsKeptPart, HaveLiterals, IsSource}
use Rattle.token_provenance.specs.leaves.Written.{IsSpelled}
use Rattle.token_provenance.proofs.leaves.Gathered.{spelled_sources}
use Rattle.token_provenance.specs.sources.Variables.{HasFewVariables}
use Rattle.token_provenance.specs.sources.Laws.{TreeLaw, SourcesLaw}
use Rattle.token_provenance.proofs.sources.Full.{IsFull, full}
use Rattle.token_provenance.proofs.sources.Depths.{body_kept}
use Rattle.token_provenance.proofs.sources.Declarations.{part_written, behind_part, declarations_kept}

-- ---- interface parts

interface_written : (all : List InterfaceDeclaration) → IsFull (interface_of all) → HaveLiterals all
interface_written [] s = tt
interface_written (i.Part x ∷ all) s = (part_written in_interface x (interface_of all) s, interface_written all (behind_part in_interface x (interface_of all) s))
interface_written (i.Header x ∷ all) s = interface_written all s.2.2.2.0

-- ---- initialisation parts

part_kept : (one : Option CompoundStatement) → IsFull (unit_body_of one) → IsKeptPart one
part_kept None s = tt
part_kept (Some body) s = body_kept body s.0 s.1

-- ---- sources

full_kept : (one : Tree) → IsFull (of_tree one) → HasFewVariables one → IsSource one
full_kept (t.Program heading uses all body) s few =
    (record { bodies = declarations_kept all.items s.2.2.0 few.1; few = few.0 }, body_kept body s.2.2.2.0 s.2.2.2.1)
full_kept (t.Unit here own uses outer interface all body) s few =
    let shown = s.2.2.2.2.2 in
    let inner = shown.2.2.2 in (
      record { literals = interface_written interface.items shown.0; few = few.0 },
      record { bodies = declarations_kept all.items inner.0 few.1.1; few = few.1.0 },
      part_kept body inner.2.0,
    )

pub tree_kept : TreeLaw
tree_kept one s few = full_kept one (full (of_tree one) s) few

pub sources_kept : SourcesLaw
sources_kept held name texts sources gathered bytes =
    All-weaker (λ (source : Source). IsSpelled (of_tree source.tree)) (λ (source : Source). HasFewVariables source.tree → IsSource source.tree)
    (λ source s. tree_kept source.tree s) sources (spelled_sources held name texts sources gathered bytes)
