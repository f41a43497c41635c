-- Methods of the types of a unit are as they were declared.
use Rattle.std.proofs.Common.{ℕ, List, [], Some, sym, subst}
use Rattle.std.specs.Prelude.{drop}
use Rattle.unit_references.specs.type_layout.Table.{Table}
use Rattle.units_well_formed.specs.tp_lexer.declared.source_directives.collected.Directives.{Directives}
use Rattle.units_well_formed.specs.syntax_tree.declared.source_tree.source.Tree.{Tree}
use Rattle.units_well_formed.specs.syntax_tree.declared.source_tree.source.Tree.TheVariants as t
use Rattle.units_well_formed.specs.scopes.Environment.{Environment}
use Rattle.units_well_formed.specs.unit_interface.declared.interfaces.Interface.{Interface}
use Rattle.units_well_formed.specs.tp_check_decl.routines.Trees.{view_declarations}
use Rattle.units_well_formed.specs.tp_check_decl.routines.Drafts.{stage, knowing}
use Rattle.shared_types_agree.specs.programs.Below.{Whole, unit_site, items_of, outlined, IsTypedAs}
use Rattle.shared_types_agree.proofs.programs.Below.{IsUse}
use Rattle.shared_types_agree.proofs.programs.Keeping.{KeepsTo}
use Rattle.shared_types_agree.proofs.programs.Routines.{all_keep}
use Rattle.shared_types_agree.proofs.programs.Parts.{interface_keeps, program_keeps}
use Rattle.shared_types_agree.proofs.programs.Units.{ended_types}
use Rattle.shared_types_agree.proofs.method_numbers.Tables.{AreSo, own_stays}
use Rattle.shared_types_agree.proofs.method_numbers.Scopes.{IsSoInterface, used_so}

abbrev IsSoTable : Table → Type 0
IsSoTable table = AreSo table.types

kept_so : (unit : List ℕ) (g h : Environment) → KeepsTo unit g h → AreSo g.types.types → AreSo h.types.types
kept_so unit g h k so = k.keeps IsSoTable (own_stays unit) so

-- behind the interface part
pub outline_so : (name : List ℕ) (says : Directives) (g : Environment) (tree : Tree) (unit : Whole) → (outlined name says g tree).holds unit → AreSo g.types.types → AreSo unit.types.types
outline_so name says g (t.Program heading uses all body) unit h so = subst (λ (w : Whole). AreSo w.types.types) (sym h.made) so
outline_so name says g (t.Unit here own uses outer interface all body) unit h so =
    let n = h.made in
    subst (λ (w : Whole). AreSo w.types.types) (sym n.made) (kept_so name g n.part.scope (interface_keeps name g interface.items n.part n.holds) so)

-- and behind all
pub unit_so : (name : List ℕ) (says : Directives) (g : Environment) (have : List Interface) (tree : Tree) (unit : Whole) → ((word : List ℕ) → IsUse IsSoInterface have word)
    → IsTypedAs name says g have tree unit → AreSo g.types.types → AreSo unit.types.types
unit_so name says g have (t.Program heading uses all body) unit own h so =
    let f = h.made in
    let d = f.made in
    subst IsSoTable (sym (ended_types name f.part [] (Some body) d.part unit d.made)) (kept_so name g d.part.scope (program_keeps name g (view_declarations all.items) d.part d.holds) so)
unit_so name says g have (t.Unit here mine uses outer interface all body) unit own h so =
    let n = h.made in
    let d = n.part in
    let u = n.made in
    let last = u.made in
    let first = kept_so name g d.scope (interface_keeps name g interface.items d n.holds) so in
    let second = used_so have own d.scope (drop outer uses.items) u.part u.holds first in
    let third = kept_so name u.part last.part.draft.scope (all_keep name unit_site (stage (knowing d u.part) []) (view_declarations all.items) last.part last.holds) second in
    subst IsSoTable (sym (ended_types name h.part (items_of d.scope) body last.part.draft unit last.made)) third
