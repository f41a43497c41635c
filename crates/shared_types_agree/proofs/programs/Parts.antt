-- Interface parts, and the declarations of programs and implementation parts, keep what stays with each type of the unit.
use Rattle.std.proofs.Common.{ℕ, true, List, [], ◌∷◌, refl}
use Rattle.units_well_formed.specs.syntax_tree.declared.source_tree.source.InterfaceDeclaration.{InterfaceDeclaration}
use Rattle.units_well_formed.specs.syntax_tree.declared.source_tree.source.InterfaceDeclaration.TheVariants as i
use Rattle.units_well_formed.specs.scopes.Environment.{Environment}
use Rattle.units_well_formed.specs.tp_check_decl.routines.Trees.{Works}
use Rattle.units_well_formed.specs.tp_check_decl.routines.Drafts.{Drafted, Stage, stage}
use Rattle.units_well_formed.specs.tp_check_decl.Programs.{unit_site, empty_draft, declarations_judged}
use Rattle.units_well_formed.specs.tp_check_decl.Interfaces.{all_declared, declared, interface_judged}
use Rattle.shared_types_agree.proofs.programs.Keeping.{KeepsTo, unchanged, next}
use Rattle.shared_types_agree.proofs.programs.Routines.{same_draft, same_stage, heading_keeps, part_of_keeps, all_keep}

declared_keeps : (unit : List ℕ) (s : Stage) (one : InterfaceDeclaration) (made : Stage) → (declared unit s one).holds made → KeepsTo unit s.draft.scope made.draft.scope
declared_keeps unit s (i.Part one) made e = part_of_keeps unit unit_site s one made e
declared_keeps unit s (i.Header one) made e = same_stage unit s.draft.scope made _ e.made (heading_keeps unit true unit_site s.draft one e.part e.holds)

declared_keep : (unit : List ℕ) (s : Stage) (all : List InterfaceDeclaration) (made : Stage) → (all_declared unit s all).holds made → KeepsTo unit s.draft.scope made.draft.scope
declared_keep unit s [] made e = same_stage unit s.draft.scope made s e (unchanged unit s.draft.scope _ refl)
declared_keep unit s (one ∷ rest) made e =
    next unit s.draft.scope e.part.draft.scope made.draft.scope (declared_keeps unit s one e.part e.holds) (declared_keep unit e.part rest made e.made)

pub interface_keeps : (name : List ℕ) (g : Environment) (all : List InterfaceDeclaration) (d : Drafted) → (interface_judged name g all).holds d → KeepsTo name g d.scope
unfolding interface_judged
interface_keeps name g all d e =
    let start = (empty_draft g).scope in
    same_draft name g d e.part.draft e.made (next name g start e.part.draft.scope (unchanged name g start refl) (declared_keep name (stage (empty_draft g) []) all e.part e.holds))

pub program_keeps : (name : List ℕ) (g : Environment) (all : Works) (d : Drafted) → (declarations_judged name g all).holds d → KeepsTo name g d.scope
unfolding declarations_judged
program_keeps name g all d e =
    let start = (empty_draft g).scope in
    same_draft name g d e.part.draft e.made (next name g start e.part.draft.scope (unchanged name g start refl) (all_keep name unit_site (stage (empty_draft g) []) all e.part e.holds))
