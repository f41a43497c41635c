-- What follows for every routine and every list of declarations.
use Rattle.std.specs.Prelude.{ℕ, Bool, List}
use Rattle.syntax_tree.specs.declared.source_tree.declaration.DeclarationPart.{DeclarationPart}
use Rattle.syntax_tree.specs.declared.source_tree.declaration.RoutineHeader.{RoutineHeader}
use Rattle.typing_rules.specs.Laws.{IsExact, Lawful}
use Rattle.tp_check_decl.specs.declared.routines.drafts.Site.{Site}
use Rattle.tp_check_decl.specs.routines.Trees.{Work, Works}
use Rattle.tp_check_decl.specs.routines.Drafts.{Drafted, Stage}
use Rattle.tp_check_decl.specs.routines.Headings.{heading}
use Rattle.tp_check_decl.specs.routines.Blocks.{part_judged, judged, all_judged}

-- What a block declares leaves one unit at most; it leaves one exactly where no fault is in it.
pub record AreExact : Type 0 where
  pub routine : (unit : List ℕ) (site : Site) (d : Drafted) → IsExact (judged unit site d)
  pub declarations : (unit : List ℕ) (site : Site) (s : Stage) → IsExact (all_judged unit site s)

-- What is read is the one unit that a block leaves, and then no fault is in it; or a fault that is in it, and then it leaves none.
pub record AreLawful : Type 0 where
  pub header : (far : Bool) (site : Site) (d : Drafted) (one : RoutineHeader) → Lawful (heading far site d one)
  pub declared_part : (unit : List ℕ) (site : Site) (s : Stage) (one : DeclarationPart) → Lawful (part_judged unit site s one)
  pub routine : (unit : List ℕ) (site : Site) (d : Drafted) (work : Work) → Lawful (judged unit site d work)
  pub declarations : (unit : List ℕ) (site : Site) (s : Stage) (all : Works) → Lawful (all_judged unit site s all)
