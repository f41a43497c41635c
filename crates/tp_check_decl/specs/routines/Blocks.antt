-- Routines with what is declared inside them.
use Rattle.std.specs.Prelude.{ℕ, false, List, []}
use Rattle.type_layout.specs.declared.texts.Place.{Place}
use Rattle.syntax_tree.specs.declared.statement.CompoundStatement.{CompoundStatement}
use Rattle.syntax_tree.specs.declared.source_tree.declaration.DeclarationPart.{DeclarationPart}
use Rattle.typing_rules.specs.Judgements.{Judgement, makes, part}
use Rattle.declaration_checker.specs.type_parts.Objects.{header_place}
use Rattle.declaration_checker.specs.declarations.Parts.{part_declared}
use Rattle.tp_check_decl.specs.declared.routines.drafts.Site.{Site}
use Rattle.tp_check_decl.specs.routines.Trees.{Work, Works, forward, plain, method, no_works, and_part, and_work}
use Rattle.tp_check_decl.specs.routines.Drafts.{Drafted, knowing, having, Stage, stage, progress_of, with_progress, next_number, next_for}
use Rattle.tp_check_decl.specs.routines.Headings.{begins, Opened, heading, opened_of}
use Rattle.tp_check_decl.specs.routines.Methods.{of_part, method_opened}
use Rattle.tp_check_decl.specs.routines.Insides.{site_in, inside, ended}

-- ---- parts of declarations

-- behind a part, the unit has the routines that its object types have
abbrev pub with_methods : DeclarationPart → Stage → Stage
with_methods one s = stage (having s.draft (of_part s.draft.scope one)) s.locals

unfoldable pub part_judged : List ℕ → Site → Stage → DeclarationPart → Judgement Stage
part_judged unit site s one =
    part (part_declared unit site.home (next_for site.home (next_number s.draft)) (progress_of s) one) (λ p. makes (with_methods one (with_progress s p)))

-- ---- routines

-- The block behind a header at a place, with its declarations and statements.
abbrev pub block_judged : Site → Place → Opened → CompoundStatement → (Site → Stage → Judgement Stage) → Judgement Drafted
block_judged site place o body declared =
    part (inside (site_in site o.begun) place o.begun o.draft.scope) (λ g.
    part (declared (site_in site o.begun) (stage (knowing o.draft g) [])) (λ s.
    ended (site_in site o.begun) o.begun.number place body s))

abbrev mutual
  -- What a checker answers for a routine of a block, the unit behind it, and which faults are in it: from the judgements of its
  -- parts.
  pub judged : List ℕ → Site → Drafted → Work → Judgement Drafted
  judged unit site d (forward one) = heading false site d one
  judged unit site d (plain one all body) =
      part (opened_of site d one) (λ o. block_judged site (begins one).place o body (λ inner s. all_judged unit inner s all))
  judged unit site d (method one owner all body) =
      part (method_opened site d one owner) (λ o. block_judged site (header_place one) o body (λ inner s. all_judged unit inner s all))

  -- the declarations of a block
  pub all_judged : List ℕ → Site → Stage → Works → Judgement Stage
  all_judged unit site s no_works = makes s
  all_judged unit site s (and_part one rest) = part (part_judged unit site s one) (λ t. all_judged unit site t rest)
  all_judged unit site s (and_work one rest) = part (judged unit site s.draft one) (λ d. all_judged unit site (stage d s.locals) rest)
