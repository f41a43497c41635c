-- Routines and the declarations of blocks are judged by what is written in them.
use Rattle.std.proofs.Common.{◌≡◌, ℕ, false, List, [], ◌∷◌, Some, refl, ◌∙◌}
use Rattle.tp_check_decl.specs.type_layout.declared.texts.Place.{Place}
use Rattle.tp_check_decl.specs.syntax_tree.declared.statement.CompoundStatement.{CompoundStatement}
use Rattle.tp_check_decl.specs.syntax_tree.declared.source_tree.declaration.DeclarationPart.{DeclarationPart}
use Rattle.tp_check_decl.specs.syntax_tree.declared.source_tree.declaration.Routine.{Routine, Row_of-Declaration, end_of-Declaration, more_of-Declaration}
use Rattle.tp_check_decl.specs.syntax_tree.declared.source_tree.declaration.Routine.TheVariants as r
use Rattle.tp_check_decl.specs.syntax_tree.declared.source_tree.declaration.Declaration.{Declaration}
use Rattle.tp_check_decl.specs.syntax_tree.declared.source_tree.declaration.Declaration.TheVariants as d
use Rattle.tp_check_decl.specs.typing_rules.Judgements.{Judgement, makes, part}
use Rattle.tp_check_decl.specs.typing_rules.Selectors.{asking}
use Rattle.tp_check_decl.specs.tp_check_stmt.Typed.{blocked, listed}
use Rattle.tp_check_decl.specs.declared.routines.drafts.Site.{Site}
use Rattle.tp_check_decl.specs.routines.Trees.{view_routine, view_declaration_row, view_declarations}
use Rattle.tp_check_decl.specs.routines.Drafts.{Drafted, knowing, having, Stage, stage, progress_of, with_progress, next_number, next_for, depth_of}
use Rattle.tp_check_decl.specs.routines.Headings.{Opened}
use Rattle.tp_check_decl.specs.routines.Insides.{site_in, inside, all_met, shallow, closed}
use Rattle.tp_check_decl.specs.routines.Blocks as blocks
use Rattle.address_independence.specs.yields.Written as w
use Rattle.address_independence.specs.yields.Trees.{heading_in, method_heading, part_in, body_in, work_in, works_in, declarations_in}
use Rattle.address_independence.proofs.spelling.Parts.{part_declared, part_declared_is, routines_of, routines_of_is}
use Rattle.address_independence.proofs.spelling.Headings.{heading, heading_is, opened_of, opened_is, method_opened, method_opened_is, begins_is, place_is}

-- ---- parts

abbrev with_methods : w.Part → Stage → Stage
with_methods one s = stage (having s.draft (routines_of s.draft.scope one)) s.locals

abbrev pub part_judged : List ℕ → Site → Stage → w.Part → Judgement Stage
part_judged unit site s one =
    part (part_declared unit site.home (next_for site.home (next_number s.draft)) (progress_of s) one) (λ p. makes (with_methods one (with_progress s p)))

with_methods_is : (one : DeclarationPart) (s : Stage) → blocks.with_methods one s ≡ with_methods (part_in one) s
with_methods_is one s = λ i. stage (having s.draft (routines_of_is s.draft.scope one i)) s.locals

pub part_judged_is : (unit : List ℕ) (site : Site) (s : Stage) (one : DeclarationPart) → blocks.part_judged unit site s one ≡ part_judged unit site s (part_in one)
unfolding blocks.part_judged
part_judged_is unit site s one =
    λ i. part (part_declared_is unit site.home (next_for site.home (next_number s.draft)) (progress_of s) one i) (λ p. makes (with_methods_is one (with_progress s p) i))

-- ---- blocks

abbrev ended : Site → ℕ → Place → w.Body → Stage → Judgement Drafted
ended inner number place body s =
    asking (all_met (Some number) s.draft.routines) (part (blocked (listed s.draft.scope body.tasks)) (λ typed.
    asking (shallow place (depth_of inner)) (makes (closed number place s typed))))

abbrev block_judged : Site → Place → Opened → w.Body → (Site → Stage → Judgement Stage) → Judgement Drafted
block_judged site place o body declared =
    part (inside (site_in site o.begun) place o.begun o.draft.scope) (λ g.
    part (declared (site_in site o.begun) (stage (knowing o.draft g) [])) (λ s.
    ended (site_in site o.begun) o.begun.number place body s))

block_is : (site : Site) (place : Place) (o : Opened) (body : CompoundStatement) (declared others : Site → Stage → Judgement Stage)
    → ((inner : Site) (s : Stage) → declared inner s ≡ others inner s) → blocks.block_judged site place o body declared ≡ block_judged site place o (body_in body) others
block_is site place o body declared others same =
    λ i. part (inside (site_in site o.begun) place o.begun o.draft.scope) (λ g.
    part (same (site_in site o.begun) (stage (knowing o.draft g) []) i) (λ s.
    ended (site_in site o.begun) o.begun.number place (body_in body) s))

-- ---- routines

abbrev mutual
  judged : List ℕ → Site → Drafted → w.Work → Judgement Drafted
  judged unit site d (w.forward one) = heading false site d one
  judged unit site d (w.routine one all body) =
      part (opened_of site d one) (λ o. block_judged site one.position.place o body (λ inner s. all_judged unit inner s all))
  judged unit site d (w.method one owner all body) =
      part (method_opened site d one owner) (λ o. block_judged site one.position.place o body (λ inner s. all_judged unit inner s all))

  pub all_judged : List ℕ → Site → Stage → w.Works → Judgement Stage
  all_judged unit site s w.no_works = makes s
  all_judged unit site s (w.and_part one rest) = part (part_judged unit site s one) (λ t. all_judged unit site t rest)
  all_judged unit site s (w.and_work one rest) = part (judged unit site s.draft one) (λ d. all_judged unit site (stage d s.locals) rest)

mutual
  work_is : (one : Routine) (unit : List ℕ) (site : Site) (d : Drafted) → blocks.judged unit site d (view_routine one) ≡ judged unit site d (work_in one)
  work_is (r.Forward x) unit site d = heading_is false site d x
  work_is (r.Plain' x shape all body) unit site d =
      let block = λ (o : Opened).
      (λ i. blocks.block_judged site (begins_is x i).place o body (λ inner s. blocks.all_judged unit inner s (view_declaration_row all)))
      ∙ block_is site (heading_in x).position.place o body (λ inner s. blocks.all_judged unit inner s (view_declaration_row all)) (λ inner s. all_judged unit inner s (works_in all)) (λ inner s. works_are all unit inner s) in
      λ i. part (opened_is site d x i) (λ o. block o i)
  work_is (r.Method' x owner shape all body) unit site d =
      let block = λ (o : Opened).
      (λ i. blocks.block_judged site (place_is x i) o body (λ inner s. blocks.all_judged unit inner s (view_declaration_row all)))
      ∙ block_is site (method_heading x).position.place o body (λ inner s. blocks.all_judged unit inner s (view_declaration_row all)) (λ inner s. all_judged unit inner s (works_in all)) (λ inner s. works_are all unit inner s) in
      λ i. part (method_opened_is site d x owner i) (λ o. block o i)

  works_are : {n : _} (all : Row_of-Declaration n) (unit : List ℕ) (site : Site) (s : Stage) → blocks.all_judged unit site s (view_declaration_row all) ≡ all_judged unit site s (works_in all)
  works_are end_of-Declaration unit site s = refl
  works_are (more_of-Declaration (d.Part x) rest) unit site s = λ i. part (part_judged_is unit site s x i) (λ t. works_are rest unit site t i)
  works_are (more_of-Declaration (d.Routine x) rest) unit site s = λ i. part (work_is x unit site s.draft i) (λ e. works_are rest unit site (stage e s.locals) i)

-- the declarations of a list
pub declarations_are : (all : List Declaration) (unit : List ℕ) (site : Site) (s : Stage) → blocks.all_judged unit site s (view_declarations all) ≡ all_judged unit site s (declarations_in all)
declarations_are [] unit site s = refl
declarations_are (d.Part x ∷ rest) unit site s = λ i. part (part_judged_is unit site s x i) (λ t. declarations_are rest unit site t i)
declarations_are (d.Routine x ∷ rest) unit site s = λ i. part (work_is x unit site s.draft i) (λ e. declarations_are rest unit site (stage e s.locals) i)
