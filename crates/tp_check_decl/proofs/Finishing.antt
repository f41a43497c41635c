-- Routines that are finished one after the other.
use Rattle.std.proofs.Common.{◌≡◌, ◌∙◌, List, [], ◌∷◌, ◌++◌, length, Result, Ok, refl, sym, ap, append-nil, arith}
use Rattle.type_layout.specs.declared.definitions.TypeDef.{TypeDef}
use Rattle.typing_rules.specs.declared.faults.Fault.{Fault}
use Rattle.typing_rules.specs.declared.faults.Refusal.{Refusal}
use Rattle.typing_rules.specs.declared.faults.Refusal.TheVariants as refusal
use Rattle.typing_rules.specs.Judgements.{FailsAs}
use Rattle.call_rules.specs.Lists.{behind}
use Rattle.call_rules.proofs.ListLaws.{step, stop}
use Rattle.tp_check_decl.specs.routines.Drafts.{Numbered}
use Rattle.tp_check_decl.specs.Units.{Finished}
use Rattle.tp_check_decl.specs.Endings.{finished_by, all_finished}

pub nothing_left : {X : Type 0} (l : List X) → length l ≡ 0 → l ≡ []
nothing_left [] h = refl
nothing_left (x ∷ xs) h = absurd (omega arith)

module _ (types : List TypeDef) (made : List Finished) (whole : Result (List Finished) Fault) where
  -- one routine more
  pub finished_more : (x : Numbered) (rest : List Numbered) (one : Finished) (more : List Finished) → (finished_by types x.first x.done).run ≡ Ok one → more ≡ made ++ one ∷ []
      → behind made (all_finished types (x ∷ rest)).run ≡ whole → behind more (all_finished types rest).run ≡ whole
  finished_more x rest one more is step_made before =
      ap (λ (l : List Finished). behind l (all_finished types rest).run) step_made
      ∙ sym (step made (finished_by types x.first x.done).run one (all_finished types rest).run is)
      ∙ before

  -- one that has a fault
  pub finished_fails : (x : Numbered) (rest : List Numbered) (e : Refusal) → FailsAs e (finished_by types x.first x.done).run
      → behind made (all_finished types (x ∷ rest)).run ≡ whole → FailsAs e whole
  finished_fails x rest refusal.NoMemory fails before = tt
  finished_fails x rest (refusal.Because fault) fails before = sym before ∙ stop made (finished_by types x.first x.done).run fault (all_finished types rest).run fails

  -- none is left
  pub finished_all : (left : List Numbered) → left ≡ [] → behind made (all_finished types left).run ≡ whole → whole ≡ Ok made
  finished_all left none before =
      sym before
      ∙ ap (λ (l : List Numbered). behind made (all_finished types l).run) none
      ∙ ap (λ (l : List Finished). (let read : Result (List Finished) Fault = Ok l in read)) (append-nil made)
