-- Words that ask for a text, and what comes of it.
use Rattle.std.proofs.Common.{◌≡◌, inl, inr, ℕ, List, [], ◌∷◌, Option, sym, ap, ◌∙◌, subst, arith}
use Rattle.std.specs.Prelude.{codes, slice_get, slice_index, unwrap_or}
use Rattle.command_line.specs.declared.command.RunOptions.{RunOptions}
use Rattle.command_line.specs.Words.{IsGo, IsRun, IsHelp, IsVersion}
use Rattle.command_line.proofs.LineLaws.{help_not, version_not}
use Rattle.front_end.specs.declared.outcomes.outcome.Outcome.{Outcome}
use Rattle.front_end.specs.declared.outcomes.outcome.Outcome.TheVariants as outcome
use Rattle.commands.specs.Performs.{Shown, DidShow}
use Rattle.commands.specs.Texts.{IsTextOf}
use Rattle.commands.specs.Turbo.{Faults, Unchanged, AfterLine, Told}
use Rattle.commands.specs.World.{World}
use Rattle.commands.proofs.RanLaws.{told}

pub not_go : (words : List (List ℕ)) (text name : List ℕ) (options : RunOptions) → IsTextOf words text → IsGo words name options → ⊥
not_go words text name options (inl help) go = help_not words help.0 go.fits
not_go words text name options (inr version) go = version_not words version.0 go.fits

pub not_run : (words : List (List ℕ)) (text name : List ℕ) (options : RunOptions) → IsTextOf words text → IsRun words name options → ⊥
not_run words text name options (inl help) run = help_not words help.0 run.fits
not_run words text name options (inr version) run = version_not words version.0 run.fits

pub no_text : (words : List (List ℕ)) → (IsHelp words → ⊥) → (IsVersion words → ⊥) → (text : List ℕ) → IsTextOf words text → ⊥
no_text words no_help no_version text (inl help) = no_help help.0
no_text words no_help no_version text (inr version) = no_version version.0

apart : ◌≡◌ {A = ℕ} 104 118 → ⊥
apart e = omega arith

differ : (words : List (List ℕ)) → words ≡ codes "--help" ∷ [] → words ≡ codes "--version" ∷ [] → ⊥
differ words help version = apart (ap (λ (ws : List (List ℕ)). slice_index (unwrap_or (slice_get ws 0) []) 2) (sym help ∙ version))

-- words ask for one text
one_text : (words : List (List ℕ)) (a b : List ℕ) → IsTextOf words a → IsTextOf words b → a ≡ b
one_text words a b (inl x) (inl y) = x.1 ∙ sym y.1
one_text words a b (inr x) (inr y) = x.1 ∙ sym y.1
one_text words a b (inl x) (inr y) = absurd (differ words x.0 y.0)
one_text words a b (inr x) (inl y) = absurd (differ words y.0 x.0)

pub fault : (result : Outcome) (text : List ℕ) (old mid : World) (errors : Option (List ℕ)) (faults : ℕ) → Shown result text old.streams.output mid.streams.output old.streams.output_faults mid.streams.output_faults
    → Faults old (told mid errors faults) result
fault outcome.Done text old mid errors faults shown = tt
fault outcome.OutputFault text old mid errors faults shown = shown
fault other text old mid errors faults shown = absurd shown

pub unchanged : (result : Outcome) (words : List (List ℕ)) (text : List ℕ) (old mid : World) (errors : Option (List ℕ)) (faults : ℕ) → Shown result text old.streams.output mid.streams.output old.streams.output_faults mid.streams.output_faults
    → Unchanged words old (told mid errors faults) result
unchanged outcome.Done words text old mid errors faults shown = tt
unchanged outcome.OutputFault words text old mid errors faults shown = tt
unchanged other words text old mid errors faults shown = absurd shown

pub tells : (inner result : Outcome) (words : List (List ℕ)) (old mid : World) (errors : Option (List ℕ)) (faults : ℕ) (text : List ℕ) → DidShow inner words old mid → AfterLine result inner mid.streams.errors errors
    → IsTextOf words text → Told text old (told mid errors faults) result
tells inner result words old mid errors faults text shown line asked =
    subst (λ (t : List ℕ). Told t old (told mid errors faults) result) (one_text words shown.text text shown.asked asked) (record {
      inner = inner;
      shown = shown.shown;
      line = subst (λ (e : Option (List ℕ)). AfterLine result inner e errors) shown.errors line;
      front = shown.front;
      folder = shown.folder;
      input = shown.input;
    })
