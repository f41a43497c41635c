-- The words of a command.
use Rattle.std.proofs.Common.{◌≡◌, ℕ, List, [], Option, ap, ◌∙◌, sym, arith}
use Rattle.std.specs.Prelude.{slice_index, unwrap_or}
use Rattle.command_line.specs.declared.command.RunOptions.{RunOptions}
use Rattle.command_line.specs.Words.{IsGo, IsRun, IsMean}

differ : ◌≡◌ {A = ℕ} 103 114 → ⊥
differ e = omega arith

-- no words ask for both
pub not_both : (words : List (List ℕ)) (a b : List ℕ) (gone options : RunOptions) → IsGo words a gone → IsRun words b options → ⊥
not_both words a b gone options go run =
    differ (ap (λ (said : Option (List ℕ)). slice_index (unwrap_or said []) 0) (sym go.says.command ∙ run.says.command))

go_differs : ◌≡◌ {A = ℕ} 103 109 → ⊥
go_differs e = omega arith

run_differs : ◌≡◌ {A = ℕ} 114 109 → ⊥
run_differs e = omega arith

pub not_go_and_mean : (words : List (List ℕ)) (a b : List ℕ) (options : RunOptions) (turns : Option ℕ) → IsGo words a options → IsMean words b turns → ⊥
not_go_and_mean words a b options turns go mean =
    go_differs (ap (λ (said : Option (List ℕ)). slice_index (unwrap_or said []) 0) (sym go.says.command ∙ mean.says.command))

pub not_run_and_mean : (words : List (List ℕ)) (a b : List ℕ) (options : RunOptions) (turns : Option ℕ) → IsRun words a options → IsMean words b turns → ⊥
not_run_and_mean words a b options turns run mean =
    run_differs (ap (λ (said : Option (List ℕ)). slice_index (unwrap_or said []) 0) (sym run.says.command ∙ mean.says.command))
