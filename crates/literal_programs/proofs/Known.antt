-- What is known of the run of a program of literals.
use Rattle.std.proofs.Common.{◌≡◌, ℕ, List, [], sym, ap, ◌∙◌, subst}
use Rattle.common_values.specs.behaviour.Seen as seen
use Rattle.common_values.specs.behaviour.Seen.{Seen, Standing}
use Rattle.typed_tree.specs.declared.units.Program.{Program}
use Rattle.cpu_8086.specs.Process as process
use Rattle.cpu_8086.specs.Process.{Status}
use Rattle.literal_programs.specs.literal_code.Statement.{Statement, written, code_of, shown}
use Rattle.literal_programs.specs.literal_code.Ends.{EndsAs, EndsWithin, AlwaysEnds}
use Rattle.tp_meaning.specs.Meaning.{mean}
use Rattle.literal_programs.specs.Literals.{Says, IsLiteral}
use Rattle.literal_programs.specs.Agrees.{Agrees}
use Rattle.literal_programs.proofs.Meant.{means}

abbrev code_in : Standing → ℕ
code_in (seen.Ended code) = code
code_in other = 0

-- it ends with the code, and wrote what the statements say
pub known : (program : Program) (l : IsLiteral program) (bytes input : List ℕ) (turns : ℕ) (e : EndsAs bytes input (mean program input turns))
    → (e.last.status ≡ process.Ended (code_of l.statements)) × (e.last.out ≡ written l.statements) × (e.last.err ≡ [])
known program l bytes input turns e =
    let meant : mean program input turns ≡ shown l.statements = means l.statements program input turns l.says in
    let code : e.code ≡ code_of l.statements = ap code_in (sym e.ends ∙ ap (λ (x : Seen). x.end) meant) in
    (e.status ∙ ap process.Ended code, e.out ∙ ap (λ (x : Seen). x.out) meant, e.err ∙ ap (λ (x : Seen). x.err) meant)

pub agrees : (program : Program) (statements : List Statement) (bytes : List ℕ) → Says program statements → AlwaysEnds bytes (shown statements) → Agrees program bytes
agrees program statements bytes says always = record {
  executable = always.executable;
  fits = always.fits;
  runs = λ input turns. subst (EndsAs bytes input) (sym (means statements program input turns says)) (always.runs input);
}

pub within : (program : Program) (statements : List Statement) (most : ℕ) (bytes input : List ℕ) (turns : ℕ) → Says program statements
    → EndsWithin most bytes input (shown statements) → EndsWithin most bytes input (mean program input turns)
within program statements most bytes input turns says ends = subst (EndsWithin most bytes input) (sym (means statements program input turns says)) ends
