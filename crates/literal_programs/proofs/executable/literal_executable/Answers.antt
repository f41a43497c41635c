use Rattle.std.proofs.Common.{◌≡◌, List, Some, None, sym, ap, ◌∙◌}
use Rattle.literal_programs.specs.literal_code.LiteralProgram.{statements_of}
use Rattle.literal_programs.specs.literal_code.Statement.{Statement}
use Rattle.literal_programs.specs.literal_code.Size.{image_size}
use Rattle.literal_programs.specs.Literals.{Says}
use Rattle.literal_programs.specs.Reading.{said_by}
use Rattle.literal_programs.proofs.Read.{says_from_read, read_from_says}
use Rattle.literal_programs.proofs.Known.{agrees, within}
use Rattle.literal_programs.proofs.Played.{none_some}
use Rattle.literal_programs.proofs.executable.literal_executable.Goals as goal

says : (c : goal.After-drop-said-in-Ok-2) → Says c.args.program.now (statements_of c.in-Ok.said)
says c =
    let read : said_by c.args.program.now ≡ Some (statements_of c.in-Ok.said) = rw c.in-Ok.is at c.read_program.ensures.says in
    says_from_read c.args.program.now (statements_of c.in-Ok.said) read

pub returns-in_ok-executable-in-Ok-clause-literal : goal.returns-in_ok-executable-in-Ok-clause-literal
returns-in_ok-executable-in-Ok-clause-literal c = record { statements = statements_of c.in-Ok.said; says = says c }

pub returns-in_ok-executable-in-Ok-clause-agrees : goal.returns-in_ok-executable-in-Ok-clause-agrees
returns-in_ok-executable-in-Ok-clause-agrees c = λ bytes denotes.
    agrees c.args.program.now (statements_of c.in-Ok.said) bytes (says c) (c.in_ok-executable-in-Ok.ensures.ends bytes denotes)

pub returns-in_ok-executable-in-Ok-clause-short : goal.returns-in_ok-executable-in-Ok-clause-short
returns-in_ok-executable-in-Ok-clause-short c = λ bytes input turns denotes.
    within c.args.program.now (statements_of c.in-Ok.said) 16389 bytes input turns (says c) (c.in_ok-executable-in-Ok.ensures.short bytes input denotes)

pub returns-in-Err-Other-clause-other : goal.returns-in-Err-Other-clause-other
returns-in-Err-Other-clause-other c = λ none literal.
    let read : said_by c.args.program.now ≡ None = rw (c.in-Err-Other.is, c.in-Err-Other.field-0-is) at c.read_program.ensures.says in
    none_some (sym read ∙ read_from_says c.args.program.now literal.statements literal.says)

-- what a program says is one list
one_list : (first second : List Statement) → Some first ≡ Some second → first ≡ second
one_list first second same = cc

pub returns-in_ok-executable-in-Ok-clause-size : goal.returns-in_ok-executable-in-Ok-clause-size
returns-in_ok-executable-in-Ok-clause-size c = λ literal.
    let read : said_by c.args.program.now ≡ Some (statements_of c.in-Ok.said) = rw c.in-Ok.is at c.read_program.ensures.says in
    let told = read_from_says c.args.program.now literal.statements literal.says in
    let same = one_list (statements_of c.in-Ok.said) literal.statements (sym read ∙ told) in
    c.in_ok-executable-in-Ok.ensures.size (rw c.in-Ok.is at c.read_program.ensures.full) ∙ ap image_size same
