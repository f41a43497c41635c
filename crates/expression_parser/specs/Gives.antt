-- What a function returned, as a reader of the grammar's trees gives it.
use Rattle.std.specs.Prelude.{◌≡◌, ℕ, ℤ, zero, suc, List, [], ◌∷◌, length, Option, Some, None, Result, Ok, Err}
use Rattle.pascal_grammar.specs.declared.kind.Kind.{Kind}
use Rattle.pascal_grammar.specs.declared.lexeme.Lexeme.{Lexeme}
use Rattle.pascal_grammar.specs.Parts.{Part}
use Rattle.pascal_grammar.specs.Asked.{Asked}
use Rattle.pascal_grammar.specs.Asked as q
use Rattle.pascal_grammar.specs.Lexemes.{Kept}
use Rattle.pascal_grammar.specs.Lexemes as v
use Rattle.pascal_grammar.specs.declared.lexeme.Position.{Position}
use Rattle.ll1_grammar.specs.Grammar.{leaf}
use Rattle.syntax_tree.specs.Expressions.{Parsed}
use Rattle.pascal_grammar.specs.Omissions.{omitted}
use Rattle.pascal_grammar.specs.Productions.{Production}
use Rattle.pascal_grammar.specs.Rules.{grammar}
use Rattle.ll1_grammar.specs.Readers.{Fault, Syntax, LeftOut, TooDeep, Reader, Below, token_at}
use Rattle.expression_parser.specs.declared.error.ReadError.{ReadError}
use Rattle.expression_parser.specs.declared.error.ReadError.TheVariants as r

-- out of memory says nothing
abbrev pub Fails : {Y : Type 0} → ReadError → Result Y (Fault Production) → Type 0
Fails r.NoMemory read = Unit {0}
Fails (r.Syntax n) read = read ≡ Err (Syntax n)
Fails (r.LeftOut o n) read = read ≡ Err (LeftOut (omitted o) n)
Fails (r.TooDeep n) read = read ≡ Err (TooDeep n)

-- What a function returned, seen by view, is what reading gives, unless memory ran out.
abbrev pub Gives : {X Y : Type 0} → (X → Y) → Result X ReadError → Result Y (Fault Production) → Type 0
Gives view (Ok x) read = read ≡ Ok (view x)
Gives view (Err e) read = Fails e read

abbrev pub Reads : Type 0
Reads = Reader Lexeme Kept Production

-- the readers inside one construct more
abbrev pub Inside : Type 0
Inside = Below Lexeme Kept Part Production

-- one lexeme
abbrev pub ask : Asked → Reads
ask = token_at grammar

abbrev pub word_at : Kind → Asked
word_at want = q.word want

abbrev pub mark_of : Kind → Asked
mark_of want = q.mark want

abbrev pub name_at : Reads
name_at = ask q.name

abbrev pub letter_at : Reads
letter_at = ask q.letter

abbrev pub number_at : Reads
number_at = ask q.number

abbrev pub text_at : Reads
text_at = ask q.text

abbrev pub number_of : ℤ → Position → Parsed
number_of i here = leaf (v.number i here)

abbrev pub text_of : List ℕ → Position → Parsed
text_of bytes here = leaf (v.text bytes here)
