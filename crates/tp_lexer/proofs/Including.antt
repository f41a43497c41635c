-- Reading an included text.
use Rattle.std.proofs.Common.{ℕ, zero, suc, List}
use Rattle.tp_lexer.specs.declared.token.Text.{Text}
use Rattle.tp_lexer.specs.declared.token.LexError.{LexError}
use Rattle.tp_lexer.specs.declared.token.LexError.TheVariants as e
use Rattle.tp_lexer.specs.Effects.{Settings}
use Rattle.tp_lexer.specs.Tokens.{Outcome, Reads, IncludesAt, text_at}
use Rattle.tp_lexer.specs.Acting.{Unless}
use Rattle.tp_lexer.proofs.Leads.{Whole}

pub unless_then : (error : LexError) (P Q : Type 0) → (P → Q) → Unless error P → Unless error Q
unless_then e.NoMemory P Q f h = tt
unless_then error P Q f h = f h

pub reads_whole : (depth : ℕ) (texts : List Text) (number : ℕ) (now : Settings) (o : Outcome) → Whole (IncludesAt depth texts) number (text_at texts number) now o → Reads depth texts number now o
reads_whole zero texts number now o whole = whole
reads_whole (suc depth) texts number now o whole = whole
