use Rattle.std.proofs.Common.{IsUtf8}
use Rattle.tp_lexer.proofs.Variants.{named-text, named-other}
use Rattle.tp_lexer.proofs.file_name.named.Goals as goal

pub returns-in-Ok : goal.returns-in-Ok
returns-in-Ok c =
    let same = c.in-Ok.ensures.cases.0 in
    let text : IsUtf8 c.args.bytes.now = c.in-Ok.ensures.cases.1 in
    named-text c.args.bytes.now c.new.result text (rw same at c.new.ensures.variant) (rw same at c.new.ensures.value)

pub returns-in-Err : goal.returns-in-Err
returns-in-Err c = named-other c.args.bytes.now c.in-Err.ensures.cases.0
