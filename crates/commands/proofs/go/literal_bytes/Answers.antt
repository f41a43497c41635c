use Rattle.commands.proofs.BuildLaws.{does_of}
use Rattle.commands.proofs.go.literal_bytes.Goals as goal

pub returns-in-Ok-clause-made : goal.returns-in-Ok-clause-made
returns-in-Ok-clause-made c =
    let is = c.in-Ok-Some.field-0-is in
    does_of c.args.program.now c.in-Ok-Some.exe c.in-Ok.bytes (rw is at c.in-Ok-Some.ensures.literal) (rw is at c.in-Ok-Some.ensures.memory) (rw is at c.in-Ok-Some.ensures.plain) (rw is at c.in-Ok-Some.ensures.size)
    (rw is at c.in-Ok-Some.ensures.agrees) (rw is at c.in-Ok-Some.ensures.short)
    c.in-Ok.ensures.exact c.in-Ok.ensures.denotes
