use Rattle.std.proofs.Common.{◌≡◌, List, ◌∷◌, ◌++◌, arith}
use Rattle.std.proofs.lemmas.Grind.{common_steps}
use Rattle.x86_table.specs.Opcode.{opcode}
use Rattle.x86_table.specs.Spelling.{prefix, row_of_instr, segment_override, body, spelling}
use Rattle.x86_table.proofs.Rows.{front}
use Rattle.x86_table.proofs.decoding.decode.Goals as goal

pub returns-clause-found : goal.returns-clause-found
returns-clause-found c = front c.args.bytes.now (spelling c.in_ok-instr.instr) c.in_ok-instr.rest.now (grind (arith, common_steps))
