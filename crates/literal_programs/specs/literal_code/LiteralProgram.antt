-- What a program of literals in memory says.
use Rattle.std.specs.Prelude.{◌≡◌, List, vec_len}
use Rattle.literal_programs.specs.declared.literal_code.program.LiteralProgram.{LiteralProgram}
use Rattle.literal_programs.specs.literal_code.Statement.{Statement, size_of}
use Rattle.literal_programs.specs.literal_code.Act.{statements_in}

abbrev pub statements_of : LiteralProgram → List Statement
statements_of p = statements_in p.pool.items p.acts.items

-- the pool has no more than what the acts write
abbrev pub IsFull : LiteralProgram → Type 0
IsFull p = vec_len p.pool ≡ size_of (statements_of p)
