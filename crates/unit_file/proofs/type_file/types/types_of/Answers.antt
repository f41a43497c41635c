use Rattle.std.proofs.Common.{ℕ, List, Result, ap, subst, ◌∙◌, arith}
use Rattle.type_layout.specs.Table.{Table}
use Rattle.object_file.specs.file_parts.Parts.{Gives}
use Rattle.unit_file.specs.type_file.Reading.{types_at}
use Rattle.unit_file.proofs.type_file.EntryLaws.{types_meets, types-found}
use Rattle.unit_file.proofs.type_file.types.types_of.Goals as goal

pub returns-clause-found : goal.returns-clause-found
returns-clause-found c = types-found c.args.bytes.now c.types.result (λ k. omega (arith, c.type_inv.bytes k)) c.types.ensures

pub returns-clause-only : goal.returns-clause-only
returns-clause-only c = λ table rest fits spelled.
    let P : Result (Table × List ℕ) ℕ → Type 0 = λ read. Gives (λ x. (x.0, x.1.now)) c.types.result read in
    subst P (ap types_at spelled ∙ types_meets.again table rest fits) c.types.ensures
