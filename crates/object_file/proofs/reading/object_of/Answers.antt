use Rattle.std.proofs.Common.{ℕ, List, Result, ap, subst, ◌∙◌, arith}
use Rattle.object_file.specs.declared.object_unit.object.ObjectUnit.{ObjectUnit}
use Rattle.object_file.specs.file_parts.Parts.{Gives}
use Rattle.object_file.specs.Reading.{object_at}
use Rattle.object_file.proofs.ObjectLaws.{object_meets, object-found}
use Rattle.object_file.proofs.reading.object_of.Goals as goal

pub returns-clause-found : goal.returns-clause-found
returns-clause-found c = object-found c.args.globals c.args.routines c.args.bytes.now c.object.result (λ k. omega (arith, c.type_inv.bytes k)) c.object.ensures

pub returns-clause-only : goal.returns-clause-only
returns-clause-only c = λ object rest fits spelled.
    let P : Result (ObjectUnit × List ℕ) ℕ → Type 0 = λ read. Gives (λ x. (x.0, x.1.now)) c.object.result read in
    subst P (ap (object_at c.args.globals c.args.routines) spelled ∙ (object_meets c.args.globals c.args.routines).again object rest fits) c.object.ensures
