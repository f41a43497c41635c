use Rattle.std.proofs.Common.{ℕ, List, Result, ap, subst, ◌∙◌, arith}
use Rattle.unit_interface.specs.declared.interfaces.Interface.{Interface}
use Rattle.object_file.specs.file_parts.Parts.{Gives}
use Rattle.unit_file.specs.interface_file.Reading.{interface_at}
use Rattle.unit_file.proofs.interface_file.ItemLaws.{interface_meets, interface-found}
use Rattle.unit_file.proofs.interface_file.items.interface_of.Goals as goal

pub returns-clause-found : goal.returns-clause-found
returns-clause-found c = interface-found c.args.bytes.now c.interface.result (λ k. omega (arith, c.type_inv.bytes k)) c.interface.ensures

pub returns-clause-only : goal.returns-clause-only
returns-clause-only c = λ shown rest fits spelled.
    let P : Result (Interface × List ℕ) ℕ → Type 0 = λ read. Gives (λ x. (x.0, x.1.now)) c.interface.result read in
    subst P (ap interface_at spelled ∙ interface_meets.again shown rest fits) c.interface.ensures
