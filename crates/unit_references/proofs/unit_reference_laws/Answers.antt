use Rattle.unit_references.proofs.Whole.{all_refer, well_typed}
use Rattle.unit_references.proofs.unit_reference_laws.Goals as goal

pub returns : goal.returns
returns c = record {
  statements = λ program sound unit listed number withs statement h. all_refer program sound unit listed number withs statement h;
  programs = λ program named sound classes methods. well_typed program named sound classes methods;
}
