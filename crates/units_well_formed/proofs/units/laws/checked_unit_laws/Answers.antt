use Rattle.units_well_formed.proofs.units.Sources.{source_formed, bare_formed}
use Rattle.units_well_formed.proofs.units.Bringing.{brought_draft, brought_begun}
use Rattle.units_well_formed.proofs.units.Predeclared.{first_begun}
use Rattle.units_well_formed.proofs.units.laws.checked_unit_laws.Goals as goal

pub returns-clause-sources : goal.returns-clause-sources
returns-clause-sources c = source_formed c.weakening_laws.ensures.statements c.part_keeping_law.ensures

pub returns-clause-bare : goal.returns-clause-bare
returns-clause-bare c = bare_formed c.weakening_laws.ensures.statements c.part_keeping_law.ensures c.constant_value_law.ensures.kept

pub returns-clause-used : goal.returns-clause-used
returns-clause-used c = λ name. record {
  alone = first_begun name;
  begun = λ g h begun b. brought_begun c.constant_value_law.ensures.kept name g h begun b;
  joined = λ d h read named b. brought_draft c.constant_value_law.ensures.kept name d h read named b;
}
