use Rattle.programs_well_formed.proofs.programs.Alone.{unit_formed, program_formed}
use Rattle.programs_well_formed.proofs.programs.Using.{using_formed}
use Rattle.programs_well_formed.proofs.programs.Whole.{whole_formed}
use Rattle.programs_well_formed.proofs.programs.laws.formed_program_laws.Goals as goal

pub returns-clause-unit : goal.returns-clause-unit
returns-clause-unit c = unit_formed c.checked_unit_laws.ensures.bare

pub returns-clause-program : goal.returns-clause-program
returns-clause-program c = program_formed (unit_formed c.checked_unit_laws.ensures.bare)

pub returns-clause-using : goal.returns-clause-using
returns-clause-using c =
    using_formed c.constant_value_law.ensures.kept c.checked_unit_laws.ensures.sources c.checked_unit_laws.ensures.used c.interface_law.ensures

pub returns-clause-whole : goal.returns-clause-whole
returns-clause-whole c = whole_formed (record {
  stay = c.constant_value_law.ensures.kept;
  parts = c.part_keeping_law.ensures;
  source = c.checked_unit_laws.ensures.sources;
  used = c.checked_unit_laws.ensures.used;
  brings = c.interface_law.ensures;
  further = c.further_use_law.ensures;
  own = c.own_use_law.ensures;
  shown = c.shown_constant_law.ensures;
  tables = c.table_laws.ensures.closed;
})
