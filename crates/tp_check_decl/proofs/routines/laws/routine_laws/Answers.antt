use Rattle.typing_rules.proofs.JudgementLaws.{exact}
use Rattle.tp_check_decl.specs.routines.Blocks.{judged, all_judged}
use Rattle.tp_check_decl.proofs.routines.RoutineLaws.{lawful_heading, lawful_part_of, lawful, lawful_all}
use Rattle.tp_check_decl.proofs.routines.laws.routine_laws.Goals as goal

pub returns : goal.returns
returns c = record {
  exact = record {
    routine = λ unit site d. exact (judged unit site d) (lawful unit site d);
    declarations = λ unit site s. exact (all_judged unit site s) (lawful_all unit site s);
  };
  lawful = record {
    header = λ far site d one. lawful_heading far site d one;
    declared_part = λ unit site s one. lawful_part_of unit site s one;
    routine = λ unit site d work. lawful unit site d work;
    declarations = λ unit site s all. lawful_all unit site s all;
  };
}
