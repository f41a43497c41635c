use Rattle.units_well_formed.proofs.routines.Kept.{judged_kept, all_kept}
use Rattle.units_well_formed.proofs.routines.laws.checked_routine_law.Goals as goal

pub returns : goal.returns
returns c = λ unit keeps. record {
  routine = λ site d e work frames at named literals read few h. judged_kept work unit keeps site d e frames at named literals read few h;
  declarations = λ site s t all frames at literals small few h. all_kept all unit keeps site s t frames at literals small few h;
}
