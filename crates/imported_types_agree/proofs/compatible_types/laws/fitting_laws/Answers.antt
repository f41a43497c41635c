use Rattle.imported_types_agree.proofs.compatible_types.Steps.{all_fit}
use Rattle.imported_types_agree.proofs.compatible_types.Uses.{closed_homes, use_told, used_told, uses_told, all_used_told, first_scope}
use Rattle.imported_types_agree.proofs.compatible_types.Own.{own_told}
use Rattle.imported_types_agree.proofs.compatible_types.laws.fitting_laws.Goals as goal

pub returns : goal.returns
returns c = record {
  homes = closed_homes;
  types = all_fit;
  one_fits = use_told;
  with_one = used_told;
  all_fit = uses_told;
  with_all = all_used_told;
  own = own_told;
  first = first_scope;
}
