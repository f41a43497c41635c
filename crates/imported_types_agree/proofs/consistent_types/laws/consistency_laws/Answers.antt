use Rattle.imported_types_agree.proofs.consistent_types.First.{first_told, first_home}
use Rattle.imported_types_agree.proofs.consistent_types.Arrived.{merged_home}
use Rattle.imported_types_agree.proofs.consistent_types.Merged.{merged_told, next_beside}
use Rattle.imported_types_agree.proofs.consistent_types.Agreed.{known_alike}
use Rattle.imported_types_agree.proofs.consistent_types.Longer.{declared_told}
use Rattle.imported_types_agree.proofs.consistent_types.Shown.{shown_told, shown_home}
use Rattle.imported_types_agree.proofs.consistent_types.Ordered.{shown_defined, shown_small}
use Rattle.imported_types_agree.proofs.consistent_types.laws.consistency_laws.Goals as goal

pub returns : goal.returns
returns c = record {
  first = first_told;
  first_home = first_home;
  brought = merged_told;
  brought_home = λ have table other keyed own h k. merged_home table other keyed own have h k;
  known = known_alike;
  beside = next_beside;
  declared = declared_told;
  shown = λ have homes unit i but closed shows is. shown_told unit i shows have homes but closed is;
  shown_home = λ have homes unit i but closed shows is. shown_home unit i shows have homes but closed is;
  shown_defined = λ unit i paired defined small shows. shown_defined unit i shows paired defined small;
  shown_small = λ unit i paired defined small shows. shown_small unit i shows paired defined small;
}
