use Rattle.store_typing.proofs.stores.Kept.{with_new_keeps, without_keeps, disposed_keeps}
use Rattle.store_typing.proofs.stores.Seen.{value_shared, value_joins}
use Rattle.store_typing.proofs.stores.Steps.{loads, assigns, copies, passes}
use Rattle.store_typing.proofs.stores.Instances.{class_found, class_put}
use Rattle.store_typing.proofs.stores.sound_store_laws.Goals as goal

pub returns : goal.returns
returns c = record {
  values = λ w agreed. record {
    shared = value_shared w agreed;
    joins = value_joins w agreed;
  };
  stores = λ w store agreed typed. record {
    loads = loads w agreed store typed;
    assigns = assigns w agreed store typed;
    copies = copies w agreed store typed;
    passes = passes w agreed store typed;
    classes = class_found w agreed store typed;
    classed = class_put w agreed store typed;
    begun = with_new_keeps w store typed;
    ended = λ serial count. without_keeps w count store serial typed;
    free = disposed_keeps w store typed;
  };
}
