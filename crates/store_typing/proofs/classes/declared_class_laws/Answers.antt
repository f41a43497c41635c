use Rattle.store_typing.proofs.classes.Found.{has_classes}
use Rattle.store_typing.proofs.classes.declared_class_laws.Goals as goal

pub returns : goal.returns
returns c = λ program agreed has. has_classes program agreed has
