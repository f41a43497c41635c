use Rattle.typed_tree.proofs.type_fits.FieldLaws.{fields_have_offsets}
use Rattle.typed_tree.proofs.type_fits.laws.fit_laws.Goals as goal

pub returns : goal.returns
returns c = record { fields = fields_have_offsets }
