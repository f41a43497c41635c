use Rattle.tp_meaning.proofs.operator_laws.OfOperators.{early_laws, order_laws, text_order_laws, boolean_laws, range_laws}
use Rattle.tp_meaning.proofs.operator_laws.operator_laws.Goals as goal

pub returns : goal.returns
returns c = record { early = early_laws; order = order_laws; texts = text_order_laws; booleans = boolean_laws; range = range_laws }
