use Rattle.types_laws.proofs.Values as values
use Rattle.types_laws.proofs.use_order_laws.values_rise.Goals as goal

pub returns : goal.returns
returns c = values.values_rise
