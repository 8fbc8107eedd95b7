use Rattle.types_laws.proofs.TreeRises as whole
use Rattle.types_laws.proofs.use_order_laws.uses_rise.Goals as goal

pub returns : goal.returns
returns c = whole.uses_rise
