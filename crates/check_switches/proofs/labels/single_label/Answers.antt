use Rattle.std.proofs.Common.{refl}
use Rattle.check_switches.proofs.labels.single_label.Goals as goal

pub returns : goal.returns
returns c =
    rw (c.in_ok-first.ensures, c.in_ok-one_value.ensures c.args.at) refl
