use Rattle.std.proofs.Common.{refl}
use Rattle.check_switches.proofs.labels.double_label.Goals as goal

pub returns : goal.returns
returns c =
    rw (
      c.in_ok-first.ensures,
      c.in_ok-last.ensures,
      c.in_ok-two_values.ensures c.args.at,
    ) refl
