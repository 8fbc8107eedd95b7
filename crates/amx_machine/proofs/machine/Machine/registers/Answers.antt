use Rattle.std.proofs.Common.{arith}
use Rattle.amx_machine.proofs.RestLaws.{order_in, clean_in, length_in}
use Rattle.amx_machine.proofs.machine.Machine.registers.Goals as goal

pub returns-clause-kept : goal.returns-clause-kept
returns-clause-kept c =
    let f = c.self.inside in
    let e = c.registers.ensures in
    rw (← c.self.view_is) (record {
      in_order = order_in f.core.amx f.core.state e.order f.mode;
      size = omega (arith, e.size, length_in f.core.amx f.core.state e.order f.mode);
      count = omega (arith, e.count, length_in f.core.amx f.core.state e.order f.mode);
      clean = clean_in f.core.amx f.core.state e.order f.mode;
    })
