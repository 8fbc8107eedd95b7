use Rattle.std.proofs.Common.{ℤ, List, ap}
use Rattle.amx_step.proofs.ByteLaws.{moved_is}
use Rattle.amx_step.proofs.registers.Core.copy_some.Goals as goal

pub returns : goal.returns
returns c =
    let f = c.self.inside in
    let law = moved_is c.args.from c.args.to c.args.count f.block c.copy.new.self c.copy.ensures in
    rw (← c.self.view_is)
    (ap (λ (cells : List ℤ). record {
      amx = f.verified;
      state =
          record {
            pri = f.pri;
            alt = f.alt;
            frm = f.frm;
            cip = f.cip;
            stk = f.stk;
            hea = f.hea;
            cells = cells;
          };
    }) law)
