use Rattle.std.proofs.Common.{w32, refl, ap, ◌∙◌}
use Rattle.std.proofs.lemmas.Int.{to_z-of_z}
use Rattle.pawn_cells.specs.Cells.{bits_of}
use Rattle.amx_ops.specs.State.{State}
use Rattle.amx_machine.proofs.RestLaws.{live_in}
use Rattle.amx_machine.proofs.LendLaws.{lent_in}
use Rattle.amx_machine.proofs.machine.Machine.live_from_mut.Goals as goal

pub returns : goal.returns
returns c =
    let f = c.self.inside in
    let e = c.live_from_mut.ensures in
    let at = bits_of c.args.at in
    let value = rw (to_z-of_z w32 c.args.at c.ranges.at) at e.value in (
      (
        refl,
        λ new. rw (to_z-of_z w32 c.args.at c.ranges.at, ← c.self.view_is)
            (ap (λ (t : State). record { amx = f.core.amx; state = t; mode = f.mode })
            (lent_in f.core.amx f.core.state e.order at new f.mode)),
      ),
      record {
        writes_back = tt;
        value = rw (← c.self.view_is) (value ∙ live_in f.core.amx f.core.state e.order f.mode at);
      },
    )
