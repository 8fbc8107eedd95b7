use Rattle.std.proofs.Common.{w32, ◌∙◌}
use Rattle.std.proofs.lemmas.Int.{to_z-of_z}
use Rattle.pawn_cells.specs.Cells.{bits_of}
use Rattle.amx_machine.proofs.RestLaws.{live_in}
use Rattle.amx_machine.proofs.machine.Machine.live_from.Goals as goal

pub returns : goal.returns
returns c =
    let f = c.self.inside in
    let e = c.live_from.ensures in
    let value = rw (to_z-of_z w32 c.args.at c.ranges.at) at e.value in
    rw (← c.self.view_is) (value ∙ live_in f.core.amx f.core.state e.order f.mode
    (bits_of c.args.at))
