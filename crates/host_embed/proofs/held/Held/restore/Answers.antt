use Rattle.std.proofs.Common.{ap}
use Rattle.amx_machine.specs.Machine.{Machine}
use Rattle.host_embed.specs.Held.{Held}
use Rattle.host_embed.proofs.held.Held.restore.Goals as goal

pub returns-in-Err : goal.returns-in-Err
returns-in-Err c =
    let f = c.self.inside in
    let e = c.in-Err.ensures in
    let with : Machine → Held = λ m. record { machine = m; digest = f.digest; image = f.image.bytes } in
    rw (← c.self.view_is) (e, ap with e.2)
