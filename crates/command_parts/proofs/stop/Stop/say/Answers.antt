use Rattle.std.proofs.Common.{◌≡◌, codes, ap}
use Rattle.pawn_outside.proofs.SaidLaws.{said_as}
use Rattle.command_parts.specs.Stop.{line_of, named_line}
use Rattle.command_parts.proofs.stop.Stop.say.Goals as goal

pub returns-in-Unregistered : goal.returns-in-Unregistered
returns-in-Unregistered g c =
    let line : named_line (codes "unregistered ") c.as_slice-in-Unregistered.result.now
    ≡ line_of c.args.self.now =
    rw c.in-Unregistered.is (ap (named_line (codes "unregistered "))
    c.as_slice-in-Unregistered.ensures) in
    said_as line c.say_named-in-Unregistered.ensures
