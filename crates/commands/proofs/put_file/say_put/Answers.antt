use Rattle.std.proofs.Common.{length, refl}
use Rattle.pawn_outside.proofs.SaidLaws.{said_then, said_cut}
use Rattle.commands.specs.Lines.{ok_line}
use Rattle.commands.proofs.put_file.say_put.Goals as goal

pub returns-in-Ok : goal.returns-in-Ok
returns-in-Ok g c = said_then c.in-Ok.ensures c.say_ok.ensures

pub returns-in-Err : goal.returns-in-Err
returns-in-Err g c = said_cut (ok_line (length c.args.bytes.now)) _ refl c.in-Err.ensures
