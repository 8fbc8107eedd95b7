use Rattle.std.proofs.Common.{subst}
use Rattle.pawn_outside.specs.Said.{Said}
use Rattle.amx_ops.specs.declared.amx.Amx.{Amx}
use Rattle.commands.specs.RunsFile.{TellsRun, stopped, ran}
use Rattle.commands.proofs.FileReadyLaws.{file_of, ready_itself}
use Rattle.commands.proofs.play.run_file.Goals as goal

pub play-requires-clause-ready : goal.play-requires-clause-ready
play-requires-clause-ready g c =
    ready_itself c.args.file c.args.script.now c.in-Ok.ready c.in-Ok.ensures

pub returns-in-Ok : goal.returns-in-Ok
returns-in-Ok g c =
    let P : Amx → Type 0 =
    λ a. TellsRun (Said g.S.Sink.taken g.S.Sink.faults g.S.Sink.has_room) a c.args.script.now
    c.args.words.now c.args.out.now c.play.new.out c.play.result in
    ran c.in-Ok.ensures.main c.in-Ok.ensures.serves.served
    (subst P (file_of c.args.file c.args.script.now c.in-Ok.ready c.in-Ok.ensures)
    c.play.ensures)

pub returns-in-Err : goal.returns-in-Err
returns-in-Err g c = stopped c.in-Err.stop c.in-Err.ensures c.tell_stop.ensures
