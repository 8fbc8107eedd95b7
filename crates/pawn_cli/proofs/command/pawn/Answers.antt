use Rattle.std.proofs.Common.{inr, refl}
use Rattle.command_parts.proofs.FaultCountLaws.{calls_nothing, stop_no_fault}
use Rattle.command_parts.proofs.ToldLaws.{told_other_stop}
use Rattle.pawn_cli.proofs.AnswerLaws.{answers_unread, words_no_fault}
use Rattle.pawn_cli.proofs.command.pawn.Goals as goal

pub returns-in-Ok-clause-answer : goal.returns-in-Ok-clause-answer
returns-in-Ok-clause-answer g c = rw c.in-Ok.ensures (inr c.serve.ensures.answer)

pub returns-in-Err-clause-answer : goal.returns-in-Err-clause-answer
returns-in-Err-clause-answer g c =
    answers_unread _ c.in-Err.fault c.stop_of.result c.tell_stop.result c.in-Err.ensures
    c.stop_of.ensures
    (told_other_stop (words_no_fault c.in-Err.fault c.stop_of.result c.stop_of.ensures) refl
    c.tell_stop.ensures)

pub returns-in-Err-clause-calls : goal.returns-in-Err-clause-calls
returns-in-Err-clause-calls g c =
    calls_nothing c.args.files.now
    (stop_no_fault c.stop_of.result c.tell_stop.result
    (words_no_fault c.in-Err.fault c.stop_of.result c.stop_of.ensures) c.tell_stop.ensures)
