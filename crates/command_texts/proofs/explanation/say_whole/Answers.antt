use Rattle.std.proofs.lemmas.Result.{err_from_is_err_and}
use Rattle.pawn_outside.proofs.SaidLaws.{said_then, said_cut}
use Rattle.command_texts.proofs.explanation.say_whole.Goals as goal

pub returns-in_err-say_head : goal.returns-in_err-say_head
returns-in_err-say_head g c =
    let is = err_from_is_err_and c.from_residual.result c.from_residual.ensures.1 in
    said_cut _ c.from_residual.result is.1 c.in_err-say_head.ensures

pub returns : goal.returns
returns g c = said_then c.in_ok-say_head.ensures
    (rw (c.as_bytes.ensures.value, c.as_bytes-2.ensures.value) at c.say.ensures)
