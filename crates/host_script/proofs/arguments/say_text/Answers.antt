use Rattle.std.proofs.Common.{◌++◌, codes, append_assoc}
use Rattle.std.proofs.lemmas.Result.{err_from_is_err_and}
use Rattle.pawn_outside.specs.Said.{Said}
use Rattle.pawn_outside.proofs.SaidLaws.{said_as, said_then, said_cut}
use Rattle.host_script.specs.Characters.{front, unpacked, characters_text}
use Rattle.host_script.proofs.CharacterLaws.{some_text}
use Rattle.host_script.proofs.arguments.say_text.Goals as goal

pub returns-in_err-say : goal.returns-in_err-say
returns-in_err-say g c =
    let sink = g.S.Sink in
    let text = characters_text (front (unpacked c.args.cells.now)) in
    let is = err_from_is_err_and c.from_residual.result c.from_residual.ensures.1 in
    some_text c.args.cells.now (λ all. Said sink.taken sink.faults sink.has_room c.args.out.now
    c.say.new.out (codes " \"" ++ (characters_text all ++ codes "\"")) c.from_residual.result)
    (said_cut (text ++ codes "\"") c.from_residual.result is.1 c.in_err-say.ensures)

pub returns-in_err-say_before_zero : goal.returns-in_err-say_before_zero
returns-in_err-say_before_zero g c =
    let sink = g.S.Sink in
    let text = characters_text (front (unpacked c.args.cells.now)) in
    let result = c.from_residual-in_err-say_before_zero.result in
    let is = err_from_is_err_and result c.from_residual-in_err-say_before_zero.ensures.1 in
    some_text c.args.cells.now (λ all. Said sink.taken sink.faults sink.has_room c.args.out.now
    c.say_before_zero.new.out (codes " \"" ++ (characters_text all ++ codes "\"")) result)
    (said_as (append_assoc (codes " \"") text (codes "\""))
    (said_cut (codes "\"") result is.1
    (said_then c.in_ok-say.ensures c.in_err-say_before_zero.ensures)))

pub returns : goal.returns
returns g c =
    let sink = g.S.Sink in
    let text = characters_text (front (unpacked c.args.cells.now)) in
    some_text c.args.cells.now (λ all. Said sink.taken sink.faults sink.has_room c.args.out.now
    c.say-2.new.out (codes " \"" ++ (characters_text all ++ codes "\"")) c.say-2.result)
    (said_as (append_assoc (codes " \"") text (codes "\""))
    (said_then (said_then c.in_ok-say.ensures c.in_ok-say_before_zero.ensures) c.say-2.ensures))
