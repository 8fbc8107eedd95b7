use Rattle.std.proofs.Common.{pos, arith}
use Rattle.std.proofs.lemmas.Result.{err_from_is_err_and}
use Rattle.pawn_outside.proofs.SaidLaws.{said_as}
use Rattle.host_script.specs.Text.{character_text}
use Rattle.amx_text.proofs.LineLaws.{characters_are}
use Rattle.pawn_outside.proofs.SoFarLaws.{so_far_none, so_far_more, so_far_cut, so_far_done}
use Rattle.amx_text.proofs.ListText.{from_place, from_end}
use Rattle.amx_text.proofs.line.say_characters.Goals as goal

pub loop-byte-init : goal.loop-byte-init
loop-byte-init g c = so_far_none c.args.out.now _

pub loop-byte-preserved : goal.loop-byte-preserved
loop-byte-preserved g c =
    let first =
    from_place (λ byte. character_text (pos byte)) c.args.name.now c.loop-byte.byte-index 0
    c.loop-byte-test.true in
    so_far_more c.loop-byte.invariant first c.in_ok-say_character.ensures

pub returns-in_err-say_character : goal.returns-in_err-say_character
returns-in_err-say_character g c =
    let first =
    from_place (λ byte. character_text (pos byte)) c.args.name.now c.loop-byte.byte-index 0
    c.loop-byte-test.true in
    let is = err_from_is_err_and c.from_residual.result c.from_residual.ensures.1 in
    said_as (characters_are c.args.name.now)
    (so_far_cut c.loop-byte.invariant _ first c.from_residual.result is.1
    c.in_err-say_character.ensures)

pub returns : goal.returns
returns g c =
    said_as (characters_are c.args.name.now)
    (so_far_done c.loop-byte.invariant
    (from_end (λ byte. character_text (pos byte)) c.args.name.now c.loop-byte.byte-index
    (omega (arith, c.loop-byte-test.false))))
