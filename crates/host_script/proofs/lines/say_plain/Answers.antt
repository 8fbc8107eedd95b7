use Rattle.std.proofs.Common.{◌++◌, ◌∷◌, ◌∙◌, [], pos, rules, sym, ap, append_assoc, take, drop}
use Rattle.std.proofs.Common.{get_or, suc}
use Rattle.std.proofs.lemmas.Result.{err_from_is_err_and}
use Rattle.pawn_outside.proofs.SaidLaws.{said_as, said_then, said_cut}
use Rattle.host_script.proofs.TextLaws.{cell_piece, cells_text, cells_text-more, cells_text-at}
use Rattle.host_script.proofs.lines.say_plain.Goals as goal

pub loop-cell-preserved : goal.loop-cell-preserved
loop-cell-preserved g c =
    let cells = c.args.cells.now in
    let i = c.loop-cell.cell-index in
    let piece =
    cell_piece (get_or cells i (pos 0)) c.as_bytes.result.now (search rules)
    (c.as_bytes.ensures.value ∙ c.format.ensures.text) in
    said_as (ap (λ text. cells_text (take i cells) ++ text) piece
    ∙ sym (cells_text-more cells i (pos 0) c.loop-cell-test.true))
    (said_then c.loop-cell.invariant c.in_ok-say.ensures)

pub returns-in_err-say : goal.returns-in_err-say
returns-in_err-say g c =
    let cells = c.args.cells.now in
    let i = c.loop-cell.cell-index in
    let piece =
    cell_piece (get_or cells i (pos 0)) c.as_bytes.result.now (search rules)
    (c.as_bytes.ensures.value ∙ c.format.ensures.text) in
    let is = err_from_is_err_and c.from_residual.result c.from_residual.ensures.1 in
    said_as (append_assoc (cells_text (take i cells)) (32 ∷ (c.as_bytes.result.now ++ []))
    (cells_text (drop (suc i) cells))
    ∙ ap (λ text. cells_text (take i cells) ++ (text ++ cells_text (drop (suc i) cells))) piece
    ∙ cells_text-at cells i (pos 0) c.loop-cell-test.true)
    (said_cut (cells_text (drop (suc i) cells)) c.from_residual.result is.1
    (said_then c.loop-cell.invariant c.in_err-say.ensures))
