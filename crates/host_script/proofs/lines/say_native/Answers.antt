use Rattle.std.proofs.Common.{◌++◌, ◌∙◌, [], codes, sym, append_assoc, FitsSigned, w32}
use Rattle.std.specs.Fmt.{signed_decimal}
use Rattle.std.proofs.lemmas.Int.{to_z-of_z}
use Rattle.std.proofs.lemmas.Result.{err_from_is_err_and}
use Rattle.pawn_outside.proofs.SaidLaws.{said_as, said_then, said_cut}
use Rattle.host_script.proofs.TextLaws.{cells_text, native_line}
use Rattle.host_script.proofs.lines.say_native.Goals as goal

pub returns-in_err-say : goal.returns-in_err-say
returns-in_err-say g c =
    let name = c.args.name.now in
    let cells = cells_text c.args.cells.now in
    let answer = codes " -> " ++ (signed_decimal c.args.answer ++ codes "\n") in
    let is = err_from_is_err_and c.from_residual.result c.from_residual.ensures.1 in
    said_as (sym (append_assoc (codes "native " ++ (name ++ [])) cells answer)
    ∙ native_line name cells answer)
    (said_cut (cells ++ answer) c.from_residual.result is.1 c.in_err-say.ensures)

pub returns-in_err-say_plain : goal.returns-in_err-say_plain
returns-in_err-say_plain g c =
    let answer = codes " -> " ++ (signed_decimal c.args.answer ++ codes "\n") in
    let is =
    err_from_is_err_and c.from_residual-in_err-say_plain.result
    c.from_residual-in_err-say_plain.ensures.1 in
    said_as (native_line c.args.name.now (cells_text c.args.cells.now) answer)
    (said_cut answer c.from_residual-in_err-say_plain.result is.1
    (said_then c.in_ok-say.ensures c.in_err-say_plain.ensures))

pub returns : goal.returns
returns g c =
    let fits : FitsSigned w32 c.args.answer = c.ranges.answer in
    let answer = codes " -> " ++ (signed_decimal c.args.answer ++ codes "\n") in
    said_as (native_line c.args.name.now (cells_text c.args.cells.now) answer)
    (said_then (said_then c.in_ok-say.ensures c.in_ok-say_plain.ensures)
    (simp to_z-of_z at c.say_answer.ensures))
