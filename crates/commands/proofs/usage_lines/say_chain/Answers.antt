use Rattle.std.proofs.Common.{◌++◌, codes, append-nil}
use Rattle.std.specs.List.{flat_map}
use Rattle.std.proofs.lemmas.Result.{err_from_is_err_and}
use Rattle.pawn_outside.proofs.SaidLaws.{said_as, said_cut, said_then}
use Rattle.commands.specs.UsageText.{name_text}
use Rattle.commands.proofs.usage_lines.say_chain.Goals as goal

pub returns-in_err-say : goal.returns-in_err-say
returns-in_err-say g c =
    let is = err_from_is_err_and c.from_residual.result c.from_residual.ensures.1 in
    said_cut (flat_map (name_text c.args.names.now) c.args.chain.now ++ codes "\n")
    c.from_residual.result is.1 (said_as (append-nil c.args.front.now) c.in_err-say.ensures)

pub returns-in_err-say_names : goal.returns-in_err-say_names
returns-in_err-say_names g c =
    let is =
    err_from_is_err_and c.from_residual-in_err-say_names.result
    c.from_residual-in_err-say_names.ensures.1 in
    said_then (said_as (append-nil c.args.front.now) c.in_ok-say.ensures)
    (said_cut (codes "\n") c.from_residual-in_err-say_names.result is.1
    c.in_err-say_names.ensures)

pub returns : goal.returns
returns g c =
    said_then (said_as (append-nil c.args.front.now) c.in_ok-say.ensures)
    (said_then c.in_ok-say_names.ensures c.say-2.ensures)
