use Rattle.std.proofs.Common.{codes}
use Rattle.std.proofs.lemmas.Result.{err_from_is_err_and}
use Rattle.pawn_outside.proofs.SaidLaws.{said_cut, said_then}
use Rattle.commands.specs.UsageText.{chain_line}
use Rattle.commands.proofs.usage_lines.say_bound.Goals as goal

pub returns-in_err-say_stack : goal.returns-in_err-say_stack
returns-in_err-say_stack g c =
    let is = err_from_is_err_and c.from_residual.result c.from_residual.ensures.1 in
    said_cut (chain_line (codes "chain") c.args.names.now c.args.chain.now)
    c.from_residual.result is.1 c.in_err-say_stack.ensures

pub returns : goal.returns
returns g c = said_then c.in_ok-say_stack.ensures c.say_chain.ensures
