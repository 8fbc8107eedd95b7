use Rattle.std.proofs.Common.{◌++◌, codes, ap}
use Rattle.pawn_outside.proofs.SaidLaws.{said_as}
use Rattle.commands.specs.UsageText.{chain_line, stack_line}
use Rattle.commands.proofs.usage_lines.say_usage.Goals as goal

pub returns-in-Bound : goal.returns-in-Bound
returns-in-Bound g c =
    rw c.in-Bound.is
    (said_as (ap (λ chain. stack_line c.in-Bound.cells
    ++ chain_line (codes "chain") c.args.names.now chain) c.as_slice.ensures)
    c.say_bound.ensures)

pub returns-in-Recursive : goal.returns-in-Recursive
returns-in-Recursive g c =
    rw c.in-Recursive.is
    (said_as (ap (chain_line (codes "recursive") c.args.names.now) c.as_slice-in-Recursive.ensures)
    c.say_chain.ensures)
