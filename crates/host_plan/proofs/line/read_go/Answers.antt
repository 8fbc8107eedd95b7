use Rattle.std.proofs.Common.{codes}
use Rattle.host_plan.proofs.LineLaws.{go_words, reads_none}
use Rattle.host_plan.proofs.line.read_go.Goals as goal

pub returns-in_err-machine : goal.returns-in_err-machine
returns-in_err-machine c =
    reads_none (codes "go") c.args.number.now c.args.steps.now c.from_residual.result
    c.from_residual.ensures
    (λ it fits e. (let p = go_words c.args.number.now c.args.steps.now c.requires it fits e in
    c.in_err-machine.ensures p.machine p.small p.number_is))

pub returns-in_err-steps : goal.returns-in_err-steps
returns-in_err-steps c =
    reads_none (codes "go") c.args.number.now c.args.steps.now
    c.from_residual-in_err-steps.result c.from_residual-in_err-steps.ensures
    (λ it fits e. (let p = go_words c.args.number.now c.args.steps.now c.requires it fits e in
    c.in_err-steps.ensures p.count p.count_small p.steps_are))
