use Rattle.std.proofs.Common.{◌∙◌, sym, true≢false}
use Rattle.host_plan.proofs.LineLaws.{start_words}
use Rattle.host_plan.proofs.line.read_start.Goals as goal

pub returns-in_default : goal.returns-in_default
returns-in_default c = λ it fits e.
    (let p = start_words c.args.number.now c.args.name.now c.requires it fits e in
    c.in_default.ensures p.machine p.small p.number_is)

pub returns-then-not-is_name : goal.returns-then-not-is_name
returns-then-not-is_name c = λ it fits e.
    (let p = start_words c.args.number.now c.args.name.now c.requires it fits e in
    true≢false (sym (c.is_name.ensures.1 p.name_is) ∙ c.if-not-is_name.true))
