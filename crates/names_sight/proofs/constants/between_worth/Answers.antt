use Rattle.std.proofs.lemmas.Result.{err_from_is_err_and}
use Rattle.names_rules.specs.Signs as signs
use Rattle.names_sight.specs.Means.{around_view}
use Rattle.names_sight.specs.ValuedView.{valued_view}
use Rattle.names_sight.proofs.ConstantLaws.{between_fails, between_is}
use Rattle.names_sight.proofs.constants.between_worth.Goals as goal

pub returns-in_err-unless_chosen-in-Operates : goal.returns-in_err-unless_chosen-in-Operates
returns-in_err-unless_chosen-in-Operates c =
    let p = err_from_is_err_and c.from_residual.result c.from_residual.ensures.1 in
    rw (p.1, p.2) (between_fails (around_view c.args.cx.now) c.args.place c.args.at
    (signs.between_of c.args.sign) c.in-Operates.operator c.in-Operates.op
    (valued_view c.args.x) (valued_view c.args.y) _ c.in-Operates.ensures
    c.in_err-unless_chosen-in-Operates.ensures.0 c.in_err-unless_chosen-in-Operates.ensures.1)

pub returns-in_ok-unless_chosen-in-Operates : goal.returns-in_ok-unless_chosen-in-Operates
returns-in_ok-unless_chosen-in-Operates c =
    rw (between_is (around_view c.args.cx.now) c.args.place c.args.at
    (signs.between_of c.args.sign) c.in-Operates.operator c.in-Operates.op
    (valued_view c.args.x) (valued_view c.args.y) c.in-Operates.ensures
    c.in_ok-unless_chosen-in-Operates.ensures)
    (c.operate.ensures (around_view c.args.cx.now) c.args.place)
