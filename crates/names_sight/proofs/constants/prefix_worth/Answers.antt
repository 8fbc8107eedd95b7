use Rattle.std.proofs.Common.{FitsSigned, w32, rules}
use Rattle.std.proofs.lemmas.Int.{to_z-of_z}
use Rattle.std.proofs.lemmas.Result.{err_from_is_err_and}
use Rattle.names_rules.specs.Signs as signs
use Rattle.names_sight.specs.Means.{around_view}
use Rattle.names_sight.specs.ValuedView.{valued_view}
use Rattle.names_sight.proofs.ConstantLaws.{prefix_fails, prefix_stands}
use Rattle.names_sight.proofs.constants.prefix_worth.Goals as goal

pub returns-in_err-unless_chosen-in-Applies : goal.returns-in_err-unless_chosen-in-Applies
returns-in_err-unless_chosen-in-Applies c =
    let p = err_from_is_err_and c.from_residual.result c.from_residual.ensures.1 in
    rw (p.1, p.2) (prefix_fails (around_view c.args.cx.now) c.args.place
    (signs.before_of c.args.sign) c.in-Applies.prefix c.in-Applies.op
    (valued_view c.args.x) _ c.in-Applies.ensures
    c.in_err-unless_chosen-in-Applies.ensures.0 c.in_err-unless_chosen-in-Applies.ensures.1)

pub returns-in_ok-unless_chosen-in-Applies : goal.returns-in_ok-unless_chosen-in-Applies
returns-in_ok-unless_chosen-in-Applies c =
    let f : FitsSigned w32 c.args.x.value = search rules in
    let h = simp to_z-of_z at c.apply-value.ensures in
    let v : FitsSigned w32 c.apply-value.result.0 = search rules in
    let m = simp to_z-of_z at c.make_valued.ensures in
    prefix_stands (around_view c.args.cx.now) c.args.place
    (signs.before_of c.args.sign) c.in-Applies.prefix c.in-Applies.op
    (valued_view c.args.x) (valued_view c.make_valued.result) c.apply-value.result.0
    c.prefix_tag.result c.in-Applies.ensures
    c.in_ok-unless_chosen-in-Applies.ensures h
    (c.prefix_tag.ensures (around_view c.args.cx.now) c.args.place) m
