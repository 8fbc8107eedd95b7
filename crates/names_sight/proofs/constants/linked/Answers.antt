use Rattle.std.proofs.Common.{FitsSigned, w32, rules}
use Rattle.std.proofs.lemmas.Int.{to_z-of_z}
use Rattle.std.proofs.lemmas.Result.{err_from_is_err_and}
use Rattle.names_rules.specs.Signs as signs
use Rattle.names_sight.specs.Means.{around_view}
use Rattle.names_sight.specs.ValuedView.{valued_view}
use Rattle.names_sight.proofs.ConstantLaws.{link_breaks, link_stands}
use Rattle.names_sight.proofs.constants.linked.Goals as goal

pub returns-in_err-unless_chosen-in-Compares : goal.returns-in_err-unless_chosen-in-Compares
returns-in_err-unless_chosen-in-Compares c =
    let p = err_from_is_err_and c.from_residual.result c.from_residual.ensures.1 in
    rw (p.1, p.2) (link_breaks (around_view c.args.cx.now) c.args.place
    (signs.link_of c.args.sign) c.in-Compares.comparison c.in-Compares.op
    (valued_view c.args.x) (valued_view c.args.y) _ c.in-Compares.ensures
    c.in_err-unless_chosen-in-Compares.ensures.0 c.in_err-unless_chosen-in-Compares.ensures.1)

pub returns-in_ok-unless_chosen-in-Compares : goal.returns-in_ok-unless_chosen-in-Compares
returns-in_ok-unless_chosen-in-Compares c =
    let f : FitsSigned w32 c.args.x.value = search rules in
    let g : FitsSigned w32 c.args.y.value = search rules in
    let h = simp to_z-of_z at c.holds.ensures in
    link_stands (around_view c.args.cx.now) c.args.place
    (signs.link_of c.args.sign) c.in-Compares.comparison c.in-Compares.op
    (valued_view c.args.x) (valued_view c.args.y) c.holds.result c.in-Compares.ensures
    c.in_ok-unless_chosen-in-Compares.ensures h
