use Rattle.std.proofs.Common.{sym, subst}
use Rattle.check_locals.specs.StoodView.{other_view, stood_view}
use Rattle.check_nodes.specs.ContextView.{around_view}
use Rattle.check_nodes.specs.TypedView.{typed_view}
use Rattle.check_switches.specs.CaseView.{parts_view}
use Rattle.check_switches.specs.Switching.{cased_in, use_in}
use Rattle.pawn_verdict.specs.Answers.{Answers}
use Rattle.check_switches.proofs.SwitchLaws.{bare_enough}
use Rattle.check_switches.proofs.switches.switch_by.Goals as goal

pub returns : goal.returns
returns c =
    subst (λ v. Answers stood_view v c.switch_bare.result)
    (sym (bare_enough c.args.at (other_view c.args.s.other)
    (use_in (around_view c.args.cx.now) c.args.at (typed_view c.args.s.x))
    (cased_in (around_view c.args.cx.now) c.args.at c.args.s.x.tag
    (parts_view c.args.s.parts)))) c.switch_bare.ensures
