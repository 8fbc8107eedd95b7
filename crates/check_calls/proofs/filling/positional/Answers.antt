use Rattle.std.proofs.Common.{ℕ, Option, subst}
use Rattle.types_rules.specs.Around.{Param}
use Rattle.types_rules.specs.Filling as spec
use Rattle.pawn_verdict.specs.Answers.{Answers}
use Rattle.check_nodes.specs.ContextView.{around_view, head_view, param_view}
use Rattle.check_nodes.specs.TypedView.{typed_view}
use Rattle.check_calls.specs.FillingView.{filling_view}
use Rattle.check_calls.proofs.filling.positional.Goals as goal

pub returns-in-None : goal.returns-in-None
returns-in-None c =
    let P : Option Param → Type 0 =
    λ param. Answers filling_view (spec.positional (around_view c.args.call.cx.now) c.args.call.at
    (head_view c.args.call.head.now) (filling_view c.args.done) param (typed_view c.args.x))
    c.for_rest.result in
    subst P c.in-None.ensures c.for_rest.ensures

pub returns-in_ok-next-in-Some : goal.returns-in_ok-next-in-Some
returns-in_ok-next-in-Some c =
    let P : Option Param → Type 0 =
    λ param. Answers filling_view (spec.positional (around_view c.args.call.cx.now) c.args.call.at
    (head_view c.args.call.head.now) (filling_view c.args.done) param (typed_view c.args.x))
    c.for_param.result in
    let Q : ℕ → Type 0 =
    λ next. Answers filling_view (spec.for_param (around_view c.args.call.cx.now) c.args.call.at
    (head_view c.args.call.head.now) (filling_view c.args.done) c.args.done.next
    (param_view c.in-Some.param.now) (typed_view c.args.x) next) c.for_param.result in
    subst P c.in-Some.ensures (subst Q c.in_ok-next-in-Some.ensures c.for_param.ensures)
