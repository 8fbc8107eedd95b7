use Rattle.std.proofs.Common.{ℕ, Option, subst}
use Rattle.types_rules.specs.Around.{Param}
use Rattle.types_rules.specs.Filling as spec
use Rattle.pawn_verdict.specs.Answers.{Answers}
use Rattle.check_nodes.specs.ContextView.{around_view, head_view}
use Rattle.check_nodes.specs.TypedView.{typed_view}
use Rattle.check_calls.specs.FillingView.{filling_view}
use Rattle.check_calls.proofs.filling.named.Goals as goal

pub returns-in-Some-param_at : goal.returns-in-Some-param_at
returns-in-Some-param_at c =
    let P : Option ℕ → Type 0 =
    λ number. Answers filling_view
    (spec.named (around_view c.args.call.cx.now) c.args.call.at (head_view c.args.call.head.now)
    (filling_view c.args.done) number (typed_view c.args.x)) c.for_param.result in
    let Q : Option Param → Type 0 =
    λ param. Answers filling_view (spec.named_param (around_view c.args.call.cx.now) c.args.call.at
    (head_view c.args.call.head.now) (filling_view c.args.done) c.in-Some.i param
    (typed_view c.args.x)) c.for_param.result in
    subst P c.in-Some.ensures (subst Q c.in-Some-param_at.ensures c.for_param.ensures)
