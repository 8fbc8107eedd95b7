use Rattle.std.proofs.Common.{◌≡◌}
use Rattle.types_rules.specs.Rule.{pair}
use Rattle.check_expressions.specs.BoxedView.{boxed_view}
use Rattle.check_expressions.proofs.PairLaws.{judged_both, judged_map, judged_pair, pair_answers}
use Rattle.check_expressions.proofs.nodes.choose.Goals as goal

pub returns-clause-answer : goal.returns-clause-answer
returns-clause-answer c =
    λ v w u h k l. c.chosen.ensures.answer v (pair w u) h
    (judged_both c.args.x (λ p q. rw c.both-values.ensures
    (pair_answers boxed_view boxed_view w u c.args.y c.args.z p q)) k l)

pub returns-clause-judged : goal.returns-clause-judged
returns-clause-judged c =
    λ m n h. c.chosen.ensures.judged m n
    (judged_map c.args.x (λ p. rw c.both-values.ensures (judged_pair (m ≡ n) c.args.y c.args.z p))
    h)
