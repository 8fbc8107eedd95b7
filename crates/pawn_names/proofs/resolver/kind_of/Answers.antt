use Rattle.pawn_tree.specs.View.{expr_view}
use Rattle.names_rules.specs.Found.{next_after}
use Rattle.names_rules.specs.Sizes.{constant_size}
use Rattle.names_sight.specs.Means.{around_view, means_view}
use Rattle.pawn_names.proofs.resolver.kind_of.Goals as goal

pub returns-in-Constant : goal.returns-in-Constant
returns-in-Constant c =
    rw c.in-Constant.is (c.worth_kind.ensures
    (constant_size (around_view c.args.cx.now) c.args.it.now.place (means_view c.args.cx.now)
    (expr_view c.in-Constant.value.now)) c.constant_value.ensures)

pub returns-in-Next : goal.returns-in-Next
returns-in-Next c =
    rw c.in-Next.is (c.worth_kind-in-Next.ensures
    (next_after (around_view c.args.cx.now) c.args.it.now.place
    (means_view c.args.cx.now c.in-Next.last.now)) c.next_after.ensures)

pub returns-in-Label : goal.returns-in-Label
returns-in-Label c =
    rw c.in-Label.is (c.worth_kind-in-Label.ensures
    (next_after (around_view c.args.cx.now) c.args.it.now.place
    (means_view c.args.cx.now c.in-Label.last.now)) c.next_after-in-Label.ensures)
