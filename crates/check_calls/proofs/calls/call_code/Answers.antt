use Rattle.pawn_meaning.proofs.ViewLaws.{expr_view-Call, expr_view-Native}
use Rattle.check_calls.proofs.calls.call_code.Goals as goal

pub returns-then-is_native : goal.returns-then-is_native
returns-then-is_native c = rw c.if-is_native.true (expr_view-Native c.args.number c.args.args)

pub returns-else-is_native : goal.returns-else-is_native
returns-else-is_native c = rw c.if-is_native.false (expr_view-Call c.args.number c.args.args)
