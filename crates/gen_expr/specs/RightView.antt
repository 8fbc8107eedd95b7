-- How a right operand comes, as code has it.
use Rattle.gen_sim.specs.OperandCode.{Right, Known, Placed, Waiting}
use Rattle.gen_expr.specs.DirectView.{direct_view}
use Rattle.gen_expr.specs.declared.right.Right as held
use Rattle.gen_expr.specs.declared.right.Right.TheVariants as comes

-- a right operand that is known, stands at a direct place, or waits
abbrev pub right_view : held.Right → Right
right_view (comes.Known v) = Known v
right_view (comes.Placed d) = Placed (direct_view d)
right_view comes.Waiting = Waiting
