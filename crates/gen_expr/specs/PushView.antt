-- What one instruction pushes, as code has it.
use Rattle.std.specs.Prelude.{ℤ, Option, option_map}
use Rattle.amx_ops.specs.declared.op.Op.{Op}
use Rattle.amx_ops.specs.declared.op.Op.TheVariants as op
use Rattle.gen_expr.specs.declared.push.Push.{Push}
use Rattle.gen_expr.specs.declared.push.Push.TheVariants as held

-- the instruction with its operand
abbrev pub push_view : Push → Op × ℤ
push_view (held.Known v) = (op.PushC, v)
push_view (held.Object v) = (op.Push, v)
push_view (held.Own v) = (op.PushS, v)
push_view (held.Address v) = (op.PushAdr, v)

-- where there is one
abbrev pub perhaps_push : Option Push → Option (Op × ℤ)
perhaps_push push = option_map push_view push
