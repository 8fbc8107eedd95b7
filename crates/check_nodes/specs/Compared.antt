-- A comparison of a chain, as the rules of typing see it.
use Rattle.types_rules.specs.Chains as plain
use Rattle.check_nodes.specs.TypedView.{typed_view}
use Rattle.check_nodes.specs.declared.chains.Compared.{Compared}

-- its sign, the operator that a program may define, and its right operand
abbrev pub compared_view : Compared → plain.Compared
compared_view it =
    record { sign = it.sign; user = it.user; operand = typed_view it.operand }
