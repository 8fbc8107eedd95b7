use Rattle.std.proofs.Common.{◌∙◌, ap, sym, arith}
use Rattle.check_nodes.specs.declared.context.Param.{Param}
use Rattle.check_calls.proofs.NumberLaws.{no_numbers, number_more, all_numbers}
use Rattle.check_calls.proofs.numbers.numbers_of.Goals as goal

pub loop-done-init : goal.loop-done-init
loop-done-init c = no_numbers c.args.params.now _ _ (omega arith) c.new-table.ensures.empty

pub loop-done-preserved : goal.loop-done-preserved
loop-done-preserved c =
    number_more c.args.params.now c.loop-done.done _ _ c.as_slice.result.now
    c.loop-done.table.entries _ c.loop-done.invariant
    (omega arith) (omega arith) (omega arith) c.index-params-i.is
    (c.as_slice.ensures ∙ ap (λ (param : Param). param.name) (sym c.index-params-i.is))
    c.in_ok-put.ensures

pub returns : goal.returns
returns c = all_numbers c.args.params.now _ _ c.loop-done.invariant (omega arith)
