use Rattle.std.proofs.Common.{◌∙◌, arith}
use Rattle.amx_text.proofs.OperationSteps.{name_new, names_more, names_all}
use Rattle.amx_text.proofs.instruction.names_in.Goals as goal

pub push-requires : goal.push-requires
push-requires c =
    rw (c.as_bytes.ensures.value, c.loop-row.invariant)
    (name_new c.args.rows.now _ c.loop-row.row-index c.requires c.loop-row-test.true)

pub loop-row-preserved : goal.loop-row-preserved
loop-row-preserved c =
    rw (c.in_ok-push.ensures.ok, c.as_bytes.ensures.value, c.loop-row.invariant)
    (names_more c.args.rows.now _ c.loop-row.row-index c.loop-row-test.true)

pub returns : goal.returns
returns c =
    c.loop-row.invariant
    ∙ names_all c.args.rows.now c.loop-row.row-index c.requires
    (omega (arith, c.loop-row-test.false))
