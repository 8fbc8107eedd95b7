use Rattle.std.proofs.Common.{◌∙◌, ◌+◌, ◌-◌, ◌^◌, ap, min, take, take_all, length, arith}
use Rattle.amx_text.proofs.FoundLaws.{records_size, size_more, size_step}
use Rattle.amx_text.proofs.finish.records_size.Goals as goal

pub loop-record-preserved : goal.loop-record-preserved
loop-record-preserved c =
    let more =
    size_more c.args.records.now c.loop-record.record-index c.record-item.result
    c.loop-record-test.true c.record-item.is in
    size_step (records_size (take c.loop-record.record-index c.args.records.now))
    (records_size (take (c.loop-record.record-index + 1) c.args.records.now)) c.loop-record.size
    c.saturating_add.result (length c.record-item.result.name) c.saturating_add-size.result
    c.loop-record.invariant c.saturating_add.ensures
    (c.saturating_add-size.ensures
    ∙ ap (λ n. min (c.saturating_add.result + n) (2 ^ 64 - 1)) c.len.ensures) more

pub returns : goal.returns
returns c =
    c.loop-record.invariant
    ∙ ap (λ rs. min (records_size rs) (2 ^ 64 - 1))
    (take_all c.loop-record.record-index c.args.records.now
    (omega (arith, c.loop-record-test.false)))
