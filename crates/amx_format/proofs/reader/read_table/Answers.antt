use Rattle.std.proofs.Common.{arith, ◌/◌, ◌-◌}
use Rattle.amx_format.proofs.ReadLaws.{records_step, records_done}
use Rattle.amx_format.proofs.reader.read_table.Goals as goal

pub loop-index-preserved : goal.loop-index-preserved
loop-index-preserved c =
    records_step c.args.bytes.now c.args.first ((c.args.past - c.args.first) / 8) c.loop-index.index
    c.loop-index.records c.push.new.self _ c.in_ok-record.record
    (omega (arith, c.loop-index-test.true, c.saturating_sub.ensures)) c.in_ok-record.ensures
    c.in_ok-push.ensures.ok c.loop-index.invariant

pub returns : goal.returns
returns c =
    records_done c.args.bytes.now _ ((c.args.past - c.args.first) / 8) c.loop-index.index
    c.loop-index.records _
    (omega (arith, c.loop-index-test.false, c.saturating_sub.ensures)) c.loop-index.invariant
