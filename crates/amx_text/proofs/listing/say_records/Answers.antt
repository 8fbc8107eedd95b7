use Rattle.std.proofs.Common.{arith}
use Rattle.std.proofs.lemmas.Result.{err_from_is_err_and}
use Rattle.amx_text.specs.Lines.{record_line}
use Rattle.pawn_outside.proofs.SoFarLaws.{so_far_none, so_far_more, so_far_cut, so_far_done}
use Rattle.amx_text.proofs.ListText.{from_element, from_end}
use Rattle.amx_text.proofs.listing.say_records.Goals as goal

pub loop-entry-init : goal.loop-entry-init
loop-entry-init g c = so_far_none c.args.out.now _

pub loop-entry-preserved : goal.loop-entry-preserved
loop-entry-preserved g c =
    let first =
    from_element (record_line c.args.kind.now) c.args.records.now c.loop-entry.entry-index
    c.entry-item.result c.loop-entry-test.true c.entry-item.is in
    so_far_more c.loop-entry.invariant first c.in_ok-say_record.ensures

pub returns-in_err-say_record : goal.returns-in_err-say_record
returns-in_err-say_record g c =
    let first =
    from_element (record_line c.args.kind.now) c.args.records.now c.loop-entry.entry-index
    c.entry-item.result c.loop-entry-test.true c.entry-item.is in
    let is = err_from_is_err_and c.from_residual.result c.from_residual.ensures.1 in
    so_far_cut c.loop-entry.invariant _ first c.from_residual.result is.1
    c.in_err-say_record.ensures

pub returns : goal.returns
returns g c =
    so_far_done c.loop-entry.invariant
    (from_end (record_line c.args.kind.now) c.args.records.now c.loop-entry.entry-index
    (omega (arith, c.loop-entry-test.false)))
