use Rattle.std.proofs.Common.{◌-◌, arith}
use Rattle.std.proofs.lemmas.Result.{err_from_is_err_and}
use Rattle.amx_text.proofs.ListingLaws.{data_first, no_row}
use Rattle.pawn_outside.proofs.SoFarLaws.{so_far_none, so_far_more, so_far_cut, so_far_done}
use Rattle.amx_text.proofs.listing.say_store.Goals as goal

pub loop-place-init : goal.loop-place-init
loop-place-init g c = so_far_none c.args.out.now _

pub loop-place-preserved : goal.loop-place-preserved
loop-place-preserved g c =
    let place = c.loop-place.place in
    let first =
    data_first place (c.min-past.result - place) c.args.store.now c.loop-place-test.true
    (omega (arith, c.min-past.ensures, c.loop-place-test.true)) in
    so_far_more c.loop-place.invariant first c.in_ok-say_data.ensures

pub returns-in_err-say_data : goal.returns-in_err-say_data
returns-in_err-say_data g c =
    let place = c.loop-place.place in
    let first =
    data_first place (c.min-past.result - place) c.args.store.now c.loop-place-test.true
    (omega (arith, c.min-past.ensures, c.loop-place-test.true)) in
    let is = err_from_is_err_and c.from_residual.result c.from_residual.ensures.1 in
    so_far_cut c.loop-place.invariant _ first c.from_residual.result is.1 c.in_err-say_data.ensures

pub returns : goal.returns
returns g c =
    so_far_done c.loop-place.invariant
    (no_row c.loop-place.place c.args.store.now (omega (arith, c.loop-place-test.false)))
