use Rattle.std.proofs.Common.{◌*◌, ◌∙◌, drop, arith, sym, ap}
use Rattle.std.proofs.lemmas.Result.{err_from_is_err_and}
use Rattle.amx_ops.specs.Instructions.{front}
use Rattle.amx_text.proofs.ListingLaws.{line_first, no_line, no_code}
use Rattle.pawn_outside.proofs.SoFarLaws.{so_far_none, so_far_more, so_far_cut, so_far_done}
use Rattle.amx_text.proofs.listing.say_code.Goals as goal

pub loop-place-init : goal.loop-place-init
loop-place-init g c = so_far_none c.args.out.now _

pub loop-place-preserved : goal.loop-place-preserved
loop-place-preserved g c =
    let whole = c.in-Some.ensures.whole in
    let first =
    line_first c.args.code.now c.split_at.result.1.now c.loop-place.place
    c.split_at.ensures.back c.in-Some.instruction (sym c.in-Some.ensures.value)
    whole.0 (omega (arith, whole.1)) in
    so_far_more c.loop-place.invariant first c.in_ok-say_instruction-in-Some.ensures

pub returns-in_err-say_instruction-in-Some : goal.returns-in_err-say_instruction-in-Some
returns-in_err-say_instruction-in-Some g c =
    let whole = c.in-Some.ensures.whole in
    let first =
    line_first c.args.code.now c.split_at.result.1.now c.loop-place.place
    c.split_at.ensures.back c.in-Some.instruction (sym c.in-Some.ensures.value)
    whole.0 (omega (arith, whole.1)) in
    let is = err_from_is_err_and c.from_residual.result c.from_residual.ensures.1 in
    so_far_cut c.loop-place.invariant _ first c.from_residual.result is.1
    c.in_err-say_instruction-in-Some.ensures

pub returns : goal.returns
returns g c =
    so_far_done c.loop-place.invariant
    (no_code c.args.code.now c.loop-place.place (omega (arith, c.loop-place-test.false)))

pub returns-in-None : goal.returns-in-None
returns-in-None g c =
    let code = c.args.code.now in
    let place = c.loop-place.place in
    so_far_done c.loop-place.invariant
    (no_line code (4 * place) (drop place code)
    (ap front (sym c.split_at.ensures.back) ∙ sym c.in-None.ensures.value))
