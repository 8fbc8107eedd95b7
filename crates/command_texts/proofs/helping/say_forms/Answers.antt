use Rattle.std.proofs.Common.{arith}
use Rattle.std.proofs.lemmas.Result.{err_from_is_err_and}
use Rattle.pawn_outside.proofs.SoFarLaws.{so_far_none, so_far_more, so_far_cut, so_far_done}
use Rattle.command_texts.proofs.FormLaws.{forms_from, forms_end}
use Rattle.command_texts.proofs.helping.say_forms.Goals as goal

pub loop-form-init : goal.loop-form-init
loop-form-init g c = so_far_none c.args.out.now _

pub loop-form-preserved : goal.loop-form-preserved
loop-form-preserved g c =
    so_far_more c.loop-form.invariant
    (forms_from _ c.args.forms.now c.loop-form.form-index _ c.loop-form-test.true)
    c.in_ok-say_form.ensures

pub returns-in_err-say_form : goal.returns-in_err-say_form
returns-in_err-say_form g c =
    let is = err_from_is_err_and c.from_residual.result c.from_residual.ensures.1 in
    so_far_cut c.loop-form.invariant _
    (forms_from _ c.args.forms.now c.loop-form.form-index _ c.loop-form-test.true)
    c.from_residual.result is.1 c.in_err-say_form.ensures

pub returns : goal.returns
returns g c =
    so_far_done c.loop-form.invariant
    (forms_end _ c.args.forms.now c.loop-form.form-index
    (omega (arith, c.loop-form-test.false)))
