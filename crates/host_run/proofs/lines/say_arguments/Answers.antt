use Rattle.std.proofs.Common.{rules, w32, FitsSigned, ◌≡◌, ◌+◌, ◌≤◌, suc, length, map, drop}
use Rattle.std.proofs.Common.{take_all, ap, ◌∙◌, arith}
use Rattle.std.proofs.lemmas.Int.{to_z-of_z}
use Rattle.std.proofs.lemmas.Result.{err_from_is_err_and}
use Rattle.pawn_outside.proofs.SaidLaws.{said_as, said_then, said_cut}
use Rattle.host_script.specs.Text.{arguments_text}
use Rattle.host_run.specs.Guest.{form_at}
use Rattle.host_run.specs.Sights.{arguments_of, sought}
use Rattle.host_run.proofs.SightLaws.{counted_is, sight_at, length-shown, length-sought}
use Rattle.host_run.proofs.SightLaws.{is_argument, text_next, text_whole}
use Rattle.host_run.proofs.lines.say_arguments.Goals as goal

pub say_argument-requires : goal.say_argument-requires
say_argument-requires g c =
    let s = c.args.machine.now.state in
    let form = form_at c.args.guest.now.forms.now c.args.guest.now.rest in
    let i = c.loop-index.index in
    let fits : FitsSigned w32 c.native_arg.result = search rules in
    let same : i ≡ 0 + i = omega arith in
    let within = is_argument s form c.args.count i c.requires.counted c.loop-index-test.true in
    rw (to_z-of_z w32 c.native_arg.result fits, c.native_arg.ensures, c.form.ensures)
    (sight_at s form 0 (arguments_of s) i i same c.requires.visible within)

pub loop-index-preserved : goal.loop-index-preserved
loop-index-preserved g c =
    let fits : FitsSigned w32 c.native_arg.result = search rules in
    said_as (text_next c.args.machine.now.state
    (form_at c.args.guest.now.forms.now c.args.guest.now.rest) c.args.count c.loop-index.index
    c.requires.counted c.loop-index-test.true _ c.form.result
    (to_z-of_z w32 c.native_arg.result fits ∙ c.native_arg.ensures) c.form.ensures)
    (said_then c.loop-index.invariant c.in_ok-say_argument.ensures)

pub returns-in_err-say_argument : goal.returns-in_err-say_argument
returns-in_err-say_argument g c =
    let s = c.args.machine.now.state in
    let form = form_at c.args.guest.now.forms.now c.args.guest.now.rest in
    let fits : FitsSigned w32 c.native_arg.result = search rules in
    let all = map (λ it. it.seen) (sought s form 0 (arguments_of s)) in
    let rest = arguments_text (drop (suc c.loop-index.index) all) in
    let is = err_from_is_err_and c.from_residual.result c.from_residual.ensures.1 in
    said_as (text_whole s form c.args.count c.loop-index.index c.requires.counted
    c.loop-index-test.true _ c.form.result
    (to_z-of_z w32 c.native_arg.result fits ∙ c.native_arg.ensures) c.form.ensures)
    (said_cut rest c.from_residual.result is.1
    (said_then c.loop-index.invariant c.in_err-say_argument.ensures))

pub returns : goal.returns
returns g c =
    let s = c.args.machine.now.state in
    let form = form_at c.args.guest.now.forms.now c.args.guest.now.rest in
    let values = arguments_of s in
    let all = map (λ it. it.seen) (sought s form 0 values) in
    let i = c.loop-index.index in
    let past : length all ≤ i =
    omega (
      arith,
      counted_is s c.args.count c.requires.counted,
      c.loop-index-test.false,
      length-shown (sought s form 0 values),
      length-sought s form 0 values,
    ) in
    said_as (ap arguments_text (take_all i all past)) c.loop-index.invariant
