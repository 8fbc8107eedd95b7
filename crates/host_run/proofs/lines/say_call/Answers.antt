use Rattle.std.proofs.Common.{◌≡◌, ◌++◌, ◌∙◌, ℕ, List, codes, map, ap, append_assoc, FitsSigned, w32}
use Rattle.std.proofs.Common.{rules}
use Rattle.std.specs.Fmt.{signed_decimal}
use Rattle.std.proofs.lemmas.Int.{to_z-of_z}
use Rattle.std.proofs.lemmas.Result.{err_from_is_err_and}
use Rattle.pawn_outside.specs.Taken.{joined}
use Rattle.pawn_outside.proofs.SaidLaws.{said_as, said_then, said_cut}
use Rattle.host_script.specs.Text.{arguments_text}
use Rattle.host_run.specs.Guest.{form_at}
use Rattle.host_run.specs.Sights.{arguments_of, sought}
use Rattle.host_run.proofs.lines.say_call.Goals as goal

-- what follows a beginning of three parts
regrouped : (front word name rest : List ℕ)
    → (front ++ (word ++ name)) ++ rest ≡ front ++ (word ++ (name ++ rest))
regrouped front word name rest =
    append_assoc front (word ++ name) rest
    ∙ ap (λ t. front ++ t) (append_assoc word name rest)

pub returns-in_err-say_begin : goal.returns-in_err-say_begin
returns-in_err-say_begin g c =
    let s = c.args.machine.now.state in
    let call = c.args.call in
    let form = form_at c.args.guest.now.forms.now c.args.guest.now.rest in
    let rest =
    arguments_text (map (λ it. it.seen) (sought s form 0 (arguments_of s)))
    ++ (codes " -> " ++ (signed_decimal call.answer ++ codes "\n")) in
    let is = err_from_is_err_and c.from_residual.result c.from_residual.ensures.1 in
    said_as (regrouped (joined call.front.now) (codes "native ") call.name.now rest)
    (said_cut rest c.from_residual.result is.1 c.in_err-say_begin.ensures)

pub returns-in_err-say_arguments : goal.returns-in_err-say_arguments
returns-in_err-say_arguments g c =
    let s = c.args.machine.now.state in
    let call = c.args.call in
    let form = form_at c.args.guest.now.forms.now c.args.guest.now.rest in
    let arguments = arguments_text (map (λ it. it.seen) (sought s form 0 (arguments_of s))) in
    let answer = codes " -> " ++ (signed_decimal call.answer ++ codes "\n") in
    let is =
    err_from_is_err_and c.from_residual-in_err-say_arguments.result
    c.from_residual-in_err-say_arguments.ensures.1 in
    let begin = joined call.front.now ++ (codes "native " ++ call.name.now) in
    said_as (append_assoc begin arguments answer
    ∙ regrouped (joined call.front.now) (codes "native ") call.name.now (arguments ++ answer))
    (said_cut answer c.from_residual-in_err-say_arguments.result is.1
    (said_then c.in_ok-say_begin.ensures c.in_err-say_arguments.ensures))

pub returns : goal.returns
returns g c =
    let s = c.args.machine.now.state in
    let fits : FitsSigned w32 c.args.call.answer = search rules in
    let call = c.args.call in
    let form = form_at c.args.guest.now.forms.now c.args.guest.now.rest in
    let arguments = arguments_text (map (λ it. it.seen) (sought s form 0 (arguments_of s))) in
    let answer = codes " -> " ++ (signed_decimal call.answer ++ codes "\n") in
    let begin = joined call.front.now ++ (codes "native " ++ call.name.now) in
    said_as (append_assoc begin arguments answer
    ∙ regrouped (joined call.front.now) (codes "native ") call.name.now (arguments ++ answer))
    (said_then (said_then c.in_ok-say_begin.ensures c.in_ok-say_arguments.ensures)
    (rw (to_z-of_z w32 call.answer fits) at c.say_answer.ensures))
