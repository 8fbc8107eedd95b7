use Rattle.std.proofs.Common.{rules, w32, FitsSigned, sym}
use Rattle.std.proofs.lemmas.Int.{to_z-of_z}
use Rattle.host_run.proofs.ReplyLaws.{not_seen, an_error, not_allowed, answered_so}
use Rattle.host_run.proofs.RoomLaws.{few_taken}
use Rattle.host_run.proofs.calls.reply_to.Goals as goal

pub returns-then-not-are_seen-clause-replies : goal.returns-then-not-are_seen-clause-replies
returns-then-not-are_seen-clause-replies c = λ name.
    let guest = c.args.guest.now in
    not_seen c.args.script.now guest.forms.now guest.rest guest.result name c.args.machine.now.state
    c.args.at.now c.in-Some.count
    (sym c.in-Some.ensures) (sym c.if-not-takes.ensures) (sym c.if-not-are_seen.ensures)

pub returns-in-Err-clause-replies : goal.returns-in-Err-clause-replies
returns-in-Err-clause-replies c = λ name.
    let guest = c.args.guest.now in
    let fits : FitsSigned w32 c.in-Err.code = search rules in
    rw (to_z-of_z w32 c.in-Err.code fits, c.in-Err.ensures.position)
    (an_error c.args.script.now guest.forms.now guest.rest guest.result name
    c.args.machine.now.state c.args.at.now c.in-Some.count
    (sym c.in-Some.ensures) (sym c.if-not-takes.ensures)
    (sym c.if-not-are_seen.ensures) c.in-Err.code c.in-Err.ensures.answer)

pub returns-then-not-may_write-clause-replies : goal.returns-then-not-may_write-clause-replies
returns-then-not-may_write-clause-replies c = λ name.
    let guest = c.args.guest.now in
    rw c.in-Ok.ensures.position
    (not_allowed c.args.script.now guest.forms.now guest.rest guest.result name
    c.args.machine.now.state c.args.at.now c.in-Some.count
    (sym c.in-Some.ensures) (sym c.if-not-takes.ensures)
    (sym c.if-not-are_seen.ensures) c.in-Ok.result c.in-Ok.writes.now c.in-Ok.ensures.answer
    (sym c.if-not-may_write.ensures))

pub returns-else-not-may_write-clause-replies : goal.returns-else-not-may_write-clause-replies
returns-else-not-may_write-clause-replies c = λ name.
    let guest = c.args.guest.now in
    let fits : FitsSigned w32 c.in-Ok.result = search rules in
    rw (to_z-of_z w32 c.in-Ok.result fits, c.in-Ok.ensures.position)
    (answered_so c.args.script.now guest.forms.now guest.rest guest.result name
    c.args.machine.now.state c.args.at.now c.in-Some.count
    (sym c.in-Some.ensures) (sym c.if-not-takes.ensures)
    (sym c.if-not-are_seen.ensures) c.in-Ok.result c.in-Ok.writes.now c.in-Ok.ensures.answer
    (sym c.if-not-may_write.ensures))

pub returns-else-not-may_write-clause-few : goal.returns-else-not-may_write-clause-few
returns-else-not-may_write-clause-few c =
    few_taken c.args.guest.now.result c.args.script.now c.args.at.now _ c.in-Ok.writes.now
    c.in-Ok.ensures.answer
