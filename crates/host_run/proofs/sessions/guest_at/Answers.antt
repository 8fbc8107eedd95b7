use Rattle.std.proofs.Common.{sym, ◌∙◌}
use Rattle.host_run.proofs.GuestLaws.{guest_none, guest_listed}
use Rattle.host_run.proofs.sessions.guest_at.Goals as goal

pub returns-in-None : goal.returns-in-None
returns-in-None c = λ name e.
    guest_none c.args.script.now name c.unlisted.result
    (sym c.in-None.is ∙ e) c.unlisted.ensures.forms c.unlisted.ensures.rest
    c.unlisted.ensures.answer

pub returns-in-Some-get : goal.returns-in-Some-get
returns-in-Some-get c = λ name e.
    guest_listed c.args.script.now name c.listed.result c.in-Some.place c.in-Some-get.native.now
    c.as_slice.result.now (sym c.in-Some.is ∙ e) c.as_slice.ensures
    c.in-Some-get.ensures.lookup.3.0 c.in-Some-get.ensures.lookup.1 c.listed.ensures.forms
    c.listed.ensures.rest c.listed.ensures.answer
