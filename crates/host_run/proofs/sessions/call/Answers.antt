use Rattle.std.proofs.Common.{rules, w32, FitsSigned, All, ◌<◌, ◌∙◌, None, Some, inl, inr}
use Rattle.std.proofs.Common.{unwrap_or, refl, sym, ap, subst, arith}
use Rattle.std.proofs.lemmas.Int.{to_z-of_z}
use Rattle.host_script.specs.declared.event.Event.TheVariants as event
use Rattle.host_script.specs.declared.event.End.TheVariants as end
use Rattle.amx_ops.specs.Moves.{name_of}
use Rattle.host_run.specs.declared.end.SessionEnd.TheVariants as answer
use Rattle.host_run.specs.Bound.{Bound}
use Rattle.host_run.specs.Segments.{Place}
use Rattle.host_run.specs.Sights.{seen_by}
use Rattle.host_run.proofs.AdvanceLaws.{ends, answers, asked_is}
use Rattle.host_run.proofs.sessions.call.Goals as goal

pub say_call-said-requires-clause-counted : goal.say_call-said-requires-clause-counted
say_call-said-requires-clause-counted g c =
    (c.in-Ok.ensures.replies (name_of c.args.machine.now.amx.natives c.args.number)).counted

pub say_call-said-requires-clause-visible : goal.say_call-said-requires-clause-visible
say_call-said-requires-clause-visible g c =
    (c.in-Ok.ensures.replies (name_of c.args.machine.now.amx.natives c.args.number)).visible

pub write_all-requires-clause-there : goal.write_all-requires-clause-there
write_all-requires-clause-there g c =
    let is = c.in-Ok.ensures.replies (name_of c.args.machine.now.amx.natives c.args.number) in
    subst (λ n. All (λ write. write.arg < n) c.in-Ok.reply.writes.now)
    (sym (ap (λ o. unwrap_or o 0) is.counted)) is.there

pub write_all-requires-clause-room : goal.write_all-requires-clause-room
write_all-requires-clause-room g c =
    (c.in-Ok.ensures.replies (name_of c.args.machine.now.amx.natives c.args.number)).room

pub write_all-requires-clause-reserved : goal.write_all-requires-clause-reserved
write_all-requires-clause-reserved g c =
    omega (arith, c.in-Ok.ensures.few, ap (λ (b : Bound). b.room) c.requires.bound)

pub returns-in-Err-clause-advances : goal.returns-in-Err-clause-advances
returns-in-Err-clause-advances g c =
    let script = c.args.part.script.now in
    let natives = c.args.machine.now.amx.natives in
    let name = name_of natives c.args.number in
    let code = c.in-Err.code in
    let fits : FitsSigned w32 code = search rules in
    let place : Place = record { machine = c.args.machine.now; position = c.args.at.now } in
    let is =
    c.guest_at-guest.ensures name (c.entry.ensures script natives c.requires.script c.requires.bound) in
    rw (c.fail.ensures, to_z-of_z w32 code fits)
    (ends (end.Error code) c.over.result
    (λ before. asked_is script name c.guest_at-guest.result is place before _
    (c.in-Err.ensures.replies name))
    (inr refl) (rw (to_z-of_z w32 code fits) at c.over.ensures.answer)
    (rw (to_z-of_z w32 code fits) at c.over.ensures.text))

pub returns-in-Ok-said-clause-advances : goal.returns-in-Ok-said-clause-advances
returns-in-Ok-said-clause-advances g c =
    let script = c.args.part.script.now in
    let natives = c.args.machine.now.amx.natives in
    let name = name_of natives c.args.number in
    let place : Place = record { machine = c.args.machine.now; position = c.args.at.now } in
    let is =
    c.guest_at-guest.ensures name (c.entry.ensures script natives c.requires.script c.requires.bound) in
    let named = c.name.ensures script natives c.requires.bound in
    let same = to_z-of_z w32 c.in-Ok.reply.result (search rules) in
    rw (c.answer.ensures, c.write_all.ensures.written, same)
    (answers (event.Native name (seen_by c.args.machine.now.state c.guest_at-guest.result)
    c.in-Ok.reply.result) None (inl refl)
    (λ before. asked_is script name c.guest_at-guest.result is place
    before _ (c.in-Ok.ensures.replies name).answers)
    refl (rw (named, same) at c.in-Ok-said.ensures))

pub returns-in-Err-said-clause-advances : goal.returns-in-Err-said-clause-advances
returns-in-Err-said-clause-advances g c =
    let script = c.args.part.script.now in
    let natives = c.args.machine.now.amx.natives in
    let name = name_of natives c.args.number in
    let place : Place = record { machine = c.args.machine.now; position = c.args.at.now } in
    let is =
    c.guest_at-guest.ensures name (c.entry.ensures script natives c.requires.script c.requires.bound) in
    let named = c.name.ensures script natives c.requires.bound in
    let same = to_z-of_z w32 c.in-Ok.reply.result (search rules) in
    rw (c.answer.ensures, c.write_all.ensures.written, same)
    (answers (event.Native name (seen_by c.args.machine.now.state c.guest_at-guest.result)
    c.in-Ok.reply.result) (Some answer.SinkFault) (inr refl)
    (λ before. asked_is script name c.guest_at-guest.result is place
    before _ (c.in-Ok.ensures.replies name).answers)
    refl (rw (named, same) at c.in-Err-said.ensures))
