use Rattle.std.proofs.Common.{◌≡◌, ◌∙◌, ap, sym}
use Rattle.pawn_outside.specs.Taken.{joined}
use Rattle.pawn_outside.proofs.SaidLaws.{said_as}
use Rattle.host_run.specs.Segments.{Place}
use Rattle.host_many.specs.declared.standing.Standing.TheVariants.{Runs}
use Rattle.host_many.specs.Guests.{standing_of}
use Rattle.host_many.proofs.TurnLaws.{session_turns, text_is}
use Rattle.host_many.proofs.seat.Seat.go.Goals as goal

pub returns-in-Runs-clause-text : goal.returns-in-Runs-clause-text
returns-in-Runs-clause-text g c =
    let old : Place = record { machine = c.self.inside.machine; position = c.self.inside.at } in
    let runs : standing_of old.machine.mode ≡ Runs =
    ap standing_of (sym c.mode.ensures) ∙ sym c.standing_of.ensures ∙ c.in-Runs.is in
    rw (← c.self.view_is, c.told.ensures)
    (said_as (text_is (joined c.args.front.now) c.self.inside.script old runs c.args.steps)
    c.session_behind.ensures.text)

pub returns-in-Runs-clause-guest : goal.returns-in-Runs-clause-guest
returns-in-Runs-clause-guest g c = λ number.
    let old : Place = record { machine = c.self.inside.machine; position = c.self.inside.at } in
    let new : Place =
    record { machine = c.session_behind.new.machine; position = c.session_behind.new.at } in
    let runs : standing_of old.machine.mode ≡ Runs =
    ap standing_of (sym c.mode.ensures) ∙ sym c.standing_of.ensures ∙ c.in-Runs.is in
    rw (← c.self.view_is, c.told.ensures)
    (session_turns (joined c.args.front.now) c.self.inside.script old runs number c.args.steps
    c.session_behind.result.0 (g.S.Sink.taken c.args.out.now)
    (g.S.Sink.taken c.session_behind.new.out) c.session_behind.result.1 new
    c.session_behind.ensures.answer)
