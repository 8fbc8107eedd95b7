use Rattle.std.proofs.Common.{◌≡◌, ℕ, List, sym, subst, refl}
use Rattle.pawn_outside.specs.Said.{Said}
use Rattle.amx_ops.specs.Runs.{traced}
use Rattle.host_run.specs.Segments.{Place, segment_of}
use Rattle.amx_image.specs.declared.version.Version.TheVariants.{Live}
use Rattle.amx_image.specs.Image.{IsImage}
use Rattle.command_parts.specs.declared.status.Status.TheVariants as status
use Rattle.command_parts.specs.Told.{with_faults}
use Rattle.command_parts.proofs.FaultCountLaws.{calls_nothing}
use Rattle.commands.specs.Counted.{RunsTrace}
use Rattle.commands.specs.ReadySegment.{place_of}
use Rattle.commands.proofs.CountedLaws.{session_runs, stands}
use Rattle.commands.proofs.SegmentFinishLaws.{ends, sleeps, stops_asleep}
use Rattle.commands.proofs.SegmentReadyLaws.{mode_is, has_room, image_is}
use Rattle.commands.proofs.SteadyLaws.{used_steadily}
use Rattle.commands.proofs.ready_segment.run_on.Goals as goal

-- a sleep is no fault of the sink
no_sink : status.Asleep ≡ status.SinkFault → ⊥
no_sink e = absurd (cc e)

pub save_into-requires-clause-asleep : goal.save_into-requires-clause-asleep
save_into-requires-clause-asleep g c =
    let place = place_of c.args.ready in
    let bound = c.args.steps in
    let segments = segment_of c.args.ready.script place in
    let new : Place =
    record { machine = c.session-used.new.machine; position = c.session-used.new.at } in
    let count = c.session-used.result.0 in
    let given = c.session-used.result.1 in
    let it = c.session-used.ensures.answer in
    let P : ℕ → Type 0 =
    λ n. RunsTrace (Said g.S.Sink.taken g.S.Sink.faults g.S.Sink.has_room)
    (traced bound (segments bound)) c.args.out.now c.session-used.new.out n given in
    let runs =
    subst P (sym c.from.ensures)
    (session_runs segments bound place count given new it c.session-used.ensures.text) in
    mode_is c.args.ready.script place new bound count
    (stands segments _ _ bound place count given new
    (λ e. no_sink (c.in-Asleep.ensures.sink e)) it)
    (stops_asleep _ (traced bound (segments bound))
    (c.in-Asleep.ensures.tells (traced bound (segments bound)) c.args.out.now runs))

pub save_into-requires-clause-room : goal.save_into-requires-clause-room
save_into-requires-clause-room g c =
    let place = place_of c.args.ready in
    let bound = c.args.steps in
    let segments = segment_of c.args.ready.script place in
    let new : Place =
    record { machine = c.session-used.new.machine; position = c.session-used.new.at } in
    let count = c.session-used.result.0 in
    let given = c.session-used.result.1 in
    let it = c.session-used.ensures.answer in
    let P : ℕ → Type 0 =
    λ n. RunsTrace (Said g.S.Sink.taken g.S.Sink.faults g.S.Sink.has_room)
    (traced bound (segments bound)) c.args.out.now c.session-used.new.out n given in
    let runs =
    subst P (sym c.from.ensures)
    (session_runs segments bound place count given new it c.session-used.ensures.text) in
    has_room c.args.ready.script place new bound count
    (stands segments _ _ bound place count given new
    (λ e. no_sink (c.in-Asleep.ensures.sink e)) it)
    (stops_asleep _ (traced bound (segments bound))
    (c.in-Asleep.ensures.tells (traced bound (segments bound)) c.args.out.now runs))
    72 c.args.ready.buffer.room c.requires.runnable c.requires.script c.requires.state
    c.requires.room

pub returns-in-Asleep-clause-answer : goal.returns-in-Asleep-clause-answer
returns-in-Asleep-clause-answer g c =
    let place = place_of c.args.ready in
    let bound = c.args.steps in
    let segments = segment_of c.args.ready.script place in
    let new : Place =
    record { machine = c.session-used.new.machine; position = c.session-used.new.at } in
    let count = c.session-used.result.0 in
    let given = c.session-used.result.1 in
    let it = c.session-used.ensures.answer in
    let P : ℕ → Type 0 =
    λ n. RunsTrace (Said g.S.Sink.taken g.S.Sink.faults g.S.Sink.has_room)
    (traced bound (segments bound)) c.args.out.now c.session-used.new.out n given in
    let runs =
    subst P (sym c.from.ensures)
    (session_runs segments bound place count given new it c.session-used.ensures.text) in
    let tells = c.in-Asleep.ensures.tells (traced bound (segments bound)) c.args.out.now runs in
    let Q : List ℕ → Type 0 =
    λ bytes. IsImage Live new.machine.state new.position c.args.ready.digest bytes in
    sleeps _ (with_faults (Said g.S.Sink.taken g.S.Sink.faults g.S.Sink.has_room))
    (g.F.Files.held c.args.files.now) (g.F.Files.held c.keep.new.files) c.args.image.now
    c.args.ready.digest (traced bound (segments bound)) c.bytes.result.now c.keep.result
    (used_steadily (Said g.S.Sink.taken g.S.Sink.faults g.S.Sink.has_room) refl c.args.count
    (segments bound).steps tells)
    (image_is c.args.ready.script place new bound count
    (stands segments _ _ bound place count given new
    (λ e. no_sink (c.in-Asleep.ensures.sink e)) it)
    (stops_asleep _ (traced bound (segments bound)) tells) c.args.ready.digest
    c.bytes.result.now (subst Q (sym c.bytes.ensures) c.save_into.ensures.image))
    c.keep.ensures.answer

pub returns-in-Asleep-clause-calls : goal.returns-in-Asleep-clause-calls
returns-in-Asleep-clause-calls g c = c.keep.ensures.calls

pub returns : goal.returns
returns g c =
    let held = g.F.Files.held c.args.files.now in
    let place = place_of c.args.ready in
    let bound = c.args.steps in
    let segments = segment_of c.args.ready.script place in
    let new : Place =
    record { machine = c.session-used.new.machine; position = c.session-used.new.at } in
    let P : ℕ → Type 0 =
    λ n. RunsTrace (Said g.S.Sink.taken g.S.Sink.faults g.S.Sink.has_room)
    (traced bound (segments bound)) c.args.out.now c.session-used.new.out n
    c.session-used.result.1 in
    let runs =
    subst P (sym c.from.ensures)
    (session_runs segments bound place c.session-used.result.0 c.session-used.result.1 new
    c.session-used.ensures.answer c.session-used.ensures.text) in
    record {
      answer =
          ends _ (with_faults (Said g.S.Sink.taken g.S.Sink.faults g.S.Sink.has_room)) held held
          c.args.image.now c.args.ready.digest (traced bound (segments bound))
          c.tell_run.result
          (used_steadily (Said g.S.Sink.taken g.S.Sink.faults g.S.Sink.has_room) refl
          c.args.count (segments bound).steps
          (c.tell_run.ensures.tells (traced bound (segments bound)) c.args.out.now runs))
          c.in_default.not-Asleep refl;
      calls = calls_nothing c.args.files.now c.tell_run.ensures.fault;
    }
