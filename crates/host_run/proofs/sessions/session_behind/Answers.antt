use Rattle.std.proofs.Common.{rules, ◌+◌, ◌-◌, ◌<◌, ◌≤◌, sym, ap, ◌∙◌}
use Rattle.pawn_outside.specs.Taken.{joined}
use Rattle.amx_ops.specs.declared.amx.Amx.{Amx}
use Rattle.host_run.specs.Bound.{bound_of}
use Rattle.host_run.specs.Segments.{Place}
use Rattle.host_run.proofs.ReachLaws.{reached_more}
use Rattle.host_run.proofs.EventLaws.{counted_within, steps_if}
use Rattle.host_run.proofs.LoopLaws.{session_goes, session_ends, text_ends, session_done}
use Rattle.host_run.proofs.LoopLaws.{text_done}
use Rattle.host_run.proofs.sessions.session_behind.Goals as goal

pub overflow_add-done : goal.overflow_add-done
overflow_add-done g c =
    let r =
    reached_more c.args.steps c.loop-done.done c.loop-done.machine c.run-count.new.self _ _
    c.loop-done-test.true c.loop-done.invariant.so_far.awake c.run-count.ensures.ran in
    let within : c.loop-done.done + c.run-count.result.0 ≤ c.args.steps =
    (counted_within c.args.steps c.loop-done.done c.loop-done.machine c.run-count.new.self _ _
    c.loop-done-test.true r).0 in
    search rules

pub advance-requires-clause-bound : goal.advance-requires-clause-bound
advance-requires-clause-bound g c =
    let r =
    reached_more c.args.steps c.loop-done.done c.loop-done.machine c.run-count.new.self _ _
    c.loop-done-test.true c.loop-done.invariant.so_far.awake c.run-count.ensures.ran in
    c.loop-done.invariant.bound ∙ c.requires.bound ∙ ap (λ (amx : Amx). bound_of c.args.part.script.now amx.natives)
    (sym (r.file ∙ c.loop-done.invariant.so_far.file))

pub returns-in-Some : goal.returns-in-Some
returns-in-Some g c =
    let old : Place = record { machine = c.args.machine.now; position = c.args.at.now } in
    let now : Place = record { machine = c.loop-done.machine; position = c.loop-done.at } in
    let new : Place = record { machine = c.advance.new.machine; position = c.advance.new.at } in
    let e = c.run-count.result.1 in
    let r =
    reached_more c.args.steps c.loop-done.done c.loop-done.machine c.run-count.new.self _ _
    c.loop-done-test.true c.loop-done.invariant.so_far.awake c.run-count.ensures.ran in
    let ends =
    steps_if e c.advance.result c.in-Some.end c.advance.ensures.going c.in-Some.is in
    record {
      text =
          text_ends (joined c.args.part.front.now) g.S.Sink.taken g.S.Sink.faults g.S.Sink.has_room c.args.out.now c.loop-done.out
          c.advance.new.out c.args.part.script.now old now new c.args.steps c.loop-done.done
          c.run-count.result.0 e c.run-count.new.self c.loop-done.invariant.so_far r
          c.loop-done-test.true c.advance.result c.advance.ensures.file
          c.advance.ensures.advances c.in-Some.end c.in-Some.is ends;
      answer =
          session_ends (joined c.args.part.front.now) g.S.Sink.taken g.S.Sink.faults g.S.Sink.has_room c.args.out.now
          c.loop-done.out c.advance.new.out c.args.part.script.now old now new c.args.steps
          c.loop-done.done c.run-count.result.0 e c.run-count.new.self c.loop-done.invariant.so_far r
          c.loop-done-test.true c.advance.result c.advance.ensures.file
          c.advance.ensures.advances c.in-Some.end c.in-Some.is ends;
      bound = c.advance.ensures.bound ∙ c.loop-done.invariant.bound;
    }

pub loop-done-smaller : goal.loop-done-smaller
loop-done-smaller g c =
    let r =
    reached_more c.args.steps c.loop-done.done c.loop-done.machine c.run-count.new.self _ _
    c.loop-done-test.true c.loop-done.invariant.so_far.awake c.run-count.ensures.ran in
    let less : c.args.steps - (c.loop-done.done + c.run-count.result.0) < c.args.steps
    - c.loop-done.done =
    (counted_within c.args.steps c.loop-done.done c.loop-done.machine c.run-count.new.self _ _
    c.loop-done-test.true r).1 in
    search rules

pub loop-done-preserved : goal.loop-done-preserved
loop-done-preserved g c =
    let r =
    reached_more c.args.steps c.loop-done.done c.loop-done.machine c.run-count.new.self _ _
    c.loop-done-test.true c.loop-done.invariant.so_far.awake c.run-count.ensures.ran in
    let old : Place = record { machine = c.args.machine.now; position = c.args.at.now } in
    let now : Place = record { machine = c.loop-done.machine; position = c.loop-done.at } in
    record {
      so_far = session_goes (joined c.args.part.front.now) g.S.Sink.taken g.S.Sink.faults g.S.Sink.has_room c.args.out.now c.loop-done.out
          c.advance.new.out c.args.part.script.now old now
          (record { machine = c.advance.new.machine; position = c.advance.new.at })
          c.args.steps c.loop-done.done c.run-count.result.0 c.run-count.result.1 c.run-count.new.self
          c.loop-done.invariant.so_far r c.loop-done-test.true c.advance.result c.advance.ensures.file
          c.advance.ensures.advances c.in_default.is;
      bound = c.advance.ensures.bound ∙ c.loop-done.invariant.bound;
    }

pub returns : goal.returns
returns g c =
    let old : Place = record { machine = c.args.machine.now; position = c.args.at.now } in
    let now : Place = record { machine = c.loop-done.machine; position = c.loop-done.at } in
    record {
      text =
          text_done (joined c.args.part.front.now) g.S.Sink.taken g.S.Sink.faults g.S.Sink.has_room c.args.out.now c.loop-done.out
          c.args.part.script.now old now c.args.steps c.loop-done.done c.loop-done.invariant.so_far
          c.loop-done-test.false;
      answer =
          session_done (joined c.args.part.front.now) g.S.Sink.taken g.S.Sink.faults g.S.Sink.has_room c.args.out.now
          c.loop-done.out c.args.part.script.now old now c.args.steps c.loop-done.done
          c.loop-done.invariant.so_far c.loop-done-test.false;
      bound = c.loop-done.invariant.bound;
    }
