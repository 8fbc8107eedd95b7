use Rattle.std.proofs.Common.{◌≡◌, ◌+◌, ◌-◌, ◌∙◌, suc, refl, sym, arith}
use Rattle.host_run.specs.Segments.{Place}
use Rattle.host_run.proofs.GoingLaws.{at_first, left_as, text_ends, answer_ends, goes_on}
use Rattle.host_run.proofs.GoingLaws.{done_as, ends_early}
use Rattle.host_run.proofs.LeavesLaws.{leaves_as, leaves_early, leaves_last}
use Rattle.host_run.proofs.run.run_segments.Goals as goal

pub loop-init : goal.loop-init
loop-init g c =
    let all : c.args.sleeps ≡ c.args.sleeps - 0 = omega arith in
    record {
      going = left_as all
          (at_first g.S.Sink.taken g.S.Sink.faults g.S.Sink.has_room c.args.out.now c.args.script.now
          c.args.machine.now c.args.steps c.args.sleeps
          c.requires.awake);
      small = omega arith;
      bound = refl;
    }

pub returns-in-Some : goal.returns-in-Some
returns-in-Some g c =
    let now : Place = record { machine = c.loop.machine; position = c.loop.at } in
    let new : Place =
    record { machine = c.session-count.new.machine; position = c.session-count.new.at } in
    let more : c.args.sleeps - c.loop.counter ≡ suc (c.args.sleeps - (c.loop.counter + 1)) =
    omega (arith, c.loop-test.true) in
    let both =
    ends_early g.S.Sink.taken g.S.Sink.faults g.S.Sink.has_room c.args.out.now c.loop.out
    c.session-count.new.out c.args.script.now c.args.machine.now
    c.args.steps c.args.sleeps (c.args.sleeps - c.loop.counter) c.loop.done now new c.session-count.result.0
    c.loop.invariant.going (c.args.sleeps - (c.loop.counter + 1)) more
    c.session-count.result.1 c.in-Some.last
    (sym c.unless_asleep.ensures ∙ c.in-Some.is) c.session-count.ensures.text
    c.session-count.ensures.answer in
    record {
      text = both.0;
      answer = both.1;
      leaves =
          leaves_as c.args.script.now c.args.machine.now c.args.steps c.args.sleeps c.loop.done
          c.in-Some.last new (sym c.from-done.ensures)
          (leaves_early c.loop.invariant.going c.session-count.result.0 new _ _
          c.session-count.result.1 c.in-Some.last (sym c.unless_asleep.ensures ∙ c.in-Some.is)
          c.session-count.ensures.answer);
      bound = c.session-count.ensures.bound ∙ c.loop.invariant.bound;
    }

pub loop-preserved : goal.loop-preserved
loop-preserved g c =
    let now : Place = record { machine = c.loop.machine; position = c.loop.at } in
    let new : Place =
    record { machine = c.session-count.new.machine; position = c.session-count.new.at } in
    let more : c.args.sleeps - c.loop.counter ≡ suc (c.args.sleeps - (c.loop.counter + 1)) =
    omega (arith, c.loop-test.true) in
    record {
      going =
          done_as c.loop.done (sym c.from-done.ensures)
          (goes_on g.S.Sink.taken g.S.Sink.faults g.S.Sink.has_room c.args.out.now c.loop.out
          c.session-count.new.out c.args.script.now c.args.machine.now
          c.args.steps c.args.sleeps (c.args.sleeps - c.loop.counter) c.loop.done now new
          c.session-count.result.0 c.loop.invariant.going (c.args.sleeps - (c.loop.counter + 1)) more
          c.session-count.result.1 (sym c.unless_asleep.ensures ∙ c.in_default.is)
          c.session-count.ensures.text c.session-count.ensures.answer);
      small = omega arith;
      bound = c.session-count.ensures.bound ∙ c.loop.invariant.bound;
    }

pub returns : goal.returns
returns g c =
    let now : Place = record { machine = c.loop.machine; position = c.loop.at } in
    let new : Place =
    record { machine = c.session-count-2.new.machine; position = c.session-count-2.new.at } in
    let none : c.args.sleeps - c.loop.counter ≡ 0 = omega (arith, c.loop-test.false) in
    record {
      text =
          text_ends g.S.Sink.taken g.S.Sink.faults g.S.Sink.has_room c.args.out.now c.loop.out
          c.session-count-2.new.out c.args.script.now c.args.machine.now
          c.args.steps c.args.sleeps (c.args.sleeps - c.loop.counter) c.loop.done now new c.session-count-2.result.0
          c.loop.invariant.going none c.session-count-2.result.1
          c.session-count-2.ensures.text;
      answer =
          answer_ends g.S.Sink.taken g.S.Sink.faults g.S.Sink.has_room c.args.out.now c.loop.out
          c.session-count-2.new.out c.args.script.now c.args.machine.now
          c.args.steps c.args.sleeps (c.args.sleeps - c.loop.counter) c.loop.done now new c.session-count-2.result.0
          c.loop.invariant.going none c.session-count-2.result.1
          c.session-count-2.ensures.text c.session-count-2.ensures.answer;
      leaves =
          leaves_as c.args.script.now c.args.machine.now c.args.steps c.args.sleeps c.loop.done
          c.session-count-2.result.1 new (sym c.from-done-2.ensures)
          (leaves_last c.loop.invariant.going c.session-count-2.result.0 new _ _ none
          c.session-count-2.result.1 c.session-count-2.ensures.answer);
      bound = c.session-count-2.ensures.bound ∙ c.loop.invariant.bound;
    }
