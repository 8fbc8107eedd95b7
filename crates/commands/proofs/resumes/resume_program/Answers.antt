use Rattle.std.proofs.Common.{◌∙◌, inl, inr, refl, sym}
use Rattle.command_parts.specs.declared.status.Status.TheVariants as status
use Rattle.command_parts.proofs.FaultCountLaws.{only_calls, calls_then, calls_stopped, calls_other}
use Rattle.command_parts.proofs.FaultCountLaws.{stop_no_fault, told_other}
use Rattle.command_parts.proofs.ToldLaws.{told_stop, told_other_stop, unchanged}
use Rattle.commands.proofs.ResumeLaws.{is_ready, goes_on, stays_asleep, asleep_no_fault}
use Rattle.commands.proofs.ResumeLaws.{reads, stops_reading}
use Rattle.commands.proofs.SteadyLaws.{image_steadily}
use Rattle.commands.proofs.resumes.resume_program.Goals as goal

pub returns-in-Err-clause-answer : goal.returns-in-Err-clause-answer
returns-in-Err-clause-answer g c =
    stops_reading c.args.program c.args.words.now c.as_str-name.result.now _ _ c.in-Err.stop
    c.tell_stop.result c.as_str-name.ensures
    c.in-Err.ensures.answer c.in-Err.ensures.calls.same
    (told_stop (only_calls c.in-Err.ensures.calls) refl c.tell_stop.ensures)

pub returns-in-Err-clause-calls : goal.returns-in-Err-clause-calls
returns-in-Err-clause-calls g c =
    calls_stopped c.in-Err.stop c.tell_stop.result
    (only_calls c.in-Err.ensures.calls) refl c.tell_stop.ensures

pub run_on-requires : goal.run_on-requires
run_on-requires g c =
    let it = c.in-Ok-wake.ensures in
    is_ready c.args.program it.machine it.position c.in-Ok-wake.ready it.has it.restored
    c.runnable.ensures.can c.requires.script

pub returns-in-Ok-wake-clause-answer : goal.returns-in-Ok-wake-clause-answer
returns-in-Ok-wake-clause-answer g c =
    let it = c.in-Ok-wake.ensures in
    reads c.args.program c.args.words.now c.as_str-name.result.now c.in-Ok.image
    c.as_slice.result.now _ _ _ _ c.run_on.result c.as_str-name.ensures c.in-Ok.ensures.answer
    c.as_slice.ensures c.in-Ok.ensures.calls.same
    (unchanged c.args.out.now (only_calls c.in-Ok.ensures.calls))
    (inr (inr (record {
      state = it.machine.state;
      position = it.position;
      image = it.image;
      resumes =
          goes_on c.args.program c.args.words.now it.machine it.position c.in-Ok-wake.ready
          c.as_str-name.result.now _ _ c.run_on.result c.runnable.ensures.can.runnable it.has
          it.restored c.as_str-name.ensures
          c.run_on.ensures.answer;
    })))

pub returns-in-Ok-wake-clause-calls : goal.returns-in-Ok-wake-clause-calls
returns-in-Ok-wake-clause-calls g c =
    calls_then (only_calls c.in-Ok.ensures.calls) c.run_on.ensures.calls

pub returns-in-Err-Stop-clause-answer : goal.returns-in-Err-Stop-clause-answer
returns-in-Err-Stop-clause-answer g c =
    reads c.args.program c.args.words.now c.as_str-name.result.now c.in-Ok.image
    c.as_slice.result.now _ _ _ _ c.tell_stop-in-Err-Stop.result c.as_str-name.ensures
    c.in-Ok.ensures.answer c.as_slice.ensures c.in-Ok.ensures.calls.same
    (unchanged c.args.out.now (only_calls c.in-Ok.ensures.calls))
    (stays_asleep c.args.program c.args.words.now c.as_slice.result.now c.in-Err-Stop.stop _
    c.tell_stop-in-Err-Stop.result (rw c.in-Err-Stop.field-0-is at c.in-Err-Stop.ensures)
    (told_other_stop (asleep_no_fault (rw c.in-Err-Stop.field-0-is at c.in-Err-Stop.ensures)) refl
    (rw c.in-Err-Stop.field-0-is at c.tell_stop-in-Err-Stop.ensures)))

pub returns-in-Err-Stop-clause-calls : goal.returns-in-Err-Stop-clause-calls
returns-in-Err-Stop-clause-calls g c =
    calls_other
    (stop_no_fault c.in-Err-Stop.stop c.tell_stop-in-Err-Stop.result
    (asleep_no_fault (rw c.in-Err-Stop.field-0-is at c.in-Err-Stop.ensures))
    (rw c.in-Err-Stop.field-0-is at c.tell_stop-in-Err-Stop.ensures))
    (only_calls c.in-Ok.ensures.calls)

pub returns-clause-answer : goal.returns-clause-answer
returns-clause-answer g c =
    let none = rw c.in-Err-Image.field-0-is at c.in-Err-Image.ensures in
    reads c.args.program c.args.words.now c.as_str-name.result.now c.in-Ok.image
    c.as_slice.result.now _ _ _ _ c.tell_image.result c.as_str-name.ensures c.in-Ok.ensures.answer
    c.as_slice.ensures c.in-Ok.ensures.calls.same
    (unchanged c.args.out.now (only_calls c.in-Ok.ensures.calls))
    (inr (inl (record {
      none = none.0;
      fault = c.in-Err-Image.fault;
      is_first = none.1;
      kept = refl;
      tells = image_steadily _ refl (rw c.in-Err-Image.field-0-is at c.tell_image.ensures);
    })))

pub returns-clause-calls : goal.returns-clause-calls
returns-clause-calls g c =
    let tells = rw c.in-Err-Image.field-0-is at c.tell_image.ensures in
    calls_other (λ e. told_other status.BadImage tells.told (λ f. absurd (cc f)) (sym tells.is ∙ e))
    (only_calls c.in-Ok.ensures.calls)
