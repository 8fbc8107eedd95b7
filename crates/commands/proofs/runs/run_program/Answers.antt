use Rattle.std.proofs.Common.{Some, inr, rules, w32, FitsSigned, refl, sym, subst}
use Rattle.std.proofs.lemmas.Int.{to_z-of_z}
use Rattle.command_parts.proofs.FaultCountLaws.{calls_nothing, stop_no_fault}
use Rattle.command_parts.proofs.ToldLaws.{told_other_stop}
use Rattle.command_parts.specs.Told.{with_faults}
use Rattle.pawn_outside.specs.Said.{Said}
use Rattle.host_script.specs.Ranges.{IsScript}
use Rattle.command_parts.specs.declared.program.Program.{Program}
use Rattle.host_run.specs.Entry.{IsEntryOf}
use Rattle.amx_format.proofs.LimitLaws.{within_limits}
use Rattle.commands.specs.Prepared.{CanRun}
use Rattle.commands.specs.Runs.{RunsEntry}
use Rattle.commands.proofs.PreparedLaws.{prepared_file, prepared_program, is_prepared}
use Rattle.commands.proofs.PreparedLaws.{entry_no_fault, unserved_no_fault}
use Rattle.commands.proofs.RunLaws.{stops_at_entry, stops_at_native}
use Rattle.commands.proofs.runs.run_program.Goals as goal

pub entry_of-requires : goal.entry_of-requires
entry_of-requires g c =
    let limits = within_limits c.args.bytes c.args.program.file c.requires.file in
    rw c.runnable.ensures.value limits.publics

pub start-requires-clause-can : goal.start-requires-clause-can
start-requires-clause-can g c =
    subst CanRun (sym (prepared_file c.args.program c.in-Ok.ready c.in-Ok.ensures))
    c.runnable.ensures.can

pub start-requires-clause-script : goal.start-requires-clause-script
start-requires-clause-script g c =
    subst IsScript (sym c.in-Ok.ensures.script) c.requires.script

pub start-requires-clause-prepared : goal.start-requires-clause-prepared
start-requires-clause-prepared g c = is_prepared c.args.program c.in-Ok.ready c.in-Ok.ensures

pub start-requires-clause-there : goal.start-requires-clause-there
start-requires-clause-there g c =
    let fits : FitsSigned w32 c.in-Some.entry = search rules in
    let there = rw (c.runnable.ensures.value, c.as_slice.ensures) at c.in-Some.ensures in
    rw (to_z-of_z w32 c.in-Some.entry fits)
    (subst (λ amx. IsEntryOf amx c.args.words.now.entry (Some c.in-Some.entry))
    (sym (prepared_file c.args.program c.in-Ok.ready c.in-Ok.ensures)) there)

pub returns-in-Ok-clause-answer : goal.returns-in-Ok-clause-answer
returns-in-Ok-clause-answer g c =
    let P : Program → Type 0 =
    λ it. RunsEntry (with_faults (Said g.S.Sink.taken g.S.Sink.faults g.S.Sink.has_room)) it
    c.args.words.now (g.F.Files.held c.args.files.now) (g.F.Files.held c.start.new.files)
    (c.args.out.now, g.F.Files.faults c.args.files.now)
    (c.start.new.out, g.F.Files.faults c.start.new.files) c.start.result in
    inr (subst P (prepared_program c.args.program c.in-Ok.ready c.in-Ok.ensures)
    c.start.ensures.answer)

pub returns-in-Err-clause-answer : goal.returns-in-Err-clause-answer
returns-in-Err-clause-answer g c =
    stops_at_native c.args.program c.args.words.now _ c.in-Some.entry c.in-Err.stop
    c.tell_stop.result (rw (c.runnable.ensures.value, c.as_slice.ensures) at c.in-Some.ensures)
    c.in-Err.ensures
    (told_other_stop (unserved_no_fault c.in-Err.ensures) refl c.tell_stop.ensures)

pub returns-in-Err-clause-calls : goal.returns-in-Err-clause-calls
returns-in-Err-clause-calls g c =
    calls_nothing c.args.files.now
    (stop_no_fault c.in-Err.stop c.tell_stop.result (unserved_no_fault c.in-Err.ensures)
    c.tell_stop.ensures)

pub returns-in-None-clause-answer : goal.returns-in-None-clause-answer
returns-in-None-clause-answer g c =
    stops_at_entry c.args.program c.args.words.now _ c.no_entry.result
    c.tell_stop-in-None.result
    (rw (c.runnable.ensures.value, c.as_slice.ensures) at c.in-None.ensures)
    (rw c.as_slice-in-None.ensures at c.no_entry.ensures)
    (told_other_stop (entry_no_fault _ c.no_entry.result c.no_entry.ensures) refl
    c.tell_stop-in-None.ensures)

pub returns-in-None-clause-calls : goal.returns-in-None-clause-calls
returns-in-None-clause-calls g c =
    calls_nothing c.args.files.now
    (stop_no_fault c.no_entry.result c.tell_stop-in-None.result
    (entry_no_fault _ c.no_entry.result c.no_entry.ensures) c.tell_stop-in-None.ensures)
