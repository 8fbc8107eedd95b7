use Rattle.std.proofs.Common.{rules, w32, FitsSigned, sym, subst, []}
use Rattle.std.proofs.Common.{ℤ, Err, refl}
use Rattle.std.proofs.lemmas.Int.{to_z-of_z}
use Rattle.pawn_outside.specs.Said.{Said}
use Rattle.amx_machine.specs.Machine.{Machine, IsIdle}
use Rattle.amx_machine.specs.Starts.{StartsSo}
use Rattle.command_parts.specs.Told.{with_faults}
use Rattle.command_parts.proofs.FaultCountLaws.{calls_nothing}
use Rattle.commands.specs.ReadySegment.{program_of}
use Rattle.commands.proofs.StartLaws.{ready_there, finishes_there, finishes_at_once}
use Rattle.commands.proofs.StartLaws.{runs_nowhere}
use Rattle.commands.proofs.SteadyLaws.{used_steadily}
use Rattle.commands.proofs.runs.start.Goals as goal

pub start-requires : goal.start-requires
start-requires g c = subst (λ (m : Machine). IsIdle m.mode) (sym c.requires.prepared.machine) tt

pub run_on-requires : goal.run_on-requires
run_on-requires g c =
    let fits : FitsSigned w32 c.args.entry = search rules in
    let started = rw (to_z-of_z w32 c.args.entry fits) at c.in-Ok.ensures in
    ready_there (program_of c.args.ready) c.args.ready c.args.words.now.entry c.args.entry
    c.requires.prepared c.requires.can c.requires.script
    c.requires.there c.start.new.self started

pub returns-in-Ok-clause-answer : goal.returns-in-Ok-clause-answer
returns-in-Ok-clause-answer g c =
    let fits : FitsSigned w32 c.args.entry = search rules in
    let started = rw (to_z-of_z w32 c.args.entry fits) at c.in-Ok.ensures in
    finishes_there _ (program_of c.args.ready) c.args.ready c.args.words.now c.args.entry
    c.requires.can c.requires.prepared c.requires.there c.start.new.self started
    c.as_str-image.result.now c.as_str-image.ensures _ _
    (c.args.out.now, g.F.Files.faults c.args.files.now)
    (c.run_on.new.out, g.F.Files.faults c.run_on.new.files) c.run_on.result
    c.run_on.ensures.answer

pub returns-in-Ok-clause-calls : goal.returns-in-Ok-clause-calls
returns-in-Ok-clause-calls g c = c.run_on.ensures.calls

pub returns-in-Err-clause-answer : goal.returns-in-Err-clause-answer
returns-in-Err-clause-answer g c =
    let fits : FitsSigned w32 c.args.entry = search rules in
    let P : ℤ → Type 0 =
    λ z. StartsSo {T = Unit {0}} c.args.ready.machine z []
    (Err c.in-Err.fault) c.start.new.self in
    let failed = subst P (to_z-of_z w32 c.args.entry fits) c.in-Err.ensures in
    let code_fits : FitsSigned w32 c.code.result = search rules in
    let words = c.args.words.now in
    let program = program_of c.args.ready in
    finishes_at_once program c.args.ready words c.args.entry c.requires.can
    c.requires.prepared c.requires.there c.in-Err.fault c.start.new.self failed
    (with_faults (Said g.S.Sink.taken g.S.Sink.faults g.S.Sink.has_room)) _
    (c.args.out.now, g.F.Files.faults c.args.files.now)
    (c.tell_run.new.out, g.F.Files.faults c.args.files.now) c.tell_run.result
    (used_steadily (Said g.S.Sink.taken g.S.Sink.faults g.S.Sink.has_room) refl words.count 0
    (c.tell_run.ensures.tells _ c.args.out.now
    (runs_nowhere program c.args.ready words c.args.entry c.requires.can
    c.requires.prepared c.requires.there c.in-Err.fault c.start.new.self failed c.code.result
    c.say_error.result c.code.ensures
    (rw (to_z-of_z w32 c.code.result code_fits) at c.say_error.ensures.is)
    (rw (to_z-of_z w32 c.code.result code_fits) at c.say_error.ensures.line))))

pub returns-in-Err-clause-calls : goal.returns-in-Err-clause-calls
returns-in-Err-clause-calls g c = calls_nothing c.args.files.now c.tell_run.ensures.fault
