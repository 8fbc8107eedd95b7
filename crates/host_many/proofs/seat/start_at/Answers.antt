use Rattle.std.proofs.Common.{rules, w32, FitsSigned, ◌≡◌, ◌∙◌, ℤ, None, Some, codes, ap, sym, subst}
use Rattle.std.proofs.Common.{[], Err, arith}
use Rattle.std.proofs.lemmas.Int.{to_z-of_z}
use Rattle.pawn_outside.specs.Taken.{joined}
use Rattle.pawn_outside.proofs.SaidLaws.{said_as, said_nothing}
use Rattle.host_script.specs.Text.{end_text}
use Rattle.host_script.specs.declared.event.End.TheVariants as end
use Rattle.amx_machine.specs.Machine.{Machine}
use Rattle.amx_machine.specs.Starts.{StartsSo, error_of}
use Rattle.host_run.specs.Entry.{address_named, IsEntryOf}
use Rattle.host_many.specs.declared.turn.Turn.TheVariants as turn
use Rattle.host_many.specs.Guests.{guest_of}
use Rattle.host_many.specs.Own.{Told}
use Rattle.host_many.specs.Serves as cut
use Rattle.host_many.specs.TurnsSo.{TurnsSo, rows_text}
use Rattle.host_many.proofs.StartLaws.{begins, no_entry, no_room, stays, some_error}
use Rattle.host_many.proofs.TurnLaws.{line_said, line_turn}
use Rattle.host_many.proofs.seat.start_at.Goals as goal

pub returns-in-None-clause-text : goal.returns-in-None-clause-text
returns-in-None-clause-text g c = λ script position.
    let m = c.args.machine.now in
    let name = c.args.name.now in
    let none : address_named m.amx name ≡ None =
    rw (c.amx.ensures.value, c.verified.ensures) at c.in-None.ensures in
    line_said (joined c.args.front.now) (codes "no entry\n") (turn.Start 0 name)
    (guest_of m script position) c.args.out.now c.say_row.new.out c.say_row.result _
    (no_entry m name c.requires.idle script position none) c.say_row.ensures

pub returns-in-None-clause-guest : goal.returns-in-None-clause-guest
returns-in-None-clause-guest g c = λ script position number.
    let m = c.args.machine.now in
    let name = c.args.name.now in
    let none : address_named m.amx name ≡ None =
    rw (c.amx.ensures.value, c.verified.ensures) at c.in-None.ensures in
    line_turn (joined c.args.front.now) (codes "no entry\n") (turn.Start number name)
    (guest_of m script position) c.args.out.now c.say_row.new.out c.say_row.result
    (no_entry m name c.requires.idle script position none) (cut.start number name) (omega arith)
    c.say_row.ensures

pub returns-in-Ok-clause-text : goal.returns-in-Ok-clause-text
returns-in-Ok-clause-text g c = λ script position.
    let m = c.args.machine.now in
    let name = c.args.name.now in
    let entry : ℤ = c.in-Some.entry in
    let fits : FitsSigned w32 entry = search rules in
    let there : IsEntryOf m.amx name (Some entry) =
    rw (c.amx.ensures.value, c.verified.ensures) at c.in-Some.ensures in
    let begun = rw (to_z-of_z w32 entry fits) at c.in-Ok.ensures in
    let e =
    begins m name c.requires.idle script position there.0 entry there.1 there.2 _ begun.0 in
    said_as (sym (ap (λ (t : Told). rows_text (joined c.args.front.now) t.lines) e))
    (said_nothing c.args.out.now)

pub returns-in-Err-clause-text : goal.returns-in-Err-clause-text
returns-in-Err-clause-text g c = λ script position.
    let m = c.args.machine.now in
    let name = c.args.name.now in
    let entry : ℤ = c.in-Some.entry in
    let fits : FitsSigned w32 entry = search rules in
    let there : IsEntryOf m.amx name (Some entry) =
    rw (c.amx.ensures.value, c.verified.ensures) at c.in-Some.ensures in
    let code_fits : FitsSigned w32 c.code.result = search rules in
    let Failed : ℤ → Type 0 =
    λ n. StartsSo {T = Unit {0}} m n [] (Err c.in-Err.fault) c.start.new.self in
    let failed = subst Failed (to_z-of_z w32 entry fits) c.in-Err.ensures in
    line_said (joined c.args.front.now) (end_text (end.Error (error_of c.in-Err.fault)))
    (turn.Start 0 name) (guest_of m script position) c.args.out.now c.say_error.new.out
    c.say_error.result _
    (no_room m name c.requires.idle script position there.0 entry there.1 there.2
    c.in-Err.fault c.start.new.self failed)
    (rw (to_z-of_z w32 c.code.result code_fits, c.code.ensures) at c.say_error.ensures)

pub returns-in-Err-clause-guest : goal.returns-in-Err-clause-guest
returns-in-Err-clause-guest g c = λ script position number.
    let m = c.args.machine.now in
    let name = c.args.name.now in
    let entry : ℤ = c.in-Some.entry in
    let fits : FitsSigned w32 entry = search rules in
    let there : IsEntryOf m.amx name (Some entry) =
    rw (c.amx.ensures.value, c.verified.ensures) at c.in-Some.ensures in
    let code_fits : FitsSigned w32 c.code.result = search rules in
    let Failed : ℤ → Type 0 =
    λ n. StartsSo {T = Unit {0}} m n [] (Err c.in-Err.fault) c.start.new.self in
    let failed = subst Failed (to_z-of_z w32 entry fits) c.in-Err.ensures in
    let same =
    stays m name c.requires.idle script position there.0 entry there.1 there.2
    c.in-Err.fault c.start.new.self failed in
    let P : Machine → Type 0 =
    λ it. TurnsSo (joined c.args.front.now) (turn.Start number name)
    (guest_of m script position) (g.S.Sink.taken c.args.out.now)
    (g.S.Sink.taken c.say_error.new.out) c.say_error.result (guest_of it script position) in
    subst P (sym same)
    (line_turn (joined c.args.front.now) (end_text (end.Error (error_of c.in-Err.fault)))
    (turn.Start number name) (guest_of m script position) c.args.out.now c.say_error.new.out
    c.say_error.result
    (no_room m name c.requires.idle script position there.0 entry there.1 there.2
    c.in-Err.fault c.start.new.self failed) (cut.start number name)
    (some_error (error_of c.in-Err.fault)) (rw (to_z-of_z w32 c.code.result code_fits, c.code.ensures) at c.say_error.ensures))
