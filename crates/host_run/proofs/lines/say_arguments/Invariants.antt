use Rattle.std.proofs.Common.{map, take, Ok}
use Rattle.pawn_outside.specs.Said.{Said}
use Rattle.host_script.specs.Text.{arguments_text}
use Rattle.host_run.specs.Guest.{form_at}
use Rattle.host_run.specs.Sights.{arguments_of, sought}
use Rattle.host_run.proofs.lines.say_arguments.Given as goal

abbrev pub invariant-loop-index : goal.invariant-loop-index
invariant-loop-index g l =
    let form = form_at l.guest.forms.now l.guest.rest in
    let all = map (λ it. it.seen) (sought l.machine.state form 0 (arguments_of l.machine.state)) in
    Said {S = g.row.S.Denot} g.S.Sink.taken g.S.Sink.faults g.S.Sink.has_room l.initial.out l.out
    (arguments_text (take l.index all)) (Ok tt)
