use Rattle.std.proofs.Common.{◌≡◌, drop}
use Rattle.host_run.specs.Guest.{form_at}
use Rattle.host_run.specs.Sights.{arguments_of, all_seen}
use Rattle.host_run.proofs.calls.are_seen.Given as goal

abbrev pub invariant-loop-index : goal.invariant-loop-index
invariant-loop-index l =
    let form = form_at l.guest.forms.now l.guest.rest in
    let values = arguments_of l.machine.state in
    all_seen l.machine.state form l.index (drop l.index values)
    ≡ all_seen l.machine.state form 0 values
