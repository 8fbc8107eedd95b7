use Rattle.std.proofs.Common.{◌≡◌, drop}
use Rattle.std.specs.List.{list_all}
use Rattle.host_run.specs.Guest.{form_at}
use Rattle.host_run.specs.Sights.{is_allowed}
use Rattle.host_run.proofs.calls.may_write.Given as goal

abbrev pub invariant-loop-write : goal.invariant-loop-write
invariant-loop-write l =
    let allowed = is_allowed (form_at l.guest.forms.now l.guest.rest) l.count in
    list_all allowed (drop l.write-index l.writes) ≡ list_all allowed l.writes
