use Rattle.std.proofs.Common.{◌-◌, ◌≡◌, ◌*◌, drop}
use Rattle.amx_verify.specs.Fronts.{link_fault_from}
use Rattle.amx_verify.proofs.marked.Marked.check_links.Given as goal

abbrev pub invariant-loop-place : goal.invariant-loop-place
invariant-loop-place l =
    link_fault_from l.self.code (4 * l.place) (drop l.place l.self.code)
    ≡ link_fault_from l.self.code 0 l.self.code

abbrev pub decreases-loop-place : goal.decreases-loop-place
decreases-loop-place l = l.count - l.place
