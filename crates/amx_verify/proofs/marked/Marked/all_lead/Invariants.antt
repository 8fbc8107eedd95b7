use Rattle.std.proofs.Common.{◌≡◌, ◌-◌}
use Rattle.amx_ops.specs.Instructions.{is_start}
use Rattle.amx_ops.specs.Valid as valid
use Rattle.amx_verify.proofs.marked.Marked.all_lead.Given as goal

abbrev pub invariant-loop-done : goal.invariant-loop-done
invariant-loop-done l =
    valid.all_lead (is_start l.self.code) (l.total - l.done) l.rest
    ≡ valid.all_lead (is_start l.self.code) l.total l.initial.rest
