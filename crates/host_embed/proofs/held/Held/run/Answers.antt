use Rattle.std.proofs.Common.{sym, ap, ◌∙◌, ◌+◌, ◌*◌}
use Rattle.amx_ops.specs.declared.amx.Amx.{Amx}
use Rattle.amx_step.specs.Machine.{cell_count}
use Rattle.amx_machine.specs.Runs.{Ran}
use Rattle.host_embed.proofs.FileLaws.{ran_file}
use Rattle.host_embed.proofs.held.Held.run.Goals as goal

pub invariant_of-self : goal.invariant_of-self
invariant_of-self c =
    let file = ap (λ (r : Ran). r.machine.amx) c.run.ensures.ran ∙ ran_file c.args.count c.self.inside.machine in
    c.self.invariant ∙ ap (λ (amx : Amx). 72 + 4 * cell_count amx) (sym file)
