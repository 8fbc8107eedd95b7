use Rattle.std.proofs.Common.{◌∙◌, ap}
use Rattle.amx_ops.specs.declared.amx.Amx.{Amx}
use Rattle.amx_ops.specs.Moves.{name_of}
use Rattle.command_many.specs.Machines.{no_memory}
use Rattle.command_many.proofs.MachineLaws.{unserved_is}
use Rattle.command_many.proofs.machines.look_up.Goals as goal

pub returns-in-Err-Unregistered : goal.returns-in-Err-Unregistered
returns-in-Err-Unregistered c =
    let first = rw c.in-Err-Unregistered.field-0-is at c.in-Err-Unregistered.ensures in
    unserved_is c.args.file.now c.args.script.now c.in-Err-Unregistered.number c.name_at.result.now
    c.unregistered.result first
    (c.name_at.ensures ∙ ap (λ natives. name_of natives c.in-Err-Unregistered.number)
    (c.as_slice-natives.ensures ∙ ap (λ (it : Amx). it.natives) c.amx.ensures.value))
    c.unregistered.ensures

pub returns-in-Err-Memory : goal.returns-in-Err-Memory
returns-in-Err-Memory c = no_memory
