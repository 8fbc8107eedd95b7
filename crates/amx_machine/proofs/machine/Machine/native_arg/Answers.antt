use Rattle.std.proofs.Common.{rules, w32, FitsSigned, [], ap, ◌∙◌, pos, unwrap_or}
use Rattle.std.specs.List.{slice_index_or}
use Rattle.std.proofs.lemmas.Int.{to_z-of_z}
use Rattle.amx_machine.proofs.RestLaws.{arguments_in}
use Rattle.amx_machine.proofs.machine.Machine.native_arg.Goals as goal

pub native_arg-requires : goal.native_arg-requires
native_arg-requires c =
    let f = c.self.inside in
    let within = rw (← c.self.view_is) at c.requires in
    rw (arguments_in f.core.amx f.core.state c.registers.ensures.order f.mode) within

pub returns : goal.returns
returns c =
    let f = c.self.inside in
    let fits : FitsSigned w32 c.native_arg.result = search rules in
    rw (to_z-of_z w32 c.native_arg.result fits, ← c.self.view_is)
    (c.native_arg.ensures.value ∙ ap
    (λ cells. slice_index_or (unwrap_or cells []) c.args.index (pos 0))
    (arguments_in f.core.amx f.core.state c.registers.ensures.order f.mode))
