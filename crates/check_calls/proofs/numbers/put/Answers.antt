use Rattle.check_calls.proofs.numbers.put.Goals as goal

pub returns : goal.returns
returns c =
    λ other. c.in-Ok.ensures.updates.0 (record { ref_ptr = c.args.name.ref_ptr; now = other })
