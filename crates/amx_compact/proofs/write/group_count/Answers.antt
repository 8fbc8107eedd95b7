use Rattle.std.proofs.Common.{rules, arith, ap, ◌∙◌, FitsSigned, w32, to_z-of_z}
use Rattle.amx_compact.specs.Range.{magnitude_of}
use Rattle.amx_compact.proofs.RangeLemmas.{needs_three, needs_four, needs_five}
use Rattle.amx_compact.proofs.write.group_count.Goals as goal

pub returns-then-size-lt1048576-clause-least : goal.returns-then-size-lt1048576-clause-least
returns-then-size-lt1048576-clause-least c fewer fits =
    let cell : FitsSigned w32 c.args.cell = search rules in
    needs_three c.args.cell fewer (omega
    (arith, c.magnitude-size.ensures ∙ ap magnitude_of (to_z-of_z cell))) fits

pub returns-then-size-lt134217728-clause-least : goal.returns-then-size-lt134217728-clause-least
returns-then-size-lt134217728-clause-least c fewer fits =
    let cell : FitsSigned w32 c.args.cell = search rules in
    needs_four c.args.cell fewer (omega
    (arith, c.magnitude-size.ensures ∙ ap magnitude_of (to_z-of_z cell))) fits

pub returns-else-size-lt134217728-clause-least : goal.returns-else-size-lt134217728-clause-least
returns-else-size-lt134217728-clause-least c fewer fits =
    let cell : FitsSigned w32 c.args.cell = search rules in
    needs_five c.args.cell fewer (omega
    (arith, c.magnitude-size.ensures ∙ ap magnitude_of (to_z-of_z cell))) fits
