use Rattle.std.proofs.Common.{inl, rules, w32, FitsSigned, ◌∙◌}
use Rattle.std.proofs.lemmas.Int.{to_z-of_z}
use Rattle.sulkhen_c.proofs.sources.sulkhen_hold.Goals as goal

pub returns : goal.returns
returns c =
    let code = c.memory_code.result in
    let fits : FitsSigned w32 code = search rules in
    let held = rw (c.sources_mut.ensures.value, c.in-Ok.ensures.cases.0) at c.hold.ensures in
    inl (c.hold.result, held, to_z-of_z w32 code fits ∙ c.memory_code.ensures)
