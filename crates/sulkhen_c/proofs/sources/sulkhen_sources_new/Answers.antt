use Rattle.std.proofs.Common.{rules, w32, FitsSigned, ◌∙◌}
use Rattle.std.proofs.lemmas.Int.{to_z-of_z}
use Rattle.sulkhen_c.proofs.sources.sulkhen_sources_new.Goals as goal

pub returns : goal.returns
returns c =
    let code = c.memory_code.result in
    let fits : FitsSigned w32 code = search rules in
    (c.make.result, c.make.ensures, to_z-of_z w32 code fits ∙ c.memory_code.ensures)
