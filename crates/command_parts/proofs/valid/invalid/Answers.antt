use Rattle.std.proofs.Common.{◌∙◌, FitsSigned, w64, ap, rules}
use Rattle.std.proofs.lemmas.Int.{to_z-of_z}
use Rattle.command_parts.specs.declared.stop.Stop.TheVariants.{InvalidAt}
use Rattle.amx_verify.specs.Verdict.{number_of}
use Rattle.command_parts.specs.ValidFile.{invalid_by, place_of}
use Rattle.command_parts.proofs.valid.invalid.Goals as goal

pub returns-in-Some : goal.returns-in-Some
returns-in-Some c =
    let fits : FitsSigned w64 c.place_of.result = search rules in
    ap (λ z. InvalidAt c.in-Some.kind z) (to_z-of_z w64 c.place_of.result fits)
    ∙ ap (λ n. invalid_by n c.place_of.result) c.in-Some.ensures
    ∙ ap (invalid_by (number_of c.args.fault)) c.place_of.ensures

pub returns-in-None : goal.returns-in-None
returns-in-None c = ap (λ n. invalid_by n (place_of c.args.fault)) c.in-None.ensures
