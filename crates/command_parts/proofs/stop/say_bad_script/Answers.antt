use Rattle.std.proofs.Common.{◌≡◌, ◌++◌, codes, ap₂, rules, arith}
use Rattle.std.proofs.lemmas.Grind.{common_steps}
use Rattle.std.specs.Fmt.{decimal}
use Rattle.pawn_outside.proofs.SaidLaws.{said_as}
use Rattle.command_parts.proofs.stop.say_bad_script.Goals as goal

pub returns : goal.returns
returns g c =
    let kind : c.as_bytes-kind.result.now ≡ decimal c.args.kind =
    first_of (search rules, grind (arith, common_steps)) in
    said_as (ap₂ (λ a b. codes "bad script " ++ (a ++ (codes " " ++ (b ++ codes "\n")))) kind
    c.field_text.ensures) c.say.ensures
