use Rattle.std.proofs.Common.{◌++◌, ◌∙◌, codes, ap, append-nil}
use Rattle.pawn_outside.proofs.SaidLaws.{said_as}
use Rattle.commands.proofs.usage_lines.say_name.Goals as goal

pub returns : goal.returns
returns g c =
    said_as (ap (λ name. codes " " ++ name) (append-nil c.name_of.result.now ∙ c.name_of.ensures))
    c.say.ensures
