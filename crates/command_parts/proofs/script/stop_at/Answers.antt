use Rattle.std.proofs.Common.{◌∙◌, ap}
use Rattle.script_reader.specs.Reading.{number_of}
use Rattle.command_parts.specs.ScriptFile.{field_stop}
use Rattle.command_parts.proofs.script.stop_at.Goals as goal

pub returns-in-Shape : goal.returns-in-Shape
returns-in-Shape c =
    rw c.in-Shape.is
    (c.field_stop.ensures
    ∙ ap (λ kind. field_stop kind c.in-Shape.field)
    (c.number-kind.ensures ∙ ap number_of c.in-Shape.is))

pub returns-in-Range : goal.returns-in-Range
returns-in-Range c =
    rw c.in-Range.is
    (c.field_stop-in-Range.ensures
    ∙ ap (λ kind. field_stop kind c.in-Range.field)
    (c.number-kind.ensures ∙ ap number_of c.in-Range.is))
