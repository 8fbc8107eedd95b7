use Rattle.std.proofs.Common.{◌∙◌, ap₂, map}
use Rattle.pawn_front.specs.Places.{warning_at}
use Rattle.pawn_front.proofs.SourcedLaws.{sourced_by}
use Rattle.pawn_front.proofs.source.with_warnings.Goals as goal

pub returns-in-Ok : goal.returns-in-Ok
returns-in-Ok c =
    sourced_by c.args.lines.now c.args.named c.in-Ok.warnings c.requires.named c.requires.good
    (c.in-Ok.ensures
    ∙ ap₂ (λ files places. map (warning_at files) places) c.as_slice.ensures c.as_slice-2.ensures)
