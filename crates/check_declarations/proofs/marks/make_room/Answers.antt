use Rattle.std.proofs.Common.{None, length, ap, ◌∙◌, arith}
use Rattle.std.proofs.lemmas.List.{length_push}
use Rattle.check_declarations.specs.Marks.{mark_of}
use Rattle.check_declarations.proofs.MarkLaws.{pushed}
use Rattle.check_declarations.proofs.marks.make_room.Goals as goal

pub loop-preserved : goal.loop-preserved
loop-preserved c =
    let less = c.loop.invariant.0 in
    let long = ap length c.in_ok-push.ensures.items ∙ length_push c.loop.marks.items None in (
      omega arith,
      λ other. ap (λ items. mark_of items other) c.in_ok-push.ensures.items
          ∙ pushed c.loop.marks.items other ∙ c.loop.invariant.1 other,
    )
