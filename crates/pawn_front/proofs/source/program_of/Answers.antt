use Rattle.std.proofs.Common.{subst}
use Rattle.pawn_meaning.specs.View.{program_view}
use Rattle.types_laws.specs.SmallTokens.{AreByteLines}
use Rattle.pawn_front.proofs.source.program_of.Goals as goal

pub with_warnings-requires-clause-good : goal.with_warnings-requires-clause-good
with_warnings-requires-clause-good c =
    c.programs_of_sources_are_good.ensures c.args.lines.now
    (program_view c.in-Ok.named.checked.program) c.in-Ok.named.checked.warnings c.requires
    (subst AreByteLines c.as_slice.ensures c.are_byte_lines.ensures) c.in-Ok.ensures.is
