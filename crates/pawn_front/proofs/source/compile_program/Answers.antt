use Rattle.std.proofs.Common.{refl}
use Rattle.pawn_front.proofs.source.compile_program.Goals as goal

pub returns-in-Ok : goal.returns-in-Ok
returns-in-Ok c = record { has = c.in-Ok.ensures; warnings_are = refl }
