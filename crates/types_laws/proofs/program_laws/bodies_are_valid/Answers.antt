use Rattle.types_laws.proofs.BodyLaws as bodies
use Rattle.types_laws.proofs.program_laws.bodies_are_valid.Goals as goal

pub returns : goal.returns
returns c = bodies.bodies_valid c.expressions_are_valid.ensures
