use Rattle.std.proofs.Common.{refl}
use Rattle.command_parts.specs.Put.{failed, no_memory}
use Rattle.command_parts.proofs.FaultCountLaws.{calls_by}
use Rattle.command_parts.proofs.putting.put.Goals as goal

pub returns-in-Kept-clause-calls : goal.returns-in-Kept-clause-calls
returns-in-Kept-clause-calls g c =
    calls_by c.in-Kept.ensures.steady c.in-Kept.ensures.cause c.in-Kept.ensures.unfailing
    (λ e. absurd (cc e)) (λ e. absurd (cc e))

pub returns-in-Failed-clause-answer : goal.returns-in-Failed-clause-answer
returns-in-Failed-clause-answer g c = failed c.in-Failed.ensures.answer

pub returns-in-Failed-clause-calls : goal.returns-in-Failed-clause-calls
returns-in-Failed-clause-calls g c =
    calls_by c.in-Failed.ensures.steady c.in-Failed.ensures.cause c.in-Failed.ensures.unfailing
    (λ e. refl) (λ e. refl)

pub returns-in-Memory-clause-answer : goal.returns-in-Memory-clause-answer
returns-in-Memory-clause-answer g c = no_memory c.in-Memory.ensures.answer

pub returns-in-Memory-clause-calls : goal.returns-in-Memory-clause-calls
returns-in-Memory-clause-calls g c =
    calls_by c.in-Memory.ensures.steady c.in-Memory.ensures.cause c.in-Memory.ensures.unfailing
    (λ e. absurd (cc e)) (λ e. absurd (cc e))
