use Rattle.std.proofs.Common.{Some, refl, subst}
use Rattle.std.proofs.lemmas.Result.{err_from_is_err_and}
use Rattle.pawn_outside.specs.Held.{Held}
use Rattle.amx_format.specs.declared.encoding.Encoding.TheVariants.{Plain}
use Rattle.pawn_front.specs.declared.fault.CompileFault.TheVariants.{Memory}
use Rattle.commands.specs.Made.{IsMade}
use Rattle.commands.specs.Samples.{sample_name}
use Rattle.commands.proofs.samples.compiled_sample.Goals as goal

pub returns-in_err-files-clause-answer : goal.returns-in_err-files-clause-answer
returns-in_err-files-clause-answer c =
    let p = err_from_is_err_and c.from_residual.result c.from_residual.ensures.1 in
    rw (p.1, p.2) (record { fault = Memory; cause = tt; is = refl })

pub returns-in_err-files-clause-fault : goal.returns-in_err-files-clause-fault
returns-in_err-files-clause-fault c = λ e.
    let p = err_from_is_err_and c.from_residual.result c.from_residual.ensures.1 in
    absurd (cc (p.1, p.2, e))

pub returns-clause-answer : goal.returns-clause-answer
returns-clause-answer c =
    subst (λ (h : Held). IsMade (Some h) sample_name Plain c.compiled_source.result)
    c.in_ok-files.ensures.0 c.compiled_source.ensures.answer

pub returns-clause-fault : goal.returns-clause-fault
returns-clause-fault c =
    (c.compiled_source.ensures.calls.unfailing c.in_ok-files.ensures.1).1
