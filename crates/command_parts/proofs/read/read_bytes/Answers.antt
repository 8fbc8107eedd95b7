use Rattle.std.proofs.Common.{refl}
use Rattle.command_parts.specs.Unread.{failed, no_memory}
use Rattle.command_parts.proofs.ReadCallLaws.{only_read, missing_no_fault, too_large_no_fault}
use Rattle.command_parts.proofs.ValidLaws.{missing_is, too_large_is}
use Rattle.command_parts.proofs.read.read_bytes.Goals as goal

pub returns-in-Got-clause-calls : goal.returns-in-Got-clause-calls
returns-in-Got-clause-calls g c =
    only_read c.in-Got.ensures.same c.in-Got.ensures.steady c.in-Got.ensures.cause
    c.in-Got.ensures.unfailing (λ e. absurd (cc e)) (λ e. absurd (cc e))

pub returns-in-Missing-clause-calls : goal.returns-in-Missing-clause-calls
returns-in-Missing-clause-calls g c =
    only_read c.in-Missing.ensures.same c.in-Missing.ensures.steady c.in-Missing.ensures.cause
    c.in-Missing.ensures.unfailing
    (λ e. absurd (missing_no_fault c.args.name.now c.no_file.result c.no_file.ensures (cc e)))
    (λ e. absurd (cc e))

pub returns-in-Missing-clause-answer : goal.returns-in-Missing-clause-answer
returns-in-Missing-clause-answer g c =
    missing_is c.no_file.result c.in-Missing.ensures.answer c.no_file.ensures

pub returns-in-TooLarge-clause-calls : goal.returns-in-TooLarge-clause-calls
returns-in-TooLarge-clause-calls g c =
    only_read c.in-TooLarge.ensures.same c.in-TooLarge.ensures.steady c.in-TooLarge.ensures.cause
    c.in-TooLarge.ensures.unfailing
    (λ e. absurd (too_large_no_fault c.args.name.now c.too_large.result c.too_large.ensures (cc e)))
    (λ e. absurd (cc e))

pub returns-in-TooLarge-clause-answer : goal.returns-in-TooLarge-clause-answer
returns-in-TooLarge-clause-answer g c =
    too_large_is c.too_large.result c.in-TooLarge.ensures.answer c.too_large.ensures

pub returns-in-Failed-clause-calls : goal.returns-in-Failed-clause-calls
returns-in-Failed-clause-calls g c =
    only_read c.in-Failed.ensures.same c.in-Failed.ensures.steady c.in-Failed.ensures.cause
    c.in-Failed.ensures.unfailing (λ e. refl) (λ e. refl)

pub returns-in-Failed-clause-answer : goal.returns-in-Failed-clause-answer
returns-in-Failed-clause-answer g c = failed

pub returns-in-Memory-clause-calls : goal.returns-in-Memory-clause-calls
returns-in-Memory-clause-calls g c =
    only_read c.in-Memory.ensures.same c.in-Memory.ensures.steady c.in-Memory.ensures.cause
    c.in-Memory.ensures.unfailing (λ e. absurd (cc e)) (λ e. absurd (cc e))

pub returns-in-Memory-clause-answer : goal.returns-in-Memory-clause-answer
returns-in-Memory-clause-answer g c = no_memory
