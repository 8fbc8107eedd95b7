use Rattle.std.proofs.Common.{◌≡◌, ◌∙◌, rules}
use Rattle.pawn_pre.specs.ConditionMachine.{value_of}
use Rattle.pawn_pre.proofs.ForCallers.{value_of_is}
use Rattle.pawn_pre.proofs.MirrorEnds.{read_answers, missing_answers, long_answers}
use Rattle.pawn_pre.proofs.source.read_lines.Goals as goal

pub returns-in_ok-walk-in-Got-clause-answers : goal.returns-in_ok-walk-in-Got-clause-answers
returns-in_ok-walk-in-Got-clause-answers g c = λ map held.
    read_answers value_of value_of_is map _ held c.args.name.now _ c.in-Got.ensures.answer _
    (rw c.as_slice.ensures at c.in_ok-walk-in-Got.ensures) _
    (c.drive.ensures.ends map (c.in-Got.ensures.same ∙ held))

pub returns-in-Missing-clause-answers : goal.returns-in-Missing-clause-answers
returns-in-Missing-clause-answers g c = λ map held.
    missing_answers value_of value_of_is map _ held c.args.name.now c.in-Missing.ensures.answer

pub returns-in_ok-name-in-TooLarge-clause-answers : goal.returns-in_ok-name-in-TooLarge-clause-answers
returns-in_ok-name-in-TooLarge-clause-answers g c = λ map held.
    let bytes : c.as_bytes.result.now ≡ c.args.name.now = search rules in
    rw (c.in_ok-name-in-TooLarge.ensures, bytes)
    (long_answers value_of value_of_is map _ held c.args.name.now c.in-TooLarge.ensures.answer)
