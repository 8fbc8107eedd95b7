use Rattle.std.proofs.Common.{◌∙◌, Some, sym, ap}
use Rattle.amx_text.specs.Readers.{number_on}
use Rattle.amx_text.proofs.ReaderSteps.{gives_none, digit_read, number_large, number_ends}
use Rattle.amx_text.proofs.ReaderSteps.{number_last}
use Rattle.amx_text.proofs.reader.number_on.Goals.{in-Some+then-not-is_ascii_digit, in_default}
use Rattle.amx_text.proofs.reader.number_on.Goals as goal

pub loop-byte-preserved : goal.loop-byte-preserved
loop-byte-preserved c =
    let byte = c.in-Some.byte.now in
    sym (ap (number_on c.loop-byte.number) c.in-Some.ensures.cases.0
    ∙ digit_read c.loop-byte.number byte c.in-Some.more.now c.in_ok-number.number
    (sym c.is_ascii_digit.ensures.value ∙ c.if-not-is_ascii_digit.false)
    (sym c.in_ok-number.ensures)) ∙ c.loop-byte.invariant

pub returns-in_err-number : goal.returns-in_err-number
returns-in_err-number c =
    gives_none c.from_residual.ensures
    (sym c.loop-byte.invariant ∙ ap (number_on c.loop-byte.number) c.in-Some.ensures.cases.0
    ∙ number_large c.loop-byte.number c.in-Some.byte.now c.in-Some.more.now
    (sym c.is_ascii_digit.ensures.value ∙ c.if-not-is_ascii_digit.false)
    (sym c.in_err-number.ensures))

pub returns : goal.returns
returns c =
    let n = c.loop-byte.number in
    let first = sym c.loop-byte.invariant in
    elim c.match-split_first.branch [
      | in-Some+then-not-is_ascii_digit w ↦ first ∙ ap (number_on n) w.in-Some.ensures.cases.0
          ∙ number_ends n w.in-Some.byte.now w.in-Some.more.now
          (sym w.is_ascii_digit.ensures.value ∙ w.if-not-is_ascii_digit.true)
          ∙ ap (λ text. Some (n, text)) (sym w.in-Some.ensures.cases.0)
      | in_default w ↦ first ∙ number_last n c.loop-byte.rest.now w.in_default.ensures.cases
    ]
