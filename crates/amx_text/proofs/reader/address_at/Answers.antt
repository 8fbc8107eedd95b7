use Rattle.std.proofs.Common.{◌∙◌, sym}
use Rattle.amx_text.proofs.ReaderSteps.{gives_none, address_short, no_digit, address_large}
use Rattle.amx_text.proofs.ReaderSteps.{address_read, address_done}
use Rattle.amx_text.proofs.reader.address_at.Goals as goal

pub loop-place-preserved : goal.loop-place-preserved
loop-place-preserved c =
    sym (address_read c.loop-place._place c.loop-place.address c.loop-place.rest.now
    c.loop-place-test.true c.in_ok-byte.byte.now c.in_ok-byte.more.now
    c.in_ok-byte.ensures.cases.0 c.in_ok-hexadecimal_value.field-0 c.in_ok-address.address
    (sym c.in_ok-hexadecimal_value.ensures) (sym c.in_ok-address.ensures))
    ∙ c.loop-place.invariant

pub returns-in_err-byte : goal.returns-in_err-byte
returns-in_err-byte c =
    gives_none c.from_residual.ensures
    (sym c.loop-place.invariant
    ∙ address_short c.loop-place._place c.loop-place.address c.loop-place.rest.now
    c.loop-place-test.true c.in_err-byte.ensures.cases)

pub returns-in_err-hexadecimal_value : goal.returns-in_err-hexadecimal_value
returns-in_err-hexadecimal_value c =
    gives_none c.from_residual-in_err-hexadecimal_value.ensures
    (sym c.loop-place.invariant
    ∙ no_digit c.loop-place._place c.loop-place.address c.loop-place.rest.now
    c.loop-place-test.true c.in_ok-byte.byte.now c.in_ok-byte.more.now
    c.in_ok-byte.ensures.cases.0 (sym c.in_err-hexadecimal_value.ensures))

pub returns-in_err-address : goal.returns-in_err-address
returns-in_err-address c =
    gives_none c.from_residual-in_err-address.ensures
    (sym c.loop-place.invariant
    ∙ address_large c.loop-place._place c.loop-place.address c.loop-place.rest.now
    c.loop-place-test.true c.in_ok-byte.byte.now c.in_ok-byte.more.now
    c.in_ok-byte.ensures.cases.0 c.in_ok-hexadecimal_value.field-0
    (sym c.in_ok-hexadecimal_value.ensures) (sym c.in_err-address.ensures))

pub returns : goal.returns
returns c =
    sym c.loop-place.invariant
    ∙ address_done c.loop-place._place c.loop-place.address c.loop-place.rest.now
    c.loop-place-test.false
