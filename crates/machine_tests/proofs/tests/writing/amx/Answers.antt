use Rattle.std.proofs.Common.{ap, length, arith, refl}
use Rattle.machine_tests.proofs.WritableLaws.{letter, no_letter, one, three, writable}
use Rattle.machine_tests.proofs.tests.writing.amx.Goals as goal

pub returns : goal.returns
returns c =
    let p = c.in_ok-publics.ensures in
    writable _
    (three _ _ _ _ p.3 (letter _ 98 p.4 (omega arith)) (letter _ 97 p.5 (omega arith))
    (letter _ 98 p.6 (omega arith)))
    (one _ _ c.in_ok-natives.ensures.1 (letter _ 34 c.in_ok-natives.ensures.2 (omega arith)))
    (one _ _ c.in_ok-libraries.ensures.1 (no_letter _ c.in_ok-libraries.ensures.2))
    (one _ _ c.in_ok-variables.ensures.1 (letter _ 92 c.in_ok-variables.ensures.2 (omega arith)))
    (one _ _ c.in_ok-tags.ensures.1 (letter _ 200 c.in_ok-tags.ensures.2 (omega arith)))
    refl (omega arith, omega arith) (ap length c.in_ok-code.ensures)
    (ap length c.in_ok-store.ensures) refl
